-- Texts, tokens, trees and what tokens spell
pub mod Pieces
pub mod Tokens
pub mod Tree
pub mod Whole
-- What tokens spell: the rows of the grammar, and the language in which they are written
pub mod KindSets
pub mod Terminals
pub mod Nonterminals
pub mod PhraseLanguage
pub mod ExpressionRows
pub mod ModelRows
pub mod RowSpelling
pub mod Grammar
pub mod Misspelled
pub mod Origin
-- Names and kinds
pub mod Mistakes
-- Constants, and what is met on the way through a text
pub mod Numbers
pub mod Known
pub mod Constants
pub mod UnfoldEvents
-- The problem that a text states
pub mod Instances
pub mod Arrays
pub mod Declarations
pub mod Unfolding
-- Chance, policies, values and what is best
pub mod Scenarios
pub mod PlacedScenarios
pub mod Histories
pub mod Policies
pub mod Meanings
pub mod Optimal
-- Sizes that are limited
pub mod TermNodes
pub mod Limits
-- Which texts are accepted
pub mod Accepted
-- How the program's values stand for trees
pub mod References
pub mod Sight
pub mod Lists
pub mod Ranges
pub mod Inits
pub mod Decls
pub mod Constraints
pub mod WholeModel
-- How a search sees policies
pub mod Cells
-- For proofs alone: nothing is to be believed here
pub mod Codes
pub mod WholeCodes
pub mod Weight
pub mod WholeWeight
pub mod Falls
pub mod InitsFall
pub mod Mentions
