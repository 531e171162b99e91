-- What is true of all accepted texts.
use Rattle.std.specs.Prelude.{◌≡◌, ◌⊎◌, ℕ, ℤ, codes, List, Option}
use Rattle.sopl_base.specs.declared.fault.Excess.{Excess}
use Rattle.sopl_ast.specs.Accepted.{AcceptedText}
use Rattle.sopl_ast.specs.Instances.{Problem}
use Rattle.sopl_ast.specs.Limits.{usual_limits}
use Rattle.sopl_ast.specs.Policies.{Policy}
use Rattle.sopl_search.specs.Logged.{SearchPlan}
use Rattle.answer_lines.specs.AnswerData.{line_of, optimal_data, word_data}
use Rattle.answer_texts.specs.Solved.{SolvedText, IsLimitedInTerms}
use Rattle.answer_texts.specs.Replies.{IsTextReply}
use Rattle.answer_texts.specs.declared.command.Command.TheVariants.{Solve}
use Rattle.answer_texts.specs.declared.command.Detail.TheVariants.{Full}
use Rattle.answer_texts.specs.declared.status.Status.TheVariants.{Done}

-- a text is solved with one problem, or passes one limit in its terms, and not both; and an accepted text, and no other one, is one of the two
pub record AcceptedEndOnce : Type 0 where
  pub one_problem : (text : List ℕ) (p q : Problem) → SolvedText text p → SolvedText text q → p ≡ q
  pub one_limit : (text : List ℕ) (e f : Excess) → IsLimitedInTerms text e → IsLimitedInTerms text f → e ≡ f
  pub not_limited : (text : List ℕ) (p : Problem) (excess : Excess) → SolvedText text p → ¬ IsLimitedInTerms text excess
  pub solved_accepted : (text : List ℕ) (p : Problem) → SolvedText text p → AcceptedText usual_limits text p
  pub limited_accepted : (text : List ℕ) (excess : Excess) → IsLimitedInTerms text excess → (p : Problem) × AcceptedText usual_limits text p
  pub each_ends :
      (text : List ℕ) (p : Problem) → AcceptedText usual_limits text p
      → SolvedText text p ⊎ ((excess : Excess) × IsLimitedInTerms text excess)

-- what two lines answer alike: an optimal policy of one problem with one value, or that none satisfies
pub data AnswerAlike : List ℕ → List ℕ → Type 0 where
  one_value : (problem : Problem) (policy other : Policy) (value : ℤ) → AnswerAlike (line_of (optimal_data problem policy value)) (line_of (optimal_data problem other value))
  none_satisfies : AnswerAlike (line_of (word_data (codes "infeasible"))) (line_of (word_data (codes "infeasible")))

-- so do any two replies of `solve` to a text whose searches were done: with other seats, in another order, with another brancher or budget
abbrev pub SettledAnswerAlike : Type 0
SettledAnswerAlike =
    (text : List ℕ) (p q : SearchPlan) (log other : Option (List ℕ)) (a b : List ℕ) → IsTextReply text p (Solve Full) log Done a → IsTextReply text q (Solve Full) other Done b
    → AnswerAlike a b
