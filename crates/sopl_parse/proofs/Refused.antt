-- What the reader's answer says of the models that the tokens spell.
use Rattle.std.proofs.Common.{◌≡◌, ℕ, List, Result, Ok, Err, refl, sym, ◌∙◌}
use Rattle.sopl_base.specs.declared.fault.Fault.TheVariants as fault
use Rattle.sopl_ast.specs.declared.token.Token.{Token}
use Rattle.sopl_ast.specs.Grammar.{SpellsWithin}
use Rattle.sopl_ast.specs.Misspelled.{misplaced, too_deep}
use Rattle.sopl_ast.specs.Whole.{ModelTree}
use Rattle.parse_grammar.specs.Phrases as phrase
use Rattle.parse_grammar.specs.Reading.{Stop}
use Rattle.grammar_rows.proofs.ModelReading.{misplaced_at, read_is_spelled, spelled_is_read, too_deep_at}
use Rattle.parse_exprs.specs.ReaderAnswers.{Fails}
use Rattle.sopl_parse.specs.Faults.{fault_of, IsSpellingFault}
use Rattle.parse_exprs.specs.declared.reader.ParseStop.{ParseStop}
use Rattle.parse_exprs.specs.declared.reader.ParseStop.TheVariants as halt

-- a model that is read
abbrev read : ModelTree → Result ModelTree Stop
read tree = Ok tree

-- where reading stops
abbrev stopped : Stop → Result ModelTree Stop
stopped stop = Err stop

same_model : (a b : ModelTree) → read a ≡ read b → a ≡ b
same_model a b e = cc

never_both : (a : ModelTree) (stop : Stop) → read a ≡ stopped stop → ⊥
never_both a stop e = cc

-- a model that is read is spelled
pub read_spelled : (tokens : List Token) (tree : ModelTree) → phrase.model 64 tokens ≡ Ok tree → SpellsWithin tokens tree
read_spelled tokens tree e = read_is_spelled 64 tokens tree e

-- a model that is spelled is the one that is read
pub read_only : (tokens : List Token) (tree other : ModelTree) → phrase.model 64 tokens ≡ Ok tree → SpellsWithin tokens other → tree ≡ other
read_only tokens tree other e is = same_model tree other (sym e ∙ spelled_is_read 64 tokens other is)

-- where a model is spelled, the reader halts only where memory runs out
pub halts_only : (tokens : List Token) (length : ℕ) (h : ParseStop) (other : ModelTree) → Fails h (phrase.model 64 tokens) → SpellsWithin tokens other
    → fault_of length h ≡ fault.NoMemory
halts_only tokens length (halt.Syntax left) other e is = absurd (never_both other (Stop.Syntax left.now) (sym (spelled_is_read 64 tokens other is) ∙ e))
halts_only tokens length (halt.Depth left) other e is = absurd (never_both other (Stop.Depth left.now) (sym (spelled_is_read 64 tokens other is) ∙ e))
halts_only tokens length halt.NoMemory other e is = refl

-- the fault says where the tokens go wrong
pub halts_refused : (tokens : List Token) (length : ℕ) (h : ParseStop) → Fails h (phrase.model 64 tokens) → IsSpellingFault length tokens (fault_of length h)
halts_refused tokens length (halt.Syntax left) e = misplaced refl (misplaced_at length tokens left.now e)
halts_refused tokens length (halt.Depth left) e = too_deep refl (too_deep_at length tokens left.now e)
halts_refused tokens length halt.NoMemory e = tt
