-- How far a text is read.
use Rattle.std.specs.Prelude.{ℕ, ◌≤◌, List, length, drop}
use Rattle.sopl_base.specs.declared.fault.Fault.{Fault}
use Rattle.sopl_base.specs.declared.fault.Fault.TheVariants as fault
use Rattle.sopl_ast.specs.Tokens.{Cuts, AreSmall, Refuses, max_length}
use Rattle.sopl_ast.specs.declared.token.Token.{Token}

-- the text is not too long, and its first `at` bytes have these tokens, none of them too large
pub record Reads (text : List ℕ) (at : ℕ) (tokens : List Token) : Type 0 where
  pub fits : length text ≤ max_length
  pub within : at ≤ length text
  pub cut : Cuts text at tokens (drop at text)
  pub small : AreSmall tokens

-- the fault of a text is its refusal, or out of memory
abbrev pub RefusesAs : List ℕ → Fault → Type 0
RefusesAs text (fault.Text refusal) = Refuses text refusal
RefusesAs text (fault.Limit excess) = ⊥
RefusesAs text fault.NoMemory = Unit {0}
