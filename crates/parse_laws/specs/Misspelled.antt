-- Tokens that are misspelled.
use Rattle.std.specs.Prelude.{◌≡◌, ℕ, List}
use Rattle.sopl_base.specs.declared.fault.Refusal.{Refusal}
use Rattle.sopl_ast.specs.declared.token.Token.{Token}
use Rattle.sopl_ast.specs.Misspelled.{IsMisspelled}

-- tokens are refused by one code at one place at most
abbrev pub MisspelledOnce : Type 0
MisspelledOnce = (length : ℕ) (tokens : List Token) (a b : Refusal) → IsMisspelled length tokens a → IsMisspelled length tokens b → a ≡ b
