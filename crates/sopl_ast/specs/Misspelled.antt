-- Where tokens that spell no model are refused.
use Rattle.std.specs.Prelude.{◌≡◌, ℕ, ◌+◌, List, [], ◌∷◌, ◌++◌}
use Rattle.sopl_base.specs.declared.fault.Refusal.{Refusal}
use Rattle.sopl_base.specs.declared.codes.TheConstants as codes
use Rattle.sopl_ast.specs.declared.token.Token.{Token}
use Rattle.sopl_ast.specs.Whole.{ModelTree}
use Rattle.sopl_ast.specs.Grammar.{Spells, SpellsWithin, IsPrefix, max_nesting}

-- where the first of these tokens stands; the end of the text, where there is none
abbrev pub place_in : ℕ → List Token → ℕ
place_in length [] = length
place_in length (u ∷ us) = u.span.start

-- no model's tokens begin with these and the first of those behind them; where none stands behind them, these spell no model
abbrev pub NoneGoesOn : List Token → List Token → Type 0
NoneGoesOn before [] = (whole : ModelTree) → Spells before whole → ⊥
NoneGoesOn before (u ∷ us) = (others : List Token) (whole : ModelTree) → Spells (before ++ u ∷ others) whole → ⊥

-- the tokens go along the rows up to a place, and with what stands there no model goes on
pub record IsMisplaced (length : ℕ) (tokens : List Token) (at : ℕ) : Type 0 where
  pub before : List Token
  pub behind : List Token
  pub split : tokens ≡ before ++ behind
  pub place : at ≡ place_in length behind
  pub prefix : IsPrefix max_nesting before
  pub stuck : NoneGoesOn before behind

-- the tokens go along the rows within the greatest nesting up to a token; with it they do so within one more, and not within the greatest
pub record IsTooDeep (tokens : List Token) (at : ℕ) : Type 0 where
  pub before : List Token
  pub token : Token
  pub behind : List Token
  pub split : tokens ≡ before ++ token ∷ behind
  pub place : at ≡ token.span.start
  pub prefix : IsPrefix max_nesting before
  pub deeper : IsPrefix (max_nesting + 1) (before ++ token ∷ [])
  pub over : IsPrefix max_nesting (before ++ token ∷ []) → ⊥
  pub none : (others : List Token) (whole : ModelTree) → SpellsWithin (before ++ token ∷ others) whole → ⊥

-- tokens that spell no model within the greatest nesting, refused by 104 where no model goes on, and by 103 where one nests too deep
pub data IsMisspelled (length : ℕ) (tokens : List Token) (refusal : Refusal) : Type 0 where
  misplaced : refusal.code ≡ codes.SYNTAX → IsMisplaced length tokens refusal.at → IsMisspelled length tokens refusal
  too_deep : refusal.code ≡ codes.DEPTH → IsTooDeep tokens refusal.at → IsMisspelled length tokens refusal
