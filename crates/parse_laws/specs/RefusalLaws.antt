-- The refusals of texts that are not read.
use Rattle.std.specs.Prelude.{◌≡◌, ℕ, List, ◌++◌, length, Ok, Err}
use Rattle.sopl_base.specs.declared.fault.Refusal.{Refusal}
use Rattle.sopl_base.specs.declared.codes.TheConstants as codes
use Rattle.sopl_ast.specs.declared.token.Token.{Token}
use Rattle.sopl_ast.specs.Tokens.{Lexes}
use Rattle.sopl_ast.specs.Misspelled.{place_in, NoneGoesOn, IsMisspelled}
use Rattle.sopl_ast.specs.Accepted.{IsRefusedFor}
use Rattle.parse_laws.specs.PrefixLaws.{BeginsSomeModel}

-- the text has no tokens, or they spell no model within the greatest nesting, and so it is refused
pub data IsUnread (text : List ℕ) (refusal : Refusal) : Type 0 where
  no_tokens : Lexes text (Err refusal) → IsUnread text refusal
  misspelled : (tokens : List Token) → Lexes text (Ok tokens) → IsMisspelled (length text) tokens refusal → IsUnread text refusal

-- by one code, at one place
abbrev pub OneRefusal : Type 0
OneRefusal = (text : List ℕ) (a b : Refusal) → IsUnread text a → IsUnread text b → a ≡ b

-- some model's tokens begin with those of the text before this place, and no model's with them and the token there; where the text ends
-- there, they spell no model
pub record LeavesAllModels (text : List ℕ) (at : ℕ) : Type 0 where
  pub before : List Token
  pub behind : List Token
  pub read : Lexes text (Ok (before ++ behind))
  pub place : at ≡ place_in (length text) behind
  pub begins : BeginsSomeModel before
  pub none : NoneGoesOn before behind

-- a text that is refused by 104 leaves all models at the place of the refusal; each text leaves them at one place at most
pub record SomeModelGoesOn : Type 0 where
  pub refused : (text : List ℕ) (refusal : Refusal) → IsRefusedFor text refusal → refusal.code ≡ codes.SYNTAX
      → LeavesAllModels text refusal.at
  pub one_place : (text : List ℕ) (at spot : ℕ) → LeavesAllModels text at → LeavesAllModels text spot → at ≡ spot
