-- The tokens of a model text, and the refusal of a text that has none.
use Rattle.std.specs.Prelude.{◌≡◌, ◌≢◌, ℕ, ℤ, ◌+◌, ◌<◌, ◌≤◌, ◌<ℤ◌, ◌≤ℤ◌, pos, List, [], ◌∷◌, ◌++◌, length, Result, Ok, Err}
use Rattle.std.specs.List.{AllByRecursion}
use Rattle.sopl_base.specs.declared.fault.Refusal.{Refusal}
use Rattle.sopl_base.specs.declared.codes.TheConstants as codes
use Rattle.sopl_base.specs.declared.limits.TheConstants as largest
use Rattle.sopl_ast.specs.Pieces.{Piece, Blank, Word, Begins}
use Rattle.sopl_ast.specs.declared.token.Token.{Token}
use Rattle.sopl_ast.specs.declared.token.TokenKind.{TokenKind}
use Rattle.sopl_ast.specs.declared.token.TokenKind.TheVariants as k

-- the token of a piece at an offset; a blank piece has none
abbrev pub token_of : ℕ → Piece → List ℕ → List Token
token_of at Blank bytes = []
token_of at (Word kind) bytes = record { kind = kind; span = record { start = at; end = at + length bytes } } ∷ []

-- the first `at` bytes of the text are cut into pieces, each the longest at its place, with these tokens, and `rest` is left
pub data Cuts (text : List ℕ) : (at : ℕ) → (tokens : List Token) → (rest : List ℕ) → Type 0 where
  start : Cuts text 0 [] text
  next : (at : ℕ) (tokens : List Token) (rest : List ℕ) (piece : Piece) (bytes after : List ℕ) →
      Cuts text at tokens rest → Begins rest piece bytes after → Cuts text (at + length bytes) (tokens ++ token_of at piece bytes) after

-- the whole text is cut into pieces, with these tokens
abbrev pub Tokens : List ℕ → List Token → Type 0
Tokens text tokens = Cuts text (length text) tokens []

-- the greatest length of a text
abbrev pub max_length : ℕ
max_length = largest.TEXT_BYTES

-- the greatest literal
abbrev pub max_literal : ℤ
max_literal = pos largest.LITERAL

-- no literal above the greatest
abbrev pub IsSmall : TokenKind → Type 0
IsSmall (k.Lit value) = value ≤ℤ max_literal
IsSmall _ = Unit {0}

-- no token is a literal above the greatest
abbrev pub AreSmall : List Token → Type 0
AreSmall tokens = AllByRecursion (λ token. IsSmall token.kind) tokens

-- the first `at` bytes of the text are cut into pieces, none of them a literal above the greatest, and `rest` is left
pub record Reaches (text : List ℕ) (at : ℕ) (rest : List ℕ) : Type 0 where
  pub tokens : List Token
  pub cut : Cuts text at tokens rest
  pub small : AreSmall tokens

-- bytes with which no piece begins
pub record IsStuck (rest : List ℕ) : Type 0 where
  pub some : rest ≢ []
  pub none : (piece : Piece) (bytes after : List ℕ) → Begins rest piece bytes after → ⊥

-- bytes that begin with a literal above the greatest
pub record IsTooLarge (rest : List ℕ) : Type 0 where
  pub value : ℤ
  pub bytes : List ℕ
  pub after : List ℕ
  pub begins : Begins rest (Word (k.Lit value)) bytes after
  pub large : max_literal <ℤ value

-- a text that is too long, else the first place where no piece begins or a literal is too large
pub data Refuses (text : List ℕ) (refusal : Refusal) : Type 0 where
  -- a text that is too long is refused at the greatest length, whatever is in it
  too_long : refusal.code ≡ codes.TEXT_LENGTH → refusal.at ≡ max_length → max_length < length text → Refuses text refusal
  -- a byte with which no piece begins, or the `/*` of a comment that does not end
  no_piece : (rest : List ℕ) → refusal.code ≡ codes.TOKEN → length text ≤ max_length → Reaches text refusal.at rest → IsStuck rest → Refuses text refusal
  -- the first byte of a literal above the greatest
  too_large : (rest : List ℕ) → refusal.code ≡ codes.LITERAL → length text ≤ max_length → Reaches text refusal.at rest → IsTooLarge rest → Refuses text refusal

-- the outcome of a text: its tokens, where it is not too long and has no literal above the greatest, or its refusal
abbrev pub Lexes : List ℕ → Result (List Token) Refusal → Type 0
Lexes text (Ok tokens) = (length text ≤ max_length) × Tokens text tokens × AreSmall tokens
Lexes text (Err refusal) = Refuses text refusal
