-- What a model text is cut into: spaces and comments, which are passed over, and tokens.
use Rattle.std.specs.Prelude.{◌≡◌, ℕ, ◌+◌, ◌*◌, ◌-◌, ◌≤◌, Bool, true, false, ◌&&◌, ◌||◌, not, ◌==◌, if◌then◌else◌, List, [], ◌∷◌, ◌++◌, length, drop, fold, codes, Option, None, Some, unwrap_or, pos}
use Rattle.std.specs.Char.{is_ascii_alphabetic, is_ascii_digit}
use Rattle.std.specs.List.{list_all}
use Rattle.std.specs.Str.{bytes_eq}
use Rattle.std.specs.Option.{option_map}
use Rattle.sopl_ast.specs.declared.token.TokenKind.{TokenKind}
use Rattle.sopl_ast.specs.declared.token.TokenKind.TheVariants as k

-- a piece of a text: a space or a comment, which is blank, or a token of this kind
pub data Piece : Type 0 where
  Blank : Piece
  Word : TokenKind → Piece

-- a space, a tab, a line feed or a carriage return
abbrev pub is_space : ℕ → Bool
is_space byte = (byte == 32) || (byte == 9) || (byte == 10) || (byte == 13)

-- an ASCII letter or `_`, with which a name begins
abbrev pub is_letter : ℕ → Bool
is_letter byte = is_ascii_alphabetic byte || (byte == 95)

-- an ASCII letter, a digit or `_`, with which a name goes on
abbrev pub is_name_byte : ℕ → Bool
is_name_byte byte = is_letter byte || is_ascii_digit byte

-- the keywords of declarations
abbrev pub declaration_keywords : List (List ℕ × TokenKind)
declaration_keywords =
    (codes "int", k.Int) ∷ (codes "range", k.Range) ∷ (codes "dvar", k.Dvar) ∷ (codes "stoch", k.Stoch) ∷ (codes "stage", k.Stage)
    ∷ (codes "in", k.Inside) ∷ []

-- the keywords of objectives and constraints
abbrev pub statement_keywords : List (List ℕ × TokenKind)
statement_keywords =
    (codes "subject", k.Subject) ∷ (codes "to", k.To) ∷ (codes "forall", k.Forall) ∷ (codes "prob", k.Prob)
    ∷ (codes "expected", k.Expected) ∷ (codes "worst", k.Worst) ∷ (codes "minimize", k.Minimize) ∷ (codes "maximize", k.Maximize) ∷ []

-- the keywords of expressions
abbrev pub expression_keywords : List (List ℕ × TokenKind)
expression_keywords =
    (codes "sum", k.Sum) ∷ (codes "all", k.All) ∷ (codes "allDifferent", k.AllDifferent) ∷ (codes "cumulative", k.Cumulative)
    ∷ (codes "div", k.Div) ∷ (codes "mod", k.Mod) ∷ (codes "min", k.Min) ∷ (codes "max", k.Max) ∷ (codes "abs", k.Abs) ∷ []

-- the keywords
abbrev pub keywords : List (List ℕ × TokenKind)
keywords = declaration_keywords ++ (statement_keywords ++ expression_keywords)

-- the symbols
abbrev pub symbols : List (List ℕ × TokenKind)
symbols =
    (codes ";", k.Semi) ∷ (codes ",", k.Comma) ∷ (codes ":", k.Colon) ∷ (codes "(", k.ParenOpen) ∷ (codes ")", k.ParenClose)
    ∷ (codes "[", k.BracketOpen) ∷ (codes "]", k.BracketClose) ∷ (codes "{", k.BraceOpen) ∷ (codes "}", k.BraceClose)
    ∷ (codes "..", k.DotDot) ∷ (codes "=", k.Assign) ∷ (codes "==", k.EqEq) ∷ (codes "!=", k.NotEq) ∷ (codes "<=", k.LessEq)
    ∷ (codes ">=", k.GreaterEq) ∷ (codes "<", k.Less) ∷ (codes ">", k.Greater) ∷ (codes "=>", k.Arrow) ∷ (codes "&&", k.AndAnd)
    ∷ (codes "||", k.OrOr) ∷ (codes "!", k.Not) ∷ (codes "+", k.Plus) ∷ (codes "-", k.Minus) ∷ (codes "*", k.Star) ∷ (codes "/", k.Slash) ∷ []

-- the kind that a table gives these bytes
abbrev pub kind_in : List ℕ → List (List ℕ × TokenKind) → Option TokenKind
kind_in bytes [] = None
kind_in bytes (row ∷ rows) = if bytes_eq bytes row.0 then Some row.1 else kind_in bytes rows

-- the number that decimal digits write
abbrev pub decimal : List ℕ → ℕ
decimal digits = fold (λ value digit. 10 * value + (digit - 48)) 0 digits

-- whether the text begins with these two bytes
abbrev pub begins_with : ℕ → ℕ → List ℕ → Bool
begins_with first second [] = false
begins_with first second (a ∷ []) = false
begins_with first second (a ∷ b ∷ rest) = (a == first) && (b == second)

-- how many bytes stand before the first `*/`; all of them where there is none
abbrev pub before_close : List ℕ → ℕ
before_close [] = 0
before_close (a ∷ rest) = if begins_with 42 47 (a ∷ rest) then 0 else 1 + before_close rest

-- `//` and then no line feed
abbrev pub is_line_comment : List ℕ → Bool
is_line_comment bytes = begins_with 47 47 bytes && list_all (λ byte. not (byte == 10)) bytes

-- `/*` and then bytes whose first `*/` stands at their end
abbrev pub is_block_comment : List ℕ → Bool
is_block_comment bytes = begins_with 47 42 bytes && (before_close (drop 2 bytes) + 4 == length bytes)

-- one byte of space
abbrev pub is_one_space : List ℕ → Bool
is_one_space [] = false
is_one_space (byte ∷ []) = is_space byte
is_one_space (byte ∷ other ∷ rest) = false

-- one or more decimal digits
abbrev pub is_literal : List ℕ → Bool
is_literal [] = false
is_literal (byte ∷ rest) = list_all is_ascii_digit (byte ∷ rest)

-- a letter or `_`, and then letters, digits and `_`
abbrev pub is_word : List ℕ → Bool
is_word [] = false
is_word (byte ∷ rest) = is_letter byte && list_all is_name_byte rest

-- what these bytes are as a whole, if they are one piece: a space, a comment, a literal, a keyword, else a name, or a symbol
abbrev pub piece_of : List ℕ → Option Piece
piece_of bytes =
    if is_one_space bytes || is_line_comment bytes || is_block_comment bytes then Some Blank
    else if is_literal bytes then Some (Word (k.Lit (pos (decimal bytes))))
    else if is_word bytes then Some (Word (unwrap_or (kind_in bytes keywords) (k.Name bytes)))
    else option_map Word (kind_in bytes symbols)

-- the longest piece with which a text begins, its bytes and the rest; a text that begins with `/*` begins with a comment or with no piece
pub record Begins (text : List ℕ) (piece : Piece) (bytes rest : List ℕ) : Type 0 where
  pub cut : text ≡ bytes ++ rest
  pub form : piece_of bytes ≡ Some piece
  pub longest : (more others : List ℕ) (other : Piece) → text ≡ more ++ others → piece_of more ≡ Some other → length more ≤ length bytes
  pub comment : begins_with 47 42 text ≡ true → piece ≡ Blank
