-- The piece at the front of a text and its length, by the text's first bytes.
use Rattle.std.specs.Prelude.{ℕ, ◌+◌, Bool, not, ◌==◌, nat_lt, nat_le, if◌then◌else◌, List, [], ◌∷◌, length, take, drop, slice_index, Option, None, Some, unwrap_or, Result, Ok, Err, pos}
use Rattle.std.specs.Char.{is_ascii_digit}
use Rattle.std.specs.List.{prefix_len}
use Rattle.sopl_base.specs.declared.fault.Refusal.{Refusal}
use Rattle.sopl_base.specs.declared.codes.TheConstants as codes
use Rattle.sopl_base.specs.declared.limits.TheConstants as largest
use Rattle.sopl_ast.specs.Pieces.{Piece, Blank, Word, begins_with, before_close, decimal, is_letter, is_name_byte, is_space, keywords, kind_in, symbols}
use Rattle.sopl_ast.specs.declared.token.TokenKind.{TokenKind}
use Rattle.sopl_ast.specs.declared.token.TokenKind.TheVariants as k

-- the piece of a kind, or a blank one
abbrev pub piece_of_kind : Option TokenKind → Piece
piece_of_kind None = Blank
piece_of_kind (Some kind) = Word kind

-- a byte of a line comment
abbrev pub is_line_byte : ℕ → Bool
is_line_byte byte = not (byte == 10)

-- a refusal of a code at an offset
abbrev pub refused : {A : Type 0} → ℕ → ℕ → Result A Refusal
refused code at = Err (record { code = code; at = at })

-- the kind of a word
abbrev pub word_kind : List ℕ → TokenKind
word_kind bytes = unwrap_or (kind_in bytes keywords) (k.Name bytes)

-- a literal of `len` digits, if it is small
abbrev pub literal_of : ℕ → ℕ → ℕ → Result (Piece × ℕ) Refusal
literal_of at value len = if nat_le value largest.LITERAL then Ok (Word (k.Lit (pos value)), len) else refused codes.LITERAL at

-- the literal at the front
unfoldable pub literal : ℕ → List ℕ → Result (Piece × ℕ) Refusal
literal at text = literal_of at (decimal (take (prefix_len is_ascii_digit text) text)) (prefix_len is_ascii_digit text)

-- the name or keyword at the front
unfoldable pub word : List ℕ → Result (Piece × ℕ) Refusal
word text = Ok (Word (word_kind (take (prefix_len is_name_byte text) text)), prefix_len is_name_byte text)

-- the line comment at the front
unfoldable pub line_comment : List ℕ → Result (Piece × ℕ) Refusal
line_comment text = Ok (Blank, prefix_len is_line_byte text)

-- the comment of `len` bytes, if it ends
abbrev pub block_of : ℕ → ℕ → ℕ → Result (Piece × ℕ) Refusal
block_of at len total = if nat_le len total then Ok (Blank, len) else refused codes.TOKEN at

-- the block comment at the front
unfoldable pub block_comment : ℕ → List ℕ → Result (Piece × ℕ) Refusal
block_comment at text = block_of at (before_close (drop 2 text) + 4) (length text)

-- the longer of two symbols
abbrev pub symbol_of : ℕ → Option TokenKind → Option TokenKind → Result (Piece × ℕ) Refusal
symbol_of at (Some kind) single = Ok (Word kind, 2)
symbol_of at None (Some kind) = Ok (Word kind, 1)
symbol_of at None None = refused codes.TOKEN at

-- the symbol of the first two bytes
unfoldable pub double : List ℕ → Option TokenKind
double text = if nat_lt 1 (length text) then kind_in (slice_index text 0 ∷ slice_index text 1 ∷ []) symbols else None

-- the symbol at the front
unfoldable pub symbol : ℕ → List ℕ → Result (Piece × ℕ) Refusal
symbol at text = symbol_of at (double text) (kind_in (slice_index text 0 ∷ []) symbols)

-- the piece at the front of a text at an offset
unfoldable pub front : ℕ → List ℕ → Result (Piece × ℕ) Refusal
front at text =
    if is_space (slice_index text 0) then Ok (Blank, 1)
    else if is_ascii_digit (slice_index text 0) then literal at text
    else if is_letter (slice_index text 0) then word text
    else if begins_with 47 47 text then line_comment text
    else if begins_with 47 42 text then block_comment at text
    else symbol at text
