-- Which form a piece has, and what its first byte says of that.
use Rattle.std.proofs.Common.{◌≡◌, ℕ, ◌≤◌, Bool, true, false, cond, not, ◌&&◌, ◌||◌, ◌==◌, nat_le, List, [], ◌∷◌, ◌++◌, length, Option, None, Some, refl, ap, ◌∙◌, subst, arith}
use Rattle.std.proofs.lemmas.Bool.{and_parts, and_from, or_left, eqb-true, leb-true}
use Rattle.std.proofs.lemmas.Bool.Decides.{nat_tests}
use Rattle.std.proofs.lemmas.Slice.Eq.{bytes_eq-Decides}
use Rattle.std.specs.Char.{is_ascii_digit}
use Rattle.std.specs.List.{list_all}
use Rattle.std.specs.Option.{option_map}
use Rattle.std.specs.Str.{bytes_eq}
use Rattle.sopl_ast.specs.Pieces.{Piece, Blank, Word, begins_with, is_block_comment, is_letter, is_line_comment, is_literal, is_name_byte, is_one_space, is_space, is_word}
use Rattle.sopl_ast.specs.Pieces.{keywords, kind_in, piece_of, symbols}
use Rattle.sopl_ast.specs.Tokens.{IsSmall}
use Rattle.sopl_ast.specs.declared.token.TokenKind.{TokenKind}
use Rattle.sopl_ast.specs.declared.token.TokenKind.TheVariants as k
use Rattle.std.specs.Prelude.{unwrap_or}

-- the test that a piece passes, of those in the order of `piece_of`
pub data Form (space line block digits letters : Bool) (kind : Option TokenKind) (piece : Piece) : Type 0 where
  a_space : space ≡ true → Form space line block digits letters kind piece
  a_line : line ≡ true → Form space line block digits letters kind piece
  a_block : block ≡ true → Form space line block digits letters kind piece
  a_literal : digits ≡ true → Form space line block digits letters kind piece
  a_word : letters ≡ true → Form space line block digits letters kind piece
  a_symbol : (k : TokenKind) → kind ≡ Some k → piece ≡ Word k → Form space line block digits letters kind piece

abbrev pub FormOf : List ℕ → Piece → Type 0
FormOf bytes piece = Form (is_one_space bytes) (is_line_comment bytes) (is_block_comment bytes) (is_literal bytes) (is_word bytes) (kind_in bytes symbols) piece

pick : (s l b g w : Bool) (k : Option TokenKind) (x y piece : Piece) → cond (s || l || b) (Some Blank) (cond g (Some x) (cond w (Some y) (option_map Word k))) ≡ Some piece → Form s l b g w k piece
pick true l b g w k x y piece e = a_space refl
pick false true b g w k x y piece e = a_line refl
pick false false true g w k x y piece e = a_block refl
pick false false false true w k x y piece e = a_literal refl
pick false false false false true k x y piece e = a_word refl
pick false false false false false None x y piece e = absurd (cc)
pick false false false false false (Some kind) x y piece e = a_symbol kind refl (cc)

-- a piece passes one of the tests
pub form_of : (bytes : List ℕ) (piece : Piece) → piece_of bytes ≡ Some piece → FormOf bytes piece
form_of bytes piece e = pick _ _ _ _ _ _ _ _ piece e

-- the classes of a first byte exclude each other
pub space_digit : (c : ℕ) → is_space c ≡ true → is_ascii_digit c ≡ false
space_digit c h = grind (arith, nat_tests)

pub space_letter : (c : ℕ) → is_space c ≡ true → is_letter c ≡ false
space_letter c h = grind (arith, nat_tests)

pub digit_letter : (c : ℕ) → is_ascii_digit c ≡ true → is_letter c ≡ false
digit_letter c h = grind (arith, nat_tests)

pub slash_space : (c : ℕ) → (c == 47) ≡ true → is_space c ≡ false
slash_space c h = ap is_space (eqb-true c 47 h)

pub slash_digit : (c : ℕ) → (c == 47) ≡ true → is_ascii_digit c ≡ false
slash_digit c h = ap is_ascii_digit (eqb-true c 47 h)

pub slash_letter : (c : ℕ) → (c == 47) ≡ true → is_letter c ≡ false
slash_letter c h = ap is_letter (eqb-true c 47 h)

-- what each row of a table passes, the bytes found there pass
row_passes : (bytes : List ℕ) (rows : List (List ℕ × TokenKind)) (test : List ℕ → Bool) (kind : TokenKind) → list_all (λ (row : List ℕ × TokenKind). test row.0) rows ≡ true → kind_in bytes rows
    ≡ Some kind → test bytes ≡ true
row_passes bytes [] test kind all found = absurd (cc)
row_passes bytes (row ∷ rows) test kind all found =
    let parts = and_parts (test row.0) (list_all (λ (r : List ℕ × TokenKind). test r.0) rows) all in
    by_row (bytes_eq bytes row.0) refl found parts.0 (row_passes bytes rows test kind parts.1)
  where
    by_row : (same : Bool) → bytes_eq bytes row.0 ≡ same → cond same (Some row.1) (kind_in bytes rows) ≡ Some kind → test row.0 ≡ true → (kind_in bytes rows ≡ Some kind → test bytes ≡ true)
        → test bytes ≡ true
    by_row true e was here more = ap test ((bytes_eq-Decides bytes row.0).0 e) ∙ here
    by_row false e was here more = more was

-- a byte with which a symbol may begin
abbrev begins_symbol : List ℕ → Bool
begins_symbol [] = false
begins_symbol (c ∷ cs) = not (is_space c) && not (is_ascii_digit c) && not (is_letter c)

pub symbol_short : (bytes : List ℕ) (kind : TokenKind) → kind_in bytes symbols ≡ Some kind → length bytes ≤ 2
symbol_short bytes kind found = leb-true (length bytes) 2 (row_passes bytes symbols (λ b. nat_le (length b) 2) kind refl found)

pub record SymbolByte (c : ℕ) : Type 0 where
  pub no_space : is_space c ≡ false
  pub no_digit : is_ascii_digit c ≡ false
  pub no_letter : is_letter c ≡ false

pub symbol_byte : (c : ℕ) (cs : List ℕ) (kind : TokenKind) → kind_in (c ∷ cs) symbols ≡ Some kind → SymbolByte c
symbol_byte c cs kind found = split (is_space c) (is_ascii_digit c) (is_letter c) refl refl refl (row_passes (c ∷ cs) symbols begins_symbol kind refl found)
  where
    split : (s g l : Bool) → is_space c ≡ s → is_ascii_digit c ≡ g → is_letter c ≡ l → (not s && not g && not l) ≡ true → SymbolByte c
    split false false false s g l e = record { no_space = s; no_digit = g; no_letter = l }
    split false false true s g l e = absurd (cc)
    split false true l' s g l e = absurd (cc)
    split true g' l' s g l e = absurd (cc)

-- a text begins with two bytes where its prefix does
pub begins_append : (a b : ℕ) (xs ys : List ℕ) → begins_with a b xs ≡ true → begins_with a b (xs ++ ys) ≡ true
begins_append a b [] ys e = absurd (cc)
begins_append a b (x ∷ []) ys e = absurd (cc)
begins_append a b (x ∷ y ∷ xs) ys e = e

-- and its first byte is the first of the two
pub begins_first : (a b c : ℕ) (cs : List ℕ) → begins_with a b (c ∷ cs) ≡ true → (c == a) ≡ true
begins_first a b c [] e = absurd (cc)
begins_first a b c (d ∷ cs) e = (and_parts (c == a) (d == b) e).0

-- the test that a piece with this first byte passes, and what that says
pub data Start (c : ℕ) (bytes : List ℕ) (piece : Piece) : Type 0 where
  s_space : is_space c ≡ true → length bytes ≤ 1 → Start c bytes piece
  s_line : (c == 47) ≡ true → is_line_comment bytes ≡ true → Start c bytes piece
  s_block : (c == 47) ≡ true → is_block_comment bytes ≡ true → Start c bytes piece
  s_literal : is_ascii_digit c ≡ true → list_all is_ascii_digit bytes ≡ true → Start c bytes piece
  s_word : is_letter c ≡ true → list_all is_name_byte bytes ≡ true → Start c bytes piece
  s_symbol : SymbolByte c → (k : TokenKind) → kind_in bytes symbols ≡ Some k → piece ≡ Word k → Start c bytes piece

one_space : (d : ℕ) (m : List ℕ) → is_one_space (d ∷ m) ≡ true → (is_space d ≡ true) × (length (d ∷ m) ≤ 1)
one_space d [] e = (e, omega arith)
one_space d (x ∷ m) e = absurd (cc)

start_of : (d : ℕ) (m : List ℕ) (piece : Piece) → FormOf (d ∷ m) piece → Start d (d ∷ m) piece
start_of d m piece (a_space h) = let p = one_space d m h in s_space p.0 p.1
start_of d m piece (a_line h) = s_line (begins_first 47 47 d m (and_parts _ _ h).0) h
start_of d m piece (a_block h) = s_block (begins_first 47 42 d m (and_parts _ _ h).0) h
start_of d m piece (a_literal h) = s_literal (and_parts (is_ascii_digit d) (list_all is_ascii_digit m) h).0 h
start_of d m piece (a_word h) =
    let p = and_parts (is_letter d) (list_all is_name_byte m) h in
    s_word p.0 (and_from (is_name_byte d) (list_all is_name_byte m) (or_left (is_letter d) (is_ascii_digit d) p.0) p.1)
start_of d m piece (a_symbol k found is) = s_symbol (symbol_byte d m k found) k found is

-- a piece with which a text begins
pub start_with : (c : ℕ) (cs more others : List ℕ) (other : Piece) → c ∷ cs ≡ more ++ others → piece_of more ≡ Some other → Start c more other
start_with c cs [] others other e p = absurd (cc)
start_with c cs (d ∷ m) others other e p =
    let same : d ≡ c = cc in
    let P : ℕ → Type 0 = λ x. Start x (d ∷ m) other in
    subst P same (start_of d m other (form_of (d ∷ m) other p))

-- no literal stands in a table
abbrev is_no_literal : TokenKind → Bool
is_no_literal (k.Lit value) = false
is_no_literal _ = true

small_if : (kind : TokenKind) → is_no_literal kind ≡ true → IsSmall kind
small_if (k.Lit value) e = absurd (cc)
small_if _ e = tt

row_small : (bytes : List ℕ) (rows : List (List ℕ × TokenKind)) (kind : TokenKind) → list_all (λ (row : List ℕ × TokenKind). is_no_literal row.1) rows ≡ true → kind_in bytes rows ≡ Some kind
    → IsSmall kind
row_small bytes [] kind all found = absurd (cc)
row_small bytes (row ∷ rows) kind all found =
    let parts = and_parts (is_no_literal row.1) (list_all (λ (r : List ℕ × TokenKind). is_no_literal r.1) rows) all in
    by_row (bytes_eq bytes row.0) found parts.0 (row_small bytes rows kind parts.1)
  where
    by_row : (same : Bool) → cond same (Some row.1) (kind_in bytes rows) ≡ Some kind → is_no_literal row.1 ≡ true → (kind_in bytes rows ≡ Some kind → IsSmall kind) → IsSmall kind
    by_row true was here more = let same : row.1 ≡ kind = cc in subst IsSmall same (small_if row.1 here)
    by_row false was here more = more was

pub symbol_small : (bytes : List ℕ) (kind : TokenKind) → kind_in bytes symbols ≡ Some kind → IsSmall kind
symbol_small bytes kind found = row_small bytes symbols kind refl found

pub word_small : (bytes : List ℕ) → IsSmall (unwrap_or (kind_in bytes keywords) (k.Name bytes))
word_small bytes = by_kind (kind_in bytes keywords) refl
  where
    by_kind : (o : Option TokenKind) → kind_in bytes keywords ≡ o → IsSmall (unwrap_or o (k.Name bytes))
    by_kind None e = tt
    by_kind (Some kind) e = row_small bytes keywords kind refl e
