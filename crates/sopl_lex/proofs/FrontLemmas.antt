-- What `front` answers is the longest piece, or a refusal of what stands there.
use Rattle.std.proofs.Common.{◌≡◌, ℕ, suc, ◌+◌, ◌^◌, ◌-◌, ◌≤◌, ◌<◌, ◌<ℤ◌, ◌≤ℤ◌, pos, Bool, true, false, cond, ◌||◌, ◌==◌, nat_le, List, [], ◌∷◌, ◌++◌, length, take, drop, Option}
use Rattle.std.proofs.Common.{None, Some, Result, Ok, Err, refl, ap, sym, ◌∙◌, subst, arith, ◌⊎◌, inl, inr, length-append, length-take-le, take-append-drop}
use Rattle.std.proofs.lemmas.Bool.{and_from, and_left, and_parts, both_ways, false_from_ne_true, or_left, cond_both, eq-eqb, eqb-true, lt-ltb, leb-true, leb-false}
use Rattle.std.proofs.lemmas.Int.{ints}
use Rattle.std.proofs.lemmas.List.Sums.{prefix_len-le-length}
use Rattle.std.specs.Char.{is_ascii_digit}
use Rattle.std.specs.List.{list_all, prefix_len}
use Rattle.std.specs.Option.{option_map}
use Rattle.sopl_base.specs.declared.fault.Refusal.{Refusal}
use Rattle.sopl_base.specs.declared.codes.TheConstants as codes
use Rattle.sopl_ast.specs.Pieces.{Piece, Blank, Word, Begins, before_close, begins_with, decimal, is_block_comment, is_letter, is_line_comment, is_literal, is_name_byte}
use Rattle.sopl_ast.specs.Pieces.{is_one_space, is_space, is_word, kind_in, piece_of, symbols}
use Rattle.sopl_ast.specs.Tokens.{IsSmall, IsStuck, IsTooLarge}
use Rattle.sopl_ast.specs.declared.token.TokenKind.{TokenKind}
use Rattle.sopl_ast.specs.declared.token.TokenKind.TheVariants as k
use Rattle.sopl_lex.specs.Front.{block_comment, double, front, is_line_byte, line_comment, literal, symbol, symbol_of, word, word_kind}
use Rattle.sopl_lex.proofs.Forms.{Start, s_space, s_line, s_block, s_literal, s_word, s_symbol, start_with, begins_append, begins_first, digit_letter, slash_digit, slash_letter}
use Rattle.sopl_lex.proofs.Forms.{slash_space, space_digit, space_letter, symbol_short, symbol_small, word_small}
use Rattle.sopl_lex.proofs.Longest.{close_append, close_take, prefix_longest, run_passes}

pos_le : (a b : ℕ) → a ≤ b → pos a ≤ℤ pos b
pos_le a b h = omega (arith, ints)

pos_lt : (a b : ℕ) → a < b → pos a <ℤ pos b
pos_lt a b h = omega (arith, ints)

-- a piece is no literal above the greatest
abbrev pub IsSmallPiece : Piece → Type 0
IsSmallPiece Blank = Unit {0}
IsSmallPiece (Word kind) = IsSmall kind

-- the text begins with this piece of this length
pub record Stands (text : List ℕ) (piece : Piece) (len : ℕ) : Type 0 where
  pub begins : Begins text piece (take len text) (drop len text)
  pub some : 0 < len
  pub within : len ≤ length text
  pub small : IsSmallPiece piece

-- the text has no piece at its front, or a literal that is too large
pub record Fails (at : ℕ) (text : List ℕ) (refusal : Refusal) : Type 0 where
  pub place : refusal.at ≡ at
  pub cause : ((refusal.code ≡ codes.TOKEN) × IsStuck text) ⊎ ((refusal.code ≡ codes.LITERAL) × IsTooLarge text)

abbrev pub Holds : ℕ → List ℕ → Result (Piece × ℕ) Refusal → Type 0
Holds at text (Ok answer) = Stands text answer.0 answer.1
Holds at text (Err refusal) = Fails at text refusal

-- no piece of a prefix is longer
abbrev IsLongest : ℕ → List ℕ → ℕ → Type 0
IsLongest c cs n = (more others : List ℕ) (other : Piece) → c ∷ cs ≡ more ++ others → Start c more other → length more ≤ n

begins : (c : ℕ) (cs : List ℕ) (piece : Piece) (n : ℕ) → n ≤ length (c ∷ cs) → piece_of (take n (c ∷ cs)) ≡ Some piece → IsLongest c cs n → (begins_with 47 42 (c ∷ cs) ≡ true → piece ≡ Blank)
    → Begins (c ∷ cs) piece (take n (c ∷ cs)) (drop n (c ∷ cs))
begins c cs piece n h form longest comment =
    record {
      cut = sym (take-append-drop n (c ∷ cs));
      form = form;
      longest = λ more others other e p.
          let short = longest more others other e (start_with c cs more others other e p) in
          let same = length-take-le n (c ∷ cs) h in
          omega arith;
      comment = comment;
    }

-- the piece by its tests, in the order of `piece_of`
module _ (x y : Piece) where
  first_space : (s l b g w : Bool) (o : Option TokenKind) → s ≡ true → cond (s || l || b) (Some Blank) (cond g (Some x) (cond w (Some y) (option_map Word o))) ≡ Some Blank
  first_space true l b g w o e = refl
  first_space false l b g w o e = absurd (cc)

  first_line : (s l b g w : Bool) (o : Option TokenKind) → l ≡ true → cond (s || l || b) (Some Blank) (cond g (Some x) (cond w (Some y) (option_map Word o))) ≡ Some Blank
  first_line true l b g w o e = refl
  first_line false true b g w o e = refl
  first_line false false b g w o e = absurd (cc)

  first_block : (s l b g w : Bool) (o : Option TokenKind) → b ≡ true → cond (s || l || b) (Some Blank) (cond g (Some x) (cond w (Some y) (option_map Word o))) ≡ Some Blank
  first_block true l b g w o e = refl
  first_block false true b g w o e = refl
  first_block false false true g w o e = refl
  first_block false false false g w o e = absurd (cc)

  first_literal : (s l b g w : Bool) (o : Option TokenKind) → s ≡ false → l ≡ false → b ≡ false → g ≡ true
      → cond (s || l || b) (Some Blank) (cond g (Some x) (cond w (Some y) (option_map Word o))) ≡ Some x
  first_literal s l b g w o es el eb eg = rw (es, el, eb, eg) refl

  first_word : (s l b g w : Bool) (o : Option TokenKind) → s ≡ false → l ≡ false → b ≡ false → g ≡ false → w ≡ true
      → cond (s || l || b) (Some Blank) (cond g (Some x) (cond w (Some y) (option_map Word o))) ≡ Some y
  first_word s l b g w o es el eb eg ew = rw (es, el, eb, eg, ew) refl

  first_symbol : (s l b g w : Bool) (o : Option TokenKind) (kind : TokenKind) → s ≡ false → l ≡ false → b ≡ false → g ≡ false → w ≡ false → o ≡ Some kind
      → cond (s || l || b) (Some Blank) (cond g (Some x) (cond w (Some y) (option_map Word o))) ≡ Some (Word kind)
  first_symbol s l b g w o kind es el eb eg ew eo = rw (es, el, eb, eg, ew, eo) refl

-- the bytes that pass a test of a blank piece
space_piece : (b : List ℕ) → is_one_space b ≡ true → piece_of b ≡ Some Blank
space_piece b e = first_space (Word (k.Lit (pos (decimal b)))) (Word (word_kind b)) (is_one_space b) (is_line_comment b) (is_block_comment b) (is_literal b) (is_word b) (kind_in b symbols) e

line_piece : (b : List ℕ) → is_line_comment b ≡ true → piece_of b ≡ Some Blank
line_piece b e = first_line (Word (k.Lit (pos (decimal b)))) (Word (word_kind b)) (is_one_space b) (is_line_comment b) (is_block_comment b) (is_literal b) (is_word b) (kind_in b symbols) e

block_piece : (b : List ℕ) → is_block_comment b ≡ true → piece_of b ≡ Some Blank
block_piece b e = first_block (Word (k.Lit (pos (decimal b)))) (Word (word_kind b)) (is_one_space b) (is_line_comment b) (is_block_comment b) (is_literal b) (is_word b) (kind_in b symbols) e

-- a text does not begin with both `//` and `/*`
not_both : (text : List ℕ) → begins_with 47 47 text ≡ true → begins_with 47 42 text ≡ true → ⊥
not_both [] p q = absurd (cc)
not_both (a ∷ []) p q = absurd (cc)
not_both (a ∷ b ∷ rest) p q =
    let second = eqb-true b 47 (and_parts (a == 47) (b == 47) p).1 in
    let other = eqb-true b 42 (and_parts (a == 47) (b == 42) q).1 in
    omega arith

front_begins : (a b c : ℕ) (cs more others : List ℕ) → c ∷ cs ≡ more ++ others → begins_with a b more ≡ true → begins_with a b (c ∷ cs) ≡ true
front_begins a b c cs more others e h = ap (begins_with a b) e ∙ begins_append a b more others h

run_longest : (p : ℕ → Bool) (c : ℕ) (cs more others : List ℕ) → c ∷ cs ≡ more ++ others → list_all p more ≡ true → length more ≤ prefix_len p (c ∷ cs)
run_longest p c cs more others e all =
    let P : List ℕ → Type 0 = λ xs. length more ≤ prefix_len p xs in
    subst P (sym e) (prefix_longest p more others all)

space_longest : (c : ℕ) (cs : List ℕ) → is_space c ≡ true → IsLongest c cs 1
space_longest c cs s more others other e (s_space h short) = short
space_longest c cs s more others other e (s_line h m) = absurd (both_ways _ (slash_space c h) s)
space_longest c cs s more others other e (s_block h m) = absurd (both_ways _ (slash_space c h) s)
space_longest c cs s more others other e (s_literal h m) = absurd (both_ways _ (space_digit c s) h)
space_longest c cs s more others other e (s_word h m) = absurd (both_ways _ (space_letter c s) h)
space_longest c cs s more others other e (s_symbol b kind found is) = absurd (both_ways _ b.no_space s)

literal_longest : (c : ℕ) (cs : List ℕ) → is_ascii_digit c ≡ true → IsLongest c cs (prefix_len is_ascii_digit (c ∷ cs))
literal_longest c cs g more others other e (s_space h short) = absurd (both_ways _ (space_digit c h) g)
literal_longest c cs g more others other e (s_line h m) = absurd (both_ways _ (slash_digit c h) g)
literal_longest c cs g more others other e (s_block h m) = absurd (both_ways _ (slash_digit c h) g)
literal_longest c cs g more others other e (s_literal h m) = run_longest is_ascii_digit c cs more others e m
literal_longest c cs g more others other e (s_word h m) = absurd (both_ways _ (digit_letter c g) h)
literal_longest c cs g more others other e (s_symbol b kind found is) = absurd (both_ways _ b.no_digit g)

word_longest : (c : ℕ) (cs : List ℕ) → is_letter c ≡ true → IsLongest c cs (prefix_len is_name_byte (c ∷ cs))
word_longest c cs l more others other e (s_space h short) = absurd (both_ways _ (space_letter c h) l)
word_longest c cs l more others other e (s_line h m) = absurd (both_ways _ (slash_letter c h) l)
word_longest c cs l more others other e (s_block h m) = absurd (both_ways _ (slash_letter c h) l)
word_longest c cs l more others other e (s_literal h m) = absurd (both_ways _ (digit_letter c h) l)
word_longest c cs l more others other e (s_word h m) = run_longest is_name_byte c cs more others e m
word_longest c cs l more others other e (s_symbol b kind found is) = absurd (both_ways _ b.no_letter l)

two_line : (text : List ℕ) → begins_with 47 47 text ≡ true → 2 ≤ prefix_len is_line_byte text
two_line [] p = absurd (cc)
two_line (a ∷ []) p = absurd (cc)
two_line (a ∷ b ∷ rest) p =
    let parts = and_parts (a == 47) (b == 47) p in
    let P : ℕ → ℕ → Type 0 = λ x y. 2 ≤ prefix_len is_line_byte (x ∷ y ∷ rest) in
    let here : P 47 47 = omega arith in
    subst (λ x. P x b) (sym (eqb-true a 47 parts.0)) (subst (P 47) (sym (eqb-true b 47 parts.1)) here)

line_longest : (c : ℕ) (cs : List ℕ) → begins_with 47 47 (c ∷ cs) ≡ true → IsLongest c cs (prefix_len is_line_byte (c ∷ cs))
line_longest c cs p more others other e (s_space h short) = absurd (both_ways _ (slash_space c (begins_first 47 47 c cs p)) h)
line_longest c cs p more others other e (s_line h m) = run_longest is_line_byte c cs more others e (and_parts _ _ m).1
line_longest c cs p more others other e (s_block h m) = absurd (not_both (c ∷ cs) p (front_begins 47 42 c cs more others e (and_parts _ _ m).0))
line_longest c cs p more others other e (s_literal h m) = absurd (both_ways _ (slash_digit c (begins_first 47 47 c cs p)) h)
line_longest c cs p more others other e (s_word h m) = absurd (both_ways _ (slash_letter c (begins_first 47 47 c cs p)) h)
line_longest c cs p more others other e (s_symbol b kind found is) =
    let two = two_line (c ∷ cs) p in
    let short = symbol_short more kind found in
    omega arith

-- a comment that ends is as long as the first `*/` says
block_len : (text more others : List ℕ) → text ≡ more ++ others → is_block_comment more ≡ true → (length more ≡ before_close (drop 2 text) + 4) × (length more ≤ length text)
block_len text [] others e m = absurd (cc)
block_len text (x ∷ []) others e m = absurd (cc)
block_len text (x ∷ y ∷ more) others e m =
    let len = eqb-true (before_close more + 4) (length (x ∷ y ∷ more)) (and_parts (begins_with 47 42 (x ∷ y ∷ more)) _ m).1 in
    let same = close_append more others (omega arith) in
    let cut : before_close (drop 2 text) ≡ before_close (more ++ others) = ap (λ xs. before_close (drop 2 xs)) e in
    let total = length-append (x ∷ y ∷ more) others in
    let whole = ap length e in
    (omega arith, omega arith)

block_longest : (c : ℕ) (cs : List ℕ) → begins_with 47 42 (c ∷ cs) ≡ true → IsLongest c cs (before_close (drop 2 (c ∷ cs)) + 4)
block_longest c cs p more others other e (s_space h short) = absurd (both_ways _ (slash_space c (begins_first 47 42 c cs p)) h)
block_longest c cs p more others other e (s_line h m) = absurd (not_both (c ∷ cs) (front_begins 47 47 c cs more others e (and_parts _ _ m).0) p)
block_longest c cs p more others other e (s_block h m) = let len = (block_len (c ∷ cs) more others e m).0 in omega arith
block_longest c cs p more others other e (s_literal h m) = absurd (both_ways _ (slash_digit c (begins_first 47 42 c cs p)) h)
block_longest c cs p more others other e (s_word h m) = absurd (both_ways _ (slash_letter c (begins_first 47 42 c cs p)) h)
block_longest c cs p more others other e (s_symbol b kind found is) = let short = symbol_short more kind found in omega arith

-- a comment that begins here ends in the text
block_ends : (c : ℕ) (cs more others : List ℕ) (other : Piece) → begins_with 47 42 (c ∷ cs) ≡ true → c ∷ cs ≡ more ++ others → other ≡ Blank → Start c more other
    → before_close (drop 2 (c ∷ cs)) + 4 ≤ length (c ∷ cs)
block_ends c cs more others other p e blank (s_space h short) = absurd (both_ways _ (slash_space c (begins_first 47 42 c cs p)) h)
block_ends c cs more others other p e blank (s_line h m) = absurd (not_both (c ∷ cs) (front_begins 47 47 c cs more others e (and_parts _ _ m).0) p)
block_ends c cs more others other p e blank (s_block h m) = let len = block_len (c ∷ cs) more others e m in omega (arith, len.0, len.1)
block_ends c cs more others other p e blank (s_literal h m) = absurd (both_ways _ (slash_digit c (begins_first 47 42 c cs p)) h)
block_ends c cs more others other p e blank (s_word h m) = absurd (both_ways _ (slash_letter c (begins_first 47 42 c cs p)) h)
block_ends c cs more others other p e blank (s_symbol b kind found is) = absurd (cc)

-- what a first byte of another class says of the tests
no_one_space : (c : ℕ) (cs : List ℕ) → is_space c ≡ false → is_one_space (c ∷ cs) ≡ false
no_one_space c [] s = s
no_one_space c (d ∷ cs) s = refl

no_begin : (b c : ℕ) (cs : List ℕ) → (c == 47) ≡ false → begins_with 47 b (c ∷ cs) ≡ false
no_begin b c [] h = refl
no_begin b c (d ∷ cs) h = and_left (c == 47) (d == b) h

no_slash : (c : ℕ) → ((c == 47) ≡ true → ⊥) → (c == 47) ≡ false
no_slash c h = false_from_ne_true (c == 47) h

-- the run of a text whose first byte passes, and the prefix of that length
run_of : (p : ℕ → Bool) (c : ℕ) (cs : List ℕ) → p c ≡ true → prefix_len p (c ∷ cs) ≡ suc (prefix_len p cs)
run_of p c cs h =
    let one : 1 + prefix_len p cs ≡ suc (prefix_len p cs) = omega arith in
    rw h one

space_stands : (c : ℕ) (cs : List ℕ) → is_space c ≡ true → Stands (c ∷ cs) Blank 1
space_stands c cs s = record {
  begins = begins c cs Blank 1 (omega arith) (space_piece (take 1 (c ∷ cs)) s) (space_longest c cs s) (λ h. refl);
  some = omega arith;
  within = omega arith;
  small = tt;
}

literal_form : (c : ℕ) (ys : List ℕ) → is_space c ≡ false → is_ascii_digit c ≡ true → list_all is_ascii_digit ys ≡ true → piece_of (c ∷ ys) ≡ Some (Word (k.Lit (pos (decimal (c ∷ ys)))))
literal_form c ys s g all =
    let slash = no_slash c (λ h. both_ways _ (slash_digit c h) g) in
    first_literal _ _ _ _ _ _ _ _ (no_one_space c ys s)
    (and_left (begins_with 47 47 (c ∷ ys)) _ (no_begin 47 c ys slash))
    (and_left (begins_with 47 42 (c ∷ ys)) _ (no_begin 42 c ys slash))
    (and_from (is_ascii_digit c) (list_all is_ascii_digit ys) g all)

literal_begins : (c : ℕ) (cs : List ℕ) → is_space c ≡ false → is_ascii_digit c ≡ true →
    let n = prefix_len is_ascii_digit (c ∷ cs) in
    Begins (c ∷ cs) (Word (k.Lit (pos (decimal (take n (c ∷ cs)))))) (take n (c ∷ cs)) (drop n (c ∷ cs))
literal_begins c cs s g =
    let n = prefix_len is_ascii_digit (c ∷ cs) in
    let P : ℕ → Type 0 = λ n. piece_of (take n (c ∷ cs)) ≡ Some (Word (k.Lit (pos (decimal (take n (c ∷ cs)))))) in
    let form = subst P (sym (run_of is_ascii_digit c cs g)) (literal_form c (take (prefix_len is_ascii_digit cs) cs) s g (run_passes is_ascii_digit cs)) in
    begins c cs _ n (prefix_len-le-length is_ascii_digit (c ∷ cs)) form (literal_longest c cs g)
    (λ h. absurd (both_ways _ (slash_digit c (begins_first 47 42 c cs h)) g))

literal_holds : (at c : ℕ) (cs : List ℕ) → is_space c ≡ false → is_ascii_digit c ≡ true → Holds at (c ∷ cs) (literal at (c ∷ cs))
unfolding literal
literal_holds at c cs s g =
    let n = prefix_len is_ascii_digit (c ∷ cs) in
    let value = decimal (take n (c ∷ cs)) in
    let long = run_of is_ascii_digit c cs g in
    let within = prefix_len-le-length is_ascii_digit (c ∷ cs) in
    cond_both (nat_le value (2 ^ 40)) _ _ (Holds at (c ∷ cs))
    (λ h.
    record {
      begins = literal_begins c cs s g;
      some = omega arith;
      within = within;
      small = pos_le value (2 ^ 40) (leb-true value (2 ^ 40) h);
    })
    (λ h.
    record {
      place = refl;
      cause = inr (
        refl,
        record {
          value = pos value;
          bytes = take n (c ∷ cs);
          after = drop n (c ∷ cs);
          begins = literal_begins c cs s g;
          large = pos_lt (2 ^ 40) value (leb-false value (2 ^ 40) h);
        },
      );
    })

word_form : (c : ℕ) (ys : List ℕ) → is_space c ≡ false → is_ascii_digit c ≡ false → is_letter c ≡ true → list_all is_name_byte ys ≡ true → piece_of (c ∷ ys) ≡ Some (Word (word_kind (c ∷ ys)))
word_form c ys s g l all =
    let slash = no_slash c (λ h. both_ways _ (slash_letter c h) l) in
    first_word _ _ _ _ _ _ _ _ (no_one_space c ys s)
    (and_left (begins_with 47 47 (c ∷ ys)) _ (no_begin 47 c ys slash))
    (and_left (begins_with 47 42 (c ∷ ys)) _ (no_begin 42 c ys slash))
    (and_left (is_ascii_digit c) (list_all is_ascii_digit ys) g)
    (and_from (is_letter c) (list_all is_name_byte ys) l all)

word_holds : (at c : ℕ) (cs : List ℕ) → is_space c ≡ false → is_ascii_digit c ≡ false → is_letter c ≡ true → Holds at (c ∷ cs) (word (c ∷ cs))
unfolding word
word_holds at c cs s g l =
    let n = prefix_len is_name_byte (c ∷ cs) in
    let goes_on = or_left (is_letter c) (is_ascii_digit c) l in
    let long = run_of is_name_byte c cs goes_on in
    let within = prefix_len-le-length is_name_byte (c ∷ cs) in
    let P : ℕ → Type 0 = λ n. piece_of (take n (c ∷ cs)) ≡ Some (Word (word_kind (take n (c ∷ cs)))) in
    let form = subst P (sym long) (word_form c (take (prefix_len is_name_byte cs) cs) s g l (run_passes is_name_byte cs)) in
    record {
      begins = begins c cs _ n within form (word_longest c cs l) (λ h. absurd (both_ways _ (slash_letter c (begins_first 47 42 c cs h)) l));
      some = omega arith;
      within = within;
      small = word_small (take n (c ∷ cs));
    }

-- a longer prefix begins as the text does
begins_take : (a b n : ℕ) (text : List ℕ) → begins_with a b text ≡ true → begins_with a b (take (suc (suc n)) text) ≡ true
begins_take a b n [] h = h
begins_take a b n (x ∷ []) h = h
begins_take a b n (x ∷ y ∷ rest) h = h

line_holds : (at c : ℕ) (cs : List ℕ) → begins_with 47 47 (c ∷ cs) ≡ true → Holds at (c ∷ cs) (line_comment (c ∷ cs))
unfolding line_comment
line_holds at c cs p =
    let n = prefix_len is_line_byte (c ∷ cs) in
    let two = two_line (c ∷ cs) p in
    let within = prefix_len-le-length is_line_byte (c ∷ cs) in
    let split : n ≡ suc (suc (n - 2)) = omega arith in
    let P : ℕ → Type 0 = λ n. begins_with 47 47 (take n (c ∷ cs)) ≡ true in
    let front = subst P (sym split) (begins_take 47 47 (n - 2) (c ∷ cs) p) in
    record {
      begins = begins c cs Blank n within (line_piece (take n (c ∷ cs)) (and_from _ _ front (run_passes is_line_byte (c ∷ cs)))) (line_longest c cs p) (λ h. refl);
      some = omega arith;
      within = within;
      small = tt;
    }

block_form : (text : List ℕ) → begins_with 47 42 text ≡ true → before_close (drop 2 text) + 4 ≤ length text → is_block_comment (take (before_close (drop 2 text) + 4) text) ≡ true
block_form [] p h = absurd (cc)
block_form (x ∷ []) p h = absurd (cc)
block_form (x ∷ y ∷ rest) p h =
    let n = before_close rest in
    let split : n + 4 ≡ suc (suc (n + 2)) = omega arith in
    let fits : n + 2 ≤ length rest = omega arith in
    let close = close_take rest fits in
    let len = length-take-le (n + 2) rest fits in
    let P : ℕ → Type 0 = λ m. is_block_comment (take m (x ∷ y ∷ rest)) ≡ true in
    subst P (sym split)
    (and_from (begins_with 47 42 (x ∷ y ∷ rest)) _ p
    (eq-eqb (before_close (take (n + 2) rest) + 4) (length (x ∷ y ∷ take (n + 2) rest)) (omega arith)))

block_holds : (at c : ℕ) (cs : List ℕ) → begins_with 47 42 (c ∷ cs) ≡ true → Holds at (c ∷ cs) (block_comment at (c ∷ cs))
unfolding block_comment
block_holds at c cs p =
    let n = before_close (drop 2 (c ∷ cs)) + 4 in
    cond_both (nat_le n (length (c ∷ cs))) _ _ (Holds at (c ∷ cs))
    (λ h.
    let within = leb-true n (length (c ∷ cs)) h in
    record {
      begins = begins c cs Blank n within (block_piece (take n (c ∷ cs)) (block_form (c ∷ cs) p within)) (block_longest c cs p) (λ h. refl);
      some = omega arith;
      within = within;
      small = tt;
    })
    (λ h.
    let long = leb-false n (length (c ∷ cs)) h in
    record {
      place = refl;
      cause = inl (
        refl,
        record {
          some = λ e. absurd (cc);
          none = λ piece bytes after b. let ends = block_ends c cs bytes after piece p b.cut (b.comment p) (start_with c cs bytes after piece b.cut b.form) in omega arith;
        },
      );
    })

-- the piece of a symbol
symbol_form : (c : ℕ) (ys : List ℕ) (kind : TokenKind) → is_space c ≡ false → is_ascii_digit c ≡ false → is_letter c ≡ false → begins_with 47 47 (c ∷ ys) ≡ false → begins_with 47 42 (c ∷ ys)
    ≡ false → kind_in (c ∷ ys) symbols ≡ Some kind → piece_of (c ∷ ys) ≡ Some (Word kind)
symbol_form c ys kind s g l line block found =
    let b = c ∷ ys in
    first_symbol (Word (k.Lit (pos (decimal b)))) (Word (word_kind b)) (is_one_space b) (is_line_comment b) (is_block_comment b) (is_literal b) (is_word b) (kind_in b symbols) kind
    (no_one_space c ys s)
    (and_left (begins_with 47 47 b) (list_all is_line_byte b) line)
    (and_left (begins_with 47 42 b) _ block)
    (and_left (is_ascii_digit c) (list_all is_ascii_digit ys) g)
    (and_left (is_letter c) (list_all is_name_byte ys) l)
    found

-- where no other piece begins, a piece is a symbol of one or two bytes
data Found (c : ℕ) (cs more : List ℕ) : Type 0 where
  one : (kind : TokenKind) → length more ≤ 1 → kind_in (c ∷ []) symbols ≡ Some kind → Found c cs more
  two : (kind : TokenKind) → length more ≤ 2 → double (c ∷ cs) ≡ Some kind → Found c cs more

double_of : (c d : ℕ) (cs : List ℕ) → double (c ∷ d ∷ cs) ≡ kind_in (c ∷ d ∷ []) symbols
unfolding double
double_of c d cs =
    let more : 1 < length (c ∷ d ∷ cs) = omega arith in
    ap (λ b. cond b (kind_in (c ∷ d ∷ []) symbols) None) (lt-ltb 1 (length (c ∷ d ∷ cs)) more)

double_long : (c : ℕ) (cs : List ℕ) (kind : TokenKind) → double (c ∷ cs) ≡ Some kind → 2 ≤ length (c ∷ cs)
unfolding double
double_long c [] kind e = absurd (cc)
double_long c (d ∷ cs) kind e = omega arith

found_of : (c : ℕ) (cs more others : List ℕ) (kind : TokenKind) → c ∷ cs ≡ more ++ others → kind_in more symbols ≡ Some kind → Found c cs more
found_of c cs [] others kind e found = absurd (cc)
found_of c cs (d ∷ []) others kind e found =
    let same : d ≡ c = cc in
    one kind (omega arith) (ap (λ x. kind_in (x ∷ []) symbols) (sym same) ∙ found)
found_of c cs (d ∷ x ∷ []) others kind e found =
    let whole : double (c ∷ cs) ≡ double (d ∷ x ∷ others) = ap double e in
    two kind (omega arith) (whole ∙ double_of d x others ∙ found)
found_of c cs (d ∷ x ∷ y ∷ more) others kind e found = let short = symbol_short (d ∷ x ∷ y ∷ more) kind found in absurd (omega arith)

record Other (c : ℕ) (cs : List ℕ) : Type 0 where
  no_space : is_space c ≡ false
  no_digit : is_ascii_digit c ≡ false
  no_letter : is_letter c ≡ false
  no_line : begins_with 47 47 (c ∷ cs) ≡ false
  no_block : begins_with 47 42 (c ∷ cs) ≡ false

other_found : (c : ℕ) (cs : List ℕ) → Other c cs → (more others : List ℕ) (other : Piece) → c ∷ cs ≡ more ++ others → Start c more other → Found c cs more
other_found c cs o more others other e (s_space h short) = absurd (both_ways _ o.no_space h)
other_found c cs o more others other e (s_line h m) = absurd (both_ways _ o.no_line (front_begins 47 47 c cs more others e (and_parts _ _ m).0))
other_found c cs o more others other e (s_block h m) = absurd (both_ways _ o.no_block (front_begins 47 42 c cs more others e (and_parts _ _ m).0))
other_found c cs o more others other e (s_literal h m) = absurd (both_ways _ o.no_digit h)
other_found c cs o more others other e (s_word h m) = absurd (both_ways _ o.no_letter h)
other_found c cs o more others other e (s_symbol b kind found is) = found_of c cs more others kind e found

two_form : (c : ℕ) (cs : List ℕ) (kind : TokenKind) → Other c cs → double (c ∷ cs) ≡ Some kind → (piece_of (take 2 (c ∷ cs)) ≡ Some (Word kind)) × IsSmall kind
unfolding double
two_form c [] kind o e = absurd (cc)
two_form c (d ∷ cs) kind o e =
    let found = sym (double_of c d cs) ∙ e in
    (symbol_form c (d ∷ []) kind o.no_space o.no_digit o.no_letter o.no_line o.no_block found, symbol_small (c ∷ d ∷ []) kind found)

symbol_holds : (at c : ℕ) (cs : List ℕ) → Other c cs → Holds at (c ∷ cs) (symbol at (c ∷ cs))
unfolding symbol
symbol_holds at c cs o = by_kind (double (c ∷ cs)) (kind_in (c ∷ []) symbols) refl refl
  where
    no_blank : (kind : TokenKind) → begins_with 47 42 (c ∷ cs) ≡ true → Word kind ≡ Blank
    no_blank kind h = absurd (both_ways _ o.no_block h)

    by_kind : (pair single : Option TokenKind) → double (c ∷ cs) ≡ pair → kind_in (c ∷ []) symbols ≡ single → Holds at (c ∷ cs) (symbol_of at pair single)
    by_kind (Some kind) single e f =
        let form = two_form c cs kind o e in
        let long = double_long c cs kind e in
        record {
          begins = begins c cs (Word kind) 2 long form.0
              (λ more others other cut start. elim (other_found c cs o more others other cut start) [ one k' short found ↦ omega arith | two k' short found ↦ short ])
              (no_blank kind);
          some = omega arith;
          within = long;
          small = form.1;
        }
    by_kind None (Some kind) e f =
        record {
          begins = begins c cs (Word kind) 1 (omega arith) (symbol_form c [] kind o.no_space o.no_digit o.no_letter refl refl f)
              (λ more others other cut start. elim (other_found c cs o more others other cut start) [ one k' short found ↦ short | two k' short found ↦ absurd (cc) ])
              (no_blank kind);
          some = omega arith;
          within = omega arith;
          small = symbol_small (c ∷ []) kind f;
        }
    by_kind None None e f =
        record {
          place = refl;
          cause = inl (
            refl,
            record {
              some = λ empty. absurd (cc);
              none = λ piece bytes after b.
                  elim (other_found c cs o bytes after piece b.cut (start_with c cs bytes after piece b.cut b.form)) [ one k' short found ↦ absurd (cc) | two k' short found ↦ absurd (cc) ];
            },
          );
        }

-- what `front` answers is so
pub front_holds : (at : ℕ) (text : List ℕ) → 0 < length text → Holds at text (front at text)
unfolding front
front_holds at [] h = absurd (omega arith)
front_holds at (c ∷ cs) h =
    let text = c ∷ cs in
    let P = Holds at text in
    cond_both (is_space c) _ _ P (λ s. space_stands c cs s) (λ s.
    cond_both (is_ascii_digit c) _ _ P (λ g. literal_holds at c cs s g) (λ g.
    cond_both (is_letter c) _ _ P (λ l. word_holds at c cs s g l) (λ l.
    cond_both (begins_with 47 47 text) _ _ P (λ p. line_holds at c cs p) (λ p.
    cond_both (begins_with 47 42 text) _ _ P (λ q. block_holds at c cs q) (λ q.
    symbol_holds at c cs (record { no_space = s; no_digit = g; no_letter = l; no_line = p; no_block = q }))))))
