-- Each phrase is read by the tokens that it takes and the kind of the next one, at each level.
use Rattle.std.proofs.Common.{◌≡◌, refl, ap, subst, ◌∙◌, ℕ, zero, suc, ◌<◌, Bool, true, false, List, [], length, Ok, arith}
use Rattle.sopl_ast.specs.declared.token.Token.{Token}
use Rattle.parse_grammar.specs.Heads.{head}
use Rattle.sopl_ast.specs.KindSets.{KindSet, first_kind, has_kind}
use Rattle.sopl_ast.specs.ModelRows.{row}
use Rattle.sopl_ast.specs.Nonterminals.{Nonterminal}
use Rattle.sopl_ast.specs.PhraseLanguage.{Phrase, give, terminal, sequence, mapped, deepened, choice, repetition, not_before, lookahead, nullable, starts}
use Rattle.grammar_rows.specs.RowLaws.{RowsAreReadByKinds, got}
use Rattle.grammar_rows.specs.RowReading.{pick, nested_read, read_at}
use Rattle.grammar_rows.specs.RowTests.{is_predictive}
use Rattle.grammar_rows.proofs.LocalItems.{RowRead, terminal_local, deepened_local, items_local, repetition_local}
use Rattle.grammar_rows.proofs.LocalReading.{same_first, LocalReading, mapped_local, both_local, read_as_other, at_same, shows_whole}
use Rattle.grammar_rows.proofs.LocalSecond.{lookahead_local}
use Rattle.grammar_rows.proofs.Predictive.{row_is, of_sequence, of_choice, of_repetition, of_not_before, of_lookahead}
use Rattle.grammar_rows.proofs.ReadComplete.{AreToldApart}
use Rattle.grammar_rows.proofs.ReadNothing.{none_read}
use Rattle.grammar_rows.proofs.ReadSound.{read_sound, item_shorter}
use Rattle.grammar_rows.proofs.ToldApart.{row_apart}
use Rattle.grammar_rows.proofs.TokensTaken.{takes_at, full_takes}

give_local : {A : Type 0} (a : A) (n : ℕ) (ts : List Token) → LocalReading (λ cut m ts. Ok (a, ts)) n ts
give_local a n ts = record {
  end = got a;
  left = ts;
  is = record {
    used = [];
    all = refl;
    again = λ cut m s at same seen. refl;
    over = λ m le. record { value = a; read = refl };
    over_next = λ e m lt u us there. absurd (cc);
    there = λ e. absurd (cc);
  };
}

choice_local : {A : Type 0} (ks : KindSet) (p q : Phrase A) (n : ℕ) → is_predictive (choice ks p q) ≡ true → (ts : List Token) → LocalReading (λ cut m ts. read_at cut m p ts) n ts
    → LocalReading (λ cut m ts. read_at cut m q ts) n ts → LocalReading (λ cut m ts. read_at cut m (choice ks p q) ts) n ts
choice_local {A} ks p q n ok ts x y = by_test (has_kind ks (first_kind ts)) refl
  where
    chosen : (b : Bool) → has_kind ks (first_kind ts) ≡ b → (cut : Bool) (m : ℕ) (s : List Token) → head s ≡ head ts → read_at cut m (choice ks p q) s ≡ pick b (read_at cut m p s) (read_at cut m q s)
    chosen b e cut m s same = ap (λ b. pick b (read_at cut m p s) (read_at cut m q s)) (ap (has_kind ks) (same_first s ts same) ∙ e)

    by_test : (b : Bool) → has_kind ks (first_kind ts) ≡ b → LocalReading (λ cut m ts. read_at cut m (choice ks p q) ts) n ts
    by_test true e = read_as_other (λ cut m ts. read_at cut m (choice ks p q) ts) (λ cut m ts. read_at cut m p ts) n ts (λ m. none_read (nested_read true m) (choice ks p q) ok) (chosen true e) x
    by_test false e = read_as_other (λ cut m ts. read_at cut m (choice ks p q) ts) (λ cut m ts. read_at cut m q ts) n ts (λ m. none_read (nested_read true m) (choice ks p q) ok) (chosen false e) y

pub item_less : {A : Type 0} (ks : KindSet) (p : Phrase A) (n : ℕ) → is_predictive (repetition ks p) ≡ true → (ts : List Token) (a : A) (us : List Token) → has_kind ks (first_kind ts) ≡ true
    → read_at false n p ts ≡ Ok (a, us) → length us < length ts
item_less ks p n ok ts a us test e =
    let o = of_repetition ks p ok in
    item_shorter false ks (starts p) ts us o.ends test
    (full_takes false (starts p) (nullable p) ts us o.full (takes_at false n p o.item ts a us (read_sound false n p o.item ts (a, us) e)))

local : (n : ℕ) → ((k : ℕ) → n ≡ suc k → (s : Nonterminal) (us : List Token) → LocalReading (RowRead s) k us) → {A : Type 0} (p : Phrase A) → is_predictive p ≡ true → AreToldApart p
    → (ts : List Token) → LocalReading (λ cut m ts. read_at cut m p ts) n ts
local n inner (give a) ok ls ts = give_local a n ts
local n inner (terminal w) ok ls ts = terminal_local w n ts
local n inner (sequence p q) ok ls ts =
    let o = of_sequence p q ok in
    both_local (λ cut m ts. read_at cut m p ts) (λ cut m ts. read_at cut m q ts) n (λ m. none_read (nested_read true m) q o.two) ts (local n inner p o.one ls.0 ts) (local n inner q o.two ls.1)
local n inner (mapped f p) ok ls ts = mapped_local f (λ cut m ts. read_at cut m p ts) n ts (local n inner p ok ls ts)
local n inner (deepened kind s) ok ls ts = deepened_local kind s n (λ k is us. inner k is s us) ts
local n inner (choice ks p q) ok ls ts =
    let o = of_choice ks p q ok in
    choice_local ks p q n ok ts (local n inner p o.one ls.0 ts) (local n inner q o.two ls.1 ts)
local n inner (repetition ks p) ok ls ts =
    let o = of_repetition ks p ok in
    repetition_local ks (λ cut m ts. read_at cut m p ts) n ts
    (items_local ks (λ cut m ts. read_at cut m p ts) n o.ends (local n inner p o.item ls) (item_less ks p n ok) (length ts) ts (omega arith))
local n inner (not_before ks p) ok ls ts = local n inner p (of_not_before ks p ok).item ls ts
local n inner (lookahead w ks t p) ok ls ts =
    let o = of_lookahead w ks t p ok in
    lookahead_local w ks t p n ls.0 o (local n inner t o.one ls.1.0) (local n inner p o.two ls.1.1) ts

abbrev LocalLevel : ℕ → Type 0
LocalLevel n = (s : Nonterminal) (us : List Token) → LocalReading (RowRead s) n us

level_below : (n k : ℕ) → LocalLevel n → suc n ≡ suc k → LocalLevel k
level_below n k x e = subst LocalLevel (omega (arith, e)) x

levels : (n : ℕ) → LocalLevel n
levels zero s us = local zero (λ k e. absurd (omega (arith, e))) (row s) (row_is s) (row_apart s) us
levels (suc n) s us = local (suc n) (λ k e. level_below n k (levels n) e) (row s) (row_is s) (row_apart s) us

inner_of : (n k : ℕ) → n ≡ suc k → LocalLevel k
inner_of n k e = levels k

-- each phrase is read by the tokens that it takes and the kind of the next one
pub read_local : (n : ℕ) {A : Type 0} (p : Phrase A) → is_predictive p ≡ true → AreToldApart p → (ts : List Token) → LocalReading (λ cut m ts. read_at cut m p ts) n ts
read_local n p ok ls ts = local n (inner_of n) p ok ls ts

pub rows_are_read_by_kinds : RowsAreReadByKinds
rows_are_read_by_kinds n s ts =
    let x = read_local n (row s) (row_is s) (row_apart s) ts in
    record {
      used = x.is.used;
      left = x.left;
      all = x.is.all;
      end = x.end;
      again = λ others same. x.is.again false n others (at_same x.end n) same (shows_whole x.end others);
    }
