-- Tokens spell one value of a row at most, however deep they nest.
use Rattle.std.proofs.Common.{◌≡◌, refl, sym, ap, ◌∙◌, ℕ, ◌+◌, ◌≤◌, true, false, List, [], Ok, arith}
use Rattle.sopl_ast.specs.declared.token.Token.{Token}
use Rattle.sopl_ast.specs.KindSets.{has_kind}
use Rattle.sopl_ast.specs.ModelRows.{row}
use Rattle.sopl_ast.specs.PhraseLanguage.{Phrase}
use Rattle.grammar_rows.specs.RowLaws.{RowsHaveOneValue, ReadEnd, got, stuck, sunk, end_at}
use Rattle.grammar_rows.specs.RowReading.{read_at}
use Rattle.sopl_ast.specs.RowSpelling.{IsSpelledAt}
use Rattle.grammar_rows.specs.RowTests.{continues, is_predictive}
use Rattle.grammar_rows.proofs.LocalReading.{IsLocal, LocalReading, at_same, shows_whole}
use Rattle.grammar_rows.proofs.LocalRows.{read_local}
use Rattle.grammar_rows.proofs.Predictive.{row_is}
use Rattle.grammar_rows.proofs.ReadComplete.{clear, AreToldApart}
use Rattle.grammar_rows.proofs.ReadSteps.{same_value}
use Rattle.grammar_rows.proofs.ToldApart.{row_apart, read_complete}

-- what is read is read where as many nestings may begin, or more
read_within : (n m : ℕ) {A : Type 0} (p : Phrase A) → is_predictive p ≡ true → AreToldApart p → n ≤ m → (ts : List Token) (a : A) (r : List Token) → read_at false n p ts ≡ Ok (a, r)
    → read_at false m p ts ≡ Ok (a, r)
read_within n m {A} p ok ls le ts a r e = by_end x.end x.left x.is
  where
    x : LocalReading (λ cut m ts. read_at cut m p ts) n ts
    x = read_local n p ok ls ts

    at_n : (end : ReadEnd A) (left : List Token) → IsLocal (λ cut m ts. read_at cut m p ts) n ts end left → end_at end left ≡ Ok (a, r)
    at_n end left l = sym (l.again false n left (at_same end n) refl (shows_whole end left)) ∙ ap (read_at false n p) (sym l.all) ∙ e

    by_end : (end : ReadEnd A) (left : List Token) → IsLocal (λ cut m ts. read_at cut m p ts) n ts end left → read_at false m p ts ≡ Ok (a, r)
    by_end (got b) left l = ap (read_at false m p) l.all ∙ l.again false m left le refl tt ∙ at_n (got b) left l
    by_end stuck left l = let h = at_n stuck left l in absurd (cc)
    by_end sunk left l = let h = at_n sunk left l in absurd (cc)

pub whole_read : (n m : ℕ) {A : Type 0} (p : Phrase A) → is_predictive p ≡ true → AreToldApart p → has_kind (continues p) 0 ≡ false → n ≤ m → (ts : List Token) (a : A)
    → IsSpelledAt false n p ts a [] → read_at false m p ts ≡ Ok (a, [])
whole_read n m p ok ls ends le ts a is =
    let g = read_complete false n p ok ls ts a [] (clear ends) is in
    read_within n m p ok ls le ts a [] (g.read ∙ ap (λ v. Ok (v, [])) (g.same refl))

spells_one : {A : Type 0} (p : Phrase A) → is_predictive p ≡ true → AreToldApart p → has_kind (continues p) 0 ≡ false → (ts : List Token) (n m : ℕ) (a b : A)
    → IsSpelledAt false n p ts a [] → IsSpelledAt false m p ts b [] → a ≡ b
spells_one {A} p ok ls ends ts n m a b i j =
    ap (λ (x : A × List Token). x.0)
    (same_value (read_at false (n + m) p ts) (a, []) (b, []) (whole_read n (n + m) p ok ls ends (omega arith) ts a i) (whole_read m (n + m) p ok ls ends (omega arith) ts b j))

pub rows_have_one_value : RowsHaveOneValue
rows_have_one_value s ends ts n m a b i j = spells_one (row s) (row_is s) (row_apart s) ends ts n m a b i j
