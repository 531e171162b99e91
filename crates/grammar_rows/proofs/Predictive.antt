-- What the test of a phrase says of its parts.
use Rattle.std.proofs.Common.{◌≡◌, true, false, ◌&&◌, not}
use Rattle.sopl_base.proofs.Booleans.{not_true}
use Rattle.sopl_ast.specs.KindSets.{KindSet, has_kind}
use Rattle.sopl_ast.specs.ModelRows.{row}
use Rattle.sopl_ast.specs.Nonterminals.{Nonterminal}
use Rattle.sopl_ast.specs.PhraseLanguage.{Phrase, sequence, choice, repetition, not_before, lookahead, nullable, starts}
use Rattle.grammar_rows.specs.RowTests.{continues, goes_on, is_fillable, is_predictive, never_behind, kinds_within, kinds_apart}
use Rattle.sopl_ast.specs.Terminals.{Terminal}
use Rattle.grammar_rows.proofs.KindSetLaws.{both_true}
use Rattle.grammar_rows.proofs.RowsPass.{each_passes}

-- a row is predictive, no other kinds go on with it than those said, and it can be filled in
pub row_is : (s : Nonterminal) → is_predictive (row s) ≡ true
row_is s = (both_true (is_predictive (row s)) (kinds_within (continues (row s)) (goes_on s) && is_fillable (row s)) (each_passes s)).0

also : (s : Nonterminal) → kinds_within (continues (row s)) (goes_on s) && is_fillable (row s) ≡ true
also s = (both_true (is_predictive (row s)) (kinds_within (continues (row s)) (goes_on s) && is_fillable (row s)) (each_passes s)).1

pub row_goes_on : (s : Nonterminal) → kinds_within (continues (row s)) (goes_on s) ≡ true
row_goes_on s = (both_true (kinds_within (continues (row s)) (goes_on s)) (is_fillable (row s)) (also s)).0

pub row_fills : (s : Nonterminal) → is_fillable (row s) ≡ true
row_fills s = (both_true (kinds_within (continues (row s)) (goes_on s)) (is_fillable (row s)) (also s)).1

pub record OfSequence {A B : Type 0} (p : Phrase A) (q : Phrase B) : Type 0 where
  pub one : is_predictive p ≡ true
  pub two : is_predictive q ≡ true
  pub parted : kinds_apart (continues p) (starts q) ≡ true

pub of_sequence : {A B : Type 0} (p : Phrase A) (q : Phrase B) → is_predictive (sequence p q) ≡ true → OfSequence p q
of_sequence p q ok =
    let o1 = both_true (is_predictive p) (is_predictive q && kinds_apart (continues p) (starts q)) ok in
    let o2 = both_true (is_predictive q) (kinds_apart (continues p) (starts q)) o1.1 in
    record { one = o1.0; two = o2.0; parted = o2.1 }

pub record OfChoice {A : Type 0} (ks : KindSet) (p q : Phrase A) : Type 0 where
  pub one : is_predictive p ≡ true
  pub two : is_predictive q ≡ true
  pub full : nullable p ≡ false
  pub covered : kinds_within (starts p) ks ≡ true
  pub parted : kinds_apart ks (starts q) ≡ true
  pub ends : has_kind ks 0 ≡ false

pub of_choice : {A : Type 0} (ks : KindSet) (p q : Phrase A) → is_predictive (choice ks p q) ≡ true → OfChoice ks p q
of_choice ks p q ok =
    let o1 = both_true (is_predictive p) (is_predictive q && (not (nullable p) && (kinds_within (starts p) ks && (kinds_apart ks (starts q) && not (has_kind ks 0))))) ok in
    let o2 = both_true (is_predictive q) (not (nullable p) && (kinds_within (starts p) ks && (kinds_apart ks (starts q) && not (has_kind ks 0)))) o1.1 in
    let o3 = both_true (not (nullable p)) (kinds_within (starts p) ks && (kinds_apart ks (starts q) && not (has_kind ks 0))) o2.1 in
    let o4 = both_true (kinds_within (starts p) ks) (kinds_apart ks (starts q) && not (has_kind ks 0)) o3.1 in
    let o5 = both_true (kinds_apart ks (starts q)) (not (has_kind ks 0)) o4.1 in
    record { one = o1.0; two = o2.0; full = not_true (nullable p) o3.0; covered = o4.0; parted = o5.0; ends = not_true (has_kind ks 0) o5.1 }

pub record OfRepetition {A : Type 0} (ks : KindSet) (p : Phrase A) : Type 0 where
  pub item : is_predictive p ≡ true
  pub full : nullable p ≡ false
  pub covered : kinds_within (starts p) ks ≡ true
  pub parted : kinds_apart (continues p) (starts p) ≡ true
  pub ends : has_kind ks 0 ≡ false

pub of_repetition : {A : Type 0} (ks : KindSet) (p : Phrase A) → is_predictive (repetition ks p) ≡ true → OfRepetition ks p
of_repetition ks p ok =
    let o1 = both_true (is_predictive p) (not (nullable p) && (kinds_within (starts p) ks && (kinds_apart (continues p) (starts p) && not (has_kind ks 0)))) ok in
    let o2 = both_true (not (nullable p)) (kinds_within (starts p) ks && (kinds_apart (continues p) (starts p) && not (has_kind ks 0))) o1.1 in
    let o3 = both_true (kinds_within (starts p) ks) (kinds_apart (continues p) (starts p) && not (has_kind ks 0)) o2.1 in
    let o4 = both_true (kinds_apart (continues p) (starts p)) (not (has_kind ks 0)) o3.1 in
    record { item = o1.0; full = not_true (nullable p) o2.0; covered = o3.0; parted = o4.0; ends = not_true (has_kind ks 0) o4.1 }

pub record OfNotBefore {A : Type 0} (ks : KindSet) (p : Phrase A) : Type 0 where
  pub item : is_predictive p ≡ true
  pub left : kinds_within ks (never_behind p) ≡ true

pub of_not_before : {A : Type 0} (ks : KindSet) (p : Phrase A) → is_predictive (not_before ks p) ≡ true → OfNotBefore ks p
of_not_before ks p ok =
    let o = both_true (is_predictive p) (kinds_within ks (never_behind p)) ok in
    record { item = o.0; left = o.1 }

pub record OfLookahead {T A : Type 0} (ks : KindSet) (t : Phrase T) (p : Phrase A) : Type 0 where
  pub one : is_predictive t ≡ true
  pub covered : kinds_within (starts t) ks ≡ true
  pub two : is_predictive p ≡ true
  pub full : nullable p ≡ false
  pub ends : has_kind ks 0 ≡ false

pub of_lookahead : {X T A : Type 0} (w : Terminal X) (ks : KindSet) (t : Phrase T) (p : Phrase A) → is_predictive (lookahead w ks t p) ≡ true → OfLookahead ks t p
of_lookahead w ks t p ok =
    let o1 = both_true (is_predictive t) (kinds_within (starts t) ks && (is_predictive p && (not (nullable p) && not (has_kind ks 0)))) ok in
    let o2 = both_true (kinds_within (starts t) ks) (is_predictive p && (not (nullable p) && not (has_kind ks 0))) o1.1 in
    let o3 = both_true (is_predictive p) (not (nullable p) && not (has_kind ks 0)) o2.1 in
    let o4 = both_true (not (nullable p)) (not (has_kind ks 0)) o3.1 in
    record { one = o1.0; covered = o2.0; two = o3.0; full = not_true (nullable p) o4.0; ends = not_true (has_kind ks 0) o4.1 }
