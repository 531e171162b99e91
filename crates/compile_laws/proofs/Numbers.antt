-- The numbers of the decisions' cells in a scenario.
use Rattle.std.proofs.Common.{◌≡◌, ◌∙◌, refl, sym, ap, subst, arith, ℕ, zero, suc, ◌+◌, ◌<◌, nat_lt, ℤ, Bool, true, false, true≢false, not, cond, List, [], ◌∷◌, ◌++◌, length, inl}
use Rattle.std.proofs.Common.{inr, Some, None, Contains, slice_get}
use Rattle.std.proofs.lemmas.Bool.{lt-ltb}
use Rattle.std.proofs.lemmas.List.{append_assoc, length-map, length-append}
use Rattle.std.proofs.lemmas.Option.{slice_get-map, same_Some}
use Rattle.std.specs.List.{enumerate_from, flat_map, position_or_len}
use Rattle.std.specs.Option.{option_map, unwrap_or}
use Rattle.sopl_base.proofs.Lists.{get_before, get_behind}
use Rattle.sopl_ast.specs.Known.{same_values}
use Rattle.sopl_ast.specs.Instances.{Decision, Stochastic}
use Rattle.sopl_ast.specs.Scenarios.{Scenario, scenarios}
use Rattle.sopl_ast.specs.Histories.{history, histories, number_of}
use Rattle.sopl_ast.specs.Cells.{Cell, cells_of, cells}
use Rattle.policy_tree.proofs.Members.{In}
use Rattle.policy_tree.proofs.Once.{Once, same_is}
use Rattle.policy_tree.proofs.CellsOf.{keys_of, history_in, made, Once-cells}
use Rattle.policy_tree.proofs.Found.{In-keys}
use Rattle.compile_laws.specs.Whole.{numbers_from}
use Rattle.compile_laws.specs.WholeLaws.{CellsAreNumbered, NumbersAreOne}

-- Lists.

-- Histories.

-- a history stands at its number
abbrev IsAt : List ℤ → List (List ℤ) → ℕ → Type 0
IsAt seen all n = (n < length all) × (slice_get all n ≡ Some seen)

history_at : (seen : List ℤ) (all : List (List ℤ)) → In seen all → IsAt seen all (position_or_len (same_values seen) all)
history_at seen [] h = absurd h
history_at seen (x ∷ xs) h = by_test (same_values seen x) refl h (history_at seen xs)
  where
    by_test : (b : Bool) → same_values seen x ≡ b → In seen (x ∷ xs) → (In seen xs → IsAt seen xs (position_or_len (same_values seen) xs))
        → IsAt seen (x ∷ xs) (cond (not b) (1 + position_or_len (same_values seen) xs) 0)
    by_test true is g later = (omega arith, ap Some (sym ((same_is seen x).0 is)))
    by_test false is (inl e) later = absurd (true≢false (sym ((same_is seen x).1 (sym e)) ∙ is))
    by_test false is (inr g) later =
        let found = later g in
        let below = found.0 in
        let next : suc (position_or_len (same_values seen) xs) ≡ 1 + position_or_len (same_values seen) xs = omega arith in
        (omega (arith, below), subst (λ k. slice_get (x ∷ xs) k ≡ Some seen) next found.1)

found_number : (b : Bool) (n : ℕ) → b ≡ true → unwrap_or (cond b (Some n) None) 0 ≡ n
found_number true n is = refl
found_number false n is = absurd (true≢false (sym is))

numbered_history : (stage : ℕ) (ss : List Stochastic) (seen : List ℤ) → In seen (histories stage ss) → slice_get (histories stage ss) (unwrap_or (number_of seen stage ss) 0) ≡ Some seen
numbered_history stage ss seen h =
    let found = history_at seen (histories stage ss) h in
    let n = position_or_len (same_values seen) (histories stage ss) in
    ap (slice_get (histories stage ss)) (found_number (nat_lt n (length (histories stage ss))) n (lt-ltb n (length (histories stage ss)) found.0)) ∙ found.1

-- Cells.

module _ (ss : List Stochastic) (s : Scenario) (possible : Contains (scenarios ss) s) where
  -- how many numbers there are
  long : (first : ℕ) (ds : List Decision) → length (numbers_from first ss s.values ds) ≡ length ds
  long first [] = refl
  long first (d ∷ ds) = ap suc (long (first + length (histories d.stage ss)) ds)

  abbrev later_cells : ℕ → List Decision → List Cell
  later_cells number ds = flat_map (cells_of ss) (enumerate_from number ds)

  -- the cells of decisions from this number on, behind others
  numbered : (before : List Cell) (number first : ℕ) (ds : List Decision) → first ≡ length before → (j : ℕ) (d : Decision) (n : ℕ) → slice_get ds j ≡ Some d
      → slice_get (numbers_from first ss s.values ds) j ≡ Some n → slice_get (before ++ later_cells number ds) n ≡ Some (made (number + j) d (history d.stage ss s.values))
  numbered before number first [] same j d n at is = absurd (cc)
  numbered before number first (e ∷ ds) same zero d n at is =
      ap (slice_get (before ++ (cells_of ss (number, e) ++ later_cells (number + 1) ds)))
      (sym (same_Some (first + place) n is) ∙ ap (λ k. k + place) same)
      ∙ (get_behind before (cells_of ss (number, e) ++ later_cells (number + 1) ds) place
      ∙ get_before (cells_of ss (number, e)) (later_cells (number + 1) ds) place (made (number + 0) d (history d.stage ss s.values)) there)
    where
      place : ℕ
      place = unwrap_or (number_of (history e.stage ss s.values) e.stage ss) 0

      there : slice_get (cells_of ss (number, e)) place ≡ Some (made (number + 0) d (history d.stage ss s.values))
      there =
          slice_get-map (made number e) (histories e.stage ss) place
          ∙ (ap (option_map (made number e)) (numbered_history e.stage ss (history e.stage ss s.values) (history_in e.stage ss s possible))
          ∙ (λ i. Some (made (add_none i) (same_Some e d at i) (history (same_Some e d at i).stage ss s.values))))
        where
          add_none : number ≡ number + 0
          add_none = omega arith
  numbered before number first (e ∷ ds) same (suc j) d n at is =
      ap (λ cs. slice_get cs n) (sym (append_assoc before (cells_of ss (number, e)) (later_cells (number + 1) ds)))
      ∙ (numbered (before ++ cells_of ss (number, e)) (number + 1) (first + length (histories e.stage ss)) ds longer j d n at is
      ∙ ap (λ k. Some (made k d (history d.stage ss s.values))) moved)
    where
      moved : number + 1 + j ≡ number + suc j
      moved = omega arith

      longer : first + length (histories e.stage ss) ≡ length (before ++ cells_of ss (number, e))
      longer =
          (λ i. same i + sym (length-map (histories e.stage ss) (made number e)) i)
          ∙ sym (length-append before (cells_of ss (number, e)))

pub cells_are_numbered : CellsAreNumbered
cells_are_numbered problem s possible =
    record {
      all = long problem.stochastics s possible 0 problem.decisions;
      each =
          λ j d n at is.
          let same : 0 + j ≡ j = omega arith in
          numbered problem.stochastics s possible [] 0 0 problem.decisions refl j d n at is
          ∙ ap (λ k. Some (made k d (history d.stage problem.stochastics s.values))) same;
    }

-- Numbers that are the only ones.

one_place : (cs : List Cell) → Once (keys_of cs) → (n m : ℕ) (c : Cell) → slice_get cs n ≡ Some c → slice_get cs m ≡ Some c → n ≡ m
one_place [] once n m c at there = absurd (cc)
one_place (d ∷ cs) once zero zero c at there = refl
one_place (d ∷ cs) once zero (suc m) c at there =
    absurd (once.0 (subst (λ k. In k (keys_of cs)) (sym (ap (λ (e : Cell). e.key) (same_Some d c at))) (In-keys cs m c there)))
one_place (d ∷ cs) once (suc n) zero c at there =
    absurd (once.0 (subst (λ k. In k (keys_of cs)) (sym (ap (λ (e : Cell). e.key) (same_Some d c there))) (In-keys cs n c at)))
one_place (d ∷ cs) once (suc n) (suc m) c at there = ap suc (one_place cs once.1 n m c at there)

same_numbers : (ds : List Decision) (xs ys : List ℕ) → length xs ≡ length ds → length ys ≡ length ds
    → ((j : ℕ) (d : Decision) (x y : ℕ) → slice_get ds j ≡ Some d → slice_get xs j ≡ Some x → slice_get ys j ≡ Some y → x ≡ y) → xs ≡ ys
same_numbers [] [] [] many most each = refl
same_numbers [] (x ∷ xs) ys many most each = absurd (omega (arith, many))
same_numbers [] [] (y ∷ ys) many most each = absurd (omega (arith, most))
same_numbers (d ∷ ds) [] ys many most each = absurd (omega (arith, many))
same_numbers (d ∷ ds) (x ∷ xs) [] many most each = absurd (omega (arith, most))
same_numbers (d ∷ ds) (x ∷ xs) (y ∷ ys) many most each =
    λ i.
    each zero d x y refl refl refl i
    ∷ same_numbers ds xs ys (omega (arith, many)) (omega (arith, most)) (λ j e z w at first second. each (suc j) e z w at first second) i

pub numbers_are_one : NumbersAreOne
numbers_are_one problem s numbers others are those =
    same_numbers problem.decisions numbers others are.all those.all
    (λ j d n m at first second.
    one_place (cells problem) (Once-cells problem) n m (record { key = (j, history d.stage problem.stochastics s.values); lo = d.lo; hi = d.hi })
    (are.each j d n at first) (those.each j d m at second))
