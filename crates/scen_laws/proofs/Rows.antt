-- No two scenarios have the same values.
use Rattle.std.proofs.Common.{◌≡◌, ℕ, ◌<◌, zero, suc, ℤ, false, cond, List, [], ◌∷◌, length, map, get_or, None, Some, arith, sym, ap, subst, ◌∙◌}
use Rattle.std.proofs.lemmas.Bool.{lt-ltb}
use Rattle.std.proofs.lemmas.Cmp.{int_eq_equiv, lists_equiv}
use Rattle.std.proofs.lemmas.List.Sums.{position_or_len_is}
use Rattle.std.proofs.lemmas.Option.{get_or_from_slice_get, slice_get_within}
use Rattle.std.specs.Prelude.{nat_lt}
use Rattle.std.specs.Cmp.{IsEquivalence}
use Rattle.std.proofs.lemmas.List.Elements.{All-from_recursion}
use Rattle.std.specs.List.{AllByRecursion, IsDistinct, position_or_len}
use Rattle.sopl_base.proofs.Lists.{map-map}
use Rattle.sopl_ast.specs.Known.{same_values}
use Rattle.sopl_ast.specs.Instances.{Stochastic}
use Rattle.sopl_ast.specs.PlacedScenarios as placed
use Rattle.lang_laws.specs.Laws.{HasDistinctOutcomes}
use Rattle.lang_laws.proofs.ScenarioLaws.{scenarios_agree}
use Rattle.lang_laws.proofs.Distinct.{scenarios_distinct}
use Rattle.unfold_laws.specs.Bounds.{IsBoundedStochastic}
use Rattle.scen_laws.specs.Laws.{values_of, rows, RowsDiffer, RowsAreNumbered}

distinct_outcomes : (ss : List Stochastic) → AllByRecursion IsBoundedStochastic ss → AllByRecursion HasDistinctOutcomes ss
distinct_outcomes [] all = tt
distinct_outcomes (s ∷ ss) all = (all.0.distinct, distinct_outcomes ss all.1)

-- the values of scenarios with their places
abbrev placed_values : placed.Scenario → List ℤ
placed_values s = s.values

rows_are : (ss : List Stochastic) → map placed_values (placed.scenarios ss) ≡ rows ss
rows_are ss = sym (map-map values_of placed.without_places (placed.scenarios ss)) ∙ ap (map values_of) (scenarios_agree ss)

pub rows_differ : RowsDiffer
rows_differ ss all =
    subst (IsDistinct same_values) (rows_are ss)
    (scenarios_distinct [] ss (All-from_recursion HasDistinctOutcomes ss (distinct_outcomes ss all)))

-- Numbers of lists.

values_equiv : IsEquivalence same_values
values_equiv = lists_equiv int_eq_equiv

-- an earlier list differs
differ_at : (xs : List (List ℤ)) (k n : ℕ) (d : List ℤ) → IsDistinct same_values xs → k < n → n < length xs
    → same_values (get_or xs n d) (get_or xs k d) ≡ false
unfolding IsDistinct
differ_at [] k n d distinct order within = absurd (omega (arith, within))
differ_at (x ∷ xs) k zero d distinct order within = absurd (omega (arith, order))
differ_at (x ∷ xs) zero (suc n) d distinct order within =
    values_equiv.symm (get_or xs n d) x
    ∙ All-from_recursion (λ y. same_values x y ≡ false) xs distinct.0 n d (omega (arith, within))
differ_at (x ∷ xs) (suc k) (suc n) d distinct order within = differ_at xs k n d distinct.1 (omega (arith, order)) (omega (arith, within))

pub rows_are_numbered : RowsAreNumbered
rows_are_numbered list n row distinct at =
    let within : n < length list = slice_get_within list n row at in
    let is : get_or list n row ≡ row = get_or_from_slice_get list n row row at in
    let place : position_or_len (same_values row) list ≡ n =
    position_or_len_is (same_values row) list n row (omega (arith, within))
    (λ k below. ap (λ other. same_values other (get_or list k row)) (sym is) ∙ differ_at list k n row distinct below within)
    (λ inside. ap (same_values row) is ∙ values_equiv.refl row) in
    (λ i. cond (nat_lt (place i) (length list)) (Some (place i)) None) ∙ (λ i. cond (lt-ltb n (length list) within i) (Some n) None)
