-- What a tree gives in a scenario is the place of the scenario.
use Rattle.std.proofs.Common.{arith, ◌≡◌, sym, ap, subst, ◌∙◌, ℕ, ◌<◌, List, length, map, slice_get, Some, Contains}
use Rattle.std.proofs.lemmas.List.FromFn.{get_or-map-range_with_len, length-map-range_with_len}
use Rattle.std.proofs.lemmas.Option.{slice_get_within, get_or_from_slice_get}
use Rattle.std.specs.List.{range_with_len}
use Rattle.sopl_base.proofs.Lists.{by_elements}
use Rattle.sopl_ast.specs.Instances.{Decision, Stochastic, Problem}
use Rattle.sopl_ast.specs.Scenarios.{Scenario, scenarios}
use Rattle.sopl_ast.specs.Histories.{history}
use Rattle.sopl_ast.specs.Cells.{cells}
use Rattle.sopl_scen.specs.Layout.{Layout, IsTreeOf, cell_at, cell_in, value_in}
use Rattle.compile_laws.specs.Laws.{AreCellsIn}
use Rattle.compile_laws.specs.Whole.{cell_numbers}
use Rattle.compile_laws.proofs.Numbers.{cells_are_numbered, numbers_are_one}
use Rattle.compile_laws.proofs.Stands.{scenarios_are_whole}
use Rattle.compile_names.specs.Places.{values_at, cells_at, PlacesOfTree}

module _ (ss : List Stochastic) (i : ℕ) (s : Scenario) (at : slice_get (scenarios ss) i ≡ Some s) where
  contained : Contains (scenarios ss) s
  contained = (i, slice_get_within (scenarios ss) i s at, get_or_from_slice_get (scenarios ss) i s s at)

  -- the values
  same_values : (ds : List Decision) (tree : Layout) → IsTreeOf ds ss tree → values_at tree (length ss) i ≡ s.values
  same_values ds tree laid =
      let whole : length s.values ≡ length ss = scenarios_are_whole ss s contained in
      ap (λ n. map (λ j. value_in tree j i) (range_with_len 0 n)) (sym whole)
      ∙ by_elements (λ j. value_in tree j i) 0 s.values
      (λ j below. laid.drawn j i s (omega (arith, below, whole)) at ∙ ap (λ k. Some (value_in tree k i)) (omega arith))

-- the cells
tree_cells : (problem : Problem) (tree : Layout) (i : ℕ) (s : Scenario) → IsTreeOf problem.decisions problem.stochastics tree → slice_get (scenarios problem.stochastics) i ≡ Some s
    → AreCellsIn problem s (cells_at tree (length problem.decisions) i)
tree_cells problem tree i s laid at =
    record {
      all = length-map-range_with_len (λ j. cell_in tree j i) 0 (length problem.decisions);
      each = λ j d n here there.
          let below : j < length problem.decisions = slice_get_within problem.decisions j d here in
          let is : n ≡ cell_in tree j i =
          sym (get_or_from_slice_get (cells_at tree (length problem.decisions) i) j n n there)
          ∙ get_or-map-range_with_len (λ k. cell_in tree k i) 0 (length problem.decisions) j j n below (omega arith) in
          subst (λ k. slice_get (cells problem) k ≡ Some (cell_at j d (history d.stage problem.stochastics s.values))) (sym is) (laid.placed j i d s here at);
    }

pub places_of_tree : PlacesOfTree
places_of_tree problem tree bound i s laid at =
    let values = same_values problem.stochastics i s at problem.decisions tree laid in
    let numbers =
    numbers_are_one problem s (cells_at tree (length problem.decisions) i) (cell_numbers problem s) (tree_cells problem tree i s laid at)
    (cells_are_numbered problem s (contained problem.stochastics i s at)) in
    λ k. record {
      known = record problem.known { bound = bound };
      stochastics = problem.stochastics;
      scenario = values k;
      decisions = problem.decisions;
      cells = numbers k;
    }
