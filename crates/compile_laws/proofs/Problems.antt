-- The places of a problem agree.
use Rattle.std.proofs.Common.{◌≡◌, ◌∙◌, refl, sym, ap, subst, arith, ℕ, zero, suc, ◌+◌, ℤ, pos, Bool, true, false, ◌&&◌, List, [], ◌∷◌, length, Option, Some, option_map}
use Rattle.std.proofs.Common.{option_and_then, slice_get, slice_index_or, if◌then◌else◌}
use Rattle.std.specs.FinMap.{get}
use Rattle.std.specs.Str.{bytes_eq}
use Rattle.sopl_ast.specs.Known.{same_values}
use Rattle.sopl_ast.specs.Instances.{Decision, Stochastic}
use Rattle.sopl_ast.specs.Histories.{history}
use Rattle.sopl_ast.specs.Policies.{Policy}
use Rattle.sopl_ast.specs.Cells.{Cell, cells, IsPoint, policy_at}
use Rattle.sopl_ast.specs.Meanings.{decision_at}
use Rattle.policy_tree.proofs.Bijection.{cell_value}
use Rattle.term_language.specs.Terms.{Free}
use Rattle.term_language.specs.Arrays.{item_in}
use Rattle.term_language.specs.Values.{item_value}
use Rattle.compile_laws.specs.Instances.{decided_elements}
use Rattle.compile_laws.specs.Laws.{PlacesAgree}
use Rattle.compile_laws.proofs.Lookups.{same_turned}

-- a point has a value for each cell
point_at : (all : List Cell) (values : List ℤ) (n : ℕ) (cell : Cell) → IsPoint all values → slice_get all n ≡ Some cell → slice_get values n ≡ Some (slice_index_or values n (pos 0))
point_at [] values n cell is at = absurd (cc)
point_at (c ∷ all) [] n cell is at = absurd is
point_at (c ∷ all) (v ∷ values) zero cell is at = refl
point_at (c ∷ all) (v ∷ values) (suc n) cell is at = point_at all values n cell is.2 at

module _ (policy : Policy) (ss : List Stochastic) (values point : List ℤ) (name : List ℕ) (index : List ℤ) where
  abbrev found_in : ℕ × ℕ → Option ℤ
  found_in found = get policy (found.0, history found.1 ss values)

  -- decisions from this number on, and their cells
  decided_is : (first : ℕ) (ds : List Decision) (numbers : List ℕ) → length numbers ≡ length ds
      → ((j : ℕ) (d : Decision) (n : ℕ) → slice_get ds j ≡ Some d → slice_get numbers j ≡ Some n
      → get policy (first + j, history d.stage ss values) ≡ Some (slice_index_or point n (pos 0)))
      → option_and_then found_in (decision_at name index first ds) ≡ option_map (item_value point) (item_in (decided_elements name ds numbers) index)
  decided_is first [] numbers same each = refl
  decided_is first (d ∷ ds) [] same each = absurd (cc)
  decided_is first (d ∷ ds) (n ∷ numbers) same each =
      by_name (bytes_eq name d.name)
      (decided_is (first + 1) ds numbers (cc)
      (λ j e m at number. subst (λ k. get policy (k, history e.stage ss values) ≡ Some (slice_index_or point m (pos 0))) (omega arith) (each (suc j) e m at number)))
    where
      rest_is : Type 0
      rest_is = option_and_then found_in (decision_at name index (first + 1) ds) ≡ option_map (item_value point) (item_in (decided_elements name ds numbers) index)

      here : get policy (first, history d.stage ss values) ≡ Some (slice_index_or point n (pos 0))
      here = subst (λ k. get policy (k, history d.stage ss values) ≡ Some (slice_index_or point n (pos 0))) (omega arith) (each zero d n refl refl)

      by_index : (t : Bool) → rest_is → option_and_then found_in (if t then Some (first, d.stage) else decision_at name index (first + 1) ds)
          ≡ option_map (item_value point) (if t then Some (Free n) else item_in (decided_elements name ds numbers) index)
      by_index true rest = here
      by_index false rest = rest

      by_name : (b : Bool) → rest_is → option_and_then found_in (if b && same_values index d.index then Some (first, d.stage) else decision_at name index (first + 1) ds)
          ≡ option_map (item_value point) (item_in (if b then (record { index = d.index; item = Free n }) ∷ decided_elements name ds numbers else decided_elements name ds numbers) index)
      by_name false rest = rest
      by_name true rest =
          by_index (same_values index d.index) rest
          ∙ ap (λ t. option_map (item_value point) (if t then Some (Free n) else item_in (decided_elements name ds numbers) index)) (sym (same_turned d.index index))

pub places_agree : PlacesAgree
places_agree problem bound s numbers point are is =
    record {
      known = refl;
      stochastics = refl;
      scenario = refl;
      decided =
          λ name index.
          decided_is (policy_at (cells problem) point) problem.stochastics s.values point name index 0 problem.decisions numbers are.all
          (λ j d n at number.
          ap (λ k. get (policy_at (cells problem) point) (k, history d.stage problem.stochastics s.values)) (omega arith)
          ∙ cell_value problem point n (record { key = (j, history d.stage problem.stochastics s.values); lo = d.lo; hi = d.hi }) (slice_index_or point n (pos 0)) (are.each j d n at number)
          (point_at (cells problem) point n _ is (are.each j d n at number)));
    }
