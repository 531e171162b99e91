-- The ends of the box of all points lie within 2 ^ 40.
use Rattle.std.proofs.Common.{◌≡◌, sym, subst, arith, inl, inr, refl, ℕ, zero, suc, ◌<◌, ℤ, pos, List, [], ◌∷◌, length, map, Some, slice_get, slice_index_or}
use Rattle.std.proofs.lemmas.Int.{ints}
use Rattle.std.specs.List.{AllByRecursion}
use Rattle.std.proofs.lemmas.Option.{same_Some}
use Rattle.sopl_ast.specs.Instances.{Decision, Problem}
use Rattle.sopl_ast.specs.Cells.{Cell, cells}
use Rattle.sopl_ast.specs.Unfolding.{problem_of}
use Rattle.unfold_laws.specs.Bounds.{IsBoundedDecision}
use Rattle.unfold_laws.specs.Passing.{IsConstant}
use Rattle.unfold_laws.proofs.Whole.{decisions_are_bounded}
use Rattle.policy_tree.proofs.Members.{In}
use Rattle.policy_tree.proofs.CellsOf.{cell_is}
use Rattle.box_problem.specs.Near.{IsNear}
use Rattle.compile_laws.specs.RootLaws.{RootIsNear}

abbrev low_of : Cell → ℤ
low_of c = c.lo

abbrev high_of : Cell → ℤ
high_of c = c.hi

constant_near : (z : ℤ) → IsConstant z → IsNear z
constant_near z small = record { above = omega (arith, ints, small); below = omega (arith, ints, small) }

decided_at : (ds : List Decision) → AllByRecursion IsBoundedDecision ds → (k : ℕ) (d : Decision) → slice_get ds k ≡ Some d → IsBoundedDecision d
decided_at [] all k d at = absurd (cc)
decided_at (e ∷ ds) all zero d at = subst IsBoundedDecision (same_Some e d at) all.0
decided_at (e ∷ ds) all (suc k) d at = decided_at ds all.1 k d at

-- the two ends of a cell
record IsNearCell (c : Cell) : Type 0 where
  low : IsNear c.lo
  high : IsNear c.hi

near_cell : (problem : Problem) → AllByRecursion IsBoundedDecision problem.decisions → (c : Cell) → In c (cells problem) → IsNearCell c
near_cell problem bounded c h =
    let is = cell_is problem c h in
    let own = decided_at problem.decisions bounded c.key.0 is.decision is.decided in
    record {
      low = subst IsNear (sym is.lo) (constant_near is.decision.lo own.least);
      high = subst IsNear (sym is.hi) (constant_near is.decision.hi own.greatest);
    }

-- what holds of one number of each cell holds of the list of these numbers
each_near : (f : Cell → ℤ) (all : List Cell) → ((c : Cell) → In c all → IsNear (f c)) → (k : ℕ) → k < length (map low_of all) → IsNear (slice_index_or (map f all) k (pos 0))
each_near f [] each k below = absurd (omega (arith, below))
each_near f (c ∷ all) each zero below = each c (inl refl)
each_near f (c ∷ all) each (suc k) below = each_near f all (λ d h. each d (inr h)) k (omega (arith, below))

pub root_is_near : RootIsNear
root_is_near model passes =
    let near = near_cell (problem_of model) (decisions_are_bounded model passes) in
    record {
      lows = each_near low_of (cells (problem_of model)) (λ c h. (near c h).low);
      highs = each_near high_of (cells (problem_of model)) (λ c h. (near c h).high);
    }
