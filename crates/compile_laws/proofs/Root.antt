-- The points of the root box are those of the cells.
use Rattle.std.proofs.Common.{◌≡◌, ◌∙◌, refl, sym, subst, arith, ℕ, zero, suc, ◌<◌, ℤ, pos, ◌≤ℤ◌, List, [], ◌∷◌, length, map, inl, inr, slice_index_or}
use Rattle.std.proofs.lemmas.List.{length-map}
use Rattle.std.specs.List.{AllByRecursion}
use Rattle.sopl_base.proofs.Lists.{each_at}
use Rattle.sopl_ast.specs.Instances.{Problem}
use Rattle.sopl_ast.specs.Cells.{Cell, cells, IsPoint}
use Rattle.sopl_ast.specs.Unfolding.{problem_of}
use Rattle.unfold_laws.specs.Bounds.{IsBoundedDecision}
use Rattle.unfold_laws.proofs.Whole.{decisions_are_bounded}
use Rattle.policy_tree.proofs.Members.{In}
use Rattle.policy_tree.proofs.CellsOf.{cell_is}
use Rattle.box_problem.specs.Box.{InBox}
use Rattle.compile_laws.specs.Root.{root_box, PointsOfBox, RootIsBox}

abbrev low_of : Cell → ℤ
low_of c = c.lo

abbrev high_of : Cell → ℤ
high_of c = c.hi

-- points

point_to : (all : List Cell) (point : List ℤ) → InBox (root_box all) point → IsPoint all point
point_to [] [] is = tt
point_to [] (v ∷ vs) is = let h = is.same_cells in absurd (omega (arith, h))
point_to (c ∷ all) [] is = let h = is.same_cells in absurd (omega (arith, h))
point_to (c ∷ all) (v ∷ vs) is =
    let h = is.same_cells in (
      is.from_low 0 (omega arith),
      is.to_high 0 (omega arith),
      point_to all vs (record {
        same_cells = omega (arith, h);
        from_low = λ k below. is.from_low (suc k) (omega (arith, below));
        to_high = λ k below. is.to_high (suc k) (omega (arith, below));
      }),
    )

as_long : (all : List Cell) (point : List ℤ) → IsPoint all point → length point ≡ length (map low_of all)
as_long [] [] is = omega arith
as_long [] (v ∷ vs) is = absurd is
as_long (c ∷ all) [] is = absurd is
as_long (c ∷ all) (v ∷ vs) is = let h = as_long all vs is.2 in omega (arith, h)

above_low : (all : List Cell) (point : List ℤ) → IsPoint all point → (k : ℕ) → k < length point → slice_index_or (map low_of all) k (pos 0) ≤ℤ slice_index_or point k (pos 0)
above_low [] [] is k below = absurd (omega (arith, below))
above_low [] (v ∷ vs) is k below = absurd is
above_low (c ∷ all) [] is k below = absurd is
above_low (c ∷ all) (v ∷ vs) is zero below = is.0
above_low (c ∷ all) (v ∷ vs) is (suc k) below = above_low all vs is.2 k (omega (arith, below))

below_high : (all : List Cell) (point : List ℤ) → IsPoint all point → (k : ℕ) → k < length point → slice_index_or point k (pos 0) ≤ℤ slice_index_or (map high_of all) k (pos 0)
below_high [] [] is k below = absurd (omega (arith, below))
below_high [] (v ∷ vs) is k below = absurd is
below_high (c ∷ all) [] is k below = absurd is
below_high (c ∷ all) (v ∷ vs) is zero below = is.1
below_high (c ∷ all) (v ∷ vs) is (suc k) below = below_high all vs is.2 k (omega (arith, below))

pub points_of_box : PointsOfBox
points_of_box all point = (
  point_to all point,
  λ is. record { same_cells = as_long all point is; from_low = above_low all point is; to_high = below_high all point is },
)

-- the box

in_order : (all : List Cell) → ((c : Cell) → In c all → c.lo ≤ℤ c.hi) → (k : ℕ) → k < length (map low_of all) → slice_index_or (map low_of all) k (pos 0) ≤ℤ slice_index_or (map high_of all) k (pos 0)
in_order [] each k below = absurd (omega (arith, below))
in_order (c ∷ all) each zero below = each c (inl refl)
in_order (c ∷ all) each (suc k) below = in_order all (λ d h. each d (inr h)) k (omega (arith, below))

ordered : (problem : Problem) → AllByRecursion IsBoundedDecision problem.decisions → (c : Cell) → In c (cells problem) → c.lo ≤ℤ c.hi
ordered problem bounded c h =
    let is = cell_is problem c h in
    let low : ℤ → Type 0 = λ z. z ≤ℤ c.hi in
    let high : ℤ → Type 0 = λ z. is.decision.lo ≤ℤ z in
    subst low (sym is.lo) (subst high (sym is.hi) (each_at IsBoundedDecision problem.decisions bounded c.key.0 is.decision is.decided).ordered)

pub root_is_box : RootIsBox
root_is_box model passes =
    record {
      paired = length-map (cells (problem_of model)) high_of ∙ sym (length-map (cells (problem_of model)) low_of);
      ordered = in_order (cells (problem_of model)) (ordered (problem_of model) (decisions_are_bounded model passes));
    }
