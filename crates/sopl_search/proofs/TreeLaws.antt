-- What holds of the trees of searches.
use Rattle.std.proofs.Common.{◌≡◌, inl, inr, ℕ, zero, suc, ◌<◌, List, length, Option, Some, arith, refl, sym, subst}
use Rattle.std.proofs.lemmas.Bool.{cases_order}
use Rattle.sopl_base.specs.declared.reason.Side.TheVariants.{Le, Ge}
use Rattle.box_problem.specs.BoxProblem.{BoxProblem}
use Rattle.log_rows.specs.declared.rows.Parent.{Parent}
use Rattle.log_rows.specs.declared.rows.Row.{Row}
use Rattle.log_rows.specs.Rows.{AreOrdered, Hangs, IsFree, row_at}
use Rattle.sopl_search.specs.declared.outcome.Outcome.{Outcome}
use Rattle.sopl_search.specs.Logged.{HasLowBefore, IsLowFirst, IsTree, LowStandsFirst, SearchPlan}
use Rattle.sopl_search.specs.TreeLaws.{high_half_alone, side_below}
use Rattle.sopl_search.proofs.LowFirst.{low_first_with_open}

-- a side of a split stands once
not_twice : (rows : List Row) (parent : Parent) (first second : ℕ) → AreOrdered rows → first < second → second < length rows → (row_at rows first).parent ≡ Some parent
    → ¬ (row_at rows second).parent ≡ Some parent
not_twice rows parent first second ordered before exists one other =
    let free : IsFree rows second parent = subst (λ (p : Option Parent). Hangs rows second p) other (ordered second exists) in
    free.untaken first before one

-- the low side of each split stands first
low_first : (problem : BoxProblem) (plan : SearchPlan) (outcome : Outcome) (rows : List Row) → plan.seats ≡ 1 → IsLowFirst plan.asked → IsTree problem plan outcome rows → LowStandsFirst rows
low_first problem plan outcome rows one low tree =
    subst LowStandsFirst (sym tree.rows_are)
    (low_first_with_open problem tree.state.rows tree.opens tree.state.best tree.logs tree.end.in_order (tree.planned.low_first one low))

pub sides_are_ordered : (problem : BoxProblem) (plan : SearchPlan) (outcome : Outcome) (rows : List Row) (n i j : ℕ) → plan.seats ≡ 1 → IsLowFirst plan.asked
    → IsTree problem plan outcome rows → i < length rows → j < length rows
    → (row_at rows i).parent ≡ side_below n Le → (row_at rows j).parent ≡ side_below n Ge → i < j
sides_are_ordered problem plan outcome rows n i j one low_half tree here there low high =
    let first : HasLowBefore rows j n = low_first problem plan outcome rows one low_half tree j n there high in
    let parent : Parent = record { node = n; side = Le } in
    elim (cases_order i first.row) [
      | inl same ↦ omega (arith, same, first.before)
      | inr differs ↦ elim differs [
        | inl before ↦ omega (arith, before, first.before)
        | inr behind ↦ absurd (not_twice rows parent first.row i tree.accepted.ordered behind here first.parent low)
      ]
    ]

-- the first row is the root
root_first : (row : ℕ) → row < 1 → ¬ (row_at high_half_alone row).parent ≡ side_below 0 Le
root_first zero before is = absurd (cc)
root_first (suc row) before is = omega (arith, before)

pub high_half_never_alone : (problem : BoxProblem) (plan : SearchPlan) (outcome : Outcome) → plan.seats ≡ 1 → IsLowFirst plan.asked → ¬ IsTree problem plan outcome high_half_alone
high_half_never_alone problem plan outcome one low_half tree =
    let low : HasLowBefore high_half_alone 1 0 = low_first problem plan outcome high_half_alone one low_half tree 1 0 (omega arith) refl in
    root_first low.row low.before low.parent
