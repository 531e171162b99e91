-- Propagators that are followed from box to box.
use Rattle.std.specs.Prelude.{ℕ, ℤ, List, length, map, slice_set}
use Rattle.box_problem.specs.Box.{Box, Inside}
use Rattle.box_problem.specs.BoxProblem.{BoxProblem}
use Rattle.prop_core.specs.Members.{AllFit}
use Rattle.prop_core.specs.Waking.{IsWatchOf}
use Rattle.prop_core.specs.Watches.{AllInStep}
use Rattle.sopl_search.specs.declared.watchers.Watchers.{Watchers}

-- the box that is kept with them
abbrev pub followed_box : {P : Type 0} → Watchers P → Box
followed_box watchers = record { lows = watchers.lows.items; highs = watchers.highs.items }

-- the box in which a cell has these ends
abbrev pub with_ends : Box → ℕ → ℤ → ℤ → Box
with_ends b cell lo hi = record { lows = slice_set b.lows cell lo; highs = slice_set b.highs cell hi }

-- they are in step with that box, which lies in the root, and of each of its cells it is told which of them watch it
pub record AreFollowing {P Program : Type 0} (in_step : P → Program → Box → Type 0) (watches : P → List ℕ) (program : Program) (root : Box)
    (watchers : Watchers P) : Type 0 where
  pub inside : Inside (followed_box watchers) root
  pub are_in_step : AllInStep in_step program (followed_box watchers) watchers.list.items
  pub watch : IsWatchOf (map watches watchers.list.items) watchers.watch (length watchers.lows.items)

-- those that fit a program and were in step with the first box are in step with the second one
abbrev pub FollowsBox : {P Program : Type 0} → (Program → BoxProblem) → (P → Program → Type 0) → (P → Program → Box → Type 0) → Box → Box
    → List P → List P → Type 0
FollowsBox {P} {Program} problem fits in_step b c before after =
    (program : Program) → AllFit fits program before → Inside b (problem program).root → Inside c (problem program).root
    → AllInStep in_step program b before → AllInStep in_step program c after
