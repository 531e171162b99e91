-- Members that are told of a cell that has changed.
use Rattle.std.specs.Prelude.{◌≡◌, ◌↔◌, ℕ, ◌<◌, Bool, false, List, [], length, map, Contains, slice_index_or}
use Rattle.box_problem.specs.Box.{Box, Inside}
use Rattle.box_problem.specs.BoxProblem.{BoxProblem}
use Rattle.prop_core.specs.declared.watch.WatchPlaces.{WatchPlaces}
use Rattle.prop_core.specs.declared.watch.Watch.{Watch}
use Rattle.prop_core.specs.Members.{AllFit}
use Rattle.prop_core.specs.Watches.{AgreeElsewhere, AllInStep, waits_at}

-- the places of the members that watch a cell
abbrev pub places_at : Watch → ℕ → List ℕ
places_at watch cell = slice_index_or (map (λ (p : WatchPlaces). p.items.items) watch.lists.items) cell []

-- there is one list for each of so many cells: the places of just the members that watch it
pub record IsWatchOf (watches : List (List ℕ)) (watch : Watch) (cells : ℕ) : Type 0 where
  pub as_long : length watch.lists.items ≡ cells
  pub each : (cell k : ℕ) → cell < cells → Contains (places_at watch cell) k ↔ ((k < length watches) × Contains (slice_index_or watches k []) cell)

-- members are in step with each box with which they were
abbrev pub StillInStep : {P Program : Type 0} → (P → Program → Box → Type 0) → List P → List P → Type 0
StillInStep {P} {Program} in_step before after = (program : Program) (b : Box) → AllInStep in_step program b before → AllInStep in_step program b after

-- and those at these places with each box that differs in one cell alone
abbrev pub AreTouched : {P Program : Type 0} → (P → Program → Box → Type 0) → ℕ → List ℕ → List P → List P → Type 0
AreTouched {P} {Program} in_step cell places before after =
    (program : Program) (b c : Box) → AgreeElsewhere cell b c → AllInStep in_step program b before
    → (k : ℕ) (d : P) → k < length after → Contains places k → in_step (slice_index_or after k d) program c

-- all of them are in step with each box that differs in one cell alone
abbrev pub FollowsCell : {P Program : Type 0} → (Program → BoxProblem) → (P → Program → Type 0) → (P → Program → Box → Type 0) → ℕ → List P → List P → Type 0
FollowsCell {P} {Program} problem fits in_step cell before after =
    (program : Program) (b c : Box) → AllFit fits program before → Inside b (problem program).root → Inside c (problem program).root
    → AgreeElsewhere cell b c → AllInStep in_step program b before → AllInStep in_step program c after

-- those at these places wait, and all that did
abbrev pub AreWoken : List ℕ → List Bool → List Bool → Type 0
AreWoken places before after = (k : ℕ) → waits_at after k ≡ false → (waits_at before k ≡ false) × (¬ Contains places k)
