-- Where a reason closes neither a box nor the box with a cell at an end.
use Rattle.std.specs.Prelude.{◌≡◌, ℕ, ◌<◌, false, List, length, All}
use Rattle.box_problem.specs.Box.{high, low}
use Rattle.prop_shave.specs.Removals.{IsOpenAt}
use Rattle.prop_shave.specs.declared.probes.Probe.{Probe}
use Rattle.prop_shave.specs.Probes.{closes}

-- the box itself is not closed
abbrev pub IsWhole : Probe → Type 0
IsWhole q = closes q q.store.now.box ≡ false

-- a cell has one value alone, if it exists
abbrev pub IsFixed : Probe → ℕ → Type 0
IsFixed q cell = cell < length q.store.now.box.lows → low q.store.now.box cell ≡ high q.store.now.box cell

-- the box is not closed with a cell at either end, if the cell exists
abbrev pub IsOpen : Probe → ℕ → Type 0
IsOpen q cell = IsOpenAt (closes q) q.store.now.box cell

abbrev pub AreOpen : Probe → List ℕ → Type 0
AreOpen q cells = All (IsOpen q) cells
