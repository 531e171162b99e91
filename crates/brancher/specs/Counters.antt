-- The counters of a brancher that counts where nodes close.
use Rattle.std.specs.Prelude.{ℕ, ◌+◌, ◌-◌, ◌^◌, min, ◌%◌, ℤ, pos, List, slice_index_or, slice_set, None, Some}
use Rattle.brancher.specs.declared.choice.Event.{Event}
use Rattle.brancher.specs.declared.choice.Event.TheVariants.{Split, Closed, Found}

-- the counter that a cell uses
abbrev pub counter_place : ℕ → ℕ
counter_place cell = cell % 256

abbrev pub counter_of : List ℕ → ℕ → ℕ
counter_of counters cell = slice_index_or counters (counter_place cell) 0

abbrev pub counter_weight : List ℕ → ℕ → ℤ
counter_weight counters cell = pos (counter_of counters cell)

-- one more, or the same at the greatest number of 32 bits
abbrev pub raised_once : ℕ → ℕ
raised_once n = min (n + 1) (2 ^ 32 - 1)

-- the counters after a cell's counter was raised
abbrev pub raised : List ℕ → ℕ → List ℕ
raised counters cell = slice_set counters (counter_place cell) (raised_once (counter_of counters cell))

-- the counters after an event: a node that closes raises the counter of the cell that its parent cut
abbrev pub counters_after : List ℕ → Event → List ℕ
counters_after counters (Split cell cut) = counters
counters_after counters (Closed None) = counters
counters_after counters (Closed (Some cell)) = raised counters cell
counters_after counters Found = counters
