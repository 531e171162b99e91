-- What is kept of each row while a log is read: which of its sides may still be taken, and its depth.
use Rattle.std.specs.Prelude.{◌≡◌, ℕ, ◌+◌, ◌<◌, ◌≤◌, ◌==◌, nat_lt, Bool, true, false, ◌&&◌, List, length, slice_index_or, slice_set, Option, None, Some}
use Rattle.std.specs.Bool.{Decides}
use Rattle.sopl_base.specs.declared.reason.Side.{Side}
use Rattle.sopl_base.specs.declared.reason.Side.TheVariants.{Le, Ge}
use Rattle.log_rows.specs.declared.rows.Parent.{Parent}
use Rattle.log_rows.specs.declared.rows.Row.{Row}
use Rattle.log_rows.specs.declared.rows.EndLine.{EndLine}
use Rattle.log_rows.specs.declared.rows.EndLine.TheVariants.{Refuted, Split, Point, Unfinished}
use Rattle.log_rows.specs.Rows.{Hangs, AreOrdered, depth_of}
use Rattle.log_rows.specs.Accepted.{greatest_depth}
use Rattle.log_tree.specs.declared.slots.Slots.{Slots}
use Rattle.log_tree.specs.declared.reading.Heading.{Heading}

abbrev pub no_slots : Slots
no_slots = record { low = false; high = false; depth = 0 }

abbrev pub slots_at : List Slots → ℕ → Slots
slots_at slots k = slice_index_or slots k no_slots

abbrev pub is_free : Slots → Side → Bool
is_free slots Le = slots.low
is_free slots Ge = slots.high

abbrev pub taken : Slots → Side → Slots
taken slots Le = record { low = false; high = slots.high; depth = slots.depth }
taken slots Ge = record { low = slots.low; high = false; depth = slots.depth }

abbrev pub is_split : EndLine → Bool
is_split (Refuted reason) = false
is_split (Split cut) = true
is_split Point = false
is_split Unfinished = false

abbrev pub free_at : List Slots → Parent → Bool
free_at slots parent = nat_lt parent.node (length slots) && is_free (slots_at slots parent.node) parent.side

abbrev pub may_hang : List Slots → Option Parent → Bool
may_hang slots None = length slots == 0
may_hang slots (Some parent) = free_at slots parent

abbrev pub is_next : List Slots → Heading → Bool
is_next slots heading = (heading.number == length slots) && may_hang slots heading.parent

abbrev pub depth_in : List Slots → Option Parent → ℕ
depth_in slots None = 0
depth_in slots (Some parent) = (slots_at slots parent.node).depth + 1

abbrev pub with_taken : List Slots → Option Parent → List Slots
with_taken slots None = slots
with_taken slots (Some parent) = slice_set slots parent.node (taken (slots_at slots parent.node) parent.side)

abbrev pub new_slots : EndLine → ℕ → Slots
new_slots end depth = record { low = is_split end; high = is_split end; depth = depth }

abbrev pub some_parent : ℕ → Side → Option Parent
some_parent k side = Some (record { node = k; side = side })

-- what is kept is right for these rows
pub record SlotsFit (rows : List Row) (slots : List Slots) : Type 0 where
  pub ordered : AreOrdered rows
  pub each : length slots ≡ length rows
  pub depths : (k : ℕ) → k < length rows → (slots_at slots k).depth ≡ depth_of rows k
  pub shallow : (k : ℕ) → k < length rows → depth_of rows k ≤ greatest_depth
  pub free : (k : ℕ) (side : Side) → k < length rows → Decides (is_free (slots_at slots k) side) (Hangs rows (length rows) (some_parent k side))

abbrev pub AllShallow : List Slots → Type 0
AllShallow slots = (k : ℕ) → k < length slots → (slots_at slots k).depth ≤ greatest_depth
