-- Which store the fields stand for.
use Rattle.std.specs.Prelude.{◌-◌, ◌^◌, ◌<◌, ◌≤◌, length, reverse, vec_len, vec_capacity}
use Rattle.box_problem.specs.Box.{Box, IsBox}
use Rattle.box_store.specs.declared.store.BoxStore.TheInside.{Inside}
use Rattle.box_store.specs.Store.{Store}
use Rattle.box_store.specs.Trail.{marks_of, changed_of, AreSound, KeepsChanges}

abbrev pub box_shown : Inside → Box
box_shown s = record { lows = s.lows.items; highs = s.highs.items }

abbrev pub shown : Inside → Store
shown s = record {
  box = box_shown s;
  marks = marks_of (box_shown s) (reverse s.trail.items);
  spare = s.room - vec_len s.trail;
  changed = changed_of (reverse s.trail.items);
}

pub record IsSound (s : Inside) : Type 0 where
  pub few : length s.lows.items < 2 ^ 32
  pub is_box : IsBox (box_shown s)
  pub trail : AreSound (box_shown s) (reverse s.trail.items)
  pub kept : KeepsChanges s.changes.items s.start s.room (reverse s.trail.items)
  pub trail_room : s.room ≤ vec_capacity s.trail
  pub changes_room : s.room ≤ vec_capacity s.changes
