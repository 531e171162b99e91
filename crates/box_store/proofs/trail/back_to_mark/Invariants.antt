use Rattle.std.proofs.Common.{◌≡◌, ℕ, reverse, vec_capacity, vec_len}
use Rattle.box_problem.specs.Box.{IsBox}
use Rattle.box_store.specs.Trail.{marks_of, changed_before, AreSound, HadRoom}
use Rattle.box_store.proofs.trail.back_to_mark.Given as goal

abbrev pub invariant-changes : goal.invariant-changes
invariant-changes l = record {
  sound : AreSound (record { lows = l.lows; highs = l.highs }) (reverse l.trail.items);
  is_box : IsBox (record { lows = l.lows; highs = l.highs });
  marks : marks_of (record { lows = l.lows; highs = l.highs }) (reverse l.trail.items) ≡ marks_of (record { lows = l.initial.lows; highs = l.initial.highs }) (reverse l.initial.trail.items);
  room : (room : ℕ) → HadRoom room (reverse l.initial.trail.items) → HadRoom room (reverse l.trail.items);
  left : changed_before (reverse l.trail.items) ≡ changed_before (reverse l.initial.trail.items);
  capacity : vec_capacity l.trail ≡ vec_capacity l.initial.trail;
}

abbrev pub decreases-changes : goal.decreases-changes
decreases-changes l = vec_len l.trail
