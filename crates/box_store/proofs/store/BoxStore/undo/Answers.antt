use Rattle.std.proofs.Common.{arith, ◌≡◌, length, reverse, ap, subst}
use Rattle.box_problem.specs.Box.{Box, IsBox}
use Rattle.box_store.specs.Trail.{AreSound}
use Rattle.box_store.proofs.Trails.{given_back, left_kept, same_ends}
use Rattle.box_store.proofs.store.BoxStore.undo.Goals as goal

pub invariant_of-self : goal.invariant_of-self
invariant_of-self c =
    let b : Box = record { lows = c.back_to_mark-self-inside.new.lows; highs = c.back_to_mark-self-inside.new.highs } in
    let low_count : length b.lows ≡ length c.self.inside.lows.items = omega (arith, c.back_to_mark-self-inside.auto.lows, ap length c.as_mut_slice.ensures.value) in
    let high_count : length b.highs ≡ length c.self.inside.highs.items = omega (arith, c.back_to_mark-self-inside.auto.highs, ap length c.as_mut_slice-2.ensures.value) in
    let lows = given_back c.self.inside.lows.items b.lows c.self.inside.lows.len c.self.inside.lows.ok.0 low_count in
    let highs = given_back c.self.inside.highs.items b.highs c.self.inside.highs.len c.self.inside.highs.ok.0 high_count in
    let same = same_ends b _ _ lows highs in
    record {
      few = omega (arith, ap length lows, low_count, c.self.invariant.few);
      is_box = subst IsBox same c.back_to_mark-self-inside.ensures.is_box;
      trail = subst (λ (box : Box). AreSound box (reverse c.back_to_mark-self-inside.new.trail.items)) same c.back_to_mark-self-inside.ensures.sound;
      kept = left_kept _ _ _ _ _ _ _ c.truncate.ensures.items c.self.invariant.kept c.back_to_mark-self-inside.ensures.left c.back_to_mark-self-inside.ensures.start
          (c.back_to_mark-self-inside.ensures.room _ c.self.invariant.kept.room);
      trail_room = omega (arith, c.back_to_mark-self-inside.ensures.capacity, c.self.invariant.trail_room);
      changes_room = omega (arith, c.truncate.ensures.capacity, c.self.invariant.changes_room);
    }
