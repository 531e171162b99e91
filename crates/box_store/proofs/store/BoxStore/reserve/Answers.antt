use Rattle.std.proofs.Common.{rules, arith, ◌≤◌, ◌+◌}
use Rattle.box_store.proofs.Trails.{fewer_changes, more_kept}
use Rattle.box_store.proofs.store.BoxStore.reserve.Goals as goal

pub overflow_sub-room : goal.overflow_sub-room
overflow_sub-room c =
    let few = fewer_changes c.self.inside.changes.items c.self.inside.start c.self.inside.room c.self.inside.trail.items c.self.invariant.kept in
    omega (arith, few, c.self.inside.changes.ok.0, c.self.inside.trail.ok.0, c.len-3.ensures, c.len-2.ensures, c.reserve.ensures.len)

pub invariant_of-self-2 : goal.invariant_of-self-2
invariant_of-self-2 c =
    let more : c.self.inside.room ≤ c.len-2.result + c.args.n = search rules in
    record {
      few = c.self.invariant.few;
      is_box = c.self.invariant.is_box;
      trail = rw c.reserve.ensures.items c.self.invariant.trail;
      kept = rw (c.reserve.ensures.items, c.reserve-2.ensures.items) (more_kept _ _ _ _ _ more c.self.invariant.kept);
      trail_room = omega (arith, c.in_ok-reserve.ensures.ok, c.len-2.ensures);
      changes_room = omega (arith, c.in_ok-reserve-2.ensures.ok, c.reserve-2.ensures.len, c.len-3.ensures);
    }
