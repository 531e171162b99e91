use Rattle.std.proofs.Common.{◌≡◌, ◌++◌, ◌∷◌, [], Some, rules}
use Rattle.open_nodes.proofs.Remaking.{left_all, left_on, meeting_passed, way_passed}
use Rattle.open_nodes.proofs.walk.BoxWalk.meet.Goals as goal

pub returns-then-stands_at-clause-left : goal.returns-then-stands_at-clause-left
returns-then-stands_at-clause-left c = left_on _ _ _ _ c.up.invariant.left c.back_to.ensures.back

pub returns-in_err-push-clause-left : goal.returns-in_err-push-clause-left
returns-in_err-push-clause-left c = left_on _ _ _ _ c.up.invariant.left c.back_to.ensures.back

pub returns-clause-left : goal.returns-clause-left
returns-clause-left c = left_all _ _ c.back_to_root.ensures.none

pub up-preserved : goal.up-preserved
up-preserved c =
    let is : c.up.at ≡ Some c.in-Some.next = search rules in
    let pushed : c.push.new.self.items ≡ c.up.down.items ++ c.in-Some.next ∷ [] = search rules in
    record {
      at = λ root f stood. c.back_to.ensures.at root f (c.up.invariant.at root f stood);
      marks = c.back_to.ensures.marks;
      chain = way_passed c.args.split.now c.up.down.items c.push.new.self.items c.in-Some.next c.up.at c.next-at.result is pushed c.next-at.ensures c.up.invariant.chain;
      left = left_on _ _ _ _ c.up.invariant.left c.back_to.ensures.back;
      meeting = λ falls way_falls.
          meeting_passed _ _ _ c.args.split.now c.up.down.items c.push.new.self.items c.in-Some.next c.up.at c.next-at.result is pushed c.next-at.ensures c.up.invariant.chain
          c.back_to.ensures.back c.back_to.ensures.most (c.stands_at.ensures.elsewhere c.if-stands_at.false) falls way_falls (c.up.invariant.meeting falls way_falls);
    }
