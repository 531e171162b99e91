use Rattle.std.proofs.Common.{◌≡◌, ◌≤◌, ◌<◌, ◌+◌, ◌-◌, arith, length, map, sym, subst, ◌∙◌}
use Rattle.std.proofs.lemmas.Result.{IfOk-weaker}
use Rattle.serde_json.specs.View.{view}
use Rattle.policy_json.specs.Steps.{branch_in, branches_in, first_in, parts_in}
use Rattle.policy_json.proofs.RunEnds.{all_made, begins_below, step_begins, step_below, step_more, step_next}
use Rattle.policy_json.proofs.NodeSteps.{branch_made, more_shown, node_made, one_longer}
use Rattle.policy_json.proofs.policy.+node_value.Goals as goal

pub decide_list-requires-clause-exists : goal.decide_list-requires-clause-exists
decide_list-requires-clause-exists t c =
    begins_below (parts_in c.args.point.now) c.requires.ready c.args.stage c.requires.from (omega arith) c.args.scenario _ c.requires.begins

pub run_end-end-requires-clause-exists : goal.run_end-end-requires-clause-exists
run_end-end-requires-clause-exists t c =
    begins_below (parts_in c.args.point.now) c.requires.ready c.args.stage c.requires.from (omega arith) c.args.scenario _ c.requires.begins

pub node_value-requires : goal.node_value-requires
node_value-requires t c =
    let begins = step_begins (parts_in c.args.point.now) c.requires.ready c.args.stage c.requires.from (first_of (omega arith, grind arith)) c.args.scenario c.requires.begins
    c.run_end-end.result c.run_end-end.ensures.run c.branches.first (length c.branches.next.items) c.branches.invariant.0 c.branches.invariant.1.1 c.branches-test.true in
    (first_of (omega arith, grind arith), (c.requires.ready, (omega arith, (first_of (omega arith, grind arith), begins))))

pub seen_list-requires-clause-exists : goal.seen_list-requires-clause-exists
seen_list-requires-clause-exists t c =
    step_below (parts_in c.args.point.now) c.requires.ready c.args.stage c.requires.from (first_of (omega arith, grind arith)) c.args.scenario c.requires.begins
    c.run_end-end.result c.run_end-end.ensures.run c.branches.first (length c.branches.next.items) c.branches.invariant.0 c.branches.invariant.1.1 c.branches-test.true

pub run_end-first-requires-clause-exists : goal.run_end-first-requires-clause-exists
run_end-first-requires-clause-exists t c =
    step_below (parts_in c.args.point.now) c.requires.ready c.args.stage c.requires.from (first_of (omega arith, grind arith)) c.args.scenario c.requires.begins
    c.run_end-end.result c.run_end-end.ensures.run c.branches.first (length c.branches.next.items) c.branches.invariant.0 c.branches.invariant.1.1 c.branches-test.true

pub branches-preserved : goal.branches-preserved
branches-preserved t c =
    let long : length c.push.new.self.items ≡ length c.branches.next.items + 1 =
    one_longer c.branches.next.items c.push.new.self.items c.in_ok-branch_object.field-0 c.in_ok-push.ensures.items in
    let next = step_next (parts_in c.args.point.now) c.requires.ready c.args.stage c.requires.from (first_of (omega arith, grind arith)) c.args.scenario c.requires.begins
    c.run_end-end.result c.run_end-end.ensures.run c.branches.first (length c.branches.next.items) c.branches.invariant.0 c.branches.invariant.1.1 c.branches-test.true
    c.run_end-first.result c.run_end-first.ensures.run in
    let more = step_more (parts_in c.args.point.now) c.requires.ready c.args.stage c.requires.from (first_of (omega arith, grind arith)) c.args.scenario c.requires.begins
    c.run_end-end.result c.run_end-end.ensures.run c.branches.first (length c.branches.next.items) c.branches.invariant.0 c.branches.invariant.1.1 c.branches-test.true in (
      subst (λ n. c.run_end-first.result ≡ first_in (parts_in c.args.point.now).tree c.args.stage c.args.scenario n) (sym long) next,
      (
        more_shown view (branch_in (parts_in c.args.point.now) (c.args.later - 1) c.args.stage c.args.scenario) c.branches.next.items c.push.new.self.items
            c.in_ok-branch_object.field-0 c.branches.invariant.1.0
            (branch_made (parts_in c.args.point.now) (c.args.later - 1) c.args.stage c.args.scenario (length c.branches.next.items) c.branches.first
            (map view c.in_ok-seen.seen.items) (view c.in_ok-node.node) (view c.in_ok-branch_object.field-0) c.branches.invariant.0 c.in_ok-seen.ensures c.in_ok-node.ensures
            c.in_ok-branch_object.ensures)
            c.in_ok-push.ensures.items,
        subst (λ n. n ≤ branches_in (parts_in c.args.point.now).tree c.args.stage) (sym long) more,
      ),
    )

pub returns : goal.returns
returns t c =
    let above : 0 < c.args.later = first_of (omega arith, grind arith) in
    let last : length c.branches.next.items ≡ branches_in (parts_in c.args.point.now).tree c.args.stage =
    all_made (parts_in c.args.point.now) c.requires.ready c.args.stage c.requires.from (first_of (omega arith, grind arith)) c.args.scenario c.requires.begins c.run_end-end.result
    c.run_end-end.ensures.run c.branches.first (length c.branches.next.items) c.branches.invariant.0 c.branches.invariant.1.1 (omega arith) in
    IfOk-weaker c.node_object-2.result _ _
    (λ v is.
    is
    ∙ node_made (parts_in c.args.point.now) c.args.later c.args.stage c.args.scenario (length c.branches.next.items) (map view c.in_ok-decide.decide.items)
    (map view c.branches.next.items) above c.in_ok-decide.ensures c.branches.invariant.1.0 last)
    c.node_object-2.ensures
