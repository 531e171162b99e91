use Rattle.std.proofs.Common.{arith, ◌<◌, length, ◌∙◌}
use Rattle.term_math.specs.Shown.{box_in, ends_of}
use Rattle.term_nodes.specs.Things.{things}
use Rattle.term_nodes.proofs.Steps.{cond_back}
use Rattle.term_goals.proofs.Summing.{worst_back, no_worst, some_there, worst_first, all_worst}
use Rattle.term_goals.proofs.goal.worst.Goals as goal

pub returns-then-count-eq0 : goal.returns-then-count-eq0
returns-then-count-eq0 c =
    c.zero.ensures ∙ no_worst c.args.direction (box_in c.args.here.now.root) (box_in c.args.here.now.view) (things c.args.here.now.items.now) c.args.terms.now c.if-count-eq0.true

pub near_range-requires-clause-exists : goal.near_range-requires-clause-exists
near_range-requires-clause-exists c =
    let some : 0 < length c.args.terms.now = some_there c.args.terms.now c.if-count-eq0.false in
    cond_back (length c.args.here.now.items.now) c.args.terms.now (length c.args.terms.now) 0 c.requires.exist some (omega arith)

pub loop-i-init : goal.loop-i-init
loop-i-init c =
    worst_first c.args.direction (box_in c.args.here.now.root) (box_in c.args.here.now.view) (things c.args.here.now.items.now) c.args.terms.now 0 (ends_of c.near_range.result.ends)
    (some_there c.args.terms.now c.if-count-eq0.false) c.near_range.ensures.interval

pub near_range-range-requires-clause-exists : goal.near_range-range-requires-clause-exists
near_range-range-requires-clause-exists c =
    cond_back (length c.args.here.now.items.now) c.args.terms.now c.loop-i.i 0 c.requires.exist c.loop-i-test.true (omega (arith, c.loop-i.auto.i))

pub loop-i-preserved : goal.loop-i-preserved
loop-i-preserved c =
    let below : c.loop-i.i < length c.args.terms.now = omega (arith, c.loop-i.auto.i, c.loop-i-test.true) in
    worst_back c.args.direction (box_in c.args.here.now.root) (box_in c.args.here.now.view) (things c.args.here.now.items.now) c.args.terms.now c.loop-i.i 0 (ends_of c.near_range-range.result.ends)
    (ends_of c.loop-i.found) (ends_of c.worse-found.result)
    c.loop-i-test.true below c.loop-i.invariant c.near_range-range.ensures.interval c.worse-found.ensures

pub returns : goal.returns
returns c =
    all_worst c.args.direction (box_in c.args.here.now.root) (box_in c.args.here.now.view) (things c.args.here.now.items.now) c.args.terms.now c.loop-i.i (ends_of c.loop-i.found)
    c.loop-i-test.false c.loop-i.invariant
