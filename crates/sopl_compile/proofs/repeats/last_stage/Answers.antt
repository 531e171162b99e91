use Rattle.std.proofs.Common.{arith, rules, ◌≤◌, ◌<◌, ◌-◌, length}
use Rattle.sopl_compile.proofs.Repeating.{last_more}
use Rattle.sopl_compile.proofs.repeats.last_stage.Goals as goal

pub decisions-preserved : goal.decisions-preserved
decisions-preserved c =
    let one : 1 ≤ c.decisions.j = search rules in
    let below : c.decisions.j - 1 < length c.args.decisions.now = search rules in
    last_more c.args.e.now c.decisions.stage c.later_stage-stage.result c.args.decisions.now (c.decisions.j - 1) c.decisions.j c.index-decisions-j.result (omega (arith, one)) below
    c.index-decisions-j.is c.later_stage-stage.ensures.later c.later_stage-stage.ensures.by c.decisions.invariant
