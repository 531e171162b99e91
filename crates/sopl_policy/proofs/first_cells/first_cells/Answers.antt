use Rattle.std.proofs.Common.{rules, ◌≡◌, ◌+◌, ◌<◌, ◌^◌}
use Rattle.sopl_scen.specs.Layout.{histories_in}
use Rattle.sopl_policy.proofs.Laid.{room_next}
use Rattle.sopl_policy.proofs.first_cells.first_cells.Goals as goal

pub overflow_add-first : goal.overflow_add-first
overflow_add-first c =
    let counted : c.histories.result ≡ histories_in c.args.tree.now c.decision-item.result.stage = search rules in
    let room : c.decisions.first + histories_in c.args.tree.now c.decision-item.result.stage < 2 ^ 64 =
    room_next c.args.tree.now c.args.decisions.now c.decisions.decision-index c.decisions.first c.decision-item.result c.decisions-test.true c.decision-item.is
    c.decisions.invariant.1 c.requires.few in
    search rules
