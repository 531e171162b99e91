use Rattle.std.proofs.Common.{◌<◌, length, sym, subst}
use Rattle.policy_json.specs.Steps.{parts_in}
use Rattle.policy_json.proofs.Ready.{cell_within, decided_within}
use Rattle.policy_json.proofs.decided.value_of.Goals as goal

pub cell_of-cell-requires-clause-decided : goal.cell_of-cell-requires-clause-decided
cell_of-cell-requires-clause-decided c = decided_within (parts_in c.args.point.now) c.requires.ready c.args.number c.requires.decided

pub bounds-point-cell : goal.bounds-point-cell
bounds-point-cell c =
    subst (λ n. n < length c.args.point.now.values.now) (sym c.cell_of-cell.ensures)
    (cell_within (parts_in c.args.point.now) c.requires.ready c.args.number c.args.scenario c.requires.decided c.requires.exists)
