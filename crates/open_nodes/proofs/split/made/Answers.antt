use Rattle.open_nodes.proofs.GoingOn.{made_row}
use Rattle.open_nodes.proofs.split.made.Goals as goal

pub returns-clause-row : goal.returns-clause-row
returns-clause-row c = made_row c.args.above c.args.side c.args.node c.args.depth c.args.steps c.args.cut c.in_ok-made.made.value c.in_ok-made.ensures.ok
