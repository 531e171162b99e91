use Rattle.log_check.proofs.Points.{AreOne}
use Rattle.log_check.proofs.ends.is_point.Given as goal

abbrev pub invariant-cells : goal.invariant-cells
invariant-cells l = AreOne l.store.box l.cell
