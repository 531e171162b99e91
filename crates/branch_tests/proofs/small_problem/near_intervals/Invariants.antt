use Rattle.branch_tests.specs.Rising.{AreNear}
use Rattle.branch_tests.proofs.small_problem.near_intervals.Given as goal

abbrev pub invariant-cells : goal.invariant-cells
invariant-cells l = AreNear l.list.items
