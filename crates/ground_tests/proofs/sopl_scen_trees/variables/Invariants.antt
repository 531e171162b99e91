use Rattle.std.proofs.Common.{◌≡◌}
use Rattle.std.proofs.Math.ListN.{replicate}
use Rattle.sopl_scen.specs.Samples.{drawn}
use Rattle.ground_tests.proofs.sopl_scen_trees.variables.Given as goal

abbrev pub invariant-many : goal.invariant-many
invariant-many l = l.found.items ≡ replicate l.made (drawn l.one l.three 1)
