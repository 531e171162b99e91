use Rattle.std.proofs.Common.{arith}
use Rattle.branch_tests.proofs.Rising.{cell_there}
use Rattle.branch_tests.proofs.small_problem.RestingRiseSearchProblem.end.Goals as goal

pub hi-requires : goal.hi-requires
hi-requires c = cell_there c.args._program.now.intervals.items c.args.store.now.box 0 c.requires.inside (omega (arith, c.args._program.now.chain.many))
