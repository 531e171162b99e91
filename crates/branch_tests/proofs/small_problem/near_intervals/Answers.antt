use Rattle.std.proofs.Common.{◌≡◌, [], ◌∷◌, ◌++◌, arith, rules}
use Rattle.branch_tests.specs.Rising.{IsNearInterval}
use Rattle.branch_tests.proofs.Rising.{all_more}
use Rattle.branch_tests.proofs.small_problem.near_intervals.Goals as goal

pub cells-preserved : goal.cells-preserved
cells-preserved c =
    let pushed : c.push.new.self.items ≡ c.cells.list.items ++ c.in-Some.interval ∷ [] = first_of (search rules, grind arith) in
    all_more IsNearInterval c.cells.list.items c.push.new.self.items c.in-Some.interval pushed c.cells.invariant (record { low = c.in-Some.ensures.low; high = c.in-Some.ensures.high })
