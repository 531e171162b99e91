use Rattle.std.proofs.Common.{◌≡◌, ◌-◌, length, arith, rules}
use Rattle.branch_tests.proofs.Rising.{chain_of}
use Rattle.branch_tests.proofs.small_problem.chain.Goals as goal

pub invariant_of-result : goal.invariant_of-result
invariant_of-result c =
    let pairs : c.in-Ok.pairs ≡ c.len-count.result - 1 = search rules in
    let long : length c.args.intervals.items ≡ c.len-count.result = search rules in
    record {
      chain = chain_of c.args.intervals.items c.in-Ok.pairs c.requires.near (omega (arith, long, pairs, c.if-count-eq0.false)) (omega (arith, long, c.if-count-gt16.false));
    }
