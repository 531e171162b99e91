use Rattle.std.proofs.Common.{ap, arith, length, ◌∙◌}
use Rattle.box_problem.specs.Box.{box_of}
use Rattle.branch_tests.proofs.small_problem.RestingRiseSearchProblem.roots.Goals as goal

pub returns : goal.returns
returns c =
    let same = c.in_ok-list.ensures.items ∙ c.as_slice.ensures.value in
    record {
      root = ap box_of same;
      few = omega (arith, c.args.program.now.chain.few, ap length same);
    }
