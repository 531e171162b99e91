use Rattle.std.proofs.Common.{subst, sym, ◌∙◌}
use Rattle.branch_tests.specs.declared.small_problem.Rise.{Rise}
use Rattle.branch_tests.specs.Rising.{LooksAtRise}
use Rattle.branch_tests.proofs.Rising.{bound_fits}
use Rattle.branch_tests.proofs.small_problem.bound_member.Goals as goal

pub returns-clause-fits : goal.returns-clause-fits
returns-clause-fits c =
    let p = c.args.program.now in
    subst (λ (rise : Rise). LooksAtRise p.intervals.items p.pairs rise.pair c.new-resting.result.cells.items) (sym c.new-resting.ensures.member)
    (bound_fits p.intervals.items p.pairs c.new-resting.result.cells.items p.chain (c.new-resting.ensures.cells ∙ c.in_ok-cells.ensures.items))
