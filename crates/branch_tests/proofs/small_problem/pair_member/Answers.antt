use Rattle.std.proofs.Common.{arith, subst, sym, ◌∙◌}
use Rattle.branch_tests.specs.declared.small_problem.Rise.{Rise}
use Rattle.branch_tests.specs.Rising.{LooksAtRise}
use Rattle.branch_tests.proofs.Rising.{pair_fits}
use Rattle.branch_tests.proofs.small_problem.pair_member.Goals as goal

pub next_cell-second-requires : goal.next_cell-second-requires
next_cell-second-requires c = record { small = omega (arith, c.requires.below, c.args.program.now.chain.many, c.args.program.now.chain.few) }

pub returns-clause-fits : goal.returns-clause-fits
returns-clause-fits c =
    let p = c.args.program.now in
    subst (λ (rise : Rise). LooksAtRise p.intervals.items p.pairs rise.pair c.new-resting.result.cells.items) (sym c.new-resting.ensures.member)
    (pair_fits p.intervals.items p.pairs c.args.first c.next_cell-second.result c.new-resting.result.cells.items p.chain c.requires.below c.next_cell-second.ensures
    (c.new-resting.ensures.cells ∙ c.in_ok-cells.ensures.items))
