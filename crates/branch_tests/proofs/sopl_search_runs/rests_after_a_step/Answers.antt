use Rattle.std.proofs.Common.{None, Option, arith, subst, sym}
use Rattle.box_problem.specs.Box.{box_of}
use Rattle.brancher.specs.Rules.{Rule}
use Rattle.branch_tests.specs.Rising.{problem_of}
use Rattle.sopl_search.specs.Frontiers.{IsSearchOf}
use Rattle.sopl_search.proofs.Begun.{at_once, seats_are}
use Rattle.branch_tests.proofs.Rising.{rising_posed}
use Rattle.branch_tests.proofs.sopl_search_runs.rests_after_a_step.Goals as goal

pub step-requires-clause-search : goal.step-requires-clause-search
step-requires-clause-search c =
    let p = c.args.program.now in
    subst (λ (asked : Option Rule). IsSearchOf (problem_of p.intervals.items p.pairs) asked c.in_ok-crew.crew.frontier) (sym c.in_ok-crew.ensures.asked) c.in_ok-crew.ensures.search

pub step-requires-clause-exists : goal.step-requires-clause-exists
step-requires-clause-exists c =
    let p = c.args.program.now in
    omega (
      arith,
      seats_are (problem_of p.intervals.items p.pairs) None 1 c.in_ok-crew.crew.frontier (rising_posed p.intervals.items p.pairs p.chain) (omega arith, omega arith)
          (at_once (box_of p.intervals.items) 1 c.in_ok-crew.crew.frontier c.in_ok-crew.ensures.begun),
    )

pub new-requires-clause-posed : goal.new-requires-clause-posed
new-requires-clause-posed c = rising_posed c.args.program.now.intervals.items c.args.program.now.pairs c.args.program.now.chain

pub step-requires-clause-posed : goal.step-requires-clause-posed
step-requires-clause-posed c = rising_posed c.args.program.now.intervals.items c.args.program.now.pairs c.args.program.now.chain
