use Rattle.std.proofs.Common.{◌∙◌, Option, None, arith, sym, subst}
use Rattle.box_problem.specs.Box.{box_of}
use Rattle.brancher.specs.Rules.{Rule}
use Rattle.branch_tests.specs.Rising.{problem_of}
use Rattle.sopl_search.specs.Frontiers.{IsSearchOf}
use Rattle.sopl_search.proofs.Begun.{at_once, seats_are}
use Rattle.branch_tests.proofs.Rising.{rising_posed}
use Rattle.branch_tests.proofs.sopl_search_runs.driven.Goals as goal

pub steps-init : goal.steps-init
steps-init g c =
    let p = c.args.program.now in
    let problem = problem_of p.intervals.items p.pairs in
    record {
      search = subst (λ (asked : Option Rule). IsSearchOf problem asked c.in_ok-crew.crew.frontier) (sym c.in_ok-crew.ensures.asked) c.in_ok-crew.ensures.search;
      all = c.in_ok-crew.ensures.all;
      fits = c.in_ok-crew.ensures.fits;
      following = c.in_ok-crew.ensures.following;
      whole = c.in_ok-crew.ensures.whole;
      seats = seats_are problem None 2 c.in_ok-crew.crew.frontier (rising_posed p.intervals.items p.pairs p.chain) (omega arith, omega arith)
          (at_once (box_of p.intervals.items) 2 c.in_ok-crew.crew.frontier c.in_ok-crew.ensures.begun);
    }

pub steps-preserved : goal.steps-preserved
steps-preserved g c =
    let p = c.args.program.now in
    record {
      search = subst (λ (asked : Option Rule). IsSearchOf (problem_of p.intervals.items p.pairs) asked c.step.new.self.frontier) (sym c.step.ensures.asked) c.in_ok-step.ensures.search;
      all = c.step.ensures.all;
      fits = c.step.ensures.fits;
      following = c.step.ensures.following;
      whole = c.in_ok-step.ensures.whole;
      seats = c.in_ok-step.ensures.seats ∙ c.steps.invariant.seats;
    }

pub new-requires-clause-posed : goal.new-requires-clause-posed
new-requires-clause-posed g c = rising_posed c.args.program.now.intervals.items c.args.program.now.pairs c.args.program.now.chain

pub step-requires-clause-posed : goal.step-requires-clause-posed
step-requires-clause-posed g c = rising_posed c.args.program.now.intervals.items c.args.program.now.pairs c.args.program.now.chain

pub close-requires-clause-posed : goal.close-requires-clause-posed
close-requires-clause-posed g c = rising_posed c.args.program.now.intervals.items c.args.program.now.pairs c.args.program.now.chain
