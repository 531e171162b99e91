use Rattle.std.proofs.Common.{Option, subst, sym, ℕ}
use Rattle.prop_core.specs.Findings.{Finds}
use Rattle.branch_tests.specs.Rising.{FitsFor, problem_of, reasons_for}
use Rattle.branch_tests.proofs.small_problem.RisePropagator.revise.Goals as goal

pub pair_finding-requires-clause-pair : goal.pair_finding-requires-clause-pair
pair_finding-requires-clause-pair c = subst (FitsFor c.args.program.now.intervals.items c.args.program.now.pairs) c.in-Some.is c.requires.fits

pub bound_finding-requires-clause-exists : goal.bound_finding-requires-clause-exists
bound_finding-requires-clause-exists c = subst (FitsFor c.args.program.now.intervals.items c.args.program.now.pairs) c.in-None.is c.requires.fits

pub returns-in-Some-clause-finds : goal.returns-in-Some-clause-finds
returns-in-Some-clause-finds c =
    subst (λ (pair : Option ℕ). Finds (problem_of c.args.program.now.intervals.items c.args.program.now.pairs) (reasons_for pair) c.args.best c.args.store.now.box c.pair_finding.result)
    (sym c.in-Some.is) c.pair_finding.ensures

pub returns-in-None-clause-finds : goal.returns-in-None-clause-finds
returns-in-None-clause-finds c =
    subst (λ (pair : Option ℕ). Finds (problem_of c.args.program.now.intervals.items c.args.program.now.pairs) (reasons_for pair) c.args.best c.args.store.now.box c.bound_finding.result)
    (sym c.in-None.is) c.bound_finding.ensures
