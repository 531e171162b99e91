use Rattle.sopl_search.proofs.Running.{same_long, searches_on, some_kept}
use Rattle.sopl_search.proofs.crew.Crew.step.Goals as goal

pub step-requires-clause-keeps : goal.step-requires-clause-keeps
step-requires-clause-keeps g c = some_kept (g.P.Propagator.problem c.args.program.now) _ c.args.self.now.frontier c.requires.search

pub returns-clause-search : goal.returns-clause-search
returns-clause-search g c =
    searches_on (g.P.Propagator.problem c.args.program.now) _ c.args.self.now.frontier _ c.args.seat _ _ c.requires.search c.in_ok-step.ensures.stands c.in_ok-step.ensures.stepped

pub returns-clause-same_number : goal.returns-clause-same_number
returns-clause-same_number g c = same_long g.P.Propagator.reasons _ _ c.step.ensures.same_reasons

pub returns-in_err-step-clause-same_number : goal.returns-in_err-step-clause-same_number
returns-in_err-step-clause-same_number g c = same_long g.P.Propagator.reasons _ _ c.step.ensures.same_reasons
