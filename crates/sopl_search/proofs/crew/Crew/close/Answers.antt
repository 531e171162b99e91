use Rattle.sopl_search.proofs.Running.{some_asked}
use Rattle.sopl_search.proofs.crew.Crew.close.Goals as goal

pub close-requires-clause-keeps : goal.close-requires-clause-keeps
close-requires-clause-keeps g c = some_asked (g.P.Propagator.problem c.args.program.now) _ c.args.self.now.frontier c.requires.search
