use Rattle.sopl_search.proofs.Resting.{appended_inside, ends_where_calm}
use Rattle.sopl_search.proofs.ending.finish.Goals as goal

pub returns-in-Quiet-clause-ends : goal.returns-in-Quiet-clause-ends
returns-in-Quiet-clause-ends g c =
    ends_where_calm (g.P.Propagator.problem c.args.program.now) _ c.args.best c.come_to_rest.new.store.box _ _ c.args.depth c.end_of.result c.requires.posed c.requires.all
    (appended_inside _ _ _ _ _ _ c.requires.inside c.come_to_rest.ensures.steps) c.in-Quiet.is c.in_ok-reason.ensures.rests c.end_of.ensures.ends
