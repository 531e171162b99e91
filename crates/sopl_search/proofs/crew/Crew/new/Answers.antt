use Rattle.std.proofs.Common.{ap, ◌∙◌}
use Rattle.box_problem.specs.Box.{box_of}
use Rattle.sopl_search.proofs.Begun.{at_once, begun_root, first_keeps, first_search}
use Rattle.sopl_search.proofs.Followed.{follows_root}
use Rattle.sopl_search.proofs.crew.Crew.new.Goals as goal

pub returns-clause-begun : goal.returns-clause-begun
returns-clause-begun g c =
    begun_root c.in_ok-store.store.box _ c.args.seats c.in_ok-frontier.frontier (c.in_ok-store.ensures.root ∙ (ap box_of c.as_slice.ensures.value ∙ c.in_ok-roots.ensures.root))
    c.in_ok-frontier.ensures.begun

pub returns-clause-search : goal.returns-clause-search
returns-clause-search g c =
    first_search (g.P.Propagator.problem c.args.program.now) _ c.args.seats c.in_ok-frontier.frontier c.requires.posed c.requires.seats
    (at_once _ c.args.seats c.in_ok-frontier.frontier
    (begun_root c.in_ok-store.store.box _ c.args.seats c.in_ok-frontier.frontier (c.in_ok-store.ensures.root ∙ (ap box_of c.as_slice.ensures.value ∙ c.in_ok-roots.ensures.root))
    c.in_ok-frontier.ensures.begun))

pub returns-clause-first_state : goal.returns-clause-first_state
returns-clause-first_state g c =
    first_keeps (g.P.Propagator.problem c.args.program.now) _ c.args.seats c.in_ok-frontier.frontier c.requires.posed c.requires.seats
    (at_once _ c.args.seats c.in_ok-frontier.frontier
    (begun_root c.in_ok-store.store.box _ c.args.seats c.in_ok-frontier.frontier (c.in_ok-store.ensures.root ∙ (ap box_of c.as_slice.ensures.value ∙ c.in_ok-roots.ensures.root))
    c.in_ok-frontier.ensures.begun))

pub returns-clause-following : goal.returns-clause-following
returns-clause-following g c =
    follows_root g.P.Propagator.in_step g.P.Propagator.watches c.args.program.now (g.P.Propagator.problem c.args.program.now).root c.in_ok-store.store.box c.args.props.items c.in_ok-watchers.watchers
    c.requires.posed.lawful.root (c.in_ok-store.ensures.root ∙ (ap box_of c.as_slice.ensures.value ∙ c.in_ok-roots.ensures.root)) c.in_ok-watchers.ensures.list c.in_ok-watchers.ensures.ends
    c.in_ok-watchers.ensures.watch c.requires.in_step
