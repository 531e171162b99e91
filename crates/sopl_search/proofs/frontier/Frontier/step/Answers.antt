use Rattle.std.proofs.Common.{rules}
use Rattle.sopl_io.specs.Calls.{no_call}
use Rattle.sopl_io.proofs.Calling.{where_all}
use Rattle.sopl_io.proofs.Gathering.{on_err}
use Rattle.sopl_search.proofs.BrokenSteps.{broken_at_end, broken_at_once, broken_at_put, inside_there, seat_there, seats_there, stands_there, stepped}
use Rattle.sopl_search.proofs.frontier.Frontier.step.Goals as goal

pub returns-in_err-worked-clause-broken : goal.returns-in_err-worked-clause-broken
returns-in_err-worked-clause-broken g c =
    λ rows keeps. on_err c.from_residual.result
    (broken_at_once (g.P.Propagator.problem c.args.program.now) _ rows c.args.seat c.args.self.now (g.K.Sink.taken c.args.sink.now) c.requires.room keeps c.work.ensures.taken)

pub returns-in_err-worked-clause-outcomes : goal.returns-in_err-worked-clause-outcomes
returns-in_err-worked-clause-outcomes g c = where_all _ _ (search rules) no_call

pub returns-in_err-worked-2-clause-broken : goal.returns-in_err-worked-2-clause-broken
returns-in_err-worked-2-clause-broken g c =
    λ rows keeps. on_err c.from_residual-in_err-worked-2.result
    (broken_at_put (g.P.Propagator.problem c.args.program.now) _ rows c.args.seat c.args.self.now c.work.new.self c.in_ok-worked.worked _ _ c.requires.posed c.requires.exists keeps
    (c.in_ok-worked.ensures.worked rows keeps) c.put.ensures.fits c.in_err-worked-2.ensures.prefix)

pub end-requires-clause-inside : goal.end-requires-clause-inside
end-requires-clause-inside g c =
    let rows = c.requires.keeps.0 in
    let keeps = c.requires.keeps.1 in
    inside_there (g.P.Propagator.problem c.args.program.now) _ rows c.args.seat c.args.self.now c.work.new.self c.put.new.self c.in_ok-worked.worked c.in_ok-worked-2.worked _ _
    c.requires.posed keeps c.requires.exists (c.in_ok-worked.ensures.worked rows keeps) c.in_ok-worked-2.ensures.put

pub end-requires-clause-exists : goal.end-requires-clause-exists
end-requires-clause-exists g c =
    let rows = c.requires.keeps.0 in
    let keeps = c.requires.keeps.1 in
    seat_there (g.P.Propagator.problem c.args.program.now) _ rows c.args.seat c.args.self.now c.work.new.self c.put.new.self c.in_ok-worked.worked c.in_ok-worked-2.worked _ _
    c.requires.posed keeps c.requires.exists (c.in_ok-worked.ensures.worked rows keeps) c.in_ok-worked-2.ensures.put

pub returns-in_err-end-clause-broken : goal.returns-in_err-end-clause-broken
returns-in_err-end-clause-broken g c =
    λ rows keeps. on_err c.from_residual-in_err-end.result
    (broken_at_end (g.P.Propagator.problem c.args.program.now) _ rows c.args.seat c.args.self.now c.work.new.self c.put.new.self c.in_ok-worked.worked _ _ c.requires.posed c.requires.exists keeps
    (c.in_ok-worked.ensures.worked rows keeps) c.put.ensures.fits c.in_ok-worked-2.ensures.put)

pub returns-clause-stands : goal.returns-clause-stands
returns-clause-stands g c =
    let rows = c.requires.keeps.0 in
    let keeps = c.requires.keeps.1 in
    stands_there (g.P.Propagator.problem c.args.program.now) _ rows c.args.seat c.args.self.now c.work.new.self c.put.new.self c.in_ok-worked.worked c.in_ok-worked-2.worked _ _
    c.requires.posed keeps c.requires.exists (c.in_ok-worked.ensures.worked rows keeps) c.in_ok-worked-2.ensures.put c.end.new.self c.in_ok-worked-2.ensures.same
    c.in_ok-end.ensures.ended c.requires.stands

pub returns-clause-stepped : goal.returns-clause-stepped
returns-clause-stepped g c =
    λ rows keeps. stepped (g.P.Propagator.problem c.args.program.now) _ rows c.args.seat c.args.self.now c.work.new.self c.put.new.self c.in_ok-worked.worked c.in_ok-worked-2.worked _ _
    c.requires.posed keeps c.requires.exists (c.in_ok-worked.ensures.worked rows keeps) c.in_ok-worked-2.ensures.put c.end.new.self c.in_ok-worked-2.ensures.same
    c.in_ok-end.ensures.ended _ _ _ c.event_of-event.result c.put.ensures.fits c.end.ensures.gather c.end.ensures.walk c.event_of-event.ensures c.work.ensures.same_heard
    c.tell.ensures.heard

pub returns-clause-seats : goal.returns-clause-seats
returns-clause-seats g c =
    let rows = c.requires.keeps.0 in
    let keeps = c.requires.keeps.1 in
    seats_there (g.P.Propagator.problem c.args.program.now) _ rows c.args.seat c.args.self.now c.work.new.self c.put.new.self c.in_ok-worked.worked c.in_ok-worked-2.worked _ _
    c.requires.posed keeps c.requires.exists (c.in_ok-worked.ensures.worked rows keeps) c.in_ok-worked-2.ensures.put c.end.new.self c.in_ok-worked-2.ensures.same
    c.in_ok-end.ensures.ended
