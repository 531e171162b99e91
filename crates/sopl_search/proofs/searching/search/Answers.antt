use Rattle.std.proofs.Common.{rules, ◌<◌, ◌^◌, ◌∙◌}
use Rattle.sopl_io.proofs.Calling.{calls_more, where_later}
use Rattle.sopl_io.proofs.Gathering.{on_err}
use Rattle.sopl_search.proofs.Running.{finished_within, some_seats, still_search}
use Rattle.sopl_search.proofs.Settling.{settles_within}
use Rattle.sopl_search.proofs.Trees.{all_caused, all_logged, prefix_logged}
use Rattle.sopl_search.proofs.searching.search.Goals as goal

pub run-requires-clause-running : goal.run-requires-clause-running
run-requires-clause-running g c = (_, g.K.Sink.taken c.args.sink.now, c.in_ok-crew.ensures.asked, c.in_ok-crew.ensures.running)

pub close-requires-clause-search : goal.close-requires-clause-search
close-requires-clause-search g c =
    still_search (g.P.Propagator.problem c.args.program.now) _ _ c.run.new.crew.frontier (g.K.Sink.taken c.args.sink.now) (g.K.Sink.taken c.run.new.sink)
    (c.run.ensures.asked ∙ c.in_ok-crew.ensures.asked)
    (c.in_ok-run.ensures.running _ (g.K.Sink.taken c.args.sink.now) c.in_ok-crew.ensures.asked c.in_ok-crew.ensures.running)

pub close-requires-clause-room : goal.close-requires-clause-room
close-requires-clause-room g c =
    let within = finished_within (g.P.Propagator.problem c.args.program.now) _ c.run.new.crew.frontier (g.K.Sink.taken c.args.sink.now) (g.K.Sink.taken c.run.new.sink)
    (c.in_ok-run.ensures.running _ (g.K.Sink.taken c.args.sink.now) c.in_ok-crew.ensures.asked c.in_ok-crew.ensures.running) in
    search rules

pub close-requires-clause-some_seat : goal.close-requires-clause-some_seat
close-requires-clause-some_seat g c =
    some_seats (g.P.Propagator.problem c.args.program.now) _ c.run.new.crew.frontier (g.K.Sink.taken c.args.sink.now) (g.K.Sink.taken c.run.new.sink)
    (c.in_ok-run.ensures.running _ (g.K.Sink.taken c.args.sink.now) c.in_ok-crew.ensures.asked c.in_ok-crew.ensures.running) c.args.schedule.few

pub returns-in_err-run-clause-prefix : goal.returns-in_err-run-clause-prefix
returns-in_err-run-clause-prefix g c = on_err _ (c.in_err-run.ensures.prefix _ (g.K.Sink.taken c.args.sink.now) c.in_ok-crew.ensures.asked c.in_ok-crew.ensures.running)

pub returns-clause-cause : goal.returns-clause-cause
returns-clause-cause g c =
    all_caused (g.P.Propagator.problem c.args.program.now) _ c.run.new.crew.frontier (g.K.Sink.taken c.args.sink.now) (g.K.Sink.taken c.run.new.sink) (g.K.Sink.taken c.close.new.sink) c.close.result
    (c.in_ok-run.ensures.running _ (g.K.Sink.taken c.args.sink.now) c.in_ok-crew.ensures.asked c.in_ok-crew.ensures.running)
    c.in_ok-run.ensures.done c.close.ensures.closed c.close.ensures.cause

pub returns-clause-enough : goal.returns-clause-enough
returns-clause-enough g c = λ enough.
    settles_within (g.P.Propagator.problem c.args.program.now) c.args.budget c.close.result enough
    (all_caused (g.P.Propagator.problem c.args.program.now) _ c.run.new.crew.frontier (g.K.Sink.taken c.args.sink.now) (g.K.Sink.taken c.run.new.sink) (g.K.Sink.taken c.close.new.sink) c.close.result
    (c.in_ok-run.ensures.running _ (g.K.Sink.taken c.args.sink.now) c.in_ok-crew.ensures.asked c.in_ok-crew.ensures.running)
    c.in_ok-run.ensures.done c.close.ensures.closed c.close.ensures.cause)

pub returns-clause-log : goal.returns-clause-log
returns-clause-log g c =
    let small : c.run.new.crew.frontier.finished < 2 ^ 64 = search rules in
    all_logged (g.P.Propagator.problem c.args.program.now) _ c.run.new.crew.frontier (g.K.Sink.taken c.args.sink.now) (g.K.Sink.taken c.run.new.sink) (g.K.Sink.taken c.close.new.sink) c.close.result
    (c.in_ok-run.ensures.running _ (g.K.Sink.taken c.args.sink.now) c.in_ok-crew.ensures.asked c.in_ok-crew.ensures.running)
    (record { lawful = c.requires.lawful; near = c.requires.near; few_bits = c.requires.bits }) c.in_ok-run.ensures.some small c.in_ok-run.ensures.done c.close.ensures.closed

pub returns-clause-prefix : goal.returns-clause-prefix
returns-clause-prefix g c =
    let small : c.run.new.crew.frontier.finished < 2 ^ 64 = search rules in
    prefix_logged (g.P.Propagator.problem c.args.program.now) _ c.run.new.crew.frontier (g.K.Sink.taken c.args.sink.now) (g.K.Sink.taken c.run.new.sink) (g.K.Sink.taken c.close.new.sink) c.close.result
    (c.in_ok-run.ensures.running _ (g.K.Sink.taken c.args.sink.now) c.in_ok-crew.ensures.asked c.in_ok-crew.ensures.running)
    c.in_ok-run.ensures.some small c.in_ok-run.ensures.done c.close.ensures.refused c.close.ensures.nothing

pub returns-in_err-run-clause-outcomes : goal.returns-in_err-run-clause-outcomes
returns-in_err-run-clause-outcomes g c = where_later _ _ _ (c.in_ok-crew.ensures.outcomes.all (λ is. absurd (cc))) (search rules)

pub returns-clause-outcomes : goal.returns-clause-outcomes
returns-clause-outcomes g c =
    where_later _ _ _ (calls_more _ _ _ (c.in_ok-crew.ensures.outcomes.all (λ is. absurd (cc))) (c.in_ok-run.ensures.outcomes.all (λ is. absurd (cc)))) c.close.ensures.outcomes
