use Rattle.std.proofs.Common.{rules, ◌++◌, List, ℕ, subst}
use Rattle.sopl_io.specs.Calls.{no_call}
use Rattle.sopl_io.specs.Transfer.{AppendsPrefix}
use Rattle.sopl_io.proofs.Calling.{where_all}
use Rattle.sopl_io.proofs.Gathering.{on_err}
use Rattle.log_rows.specs.Lines.{ended, head_line}
use Rattle.sopl_search.proofs.Begun.{first_breaks_off, first_running, nothing_logged}
use Rattle.sopl_search.proofs.searching.begun.Goals as goal

pub returns-in_err-crew-clause-prefix : goal.returns-in_err-crew-clause-prefix
returns-in_err-crew-clause-prefix g c = on_err _ (nothing_logged (g.P.Propagator.problem c.args.program.now) _ (g.K.Sink.taken c.args.sink.now) c.requires.posed c.args.schedule.few)

pub returns-in_err-begin-clause-prefix : goal.returns-in_err-begin-clause-prefix
returns-in_err-begin-clause-prefix g c = on_err _
    (first_breaks_off (g.P.Propagator.problem c.args.program.now) _ (g.K.Sink.taken c.args.sink.now) (g.K.Sink.taken c.begin.new.sink) c.requires.posed c.args.schedule.few
    (subst (λ (kept : List ℕ). AppendsPrefix (g.K.Sink.taken c.args.sink.now) (g.K.Sink.taken c.begin.new.sink) (kept ++ ended head_line)) c.in_ok-crew.ensures.begun.none_kept
    c.in_err-begin.ensures.prefix))

pub returns-clause-running : goal.returns-clause-running
returns-clause-running g c =
    first_running (g.P.Propagator.problem c.args.program.now) _ c.in_ok-crew.crew.frontier c.begin.new.self.frontier (g.K.Sink.taken c.args.sink.now) (g.K.Sink.taken c.begin.new.sink)
    c.requires.posed c.args.schedule.few c.in_ok-crew.ensures.begun c.begin.ensures.walk c.begin.ensures.seats c.begin.ensures.open_count c.begin.ensures.finished c.begin.ensures.best
    c.in_ok-begin.ensures.all

pub returns-in_err-crew-clause-outcomes : goal.returns-in_err-crew-clause-outcomes
returns-in_err-crew-clause-outcomes g c = where_all _ _ (search rules) no_call

pub returns-clause-outcomes : goal.returns-clause-outcomes
returns-clause-outcomes g c = where_all _ _ (search rules) c.in_ok-begin.ensures.outcomes.all
