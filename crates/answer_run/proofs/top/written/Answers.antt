use Rattle.std.proofs.Common.{subst}
use Rattle.std.specs.Io.KnownBytes.{Appends}
use Rattle.sopl_io.specs.Transfer.{AppendsPrefix}
use Rattle.answer_run.specs.Runs.{all, part}
use Rattle.answer_run.specs.Calls.{line_cut, line_taken}
use Rattle.answer_run.proofs.top.written.Goals as goal

pub returns-in-Ok-clause-taken : goal.returns-in-Ok-clause-taken
returns-in-Ok-clause-taken g c =
    all (subst (λ b. Appends (g.K.Sink.taken c.args.answer.now) (g.K.Sink.taken c.write_all.new.sink) b) c.as_bytes.ensures.value c.in-Ok.ensures.all)

pub returns-in-Err-clause-taken : goal.returns-in-Err-clause-taken
returns-in-Err-clause-taken g c =
    part c.in-Err.ensures.cause.failed (subst (λ b. AppendsPrefix (g.K.Sink.taken c.args.answer.now) (g.K.Sink.taken c.write_all.new.sink) b) c.as_bytes.ensures.value c.in-Err.ensures.prefix)

pub returns-in-Ok-clause-outcomes : goal.returns-in-Ok-clause-outcomes
returns-in-Ok-clause-outcomes g c = line_taken c.in-Ok.ensures.outcomes.all

pub returns-in-Err-clause-outcomes : goal.returns-in-Err-clause-outcomes
returns-in-Err-clause-outcomes g c = line_cut c.in-Err.ensures.outcomes.last
