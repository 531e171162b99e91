use Rattle.std.proofs.Common.{rules}
use Rattle.sopl_io.specs.Calls.{no_call}
use Rattle.sopl_io.proofs.Calling.{where_all}
use Rattle.answer_texts.specs.Answering.{IsCutOff}
use Rattle.answer_texts.specs.Logs.{state_of}
use Rattle.answer_texts.proofs.Answered.{not_used}
use Rattle.answer_texts.proofs.Calls.{found_calls, handed_on}
use Rattle.answer_texts.proofs.Stopped.{on_err}
use Rattle.answer_texts.proofs.solved.solved_answer.Goals as goal

pub returns-in_err-answer-in-Ok-clause-stopped : goal.returns-in_err-answer-in-Ok-clause-stopped
returns-in_err-answer-in-Ok-clause-stopped g c =
    let cut : IsCutOff c.args.stated.now _ c.args.name.now (state_of g.K.Sink.taken g.K.Sink.names c.args.sink.now) (state_of g.K.Sink.taken g.K.Sink.names c.logged_answer.new.sink) =
    record { solvable = c.in-Ok.ensures.solvable; wrote = c.in_err-answer-in-Ok.ensures.stopped } in
    on_err _ cut

pub returns-in_err-answer-in-Ok-clause-outcomes : goal.returns-in_err-answer-in-Ok-clause-outcomes
returns-in_err-answer-in-Ok-clause-outcomes g c = handed_on _ _ c.logged_answer.result c.from_residual.result c.in_err-answer-in-Ok.field-0.0 (search rules) (search rules) c.logged_answer.ensures.outcomes

pub returns-in_ok-answer-in-Ok-clause-outcomes : goal.returns-in_ok-answer-in-Ok-clause-outcomes
returns-in_ok-answer-in-Ok-clause-outcomes g c = where_all _ _ (λ e. cc) (found_calls _ _ c.logged_answer.result c.in_ok-answer-in-Ok.answer (search rules) c.logged_answer.ensures.outcomes)

pub returns-in-Err-clause-unused : goal.returns-in-Err-clause-unused
returns-in-Err-clause-unused g c = not_used (state_of g.K.Sink.taken g.K.Sink.names c.args.sink.now)

pub returns-in-Err-clause-outcomes : goal.returns-in-Err-clause-outcomes
returns-in-Err-clause-outcomes g c = where_all _ _ (λ e. cc) no_call
