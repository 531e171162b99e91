use Rattle.std.proofs.Common.{rules, string_bytes}
use Rattle.sopl_io.specs.Calls.{no_call}
use Rattle.sopl_io.proofs.Calling.{where_all}
use Rattle.answer_texts.specs.Logs.{state_of}
use Rattle.answer_texts.proofs.Answered.{not_used, text_fault, unlogged_replies, unlogged_stops}
use Rattle.answer_texts.proofs.answer.reply_to.Goals as goal

pub returns-in_ok-reply-in-Err-clause-reply : goal.returns-in_ok-reply-in-Err-clause-reply
returns-in_ok-reply-in-Err-clause-reply g c =
    unlogged_replies c.args.text.now _ c.args.command c.args.name.now (state_of g.K.Sink.taken g.K.Sink.names c.args.sink.now)
    (state_of g.K.Sink.taken g.K.Sink.names c.args.sink.now) (not_used (state_of g.K.Sink.taken g.K.Sink.names c.args.sink.now)) c.in_ok-reply-in-Err.reply.status (string_bytes c.in_ok-reply-in-Err.reply.line)
    (c.in_ok-reply-in-Err.ensures.reply c.args.command c.args.text.now _ (text_fault c.args.command c.args.text.now c.in-Err.fault c.in-Err.ensures.refused))

pub returns-in_ok-reply-in-Err-clause-outcomes : goal.returns-in_ok-reply-in-Err-clause-outcomes
returns-in_ok-reply-in-Err-clause-outcomes g c = where_all _ _ (λ e. cc) no_call

pub returns-in_err-reply-in-Err-clause-stopped : goal.returns-in_err-reply-in-Err-clause-stopped
returns-in_err-reply-in-Err-clause-stopped g c =
    unlogged_stops c.args.text.now _ c.args.command c.args.name.now (state_of g.K.Sink.taken g.K.Sink.names c.args.sink.now)
    (state_of g.K.Sink.taken g.K.Sink.names c.args.sink.now) (not_used (state_of g.K.Sink.taken g.K.Sink.names c.args.sink.now)) c.from_residual.result (search rules)

pub returns-in_err-reply-in-Err-clause-outcomes : goal.returns-in_err-reply-in-Err-clause-outcomes
returns-in_err-reply-in-Err-clause-outcomes g c = where_all _ _ (search rules) no_call
