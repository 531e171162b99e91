use Rattle.std.proofs.Common.{rules, option_map, string_bytes, sym, subst}
use Rattle.std.proofs.lemmas.Result.{IfErr-at_err}
use Rattle.scen_accept.specs.Stated.{model_in}
use Rattle.sopl_io.proofs.Calling.{where_all}
use Rattle.sopl_search.specs.Logged.{plan_of}
use Rattle.answer_texts.specs.Logs.{IsUnused, state_of}
use Rattle.answer_texts.specs.Replies.{Replies}
use Rattle.answer_texts.specs.Solving.{IsSolveFault}
use Rattle.answer_texts.specs.declared.command.Command.TheVariants.{Solve}
use Rattle.answer_texts.specs.declared.reply.Reply.{Reply}
use Rattle.answer_texts.proofs.Answered.{cut_stops, solved_replies, unlogged_replies, unlogged_stops, unsolved_so}
use Rattle.answer_texts.proofs.Calls.{found_calls, handed_on}
use Rattle.answer_texts.proofs.answer.solved_reply.Goals as goal

pub returns-in_err-answer-clause-stopped : goal.returns-in_err-answer-clause-stopped
returns-in_err-answer-clause-stopped g c =
    λ text states.
    cut_stops c.args.detail text _ c.args.stated.now states c.args.name.now (state_of g.K.Sink.taken g.K.Sink.names c.args.sink.now)
    (state_of g.K.Sink.taken g.K.Sink.names c.solved_answer.new.sink) c.from_residual.result c.in_err-answer.ensures.stopped

pub returns-in_err-answer-clause-outcomes : goal.returns-in_err-answer-clause-outcomes
returns-in_err-answer-clause-outcomes g c =
    handed_on _ _ c.solved_answer.result c.from_residual.result c.in_err-answer.field-0.0 (search rules) (search rules) c.solved_answer.ensures.outcomes

pub returns-in-Ok-clause-reply : goal.returns-in-Ok-clause-reply
returns-in-Ok-clause-reply g c =
    λ text states.
    subst
    (λ (r : Reply). Replies text
    (plan_of c.args.schedule (option_map (λ b. (goal.Brancher-dyn g (b.vtable, b.value)).rule b.value) c.args.brancher) c.args.budget) (Solve c.args.detail) c.args.name.now (state_of g.K.Sink.taken g.K.Sink.names c.args.sink.now)
    (state_of g.K.Sink.taken g.K.Sink.names c.solved_answer.new.sink) r.status (string_bytes r.line)) (sym c.reply_of.ensures.reply)
    (solved_replies c.args.detail text _ c.args.stated.now states c.args.name.now (state_of g.K.Sink.taken g.K.Sink.names c.args.sink.now)
    (state_of g.K.Sink.taken g.K.Sink.names c.solved_answer.new.sink) _ c.in-Ok.answer c.in-Ok.is c.in_ok-answer.ensures.solvable c.in_ok-answer.ensures.answer)

pub returns-in-Ok-clause-outcomes : goal.returns-in-Ok-clause-outcomes
returns-in-Ok-clause-outcomes g c =
    where_all _ _ (λ e. cc) (found_calls _ _ c.solved_answer.result c.in_ok-answer.field-0 (search rules) c.solved_answer.ensures.outcomes)

pub returns-in_ok-reply-in-Err-clause-reply : goal.returns-in_ok-reply-in-Err-clause-reply
returns-in_ok-reply-in-Err-clause-reply g c =
    λ text states.
    unlogged_replies text _ (Solve c.args.detail) c.args.name.now (state_of g.K.Sink.taken g.K.Sink.names c.args.sink.now)
    (state_of g.K.Sink.taken g.K.Sink.names c.solved_answer.new.sink) (IfErr-at_err (λ fault. IsUnused (state_of g.K.Sink.taken g.K.Sink.names c.args.sink.now) (state_of g.K.Sink.taken g.K.Sink.names c.solved_answer.new.sink)) c.in-Err.is c.in_ok-answer.ensures.unused)
    c.in_ok-reply-in-Err.reply.status (string_bytes c.in_ok-reply-in-Err.reply.line)
    (c.in_ok-reply-in-Err.ensures.reply (Solve c.args.detail) text _
    (unsolved_so (Solve c.args.detail) text c.args.stated.now c.in-Err.fault states (IfErr-at_err (IsSolveFault (model_in c.args.stated.now)) c.in-Err.is c.in_ok-answer.ensures.refused)))

pub returns-in_ok-reply-in-Err-clause-outcomes : goal.returns-in_ok-reply-in-Err-clause-outcomes
returns-in_ok-reply-in-Err-clause-outcomes g c =
    where_all _ _ (λ e. cc) (found_calls _ _ c.solved_answer.result c.in_ok-answer.field-0 (search rules) c.solved_answer.ensures.outcomes)

pub returns-in_err-reply-in-Err-clause-stopped : goal.returns-in_err-reply-in-Err-clause-stopped
returns-in_err-reply-in-Err-clause-stopped g c =
    λ text states.
    unlogged_stops text _ (Solve c.args.detail) c.args.name.now (state_of g.K.Sink.taken g.K.Sink.names c.args.sink.now)
    (state_of g.K.Sink.taken g.K.Sink.names c.solved_answer.new.sink) (IfErr-at_err (λ fault. IsUnused (state_of g.K.Sink.taken g.K.Sink.names c.args.sink.now) (state_of g.K.Sink.taken g.K.Sink.names c.solved_answer.new.sink)) c.in-Err.is c.in_ok-answer.ensures.unused)
    c.from_residual-in_err-reply-in-Err.result (search rules)

pub returns-in_err-reply-in-Err-clause-outcomes : goal.returns-in_err-reply-in-Err-clause-outcomes
returns-in_err-reply-in-Err-clause-outcomes g c =
    where_all _ _ (search rules) (found_calls _ _ c.solved_answer.result c.in_ok-answer.field-0 (search rules) c.solved_answer.ensures.outcomes)
