use Rattle.std.proofs.Common.{rules, None, option_map, string_bytes, sym, subst, IfOk, IfErr}
use Rattle.sopl_io.specs.Calls.{no_call}
use Rattle.sopl_io.proofs.Calling.{where_all}
use Rattle.sopl_search.specs.Logged.{plan_of}
use Rattle.answer_texts.specs.Logs.{state_of}
use Rattle.answer_texts.specs.Replies.{IsTextReply, Replies, StopsByCause}
use Rattle.answer_texts.specs.declared.command.Command.{Command}
use Rattle.answer_texts.proofs.Answered.{not_used, unlogged_replies, unlogged_stops}
use Rattle.answer_texts.proofs.answer.stated_reply.Goals as goal

pub returns-in_ok-reply-in-Tree-clause-reply : goal.returns-in_ok-reply-in-Tree-clause-reply
returns-in_ok-reply-in-Tree-clause-reply g c =
    λ text states.
    unlogged_replies text _ c.args.command c.args.name.now (state_of g.K.Sink.taken g.K.Sink.names c.args.sink.now)
    (state_of g.K.Sink.taken g.K.Sink.names c.args.sink.now) (not_used (state_of g.K.Sink.taken g.K.Sink.names c.args.sink.now)) c.in_ok-reply-in-Tree.reply.status (string_bytes c.in_ok-reply-in-Tree.reply.line)
    (subst (λ (k : Command). IsTextReply text
    (plan_of c.args.schedule (option_map (λ b. (goal.Brancher-dyn g (b.vtable, b.value)).rule b.value) c.args.brancher) c.args.budget) k None c.in_ok-reply-in-Tree.reply.status (string_bytes c.in_ok-reply-in-Tree.reply.line)) (sym c.in-Tree.is)
    (c.in_ok-reply-in-Tree.ensures.reply text _ states))

pub returns-in_ok-reply-in-Tree-clause-outcomes : goal.returns-in_ok-reply-in-Tree-clause-outcomes
returns-in_ok-reply-in-Tree-clause-outcomes g c = where_all _ _ (λ e. cc) no_call

pub returns-in_err-reply-in-Tree-clause-stopped : goal.returns-in_err-reply-in-Tree-clause-stopped
returns-in_err-reply-in-Tree-clause-stopped g c =
    λ text states.
    unlogged_stops text _ c.args.command c.args.name.now (state_of g.K.Sink.taken g.K.Sink.names c.args.sink.now)
    (state_of g.K.Sink.taken g.K.Sink.names c.args.sink.now) (not_used (state_of g.K.Sink.taken g.K.Sink.names c.args.sink.now)) c.from_residual.result (search rules)

pub returns-in_err-reply-in-Tree-clause-outcomes : goal.returns-in_err-reply-in-Tree-clause-outcomes
returns-in_err-reply-in-Tree-clause-outcomes g c = where_all _ _ (search rules) no_call

pub returns-in-Solve-clause-reply : goal.returns-in-Solve-clause-reply
returns-in-Solve-clause-reply g c =
    λ text states.
    subst (λ (k : Command). IfOk c.solved_reply.result (λ reply. Replies text
    (plan_of c.args.schedule (option_map (λ b. (goal.Brancher-dyn g (b.vtable, b.value)).rule b.value) c.args.brancher) c.args.budget) k c.args.name.now
    (state_of g.K.Sink.taken g.K.Sink.names c.args.sink.now) (state_of g.K.Sink.taken g.K.Sink.names c.solved_reply.new.sink) reply.status (string_bytes reply.line))) (sym c.in-Solve.is)
    (c.solved_reply.ensures.reply text states)

pub returns-in-Solve-clause-stopped : goal.returns-in-Solve-clause-stopped
returns-in-Solve-clause-stopped g c =
    λ text states.
    subst (λ (k : Command). IfErr c.solved_reply.result (StopsByCause text
    (plan_of c.args.schedule (option_map (λ b. (goal.Brancher-dyn g (b.vtable, b.value)).rule b.value) c.args.brancher) c.args.budget) k c.args.name.now
    (state_of g.K.Sink.taken g.K.Sink.names c.args.sink.now) (state_of g.K.Sink.taken g.K.Sink.names c.solved_reply.new.sink))) (sym c.in-Solve.is)
    (c.solved_reply.ensures.stopped text states)
