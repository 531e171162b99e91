use Rattle.std.proofs.Common.{rules, Ok, IfOk, refl, string_bytes, subst}
use Rattle.sopl_io.specs.Calls.{no_call}
use Rattle.answer_run.specs.declared.commands.PairCommand.{PairCommand}
use Rattle.answer_run.specs.Runs.{AnswersBoth, second_begun, second_not_begun}
use Rattle.answer_run.proofs.Seconds.{away_calls, away_replied, away_silent, taken_so, want_calls, want_silent}
use Rattle.answer_run.proofs.pair.pair_reply.Goals as goal

pub returns-in-Ok-clause-reply : goal.returns-in-Ok-clause-reply
returns-in-Ok-clause-reply g c =
    subst
    (λ (k : PairCommand).
    IfOk c.second_reply.result
    (λ reply.
    AnswersBoth k c.args.text.now c.args.name.now (g.S.Source.stock c.args.source.now) (g.S.Source.faults c.args.source.now) (g.S.Source.faults c.second_reply.new.source) reply.status
    (string_bytes reply.line))) c.in-Ok.ensures.judging (c.second_reply.ensures.reply c.args.text.now c.in-Ok.ensures.basis)

pub returns-in-Ok-clause-names : goal.returns-in-Ok-clause-names
returns-in-Ok-clause-names g c =
    second_begun (taken_so c.args.text.now c.in-Ok.basis c.in-Ok.ensures.basis) c.second_reply.ensures.names c.second_reply.ensures.judged

pub returns-in_ok-reply-in-Err-clause-reply : goal.returns-in_ok-reply-in-Err-clause-reply
returns-in_ok-reply-in-Err-clause-reply g c =
    away_replied c.args.command c.args.text.now c.args.name.now (g.S.Source.stock c.args.source.now) (g.S.Source.faults c.args.source.now) (g.S.Source.faults c.args.source.now)
    (Ok c.in_ok-reply-in-Err.reply)
    (λ bytes. c.in_ok-reply-in-Err.ensures.reply c.args.text.now bytes c.in-Err.ensures.refused)

pub returns-in_ok-reply-in-Err-clause-outcomes : goal.returns-in_ok-reply-in-Err-clause-outcomes
returns-in_ok-reply-in-Err-clause-outcomes g c =
    λ log. away_calls (g.S.Source.outcomes c.args.source.now) (g.S.Source.outcomes c.args.source.now) no_call log (Ok c.in_ok-reply-in-Err.reply) tt c.in_ok-reply-in-Err.ensures.turned_away

pub returns-in_ok-reply-in-Err-clause-names : goal.returns-in_ok-reply-in-Err-clause-names
returns-in_ok-reply-in-Err-clause-names g c = second_not_begun refl (away_silent (Ok c.in_ok-reply-in-Err.reply) tt c.in_ok-reply-in-Err.ensures.turned_away)

pub returns-in_err-reply-in-Err-clause-names : goal.returns-in_err-reply-in-Err-clause-names
returns-in_err-reply-in-Err-clause-names g c = second_not_begun refl (want_silent c.from_residual.result (search rules))

pub returns-in_err-reply-in-Err-clause-outcomes : goal.returns-in_err-reply-in-Err-clause-outcomes
returns-in_err-reply-in-Err-clause-outcomes g c =
    λ log. want_calls (g.S.Source.outcomes c.args.source.now) (g.S.Source.outcomes c.args.source.now) no_call log c.from_residual.result (search rules)
