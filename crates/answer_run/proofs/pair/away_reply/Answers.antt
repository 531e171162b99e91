use Rattle.std.proofs.Common.{IfOk, string_bytes, sym, subst}
use Rattle.answer_run.specs.Replies.{IsPairReply}
use Rattle.answer_run.specs.declared.commands.PairCommand.{PairCommand}
use Rattle.answer_run.proofs.pair.away_reply.Goals as goal

pub returns-in-Check-clause-reply : goal.returns-in-Check-clause-reply
returns-in-Check-clause-reply c =
    λ text bytes why.
    subst (λ (k : PairCommand). IfOk c.fault_reply.result (λ reply. IsPairReply k text bytes reply.status (string_bytes reply.line))) (sym c.in-Check.is) (c.fault_reply.ensures.reply text bytes why)

pub returns-in-Eval-clause-reply : goal.returns-in-Eval-clause-reply
returns-in-Eval-clause-reply c =
    λ text bytes why.
    subst (λ (k : PairCommand). IfOk c.unsolved_reply.result (λ reply. IsPairReply k text bytes reply.status (string_bytes reply.line))) (sym c.in-Eval.is) (c.unsolved_reply.ensures.reply text bytes why)
