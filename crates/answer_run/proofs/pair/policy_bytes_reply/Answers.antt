use Rattle.std.proofs.Common.{IfOk, string_bytes, subst}
use Rattle.answer_eval.specs.EvalReplies.{IsEvalReply}
use Rattle.answer_run.proofs.pair.policy_bytes_reply.Goals as goal

pub returns-clause-reply : goal.returns-clause-reply
returns-clause-reply c =
    λ text is. subst (λ bs. IfOk c.policy_reply.result (λ reply. IsEvalReply text bs reply.status (string_bytes reply.line))) c.as_slice.ensures.value (c.policy_reply.ensures.reply text is)
