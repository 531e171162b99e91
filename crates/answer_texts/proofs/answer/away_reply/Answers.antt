use Rattle.std.proofs.Common.{IfOk, None, string_bytes, subst, sym}
use Rattle.sopl_base.specs.declared.fault.Fault.{Fault}
use Rattle.answer_texts.specs.Away.{TellsFault}
use Rattle.answer_texts.specs.Replies.{IsTextReply, limited, refused}
use Rattle.answer_texts.proofs.Answered.{fault_so, limit_told, refused_told}
use Rattle.answer_texts.proofs.answer.away_reply.Goals as goal

pub returns-in-Text-clause-told : goal.returns-in-Text-clause-told
returns-in-Text-clause-told c =
    subst (λ (f : Fault). IfOk c.refused_reply.result (λ reply. TellsFault f reply.status (string_bytes reply.line))) (sym c.in-Text.is)
    (refused_told c.in-Text.refusal c.refused_reply.result c.refused_reply.ensures.status c.refused_reply.ensures.line)

pub returns-in-Text-clause-reply : goal.returns-in-Text-clause-reply
returns-in-Text-clause-reply c =
    λ command text plan reason.
    fault_so (IsTextReply text plan command None) command text (refused command) (limited command) c.args.fault c.refused_reply.result reason (returns-in-Text-clause-told c)

pub returns-in-Limit-clause-told : goal.returns-in-Limit-clause-told
returns-in-Limit-clause-told c =
    subst (λ (f : Fault). IfOk c.limit_reply.result (λ reply. TellsFault f reply.status (string_bytes reply.line))) (sym c.in-Limit.is)
    (limit_told c.in-Limit.excess c.limit_reply.result c.limit_reply.ensures.status c.limit_reply.ensures.line)

pub returns-in-Limit-clause-reply : goal.returns-in-Limit-clause-reply
returns-in-Limit-clause-reply c =
    λ command text plan over.
    fault_so (IsTextReply text plan command None) command text (refused command) (limited command) c.args.fault c.limit_reply.result over (returns-in-Limit-clause-told c)
