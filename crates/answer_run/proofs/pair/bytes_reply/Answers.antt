use Rattle.std.proofs.Common.{ℕ, List, IfOk, string_bytes, sym, subst}
use Rattle.answer_run.specs.Bases.{IsBasisFor, judging}
use Rattle.answer_run.specs.Replies.{IsPairReply}
use Rattle.answer_run.specs.declared.pair.Basis.{Basis}
use Rattle.answer_run.proofs.pair.bytes_reply.Goals as goal

pub program_reply-requires : goal.program_reply-requires
program_reply-requires c = record { program = (c.requires.basis.0, subst (IsBasisFor c.requires.basis.0) c.in-Log.is c.requires.basis.1) }

pub returns-in-Log-clause-reply : goal.returns-in-Log-clause-reply
returns-in-Log-clause-reply c =
    subst
    (λ (b : Basis). (text : List ℕ) → IsBasisFor text b → IfOk c.program_reply.result (λ reply. IsPairReply (judging b) text c.args.bytes.items reply.status (string_bytes reply.line)))
    (sym c.in-Log.is) c.program_reply.ensures.reply

pub policy_bytes_reply-requires : goal.policy_bytes_reply-requires
policy_bytes_reply-requires c = record { stated = (c.requires.basis.0, subst (IsBasisFor c.requires.basis.0) c.in-Policy.is c.requires.basis.1) }

pub returns-in-Policy-clause-reply : goal.returns-in-Policy-clause-reply
returns-in-Policy-clause-reply c =
    subst
    (λ (b : Basis). (text : List ℕ) → IsBasisFor text b → IfOk c.policy_bytes_reply.result (λ reply. IsPairReply (judging b) text c.args.bytes.items reply.status (string_bytes reply.line)))
    (sym c.in-Policy.is) c.policy_bytes_reply.ensures.reply
