use Rattle.std.proofs.Common.{string_bytes}
use Rattle.answer_eval.proofs.Replying.{unreadable_so}
use Rattle.answer_eval.proofs.policy.unreadable_reply.Goals as goal

pub returns : goal.returns
returns c =
    record { reply = λ problem bytes reads. unreadable_so problem bytes (string_bytes c.in_ok-line.line) c.args.mistake reads c.in_ok-line.ensures.text }
