use Rattle.std.proofs.Common.{string_bytes}
use Rattle.answer_texts.proofs.Answered.{tree_so}
use Rattle.answer_texts.proofs.answer.shown_reply.Goals as goal

pub returns : goal.returns
returns c = record { reply = λ text plan states. tree_so text plan c.args.stated.now (string_bytes c.in_ok-line.line) states c.requires.solvable c.in_ok-line.ensures.text }
