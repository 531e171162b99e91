-- Which reply an answer makes.
use Rattle.answer_texts.specs.declared.solve_answer.Answer.{Answer}
use Rattle.answer_texts.specs.declared.solve_answer.Answer.TheVariants.{Settled, Cut}
use Rattle.answer_texts.specs.declared.status.Status.TheVariants.{Done, Bounded}
use Rattle.answer_texts.specs.declared.reply.Reply.{Reply}

abbrev pub reply_of : Answer → Reply
reply_of (Settled line) = record { status = Done; line = line }
reply_of (Cut line) = record { status = Bounded; line = line }
