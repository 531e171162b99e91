use Rattle.answer_texts.specs.declared.command.Command.TheVariants.{Tree}
use Rattle.answer_texts.proofs.Answered.{unsolved_so}
use Rattle.answer_texts.proofs.answer.tree_reply.Goals as goal

pub returns-in-Err : goal.returns-in-Err
returns-in-Err c =
    record { reply = λ text plan states. c.away_reply.ensures.reply Tree text plan (unsolved_so Tree text c.args.stated.now c.in-Err.fault states c.in-Err.ensures.refused) }
