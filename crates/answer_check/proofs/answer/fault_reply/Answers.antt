use Rattle.answer_texts.specs.declared.command.Command.TheVariants.{Solve}
use Rattle.answer_texts.specs.declared.command.Detail.TheVariants.{Full}
use Rattle.answer_texts.proofs.Answered.{fault_so}
use Rattle.answer_check.specs.CheckReplies.{IsCheckReply, refused_text, limited_text}
use Rattle.answer_check.proofs.answer.fault_reply.Goals as goal

pub returns-clause-reply : goal.returns-clause-reply
returns-clause-reply c =
    λ text log reason. fault_so (IsCheckReply text log) (Solve Full) text refused_text limited_text c.args.fault c.away_reply.result reason c.away_reply.ensures.told
