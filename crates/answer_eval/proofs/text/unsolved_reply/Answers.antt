use Rattle.answer_texts.specs.declared.command.Command.TheVariants.{Solve}
use Rattle.answer_texts.specs.declared.command.Detail.TheVariants.{Full}
use Rattle.answer_texts.proofs.Answered.{fault_so}
use Rattle.answer_eval.specs.EvalReplies.{IsEvalReply, text_refused, text_limited}
use Rattle.answer_eval.proofs.text.unsolved_reply.Goals as goal

pub returns-clause-reply : goal.returns-clause-reply
returns-clause-reply c =
    λ text bytes reason. fault_so (IsEvalReply text bytes) (Solve Full) text text_refused text_limited c.args.fault c.away_reply.result reason c.away_reply.ensures.told
