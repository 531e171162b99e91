use Rattle.answer_check.proofs.Replying.{program_judged, program_replies}
use Rattle.answer_check.proofs.answer.program_reply.Goals as goal

pub returns-clause-reply : goal.returns-clause-reply
returns-clause-reply c = λ text is. program_replies text c.args.log.items c.args.program.now c.log_reply.result is c.log_reply.ensures.reply

pub returns-clause-judged : goal.returns-clause-judged
returns-clause-judged c =
    program_judged c.requires.program.0 c.args.log.items c.args.program.now c.log_reply.result c.requires.program.1 c.log_reply.ensures.reply
