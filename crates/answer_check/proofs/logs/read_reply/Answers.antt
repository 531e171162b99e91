use Rattle.answer_check.proofs.Replying.{verdict_replies}
use Rattle.answer_check.proofs.logs.read_reply.Goals as goal

pub returns : goal.returns
returns c =
    record {
      reply = λ model bytes unfolded is reads.
          verdict_replies model c.args.program.now unfolded is bytes c.args.log.now.rows.items c.args.log.now.footer reads c.in_ok-verdict.verdict c.verdict_reply.result
          c.in_ok-verdict.ensures.verdict c.verdict_reply.ensures.status c.verdict_reply.ensures.line;
    }
