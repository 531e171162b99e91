use Rattle.scen_accept.specs.Stated.{problem_in}
use Rattle.policy_eval.specs.Shown.{report_shown}
use Rattle.answer_eval.proofs.Replying.{report_replies}
use Rattle.answer_eval.proofs.policy.read_reply.Goals as goal

pub returns : goal.returns
returns c =
    record {
      reply = λ bytes reads.
          report_replies (problem_in c.args.stated.now) bytes c.args.policy.now (report_shown c.in_ok-report.report) c.report_reply.result c.requires.policy reads
          c.in_ok-report.ensures c.report_reply.ensures.status c.report_reply.ensures.line;
    }
