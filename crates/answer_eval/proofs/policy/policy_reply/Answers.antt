use Rattle.scen_accept.specs.Stated.{problem_in}
use Rattle.answer_eval.proofs.Replying.{policy_replies, policy_told}
use Rattle.answer_eval.proofs.policy.policy_reply.Goals as goal

pub returns-clause-reply : goal.returns-clause-reply
returns-clause-reply c = λ text is. policy_replies text c.args.policy.now c.args.stated.now c.bytes_reply.result is c.bytes_reply.ensures.reply

pub returns-clause-of_policy : goal.returns-clause-of_policy
returns-clause-of_policy c = policy_told (problem_in c.args.stated.now) c.args.policy.now c.bytes_reply.result c.bytes_reply.ensures.reply
