use Rattle.std.proofs.Common.{sym, ◌∙◌}
use Rattle.prop_goal.proofs.kept_goal.KeptGoal.new.Goals as goal

pub returns-clause-keeps : goal.returns-clause-keeps
returns-clause-keeps c = λ list b. c.in_ok-kept.ensures.keeps c.args.program.now list b (c.goal_constant.ensures.constant (sym c.worst.ensures ∙ c.if-worst.false))

pub returns-then-worst-clause-keeps : goal.returns-then-worst-clause-keeps
returns-then-worst-clause-keeps c = λ list b. c.in_ok-terms.ensures.keeps c.args.program.now b
