use Rattle.std.proofs.Common.{rules}
use Rattle.log_check.proofs.Judging.{by_end}
use Rattle.log_check.proofs.judge.bound_closes.Goals as goal

pub returns-clause-closes : goal.returns-clause-closes
returns-clause-closes c =
    by_end c.args.program.now c.args.store.now.box c.args.best c.direction.result c.better_end-end.result.value _ c.is_no_better.result (search rules) c.direction.ensures
    c.better_end-end.ensures.end c.is_no_better.ensures
