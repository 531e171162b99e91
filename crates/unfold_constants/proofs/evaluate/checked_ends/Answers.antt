use Rattle.unfold_constants.proofs.Steps.{checked_met, checked_failed}
use Rattle.unfold_constants.proofs.evaluate.checked_ends.Goals as goal

pub returns-in-Ok : goal.returns-in-Ok
returns-in-Ok c count = checked_met c.args.ends.now.lo c.args.ends.now.hi count (c.in-Ok.ensures count)

pub returns-in-Err : goal.returns-in-Err
returns-in-Err c count = checked_failed c.args.ends.now.lo c.args.ends.now.hi count c.in-Err.fault (c.in-Err.ensures count)
