use Rattle.std.proofs.Common.{subst}
use Rattle.box_problem.specs.Box.{Box}
use Rattle.log_check.specs.KeptSums.{SumsFollow}
use Rattle.log_check.proofs.walk.Walk.split.Goals as goal

pub returns-clause-follow : goal.returns-clause-follow
returns-clause-follow c =
    subst (λ (b : Box). SumsFollow b c.take_low.new.store.box c.args.self.now.sums c.take_low.new.sums) c.mark.ensures.same_box c.take_low.ensures.follow
