use Rattle.std.proofs.Common.{rules}
use Rattle.sopl_base.specs.declared.reason.Side.TheVariants.{Le}
use Rattle.log_check.proofs.Judging.{narrowed_outside}
use Rattle.log_check.proofs.walk.take_low.Goals as goal

pub returns-clause-follow : goal.returns-clause-follow
returns-clause-follow c =
    c.tell.ensures.follow c.args.store.now.box c.tighten.new.self.box
    (narrowed_outside c.args.store.now.box c.tighten.new.self.box c.args.cut.now.cell Le c.args.cut.now.k c.requires.cut.exists (search rules))
