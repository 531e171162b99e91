use Rattle.std.proofs.Common.{rules}
use Rattle.log_check.proofs.Judging.{narrowed_outside}
use Rattle.log_check.proofs.steps.apply.Goals as goal

pub returns-clause-follow : goal.returns-clause-follow
returns-clause-follow c =
    c.tell.ensures.follow c.args.store.now.box c.tighten.new.self.box
    (narrowed_outside c.args.store.now.box c.tighten.new.self.box c.args.step.now.cell c.args.step.now.side c.args.step.now.k c.requires.cut.exists (search rules))
