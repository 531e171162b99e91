use Rattle.std.proofs.Common.{refl}
use Rattle.log_check.proofs.Keeping.{sums_follow}
use Rattle.log_check.proofs.sums.Sums.tell_all.Goals as goal

pub returns : goal.returns
returns c = record { follow = λ b after agree. sums_follow b after c.args.cells.now c.args.self.now _ c.tell_all.ensures.changed refl refl refl agree }
