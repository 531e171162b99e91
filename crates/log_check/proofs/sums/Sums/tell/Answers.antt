use Rattle.std.proofs.Common.{[], refl, ◌∷◌}
use Rattle.log_check.proofs.Keeping.{sums_follow}
use Rattle.log_check.proofs.sums.Sums.tell.Goals as goal

pub returns : goal.returns
returns c = record { follow = λ b after agree. sums_follow b after (c.args.cell ∷ []) c.args.self.now _ c.tell.ensures.changed refl refl refl agree }
