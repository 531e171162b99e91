use Rattle.std.proofs.Common.{◌*◌, arith, refl}
use Rattle.std.proofs.lemmas.List.{get_or_default}
use Rattle.prop_cumul.proofs.Slots.{capacity_there}
use Rattle.prop_cumul.proofs.profile.capacity_behind.Goals as goal

pub returns : goal.returns
returns c =
    capacity_there c.args.ends.now c.args.count (3 * c.args.count) _ refl c.requires.exists
    (get_or_default c.args.ends.now (3 * c.args.count) _ _ (omega (arith, c.requires.exists)))
