use Rattle.std.proofs.Common.{ℤ, Vec, Global}
use Rattle.sopl_base.proofs.Lists.{all_copied}
use Rattle.compile_scene.proofs.tables.copied.Goals as goal

pub returns : goal.returns
returns c =
    all_copied (λ (set : Vec ℤ Global). set.items) (λ (set : Vec ℤ Global). set.items) c.args.sets.now c.sets.set-index c.sets.list.items c.sets-test.false c.sets.invariant
