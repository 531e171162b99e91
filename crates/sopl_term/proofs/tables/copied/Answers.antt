use Rattle.std.proofs.Common.{◌∙◌, List, ℤ, Vec, Global}
use Rattle.sopl_base.proofs.Lists.{all_copied}
use Rattle.sopl_term.proofs.Lists.{map_same}
use Rattle.sopl_term.proofs.tables.copied.Goals as goal

pub returns : goal.returns
returns c =
    all_copied (λ (set : List ℤ). set) (λ (set : Vec ℤ Global). set.items) c.args.sets.now c.loop-set.set-index c.loop-set.list.items c.loop-set-test.false c.loop-set.invariant
    ∙ map_same c.args.sets.now
