use Rattle.std.proofs.Common.{◌-ℤ◌, ap, ◌∙◌}
use Rattle.prop_shave.specs.declared.part_ends.PartEnds.{PartEnds}
use Rattle.prop_goal.specs.declared.kept_ends.KeptEnds.{KeptEnds}
use Rattle.prop_goal.proofs.KeptEnds.{sum_put}
use Rattle.prop_goal.proofs.kept_ends.KeptEnds.put.Goals as goal

pub returns-clause-summed : goal.returns-clause-summed
returns-clause-summed c = λ program summed.
    let old = c.args.self.now in
    let k : KeptEnds = record { parts = c.put.new.self; end = c.in-Some-checked_plus.end; turns = old.turns } in
    sum_put program old k c.args.number c.args.ends.now c.index.result.now c.in-Some.less c.requires.exists c.requires.one_each c.put.ensures.put
    (c.in-Some.ensures.difference ∙ ap (λ (e : PartEnds). old.end.value -ℤ e.better.value) c.index.ensures) c.in-Some-checked_plus.ensures.sum summed
