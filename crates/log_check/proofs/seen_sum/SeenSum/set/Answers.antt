use Rattle.std.proofs.Common.{◌∙◌, ◌+ℤ◌, ◌-ℤ◌, ap, ℤ, refl}
use Rattle.sopl_base.specs.declared.wide.Wide.{Wide}
use Rattle.log_check.proofs.Seeing.{part_there}
use Rattle.log_check.proofs.seen_sum.SeenSum.set.Goals as goal

pub returns-clause-set : goal.returns-clause-set
returns-clause-set c = record {
  parts = refl;
  sum = c.in-Some-checked_plus.ensures.sum
      ∙ ap (λ (z : ℤ). z +ℤ c.args.part.value) (c.in-Some.ensures.difference
      ∙ ap (λ (z : ℤ). c.args.self.now.sum.value -ℤ z) (ap (λ (w : Wide). w.value) c.index.ensures ∙ part_there c.args.self.now c.args.at c.index.result.now c.requires.exists));
  lists = refl;
  seen = refl;
}
