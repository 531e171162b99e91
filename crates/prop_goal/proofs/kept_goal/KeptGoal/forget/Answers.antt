use Rattle.std.proofs.Common.{ap, subst, sym, ◌∙◌}
use Rattle.prop_goal.specs.Goals.{FitsKept, atoms_of}
use Rattle.prop_goal.specs.declared.kept_goal.KeptGoal.{KeptGoal}
use Rattle.prop_goal.proofs.kept_goal.KeptGoal.forget.Goals as goal

pub returns-in-Expected : goal.returns-in-Expected
returns-in-Expected c = record {
  keeps = λ cells list b fits.
      let fact = subst (λ (k : KeptGoal). FitsKept k c.args.program.now cells) c.in-Expected.is fits in
      c.forget.ensures.keeps c.args.program.now list b (c.goal_constant.ensures.constant fact.expected);
  fits = λ p cells fits. c.forget.ensures.fits p cells (subst (λ (k : KeptGoal). FitsKept k p cells) c.in-Expected.is fits);
  fitted = λ p cells fits. subst (λ (k : KeptGoal). FitsKept k p cells) (sym c.in-Expected.is) (c.forget.ensures.fitted p cells fits);
  atoms = ap (λ list. list.items) c.forget.ensures.atoms ∙ sym (ap atoms_of c.in-Expected.is);
}

pub returns-in-Worst : goal.returns-in-Worst
returns-in-Worst c = record {
  keeps = λ cells list b fits. c.forget-in-Worst.ensures.keeps c.args.program.now b;
  fits = λ p cells fits. c.forget-in-Worst.ensures.fits p (subst (λ (k : KeptGoal). FitsKept k p cells) c.in-Worst.is fits);
  fitted = λ p cells fits. subst (λ (k : KeptGoal). FitsKept k p cells) (sym c.in-Worst.is) (c.forget-in-Worst.ensures.fitted p fits);
  atoms = ap (λ list. list.items) c.forget-in-Worst.ensures.atoms ∙ sym (ap atoms_of c.in-Worst.is);
}
