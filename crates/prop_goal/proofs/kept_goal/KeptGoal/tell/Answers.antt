use Rattle.std.proofs.Common.{ap, subst, sym, ◌∙◌}
use Rattle.prop_goal.specs.Goals.{FitsKept, KeepsGoal, atoms_of}
use Rattle.prop_goal.specs.declared.kept_goal.KeptGoal.{KeptGoal}
use Rattle.prop_goal.proofs.kept_goal.KeptGoal.tell.Goals as goal

pub returns-in-Expected : goal.returns-in-Expected
returns-in-Expected c = record {
  keeps = λ program list b d agree keeps. c.tell.ensures.keeps program list b d agree (subst (λ (k : KeptGoal). KeepsGoal k program list b) c.in-Expected.is keeps);
  fits = λ p cells fits. c.tell.ensures.fits p cells (subst (λ (k : KeptGoal). FitsKept k p cells) c.in-Expected.is fits);
  fitted = λ p cells fits. subst (λ (k : KeptGoal). FitsKept k p cells) (sym c.in-Expected.is) (c.tell.ensures.fitted p cells fits);
  atoms = ap (λ list. list.items) c.tell.ensures.atoms ∙ sym (ap atoms_of c.in-Expected.is);
}

pub returns-in-Worst : goal.returns-in-Worst
returns-in-Worst c = record {
  keeps = λ program list b d agree keeps. c.tell-in-Worst.ensures.keeps program b d agree (subst (λ (k : KeptGoal). KeepsGoal k program list b) c.in-Worst.is keeps);
  fits = λ p cells fits. c.tell-in-Worst.ensures.fits p (subst (λ (k : KeptGoal). FitsKept k p cells) c.in-Worst.is fits);
  fitted = λ p cells fits. subst (λ (k : KeptGoal). FitsKept k p cells) (sym c.in-Worst.is) (c.tell-in-Worst.ensures.fitted p fits);
  atoms = ap (λ list. list.items) c.tell-in-Worst.ensures.atoms ∙ sym (ap atoms_of c.in-Worst.is);
}
