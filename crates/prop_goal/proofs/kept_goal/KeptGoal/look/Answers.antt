use Rattle.std.proofs.Common.{ap, subst, sym, ◌∙◌}
use Rattle.prop_goal.specs.Goals.{FitsKept, atoms_of}
use Rattle.prop_goal.specs.declared.kept_goal.KeptGoal.{KeptGoal}
use Rattle.prop_goal.proofs.kept_goal.KeptGoal.look.Goals as goal

pub returns-in-Expected : goal.returns-in-Expected
returns-in-Expected c = record {
  known = c.look.ensures.known;
  keeps = c.look.ensures.keeps;
  fits = λ p cells fits. c.look.ensures.fits p cells (subst (λ (k : KeptGoal). FitsKept k p cells) c.in-Expected.is fits);
  fitted = λ p cells fits. subst (λ (k : KeptGoal). FitsKept k p cells) (sym c.in-Expected.is) (c.look.ensures.fitted p cells fits);
  atoms = ap (λ list. list.items) c.look.ensures.atoms ∙ sym (ap atoms_of c.in-Expected.is);
}

pub returns-in-Worst : goal.returns-in-Worst
returns-in-Worst c = record {
  known = c.look-in-Worst.ensures.seen;
  keeps = c.look-in-Worst.ensures.keeps;
  fits = λ p cells fits. c.look-in-Worst.ensures.fits p (subst (λ (k : KeptGoal). FitsKept k p cells) c.in-Worst.is fits);
  fitted = λ p cells fits. subst (λ (k : KeptGoal). FitsKept k p cells) (sym c.in-Worst.is) (c.look-in-Worst.ensures.fitted p fits);
  atoms = ap (λ list. list.items) c.look-in-Worst.ensures.atoms ∙ sym (ap atoms_of c.in-Worst.is);
}
