use Rattle.std.proofs.Common.{ap, subst, sym, ◌∙◌}
use Rattle.prop_goal.specs.Goals.{FitsKept, atoms_of}
use Rattle.prop_goal.specs.declared.kept_goal.KeptGoal.{KeptGoal}
use Rattle.prop_goal.proofs.kept_goal.KeptGoal.step.Goals as goal

pub returns-in-Expected-clause-fits : goal.returns-in-Expected-clause-fits
returns-in-Expected-clause-fits c = λ p cells fits. c.step.ensures.fits p cells (subst (λ (k : KeptGoal). FitsKept k p cells) c.in-Expected.is fits)

pub returns-in-Expected-clause-atoms : goal.returns-in-Expected-clause-atoms
returns-in-Expected-clause-atoms c = ap (λ list. list.items) c.step.ensures.atoms ∙ sym (ap atoms_of c.in-Expected.is)

pub returns-in-Expected-clause-fitted : goal.returns-in-Expected-clause-fitted
returns-in-Expected-clause-fitted c = λ p cells fits. subst (λ (k : KeptGoal). FitsKept k p cells) (sym c.in-Expected.is) (c.step.ensures.fitted p cells fits)
