use Rattle.std.proofs.Common.{◌≡◌, List, refl, rules, subst, sym, true, ℕ}
use Rattle.sopl_base.specs.declared.reason.Reason.{Reason}
use Rattle.sopl_base.specs.declared.reason.Reason.TheVariants.{Bound}
use Rattle.prop_shave.specs.Probes.{HasAll}
use Rattle.term_problem.specs.Reasons.{reason_mentions}
use Rattle.term_program.specs.Programs.{problem_in, root_in}
use Rattle.prop_chance.specs.KeptWeights.{IfSo}
use Rattle.prop_goal.specs.Goals.{KnowsGoal}
use Rattle.prop_goal.proofs.Objectives.{fits_kept, kept_fitted}
use Rattle.prop_goal.proofs.goals.Goal.bound_step.Goals as goal

pub first_step-requires-clause-all : goal.first_step-requires-clause-all
first_step-requires-clause-all c =
    let root = root_in c.args.probe.now.program.now in
    let terms = problem_in c.args.probe.now.program.now in
    subst (λ (r : Reason). HasAll c.as_slice.result.now (reason_mentions root terms r)) (sym c.requires.reason)
    (subst (λ (cells : List ℕ). HasAll cells (reason_mentions root terms Bound)) (sym c.as_slice.ensures.value) c.requires.fits.watched.all)

pub step-requires-clause-fits : goal.step-requires-clause-fits
step-requires-clause-fits c = c.requires.fits.kept

pub step-requires-clause-watched : goal.step-requires-clause-watched
step-requires-clause-watched c = c.requires.fits.watched

pub step-requires-clause-known : goal.step-requires-clause-known
step-requires-clause-known c =
    let p = c.args.self.now in
    let q = c.args.probe.now in
    let met : c.args.known ≡ true = search rules in
    subst (λ t. IfSo t (KnowsGoal p.kept q.program.now p.watched.cells.items q.store.now.box)) met c.requires.known

pub returns-clause-looked : goal.returns-clause-looked
returns-clause-looked c = record {
  keeps = c.step.ensures.keeps;
  fits = fits_kept c.args.self.now c.step.new.self c.args.self.now.rested c.step.ensures.atoms c.step.ensures.fits;
  fitted = kept_fitted c.args.self.now c.step.new.self c.args.self.now.rested c.step.ensures.atoms c.step.ensures.fitted;
  scenarios = refl;
  watched = refl;
}
