use Rattle.std.proofs.Common.{◌∙◌, subst, sym}
use Rattle.std.specs.List.{Contains}
use Rattle.sopl_base.specs.declared.reason.Reason.TheVariants.{Bound, Undefined}
use Rattle.term_program.specs.Stated.{box_problem_of}
use Rattle.prop_goal.specs.Goals.{IsOpenTo, RestsFor, lacks_of, reasons_of}
use Rattle.prop_goal.proofs.Objectives.{and_last, closed_by, has_last, narrows_by, not_looked, open_to, rest_together}
use Rattle.prop_goal.proofs.goals.Goal.found.Goals as goal

pub is_beaten-requires-clause-asked : goal.is_beaten-requires-clause-asked
is_beaten-requires-clause-asked c = record {
  made = c.requires.fits.made;
  inside = c.requires.inside;
  weighed = tt;
  counted = tt;
}

pub bound_step-requires-clause-asked : goal.bound_step-requires-clause-asked
bound_step-requires-clause-asked c = record {
  made = c.requires.fits.made;
  inside = c.requires.inside;
  weighed = tt;
  counted = tt;
}

pub returns-then-is_beaten : goal.returns-then-is_beaten
returns-then-is_beaten c = record {
  finds = closed_by c.args.program.now c.args.best c.args.store.now.box (reasons_of c.args.self.now) Bound (has_last Undefined c.args.self.now.scenarios Bound)
      (sym c.is_beaten.ensures ∙ c.if-is_beaten.true);
  looked = not_looked c.args.self.now c.args.program.now c.args.store.now.box c.requires.keeps;
}

pub returns-in-Some : goal.returns-in-Some
returns-in-Some c =
    let problem = box_problem_of c.args.program.now in
    let b = c.args.store.now.box in
    record {
      finds = narrows_by problem c.args.best b (reasons_of c.args.self.now) c.in-Some.step
          (and_last (IsOpenTo problem c.args.best b) (lacks_of c.args.self.now) Bound c.requires.whole
          (open_to c.args.program.now c.args.best b Bound (sym c.is_beaten.ensures ∙ c.if-is_beaten.false)))
          c.in-Some.ensures.own_reason c.in-Some.ensures.right;
      looked = not_looked c.args.self.now c.args.program.now c.args.store.now.box c.requires.keeps;
    }

pub returns-in-Some-bound_step : goal.returns-in-Some-bound_step
returns-in-Some-bound_step c =
    let problem = box_problem_of c.args.program.now in
    let b = c.args.store.now.box in
    record {
      finds = narrows_by problem c.args.best b (reasons_of c.args.self.now) c.in-Some-bound_step.step
          (and_last (IsOpenTo problem c.args.best b) (lacks_of c.args.self.now) Bound c.requires.whole
          (open_to c.args.program.now c.args.best b Bound (sym c.is_beaten.ensures ∙ c.if-is_beaten.false)))
          (subst (Contains (reasons_of c.args.self.now)) (sym c.in-Some-bound_step.ensures.own_reason) (has_last Undefined c.args.self.now.scenarios Bound))
          c.in-Some-bound_step.ensures.right;
      looked = c.bound_step.ensures.looked;
    }

pub returns-in-None : goal.returns-in-None
returns-in-None c =
    let problem = box_problem_of c.args.program.now in
    let b = c.args.store.now.box in
    record {
      finds = rest_together problem c.args.best b (reasons_of c.args.self.now)
          (and_last (RestsFor problem c.args.best b) (lacks_of c.args.self.now) Bound c.in_default.ensures.none c.in-None.ensures.none);
      looked = c.bound_step.ensures.looked;
    }
