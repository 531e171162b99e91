use Rattle.std.proofs.Common.{[], ◌++◌, ◌∙◌, ◌∷◌, map, subst, ℕ}
use Rattle.sopl_base.specs.declared.reason.Reason.TheVariants.{Bound, Undefined}
use Rattle.prop_core.specs.Findings.{Finds}
use Rattle.term_problem.specs.Search.{numbers_to}
use Rattle.term_program.specs.Stated.{box_problem_of}
use Rattle.prop_goal.proofs.goals.Goal.finding.Goals as goal

pub found-requires-clause-fits : goal.found-requires-clause-fits
found-requires-clause-fits c = c.look-known.ensures.looked.fits c.args.program.now c.requires.fits

pub returns : goal.returns
returns c =
    let looked = c.look-known.ensures.looked in
    let then = c.found.ensures.looked in
    record {
      finds = subst (λ (n : ℕ). Finds (box_problem_of c.args.program.now) (map Undefined (numbers_to n) ++ Bound ∷ []) c.args.best c.args.store.now.box c.found.result) looked.scenarios
          c.found.ensures.finds;
      looked = record {
        keeps = then.keeps;
        fits = λ p fits. then.fits p (looked.fits p fits);
        fitted = λ p fits. looked.fitted p (then.fitted p fits);
        scenarios = then.scenarios ∙ looked.scenarios;
        watched = then.watched ∙ looked.watched;
      };
    }
