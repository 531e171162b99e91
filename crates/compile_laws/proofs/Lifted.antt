-- From points to policies.
use Rattle.std.proofs.Common.{◌≡◌, ◌∙◌, sym, ap, subst, ℤ, pos, List, Some, unwrap_or}
use Rattle.sopl_base.specs.Better.{IsBetter}
use Rattle.sopl_base.specs.declared.direction.Direction.{Direction}
use Rattle.sopl_ast.specs.Cells.{cells, IsPoint, policy_at}
use Rattle.sopl_ast.specs.Optimal.{Satisfies, numerator}
use Rattle.sopl_ast.specs.Policies.{Policy}
use Rattle.sopl_ast.specs.Unfolding.{problem_of}
use Rattle.policy_tree.proofs.Bijection.{points_are_policies, policies_are_points}
use Rattle.term_problem.specs.Points.{Holds, worth}
use Rattle.term_problem.specs.Problems.{direction_in}
use Rattle.term_problem.proofs.Points.{points_are_told}
use Rattle.term_problem.proofs.Worth.{points_have_values}
use Rattle.compile_laws.specs.WellMade.{searched}
use Rattle.compile_laws.specs.Whole.{problem_terms}
use Rattle.compile_laws.specs.WholeLaws.{MeansAt}
use Rattle.compile_laws.proofs.Best.{values_are_same}
use Rattle.compile_laws.proofs.Root.{points_of_box}
use Rattle.compile_laws.proofs.Searched.{unreached_is_infeasible}
use Rattle.compile_laws.proofs.WellMade.{problems_are_well_made}
use Rattle.compile_laws.proofs.Whole.{problems_mean, texts_are_arrays}
use Rattle.compile_laws.specs.BoundLaws.{BoundsHold, ReachedIsWorth, UnbeatenIsBest, UnreachedIsNone}

pub reached_is_worth : ReachedIsWorth
reached_is_worth model value point is reached =
    let problem = problem_of model in
    let terms = problem_terms problem in
    let inside : IsPoint (cells problem) point = (points_of_box (cells problem) point).0 reached.inside in
    let holds : Holds terms point = (points_are_told terms point).0 reached.satisfies in
    let there : (v : ℤ) × (worth terms point ≡ Some v) = points_have_values terms point (problems_are_well_made model is.from is.passes) holds in
    let here : MeansAt problem point = problems_mean problem (texts_are_arrays model is.typed is.passes) point inside in
    let same : value ≡ there.0 = reached.valued ∙ ap (λ o. unwrap_or o (pos 0)) there.1 in
    record {
      policy_of = points_are_policies problem point inside;
      satisfies = here.satisfies.1 holds;
      worth = here.worth ∙ there.1 ∙ ap Some (sym same);
    }

pub bounds_hold : BoundsHold
bounds_hold model bound is none =
    record {
      none_better = λ policy value of wins.
          let problem = problem_of model in
          let terms = problem_terms problem in
          let p : (xs : List ℤ) × IsPoint (cells problem) xs × (policy ≡ policy_at (cells problem) xs) = policies_are_points problem policy of.policy_of in
          let here : MeansAt problem p.0 = problems_mean problem (texts_are_arrays model is.typed is.passes) p.0 p.1 in
          let holds : Holds terms p.0 = here.satisfies.0 (subst (λ (m : Policy). Satisfies problem m) p.2 of.satisfies) in
          let is_value : worth terms p.0 ≡ Some value = sym here.worth ∙ subst (λ (m : Policy). numerator problem m ≡ Some value) p.2 of.worth in
          let seen : unwrap_or (worth terms p.0) (pos 0) ≡ value = ap (λ o. unwrap_or o (pos 0)) is_value in
          none p.0 ((points_of_box (cells problem) p.0).1 p.1) ((points_are_told terms p.0).1 holds)
          (subst (λ v. IsBetter (direction_in terms) v bound) (sym seen)
          (subst (λ (d : Direction). IsBetter d value bound) (sym (values_are_same problem).direction) wins));
    }

pub unbeaten_is_best : UnbeatenIsBest
unbeaten_is_best model value point is reached none =
    let own = reached_is_worth model value point is reached in
    record {
      policy_of = own.policy_of;
      satisfies = own.satisfies;
      worth = own.worth;
      best = λ other better of satisfies worth_is.
          (bounds_hold model value is none).none_better other better (record { policy_of = of; satisfies = satisfies; worth = worth_is });
    }

pub unreached_is_none : UnreachedIsNone
unreached_is_none model is none = unreached_is_infeasible model is (λ point inside beats. none point inside beats.satisfies)
