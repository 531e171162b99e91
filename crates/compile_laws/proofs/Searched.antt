-- What a search finds of the points of a text is so of its policies.
use Rattle.std.proofs.Common.{◌≡◌, ◌∙◌, sym, ap, subst, ℤ, pos, List, Option, Some, unwrap_or}
use Rattle.sopl_base.specs.Better.{IsBetter}
use Rattle.sopl_ast.specs.Cells.{cells}
use Rattle.sopl_ast.specs.Unfolding.{problem_of}
use Rattle.sopl_ast.specs.Whole.{ModelTree}
use Rattle.term_problem.specs.Points.{Holds, worth}
use Rattle.term_problem.specs.Problems.{direction_in}
use Rattle.term_problem.proofs.Points.{points_are_told}
use Rattle.term_problem.proofs.Worth.{points_have_values}
use Rattle.compile_laws.specs.WellMade.{IsUnfolded, searched, UnbeatenIsOptimal, UnreachedIsInfeasible}
use Rattle.compile_laws.specs.Whole.{problem_terms}
use Rattle.compile_laws.proofs.Best.{best_is_optimal, none_is_infeasible}
use Rattle.compile_laws.proofs.Root.{points_of_box}
use Rattle.compile_laws.proofs.WellMade.{problems_are_well_made}
use Rattle.compile_laws.proofs.Whole.{texts_are_arrays}

-- a value that is there is the one that a search sees
seen : (o : Option ℤ) (v : ℤ) → o ≡ Some v → unwrap_or o (pos 0) ≡ v
seen o v there = ap (λ u. unwrap_or u (pos 0)) there

valued : (whole : ModelTree) → IsUnfolded whole → (point : List ℤ) → Holds (problem_terms (problem_of whole)) point
    → worth (problem_terms (problem_of whole)) point ≡ Some ((searched whole).value point)
valued whole is point all =
    let terms = problem_terms (problem_of whole) in
    let found : (v : ℤ) × (worth terms point ≡ Some v) = points_have_values terms point (problems_are_well_made whole is.from is.passes) all in
    found.1 ∙ ap Some (sym (seen (worth terms point) found.0 found.1))

pub unbeaten_is_optimal : UnbeatenIsOptimal
unbeaten_is_optimal whole is point inside passed none =
    let terms = problem_terms (problem_of whole) in
    let all = cells (problem_of whole) in
    best_is_optimal (problem_of whole) (texts_are_arrays whole is.typed is.passes) point ((searched whole).value point)
    (record {
      inside = (points_of_box all point).0 inside;
      satisfies = (points_are_told terms point).0 passed;
      valued = valued whole is point ((points_are_told terms point).0 passed);
      best = λ other better among holds is_worth wins.
          none other ((points_of_box all other).1 among)
          (record {
            satisfies = (points_are_told terms other).1 holds;
            better = subst (λ v. IsBetter (direction_in terms) v ((searched whole).value point)) (sym (seen (worth terms other) better is_worth)) wins;
          });
    })

pub unreached_is_infeasible : UnreachedIsInfeasible
unreached_is_infeasible whole is none =
    none_is_infeasible (problem_of whole) (texts_are_arrays whole is.typed is.passes)
    (λ point among holds.
    none point ((points_of_box (cells (problem_of whole)) point).1 among)
    (record { satisfies = (points_are_told (problem_terms (problem_of whole)) point).1 holds; better = tt }))
