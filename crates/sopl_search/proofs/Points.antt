-- The row of the point that was found.
use Rattle.std.proofs.Common.{◌≡◌, List, [], ◌∷◌, ◌++◌, length, Option, Some, None, IfSome, arith, sym, ap, subst, ◌∙◌}
use Rattle.std.proofs.lemmas.List.{length-append}
use Rattle.box_problem.specs.Box.{Box}
use Rattle.box_problem.specs.Steps.{after_steps}
use Rattle.box_problem.specs.BoxProblem.{BoxProblem}
use Rattle.log_rows.specs.declared.rows.EndLine.TheVariants.{Point}
use Rattle.log_rows.specs.declared.rows.Row.{Row}
use Rattle.log_rows.specs.Rows.{box_at}
use Rattle.log_rows.proofs.Places.{final_last, final_stays, row_last, row_stays}
use Rattle.sopl_search.specs.declared.outcome.Found.{Found}
use Rattle.sopl_search.specs.declared.outcome.Outcome.{Outcome}
use Rattle.sopl_search.specs.declared.outcome.Outcome.TheVariants.{Optimal, Infeasible, Bounded}
use Rattle.sopl_search.specs.Logged.{IsPointRow, told_point}
use Rattle.sopl_search.specs.Outcomes.{EndsBy, found_at}

-- it stays where rows follow
point_stays : (problem : BoxProblem) (xs ys : List Row) (found : Found) → IsPointRow problem xs found → IsPointRow problem (xs ++ ys) found
point_stays problem xs ys found point = record {
  row = point.row;
  exists = omega (arith, point.exists, length-append xs ys);
  is_point = ap (λ (r : Row). r.end) (row_stays xs ys point.row point.exists) ∙ point.is_point;
  same_cells = ap (λ (b : Box). b.lows) (final_stays problem.root xs ys point.row point.exists) ∙ point.same_cells;
  same_value = point.same_value;
}

pub best_stays : (problem : BoxProblem) (xs ys : List Row) (best : Option Found) → IfSome best (IsPointRow problem xs) → IfSome best (IsPointRow problem (xs ++ ys))
best_stays problem xs ys None is = tt
best_stays problem xs ys (Some found) is = point_stays problem xs ys found is

-- a row that ends as a point, where the better end is the point's value
pub new_point : (problem : BoxProblem) (rows : List Row) (row : Row) (b : Box) → row.end ≡ Point → b ≡ after_steps (box_at problem.root rows row.parent) row.steps
    → problem.end b ≡ problem.value b.lows → IsPointRow problem (rows ++ row ∷ []) (found_at problem b)
new_point problem rows row b ends is worth = record {
  row = length rows;
  exists = omega (arith, length-append rows (row ∷ []));
  is_point = ap (λ (r : Row). r.end) (row_last rows row []) ∙ ends;
  same_cells = ap (λ (x : Box). x.lows) (final_last problem.root rows row ∙ sym is);
  same_value = sym worth;
}

-- what an outcome tells is what was found
pub ends_tell : (P : Found → Type 0) (problem : BoxProblem) (best : Option Found) (bs : List Box) (outcome : Outcome) → EndsBy problem best bs outcome → IfSome best P
    → IfSome (told_point outcome) P
ends_tell P problem best bs (Optimal value cells) ends holds = subst (λ (found : Option Found). IfSome found P) ends.0 holds
ends_tell P problem best bs Infeasible ends holds = tt
ends_tell P problem best bs (Bounded found bound) ends holds = subst (λ (f : Option Found). IfSome f P) (sym ends.0) holds
