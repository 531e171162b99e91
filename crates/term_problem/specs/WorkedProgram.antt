-- A small problem whose values, intervals and reasons are known: x is ordered before a demand of 1 or 3 is seen, which weigh 1 and 3; y or z is sold then.
use Rattle.std.specs.Prelude.{ℤ, pos, Bool, false, List, [], ◌∷◌, map, Option, Some}
use Rattle.sopl_base.specs.declared.comparison.CmpOp.TheVariants.{Le, Ge}
use Rattle.sopl_base.specs.declared.direction.Direction.{Direction}
use Rattle.sopl_base.specs.declared.direction.Direction.TheVariants.{Maximize}
use Rattle.sopl_base.specs.declared.reason.Reason.{Reason}
use Rattle.box_problem.specs.Box.{Box}
use Rattle.term_language.specs.Ends.{Ends}
use Rattle.term_language.specs.Terms.{Term, Product, Cond, Compare}
use Rattle.term_language.specs.WorkedIntervals.{box, x, y, z, number, difference, price_at}
use Rattle.term_problem.specs.Problems.{ChanceTerms, GoalTerms, ProblemTerms}
use Rattle.term_problem.specs.Objective.{expected_ends, worst_ends}
use Rattle.term_problem.specs.Refuted.{refutes}

-- no more is sold than is ordered
abbrev pub sold : List Cond
sold = Compare Le y x ∷ Compare Le z x ∷ []

-- something is sold for a demand of 1, and 2 at least for one of 3, with a probability of 3/4
abbrev pub served : ChanceTerms
served = record { conditions = Compare Ge y (number 1) ∷ Compare Ge z (number 2) ∷ []; p = pos 3; q = pos 4 }

-- what is sold brings 2, and what is ordered costs 1
abbrev pub gains : List Term
gains = difference (Product (number 2) y) x ∷ difference (Product (number 2) z) x ∷ []

abbrev pub goal_by : Direction → Bool → List Term → GoalTerms
goal_by direction worst terms = record { direction = direction; worst = worst; terms = terms }

abbrev pub with_goal : Option GoalTerms → ProblemTerms
with_goal goal =
    record { weights = pos 1 ∷ pos 3 ∷ []; whole = pos 4; hards = sold ∷ []; chances = served ∷ []; goal = goal }

abbrev pub ordering : ProblemTerms
ordering = with_goal (Some (goal_by Maximize false gains))

abbrev pub all_orders : Box
all_orders = box (pos 0) (pos 3) (pos 0) (pos 1) (pos 0) (pos 3)

-- where a price stands for the gain, which only 1 to 3 have
abbrev pub pricing : ProblemTerms
pricing = with_goal (Some (goal_by Maximize false (price_at x ∷ price_at z ∷ [])))

-- the objective's interval over a box, which is the root too
abbrev pub expected_over : Box → List Term → Ends
expected_over b terms = expected_ends b b (pos 1 ∷ pos 3 ∷ []) terms

abbrev pub worst_over : Direction → Box → List Term → Ends
worst_over direction b terms = worst_ends direction b b terms

-- which of these reasons close a box
abbrev pub closing : ProblemTerms → List Reason → Box → Option ℤ → List Bool
closing terms reasons b v = map (λ reason. refutes all_orders terms reason b v) reasons
