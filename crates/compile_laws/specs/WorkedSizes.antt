-- Small problems in terms over three cells, of which the first sizes that pass a limit are known.
use Rattle.std.specs.Prelude.{◌^◌, ℤ, pos, Bool, List, [], ◌∷◌, Option}
use Rattle.sopl_base.specs.declared.comparison.CmpOp.TheVariants.{Ge}
use Rattle.sopl_base.specs.declared.direction.Direction.TheVariants.{Maximize}
use Rattle.box_problem.specs.Box.{Box}
use Rattle.term_language.specs.Terms.{Term, Constant, Product, Cond, Compare}
use Rattle.term_language.specs.WorkedIntervals.{box, x, y, number}
use Rattle.term_problem.specs.Problems.{ChanceTerms, GoalTerms, ProblemTerms}

-- x lies in 0..65535, and y and z in 0..1
abbrev pub wide : Box
wide = box (pos 0) (pos 65535) (pos 0) (pos 1) (pos 0) (pos 1)

-- x times 2^40, and x * y times 2^40
abbrev pub large : Term
large = Product x (Constant (pos (2 ^ 40)))

abbrev pub larger : Term
larger = Product (Product x y) (Constant (pos (2 ^ 40)))

-- a term is at least 0
abbrev pub positive : Term → Cond
positive t = Compare Ge t (number 0)

-- a chance constraint of these conditions, with a probability of 1/2
abbrev pub likely : List Cond → ChanceTerms
likely conditions = record { conditions = conditions; p = pos 1; q = pos 2 }

-- an objective of these terms
abbrev pub maximal : Bool → List Term → GoalTerms
maximal worst terms = record { direction = Maximize; worst = worst; terms = terms }

-- a problem of two scenarios, which weigh this much together
abbrev pub posed : ℤ → List (List Cond) → List ChanceTerms → Option GoalTerms → ProblemTerms
posed whole hards chances goal = record { weights = pos 1 ∷ pos 3 ∷ []; whole = whole; hards = hards; chances = chances; goal = goal }
