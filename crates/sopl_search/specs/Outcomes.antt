-- What the outcome of a search says.
use Rattle.std.specs.Prelude.{◌≡◌, ℕ, ◌<◌, ℤ, List, [], length, Option, Some, None, IfSome, All, Any}
use Rattle.sopl_base.specs.Better.{IsBetter}
use Rattle.sopl_base.specs.declared.direction.Direction.{Direction}
use Rattle.sopl_base.specs.declared.direction.Direction.TheVariants.{Minimize, Maximize, Nothing}
use Rattle.box_problem.specs.Box.{Box}
use Rattle.box_problem.specs.BoxProblem.{BoxProblem}
use Rattle.box_problem.specs.Reached.{IsReached, NoneBetter, NoneSatisfies}
use Rattle.box_problem.specs.Opens.{IsBetterOf, IsBound, IsUnsettled}
use Rattle.sopl_search.specs.declared.outcome.Found.{Found}
use Rattle.sopl_search.specs.declared.outcome.Outcome.{Outcome}
use Rattle.sopl_search.specs.declared.outcome.Outcome.TheVariants.{Optimal, Infeasible, Bounded}

-- what was found is a point that satisfies, with its value
abbrev pub IsGood : BoxProblem → Found → Type 0
IsGood problem found = IsReached problem found.value found.cells

-- the value of what was found, if anything was
abbrev pub value_of : Option Found → Option ℤ
value_of None = None
value_of (Some found) = Some found.value

-- a point and its value
abbrev pub found_of : ℤ → List ℤ → Found
found_of value cells = record { value = value; cells = cells }

-- the one point of a box, and the better end over the box
abbrev pub found_at : BoxProblem → Box → Found
found_at problem b = found_of (problem.end b) b.lows

-- an outcome is true of all points of the root: the best one is one that satisfies, and none is better; or none satisfies; or what was found
-- satisfies, and none is better than the bound
abbrev pub IsTrueOf : BoxProblem → Outcome → Type 0
IsTrueOf problem (Optimal value cells) = IsReached problem value cells × NoneBetter problem value
IsTrueOf problem Infeasible = NoneSatisfies problem
IsTrueOf problem (Bounded found bound) = IfSome found (IsGood problem) × NoneBetter problem bound

-- a search gives up only where nothing is settled after as many nodes as the budget allows
abbrev pub HasCause : BoxProblem → ℕ → Outcome → Type 0
HasCause problem budget (Optimal value cells) = Unit {0}
HasCause problem budget Infeasible = Unit {0}
HasCause problem budget (Bounded found bound) = IsUnsettled problem (value_of found) budget bound

-- why a search ends so: where no node is open, the best point is the answer, or there is none; it is the answer, too, where no open box has a better end;
-- else it is told with the best of its value and of the better ends
abbrev pub EndsBy : BoxProblem → Option Found → List Box → Outcome → Type 0
EndsBy problem best bs (Optimal value cells) = (best ≡ Some (found_of value cells)) × All (λ b. ¬ IsBetter problem.direction (problem.end b) value) bs
EndsBy problem best bs Infeasible = (best ≡ None) × (bs ≡ [])
EndsBy problem best bs (Bounded found bound) =
    (found ≡ best) × IsBound problem (value_of best) bs bound × (0 < length bs)
    × IfSome best (λ f. Any (λ b. IsBetter problem.direction (problem.end b) f.value) bs)

-- it did not give up
abbrev pub IsSettled : Outcome → Type 0
IsSettled (Optimal value cells) = Unit {0}
IsSettled Infeasible = Unit {0}
IsSettled (Bounded found bound) = ⊥

-- two outcomes say the same: both that no point satisfies, or both the same best value, where there is an objective
abbrev pub IsSameValue : Direction → ℤ → ℤ → Type 0
IsSameValue Minimize v w = v ≡ w
IsSameValue Maximize v w = v ≡ w
IsSameValue Nothing v w = Unit {0}

abbrev pub SayTheSame : Direction → Outcome → Outcome → Type 0
SayTheSame direction (Optimal v cells) (Optimal w others) = IsSameValue direction v w
SayTheSame direction (Optimal v cells) Infeasible = ⊥
SayTheSame direction (Optimal v cells) (Bounded found bound) = ⊥
SayTheSame direction Infeasible (Optimal w others) = ⊥
SayTheSame direction Infeasible Infeasible = Unit {0}
SayTheSame direction Infeasible (Bounded found bound) = ⊥
SayTheSame direction (Bounded found bound) other = ⊥

-- so do any two that do not give up and are true of all points, however they were found
abbrev pub SettledOutcomesAgree : Type 0
SettledOutcomesAgree =
    (problem : BoxProblem) (one other : Outcome) → IsTrueOf problem one → IsTrueOf problem other → IsSettled one → IsSettled other
    → SayTheSame problem.direction one other

-- what is answered of the best point and of a bound: the bound is told where it is better, or where nothing was found
abbrev pub Settles : Direction → Option Found → ℤ → Outcome → Type 0
Settles direction best bound (Optimal value cells) =
    (best ≡ Some (found_of value cells)) × (¬ IsBetter direction bound value)
Settles direction best bound Infeasible = ⊥
Settles direction best bound (Bounded found x) =
    (found ≡ best) × (x ≡ bound) × IfSome best (λ f. IsBetter direction bound f.value)

-- what is answered of the best point where no node is open
abbrev pub Closes : Option Found → Outcome → Type 0
Closes best (Optimal value cells) = best ≡ Some (found_of value cells)
Closes best Infeasible = best ≡ None
Closes best (Bounded found x) = ⊥

-- what is answered of the best point and of the best end over open boxes, if any is open: it is closed, or settled by the better one of the best value and that end
pub record IsSettledBy (direction : Direction) (best : Option Found) (end : ℤ) (outcome : Outcome) : Type 0 where
  pub bound : ℤ
  pub better : IsBetterOf direction (value_of best) end bound
  pub settles : Settles direction best bound outcome

abbrev pub IsOutcomeBy : Direction → Option Found → Option ℤ → Outcome → Type 0
IsOutcomeBy direction best None outcome = Closes best outcome
IsOutcomeBy direction best (Some end) outcome = IsSettledBy direction best end outcome
