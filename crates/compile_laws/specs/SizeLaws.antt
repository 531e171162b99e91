-- What holds of the sizes of terms in a row, and of the objective's.
use Rattle.std.specs.Prelude.{◌≡◌, ◌↔◌, ℕ, ◌-◌, ◌<◌, ◌≤◌, ◌^◌, pos, ◌≤ℤ◌, ◌<ℤ◌, List, ◌∷◌, ◌++◌, Some, None, IfSome, false}
use Rattle.std.specs.List.{AllByRecursion}
use Rattle.std.specs.Int.{int_min}
use Rattle.sopl_base.specs.declared.fault.Excess.{Excess}
use Rattle.sopl_base.specs.declared.fault.Fault.{Fault}
use Rattle.sopl_base.specs.declared.codes.TheConstants as codes
use Rattle.sopl_base.specs.declared.limits.TheConstants as largest
use Rattle.sopl_ast.specs.Numbers.{or_else}
use Rattle.box_problem.specs.Box.{Box}
use Rattle.term_language.specs.Sizes.{size}
use Rattle.term_language.specs.Terms.{Term}
use Rattle.term_problem.specs.Problems.{GoalTerms, ProblemTerms}
use Rattle.compile_laws.specs.Measured.{most_size, first_large, goal_number, goal_excess, IsSizeFault}

-- none of several terms is too large exactly where each has a size of at most 2^40
abbrev pub NoneIsLarge : Type 0
NoneIsLarge = (root : Box) (terms : List Term) → (first_large root terms ≡ None) ↔ AllByRecursion (λ t. size root t ≤ most_size) terms

-- in a list there is a term of this size, which is too large, and none before it is
pub record IsFirstLarge (root : Box) (terms : List Term) (n : ℕ) : Type 0 where
  pub before : List Term
  pub first : Term
  pub later : List Term
  pub stands : terms ≡ before ++ first ∷ later
  pub measured : size root first ≡ n
  pub large : most_size < n
  pub others : AllByRecursion (λ t. size root t ≤ most_size) before

-- that is the one which is found
abbrev pub FirstIsFound : Type 0
FirstIsFound = (root : Box) (terms : List Term) (n : ℕ) → (first_large root terms ≡ Some n) ↔ IsFirstLarge root terms n

-- terms behind others are looked at where none of those is too large
abbrev pub LargeInTurn : Type 0
LargeInTurn = (root : Box) (xs ys : List Term) → first_large root (xs ++ ys) ≡ or_else (first_large root xs) (first_large root ys)

-- so the faults of all sizes are those of the later ones, where none of the first is too large
abbrev pub FaultsInTurn : Type 0
FaultsInTurn = (root : Box) (xs ys : List Term) (fault : Fault) → first_large root xs ≡ None → IsSizeFault root ys fault → IsSizeFault root (xs ++ ys) fault

-- and the faults of the first ones are faults of all
abbrev pub FaultsEnd : Type 0
FaultsEnd = (root : Box) (xs ys : List Term) (fault : Fault) → IsSizeFault root xs fault → IsSizeFault root (xs ++ ys) fault

-- an expected objective is allowed exactly where its number is at most 2^126
abbrev pub GoalIsAllowed : Type 0
GoalIsAllowed =
    (root : Box) (terms : ProblemTerms)
    → (goal_excess root terms ≡ None) ↔ IfSome terms.goal (λ (goal : GoalTerms). goal.worst ≡ false → goal_number root terms goal ≤ℤ pos (2 ^ 126))

-- a problem has an expected objective whose number is greater, and it is told so; a number past 2^127 - 1 is given as that
pub record IsLargeGoal (root : Box) (terms : ProblemTerms) (e : Excess) : Type 0 where
  pub objective : GoalTerms
  pub stands : terms.goal ≡ Some objective
  pub expected : objective.worst ≡ false
  pub large : largest.GOAL_SIZE <ℤ goal_number root terms objective
  pub told : e ≡ record { code = codes.TERM_SIZE; counted = int_min (goal_number root terms objective) (pos (2 ^ 127 - 1)); limit = largest.GOAL_SIZE }

-- and so it is refused
abbrev pub GoalIsRefused : Type 0
GoalIsRefused = (root : Box) (terms : ProblemTerms) (e : Excess) → (goal_excess root terms ≡ Some e) ↔ IsLargeGoal root terms e
