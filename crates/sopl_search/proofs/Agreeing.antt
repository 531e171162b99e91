-- Two outcomes that are true of all points.
use Rattle.std.proofs.Common.{◌≡◌, ℤ, arith, subst, sym}
use Rattle.std.proofs.lemmas.Int.{by_lt_z, ints}
use Rattle.sopl_base.specs.Better.{IsBetter}
use Rattle.sopl_base.specs.declared.direction.Direction.{Direction}
use Rattle.sopl_base.specs.declared.direction.Direction.TheVariants.{Minimize, Maximize, Nothing}
use Rattle.box_problem.specs.BoxProblem.{BoxProblem}
use Rattle.sopl_search.specs.declared.outcome.Outcome.{Outcome}
use Rattle.sopl_search.specs.declared.outcome.Outcome.TheVariants.{Optimal, Infeasible, Bounded}
use Rattle.sopl_search.specs.Outcomes.{IsSameValue, IsSettled, IsTrueOf, SayTheSame}

neither_below : (v w : ℤ) → (IsBetter Minimize v w → ⊥) → (IsBetter Minimize w v → ⊥) → v ≡ w
neither_below v w first second =
    by_lt_z v w (λ below. absurd (first below)) (λ above. by_lt_z w v (λ below. absurd (second below)) (λ back. omega (arith, ints, above, back)))

same_value : (direction : Direction) (v w : ℤ) → ¬ IsBetter direction v w → ¬ IsBetter direction w v → IsSameValue direction v w
same_value Minimize v w first second = neither_below v w first second
same_value Maximize v w first second = neither_below v w second first
same_value Nothing v w first second = tt

pub settled_outcomes_agree : (problem : BoxProblem) (one other : Outcome) → IsTrueOf problem one → IsTrueOf problem other → IsSettled one → IsSettled other
    → SayTheSame problem.direction one other
settled_outcomes_agree problem (Optimal v cells) (Optimal w others) first second settled too =
    same_value problem.direction v w
    (subst (λ (x : ℤ). ¬ IsBetter problem.direction x w) (sym first.0.valued) (second.1 cells first.0.inside first.0.satisfies))
    (subst (λ (x : ℤ). ¬ IsBetter problem.direction x v) (sym second.0.valued) (first.1 others second.0.inside second.0.satisfies))
settled_outcomes_agree problem (Optimal v cells) Infeasible first second settled too = second cells first.0.inside first.0.satisfies
settled_outcomes_agree problem (Optimal v cells) (Bounded found bound) first second settled too = absurd too
settled_outcomes_agree problem Infeasible (Optimal w others) first second settled too = first others second.0.inside second.0.satisfies
settled_outcomes_agree problem Infeasible Infeasible first second settled too = tt
settled_outcomes_agree problem Infeasible (Bounded found bound) first second settled too = absurd too
settled_outcomes_agree problem (Bounded found bound) other first second settled too = absurd settled
