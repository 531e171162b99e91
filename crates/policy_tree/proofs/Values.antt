-- Optimal policies are worth the same, and decisions follow histories.
use Rattle.std.proofs.Common.{◌≡◌, ◌≢◌, refl, sym, ap, ◌∙◌, ℕ, ℤ, List, Option, Some, None, IfSome, ◌<ℤ◌, option_and_then}
use Rattle.std.specs.declared.cmp.Ordering.{Ordering}
use Rattle.std.specs.declared.cmp.Ordering.TheVariants.{Less, Equal, Greater}
use Rattle.std.specs.Ordering.{MatchOrdering, int_cmp}
use Rattle.std.specs.Cmp.{int_ranks}
use Rattle.std.specs.FinMap.{get}
use Rattle.sopl_base.specs.declared.direction.Direction.{Direction}
use Rattle.sopl_base.specs.declared.direction.Direction.TheVariants.{Minimize, Maximize, Nothing}
use Rattle.sopl_base.specs.Better.{IsBetter}
use Rattle.sopl_ast.specs.Instances.{Binding, Problem, Stochastic}
use Rattle.sopl_ast.specs.Scenarios.{Scenario}
use Rattle.sopl_ast.specs.Histories.{history}
use Rattle.sopl_ast.specs.Policies.{Policy}
use Rattle.sopl_ast.specs.Meanings.{decision_at, decided_value}
use Rattle.sopl_ast.specs.Optimal.{place_in, numerator, direction_of, IsOptimal}
use Rattle.policy_tree.specs.Seen.{IsSeenAlike}

pub neither : (problem : Problem) (a b : Policy) (x y : ℤ) → IsOptimal problem a x → IsOptimal problem b y → ¬ IsBetter (direction_of problem) x y
neither problem a b x y o p = p.best a x o.policy_of o.satisfies o.worth

same_rank : (x y : ℤ) (r : Ordering) → MatchOrdering r (x <ℤ y) (x ≡ y) (y <ℤ x) → ¬ (x <ℤ y) → ¬ (y <ℤ x) → x ≡ y
same_rank x y Less h n m = absurd (n h)
same_rank x y Equal h n m = h
same_rank x y Greater h n m = absurd (m h)

neither_same : (direction : Direction) (x y : ℤ) → direction ≢ Nothing → ¬ IsBetter direction x y → ¬ IsBetter direction y x → x ≡ y
neither_same Minimize x y some n m = same_rank x y (int_cmp x y) (int_ranks x y) n m
neither_same Maximize x y some n m = same_rank x y (int_cmp x y) (int_ranks x y) m n
neither_same Nothing x y some n m = absurd (some refl)

pub one_number : (problem : Problem) (a b : Policy) (x y : ℤ) → direction_of problem ≢ Nothing → IsOptimal problem a x → IsOptimal problem b y → x ≡ y
one_number problem a b x y some o p =
    neither_same (direction_of problem) x y some (neither problem a b x y o p) (neither problem b a y x p o)

pub one_worth : (problem : Problem) (a b : Policy) (x y : ℤ) → direction_of problem ≢ Nothing → IsOptimal problem a x → IsOptimal problem b y
    → numerator problem a ≡ numerator problem b
one_worth problem a b x y some o p = o.worth ∙ ap Some (one_number problem a b x y some o p) ∙ sym p.worth

at_history : (policy : Policy) (stochastics : List Stochastic) (s t : Scenario) (o : Option (ℕ × ℕ))
    → IfSome o (λ (found : ℕ × ℕ). history found.1 stochastics s.values ≡ history found.1 stochastics t.values)
    → option_and_then (λ (found : ℕ × ℕ). get policy (found.0, history found.1 stochastics s.values)) o
    ≡ option_and_then (λ (found : ℕ × ℕ). get policy (found.0, history found.1 stochastics t.values)) o
at_history policy stochastics s t None h = refl
at_history policy stochastics s t (Some found) h = λ i. get policy (found.0, h i)

pub shares : (problem : Problem) (policy : Policy) (bound : List Binding) (name : List ℕ) (index : List ℤ) (s t : Scenario)
    → IsSeenAlike problem name index s t
    → decided_value name index (place_in problem policy bound s) ≡ decided_value name index (place_in problem policy bound t)
shares problem policy bound name index s t h = at_history policy problem.stochastics s t (decision_at name index 0 problem.decisions) h
