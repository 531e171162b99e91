-- A whole problem in terms says at a point what the problem says of the point's policy.
use Rattle.std.proofs.Common.{◌≡◌, ◌∙◌, refl, sym, ap, subst, arith, ℕ, zero, suc, ℤ, pos, ◌+ℤ◌, ◌*ℤ◌, ◌≤ℤ◌, Bool, true, false, List, [], ◌∷◌, map, filter, inl, inr, All, Option}
use Rattle.std.proofs.Common.{Some, None, IsSome, IfSome, IsTrue, option_map, slice_get, if◌then◌else◌}
use Rattle.std.specs.Option.{option_map_or}
use Rattle.sopl_base.specs.declared.direction.Direction.{Direction}
use Rattle.sopl_base.specs.declared.direction.Direction.TheVariants.{Minimize, Maximize, Nothing}
use Rattle.sopl_ast.specs.Tree.{Tree}
use Rattle.sopl_ast.specs.Known.{Binding}
use Rattle.sopl_ast.specs.Numbers.{both_of, total}
use Rattle.sopl_ast.specs.Instances.{Chance, Hard, Objective, Problem}
use Rattle.sopl_ast.specs.Scenarios.{Scenario, scenarios, total_weight}
use Rattle.sopl_ast.specs.Policies.{Policy}
use Rattle.sopl_ast.specs.Cells.{cells, IsPoint, policy_at}
use Rattle.sopl_ast.specs.Meanings.{meaning}
use Rattle.sopl_ast.specs.Optimal as optimal
use Rattle.sopl_ast.specs.Optimal.{Satisfies, weight_of, value_in, expected, worst, worse, objective_value, place_in}
use Rattle.sopl_ast.specs.Unfolding.{problem_of}
use Rattle.policy_tree.proofs.Members.{In, Contains-In}
use Rattle.term_language.specs.Terms as c
use Rattle.term_language.specs.Values.{value, holds}
use Rattle.term_problem.specs.Problems.{ChanceTerms, GoalTerms}
use Rattle.term_problem.specs.Points as rules
use Rattle.term_problem.specs.Points.{weight_where, Holds, expected_value, worst_value, goal_value}
use Rattle.compile_laws.specs.Instances.{instance}
use Rattle.compile_laws.specs.Laws.{Means}
use Rattle.compile_laws.specs.Whole.{cell_numbers, place_at, condition_at, hard_terms, chance_terms, goal_terms, problem_terms}
use Rattle.compile_laws.specs.WholeLaws.{AreArraysIn, TextsAreArrays, MeansAt, ProblemsMean}
use Rattle.compile_laws.proofs.Means.{instances_mean}
use Rattle.compile_laws.proofs.Problems.{places_agree}
use Rattle.compile_laws.proofs.Numbers.{cells_are_numbered}
use Rattle.compile_laws.proofs.Stands.{arrays_stand, scenarios_are_whole}

pub texts_are_arrays : TextsAreArrays
texts_are_arrays model typed passes bound s possible =
    arrays_stand model typed passes bound s (cell_numbers (problem_of model) s) (scenarios_are_whole (problem_of model).stochastics s possible)
    (cells_are_numbered (problem_of model) s possible).all

-- Lists.

-- what holds of each thing holds of what is made of it
all_to : {A B : Type 0} (P : A → Type 0) (Q : B → Type 0) (f : A → B) (xs : List A) → ((x : A) → In x xs → P x → Q (f x)) → All P xs → All Q (map f xs)
all_to P Q f [] each all k d below = absurd (omega (arith, below))
all_to P Q f (x ∷ xs) each all zero d below = each x (inl refl) (all zero x (omega arith))
all_to P Q f (x ∷ xs) each all (suc k) d below =
    all_to P Q f xs (λ y h p. each y (inr h) p) (λ j e less. all (suc j) e (omega (arith, less))) k d (omega (arith, below))

all_back : {A B : Type 0} (P : A → Type 0) (Q : B → Type 0) (f : A → B) (xs : List A) → ((x : A) → In x xs → Q (f x) → P x) → All Q (map f xs) → All P xs
all_back P Q f [] each all k d below = absurd (omega (arith, below))
all_back P Q f (x ∷ xs) each all zero d below = each x (inl refl) (all zero (f x) (omega arith))
all_back P Q f (x ∷ xs) each all (suc k) d below =
    all_back P Q f xs (λ y h q. each y (inr h) q) (λ j e less. all (suc j) e (omega (arith, less))) k d (omega (arith, below))

-- The worse of two.

same_worse : (direction : Direction) (x y : ℤ) → worse direction x y ≡ rules.worse direction x y
same_worse Minimize x y = refl
same_worse Maximize x y = refl
same_worse Nothing x y = refl

module _ (problem : Problem) (arrays : AreArraysIn problem) (point : List ℤ) (is : IsPoint (cells problem) point) where
  abbrev policy : Policy
  policy = policy_at (cells problem) point

  -- what an expression means in a scenario is what its term is worth
  means_in : (bound : List Binding) (s : Scenario) → In s (scenarios problem.stochastics) → (e : Tree)
      → Means point (instance (place_at problem bound s) e) (meaning (place_in problem policy bound s) e)
  means_in bound s h e =
      let possible = Contains-In (scenarios problem.stochastics) s h in
      instances_mean (place_at problem bound s) (place_in problem policy bound s) point
      (places_agree problem bound s (cell_numbers problem s) point (cells_are_numbered problem s possible) is) (arrays bound s possible) e

  -- conditions
  holds_in : (text : ℕ) (bound : List Binding) (s : Scenario) → In s (scenarios problem.stochastics)
      → optimal.holds problem policy text bound s ≡ holds point (condition_at problem text bound s)
  holds_in text bound s h = by_found (slice_get problem.conditions text)
    where
      by_found : (found : Option Tree) → option_map_or (λ e. (meaning (place_in problem policy bound s) e).truth) found false
          ≡ holds point (option_map_or (λ e. (instance (place_at problem bound s) e).cond) found (c.Any c.no_cond))
      by_found None = refl
      by_found (Some e) = sym (means_in bound s h e).truth

  -- the weight of the scenarios in which a condition holds
  weight_same : (test : Scenario → Bool) (f : Scenario → c.Cond) (ss : List Scenario) → ((s : Scenario) → In s ss → test s ≡ holds point (f s))
      → total (map (λ (s : Scenario). s.weight) (filter test ss)) ≡ weight_where point (map (λ (s : Scenario). s.weight) ss) (map f ss)
  weight_same test f [] same = refl
  weight_same test f (s ∷ ss) same = by_test (test s) (holds point (f s)) (same s (inl refl)) (weight_same test f ss (λ t h. same t (inr h)))
    where
      by_test : (a b : Bool) → a ≡ b → total (map (λ (t : Scenario). t.weight) (filter test ss)) ≡ weight_where point (map (λ (t : Scenario). t.weight) ss) (map f ss)
          → total (map (λ (t : Scenario). t.weight) (if a then s ∷ filter test ss else filter test ss))
          ≡ (if b then s.weight +ℤ weight_where point (map (λ (t : Scenario). t.weight) ss) (map f ss) else weight_where point (map (λ (t : Scenario). t.weight) ss) (map f ss))
      by_test true true is later = ap (λ z. s.weight +ℤ z) later
      by_test true false is later = absurd (cc)
      by_test false true is later = absurd (cc)
      by_test false false is later = later

  -- values
  expected_same : (v : Scenario → Option ℤ) (f : Scenario → c.Term) (ss : List Scenario) → ((s : Scenario) → In s ss → v s ≡ value point (f s))
      → expected v ss ≡ expected_value point (map (λ (s : Scenario). s.weight) ss) (map f ss)
  expected_same v f [] same = refl
  expected_same v f (s ∷ ss) same =
      λ i. both_of (λ x y. (s.weight *ℤ x) +ℤ y) (same s (inl refl) i) (expected_same v f ss (λ t h. same t (inr h)) i)

  worst_same : (choose : ℤ → ℤ → ℤ) (v : Scenario → Option ℤ) (f : Scenario → c.Term) (ss : List Scenario) → ((s : Scenario) → In s ss → v s ≡ value point (f s))
      → worst choose v ss ≡ worst_value choose point (map f ss)
  worst_same choose v f [] same = refl
  worst_same choose v f (s ∷ []) same = same s (inl refl)
  worst_same choose v f (s ∷ t ∷ ss) same = λ i. both_of choose (same s (inl refl) i) (worst_same choose v f (t ∷ ss) (λ u h. same u (inr h)) i)

  value_is : (objective : Objective) (s : Scenario) → In s (scenarios problem.stochastics)
      → value_in problem policy objective s ≡ value point (instance (place_at problem [] s) objective.value).term
  value_is objective s h = sym (means_in [] s h objective.value).value

  goal_worth : (objective : Objective) → objective_value problem policy objective ≡ goal_value point (problem_terms problem).weights (goal_terms problem objective)
  goal_worth objective = by_worst objective.worst
    where
      by_worst : (b : Bool)
          → (if b then worst (worse objective.direction) (value_in problem policy objective) (scenarios problem.stochastics) else expected (value_in problem policy objective)
          (scenarios problem.stochastics))
          ≡ (if b then worst_value (rules.worse objective.direction) point (goal_terms problem objective).terms else expected_value point (problem_terms problem).weights
          (goal_terms problem objective).terms)
      by_worst true =
          worst_same (worse objective.direction) (value_in problem policy objective) (λ s. (instance (place_at problem [] s) objective.value).term) (scenarios problem.stochastics)
          (value_is objective)
          ∙ ap (λ choose. worst_value choose point (goal_terms problem objective).terms) (λ i x y. same_worse objective.direction x y i)
      by_worst false =
          expected_same (value_in problem policy objective) (λ s. (instance (place_at problem [] s) objective.value).term) (scenarios problem.stochastics) (value_is objective)

  worth_same : (objective : Option Objective) → option_map_or (objective_value problem policy) objective (Some (pos 0))
      ≡ option_map_or (goal_value point (problem_terms problem).weights) (option_map (goal_terms problem) objective) (Some (pos 0))
  worth_same None = refl
  worth_same (Some objective) = goal_worth objective

  -- a chance constraint
  chance_weight : (chance : Chance) → weight_of problem policy chance ≡ weight_where point (problem_terms problem).weights (chance_terms problem chance).conditions
  chance_weight chance =
      weight_same (optimal.holds problem policy chance.text chance.bound) (condition_at problem chance.text chance.bound) (scenarios problem.stochastics)
      (holds_in chance.text chance.bound)

  abbrev IsHeld : Hard → Type 0
  IsHeld h = All (λ s. IsTrue (optimal.holds problem policy h.text h.bound s)) (scenarios problem.stochastics)

  abbrev DoHold : List c.Cond → Type 0
  DoHold conditions = All (λ condition. IsTrue (holds point condition)) conditions

  abbrev IsLikely : Chance → Type 0
  IsLikely chance = (chance.p *ℤ total_weight problem.stochastics) ≤ℤ (chance.q *ℤ weight_of problem policy chance)

  abbrev WeighEnough : ChanceTerms → Type 0
  WeighEnough chance = (chance.p *ℤ total_weight problem.stochastics) ≤ℤ (chance.q *ℤ weight_where point (problem_terms problem).weights chance.conditions)

  abbrev IsDefined : Objective → Type 0
  IsDefined objective = All (λ s. IsSome (value_in problem policy objective s)) (scenarios problem.stochastics)

  abbrev AreDefined : GoalTerms → Type 0
  AreDefined goal = All (λ term. IsSome (value point term)) goal.terms

  goal_to : (objective : Option Objective) → IfSome objective IsDefined → IfSome (option_map (goal_terms problem) objective) AreDefined
  goal_to None defined = tt
  goal_to (Some objective) defined =
      all_to (λ s. IsSome (value_in problem policy objective s)) (λ term. IsSome (value point term)) (λ s. (instance (place_at problem [] s) objective.value).term) (scenarios problem.stochastics)
      (λ s h there. subst IsSome (value_is objective s h) there) defined

  goal_back : (objective : Option Objective) → IfSome (option_map (goal_terms problem) objective) AreDefined → IfSome objective IsDefined
  goal_back None defined = tt
  goal_back (Some objective) defined =
      all_back (λ s. IsSome (value_in problem policy objective s)) (λ term. IsSome (value point term)) (λ s. (instance (place_at problem [] s) objective.value).term) (scenarios problem.stochastics)
      (λ s h there. subst IsSome (sym (value_is objective s h)) there) defined

  satisfies_to : Satisfies problem policy → Holds (problem_terms problem) point
  satisfies_to all =
      record {
        hards =
            all_to IsHeld DoHold (hard_terms problem) problem.hards
            (λ hard among held.
            all_to (λ s. IsTrue (optimal.holds problem policy hard.text hard.bound s)) (λ condition. IsTrue (holds point condition)) (condition_at problem hard.text hard.bound)
            (scenarios problem.stochastics) (λ s h true_there. subst IsTrue (holds_in hard.text hard.bound s h) true_there) held)
            all.hards;
        chances =
            all_to IsLikely WeighEnough (chance_terms problem) problem.chances
            (λ chance among enough. subst (λ w. (chance.p *ℤ total_weight problem.stochastics) ≤ℤ (chance.q *ℤ w)) (chance_weight chance) enough) all.chances;
        goal = goal_to problem.objective all.objective;
      }

  satisfies_back : Holds (problem_terms problem) point → Satisfies problem policy
  satisfies_back all =
      record {
        hards =
            all_back IsHeld DoHold (hard_terms problem) problem.hards
            (λ hard among held.
            all_back (λ s. IsTrue (optimal.holds problem policy hard.text hard.bound s)) (λ condition. IsTrue (holds point condition)) (condition_at problem hard.text hard.bound)
            (scenarios problem.stochastics) (λ s h true_there. subst IsTrue (sym (holds_in hard.text hard.bound s h)) true_there) held)
            all.hards;
        chances =
            all_back IsLikely WeighEnough (chance_terms problem) problem.chances
            (λ chance among enough. subst (λ w. (chance.p *ℤ total_weight problem.stochastics) ≤ℤ (chance.q *ℤ w)) (sym (chance_weight chance)) enough) all.chances;
        objective = goal_back problem.objective all.goal;
      }

  means_at : MeansAt problem point
  means_at = record { satisfies = (satisfies_to, satisfies_back); worth = worth_same problem.objective }

pub problems_mean : ProblemsMean
problems_mean problem arrays point is = means_at problem arrays point is
