-- A trial by the numbers of scenarios, and the problem with its policy.
use Rattle.std.proofs.Common.{arith, ◌≡◌, ◌↔◌, sym, ap, subst, ◌∙◌, ℕ, ◌+◌, ◌*◌, ◌<◌, ◌≤◌, ◌^◌, ℤ, pos, ◌*ℤ◌, ◌≤ℤ◌, Bool, true, false, true≢false, List, [], ◌∷◌, ◌++◌, All, drop, length, map, slice_get, Option, Some, None, IfSome, IsSome, option_map, unsigned_abs, if◌then◌else◌}
use Rattle.std.specs.List.{range_with_len}
use Rattle.std.specs.Option.{is_some, option_map_or}
use Rattle.std.proofs.lemmas.Int.{ints}
use Rattle.std.proofs.lemmas.Option.{slice_get_within}
use Rattle.term_problem.proofs.Lists.{all_from}
use Rattle.std.proofs.lemmas.List.{append_assoc, append-nil, at_drop_all}
use Rattle.sopl_ast.specs.Instances.{Binding, Chance, Hard, Objective, Problem, Stochastic}
use Rattle.sopl_ast.specs.Meanings.{Place, meaning}
use Rattle.sopl_ast.specs.Numbers.{all_of, one_or_zero}
use Rattle.sopl_ast.specs.Optimal.{expected, holds, objective_value, place_in, value_in, weight_of, worse, worst}
use Rattle.sopl_ast.specs.Policies.{Policy}
use Rattle.sopl_ast.specs.References.{now_of}
use Rattle.sopl_ast.specs.Scenarios.{Scenario, scenarios}
use Rattle.sopl_ast.specs.Tree.{Tree}
use Rattle.sopl_ast.specs.Unfolding.{objective_of}
use Rattle.sopl_ast.specs.WholeModel.{goal_tree}
use Rattle.sopl_ast.specs.declared.whole.Goal.{Goal}
use Rattle.unfold_tables.specs.Tables.{table_known}
use Rattle.policy_eval.specs.Reports.{chance, hard, objective, satisfied, HoldsIn, IsHeld, IsReached, IsReport, IsValued}
use Rattle.policy_eval.specs.Tried.{AreReached, FitOn, IsFirstFalse, IsTrial, holds_at, policy_of, posed, scenario_count, value_at, weight_where, weighted}
use Rattle.policy_eval.specs.Valued.{is_worth, worst_of}
use Rattle.policy_eval.specs.declared.trial.Trial.{Trial}
use Rattle.policy_eval.proofs.Firsts.{all_so}
use Rattle.policy_eval.proofs.Listed.{all_first, all_true, each_there, first_false, left_at, listed_by, one_more, there, valued_by}
use Rattle.policy_eval.proofs.Placed.{many, place_is, weights_are}
use Rattle.policy_eval.proofs.Objectives.{as_many, expected_is, worst_found, worst_there}
use Rattle.policy_eval.proofs.Weights.{IsBetween, sizes, sizes_sum, they_fit, truths_between, truths_small, weighted_truths}

-- the chance constraints that were reached so far, with their sums
pub record IsSofar (trial : Trial) (i : ℕ) (sums : List ℤ) : Type 0 where
  pub reached : (j : ℕ) (c : Chance) → j < i → slice_get trial.chances.now j ≡ Some c → IsReached (posed trial) (policy_of trial) c
  pub weights : sums ++ map (weight_of (posed trial) (policy_of trial)) (drop i trial.chances.now) ≡ map (weight_of (posed trial) (policy_of trial)) trial.chances.now

module _ (trial : Trial) (tried : IsTrial trial) where
  abbrev problem : Problem
  problem = posed trial

  abbrev policy : Policy
  policy = policy_of trial

  abbrev ss : List Stochastic
  ss = trial.variables.now.stochs.now

  abbrev count : ℕ
  count = scenario_count trial

  abbrev many_are : count ≡ length (scenarios ss)
  many_are = many trial tried.laid

  -- a condition, and a number
  pub holds_is : (text : ℕ) (bound : List Binding) (i : ℕ) (s : Scenario) → slice_get (scenarios ss) i ≡ Some s → holds_at trial text bound i ≡ holds problem policy text bound s
  holds_is text bound i s at =
      ap (λ (place : Place). option_map_or (λ condition. (meaning place condition).truth) (slice_get (map now_of trial.conditions.now) text) false) (place_is trial tried.laid bound i s at)

  pub value_is : (e : Tree) (i : ℕ) (s : Scenario) → slice_get (scenarios ss) i ≡ Some s
      → value_at trial (table_known trial.table.now) e i ≡ (meaning (place_in problem policy [] s) e).value
  value_is e i s at = ap (λ (place : Place). (meaning place e).value) (place_is trial tried.laid [] i s at)

  -- Hard constraints.

  so : (h : Hard) (i : ℕ) (s : Scenario) → slice_get (scenarios ss) i ≡ Some s → holds_at trial h.text h.bound i ≡ true → HoldsIn problem policy h s
  so h i s at is = sym (holds_is h.text h.bound i s at) ∙ is

  other : (h : Hard) (i : ℕ) (s : Scenario) → slice_get (scenarios ss) i ≡ Some s → holds_at trial h.text h.bound i ≡ false → ¬ HoldsIn problem policy h s
  other h i s at is holds = true≢false (sym holds ∙ sym (holds_is h.text h.bound i s at) ∙ is)

  pub hard_held : (h : Hard) → IsFirstFalse (holds_at trial h.text h.bound) count None → IsHeld problem policy h
  hard_held h first = all_true (HoldsIn problem policy h) (holds_at trial h.text h.bound) (scenarios ss) count many_are (so h) (other h) first

  -- a hard constraint that fails is the first that does
  pub hard_fails : (i k : ℕ) (h : Hard) → slice_get trial.hards.now i ≡ Some h → IsFirstFalse (holds_at trial h.text h.bound) count (Some k)
      → ((j : ℕ) (g : Hard) → j < i → slice_get trial.hards.now j ≡ Some g → IsHeld problem policy g) → IsReport problem policy (hard i k)
  hard_fails i k h at first before =
      let s = there (scenarios ss) k (omega (arith, first.0, many_are)) in
      let earliest = first_false (HoldsIn problem policy h) (holds_at trial h.text h.bound) (scenarios ss) count many_are (so h) (other h) k s.0 s.1 first in
      record {
        constraint = h;
        place = s.0;
        first =
            record {
              stands = at;
              other = λ held. other h k s.0 s.1 first.1 (all_so (HoldsIn problem policy h) (scenarios ss) k s.0 held s.1);
              before = all_first (IsHeld problem policy) i trial.hards.now before;
            };
        earliest = earliest;
      }

  pub hards_held : ((j : ℕ) (g : Hard) → j < length trial.hards.now → slice_get trial.hards.now j ≡ Some g → IsHeld problem policy g) → All (IsHeld problem policy) trial.hards.now
  hards_held each = all_from (IsHeld problem policy) trial.hards.now (λ j g at. each j g (slice_get_within trial.hards.now j g at) at)

  -- one more that holds
  pub held_more : (i : ℕ) (h : Hard) → slice_get trial.hards.now i ≡ Some h → IsHeld problem policy h
      → ((j : ℕ) (g : Hard) → j < i → slice_get trial.hards.now j ≡ Some g → IsHeld problem policy g)
      → (j : ℕ) (g : Hard) → j < i + 1 → slice_get trial.hards.now j ≡ Some g → IsHeld problem policy g
  held_more i h at held before j g below stands = one_more (IsHeld problem policy) trial.hards.now i h at held before j g below stands

  -- Chance constraints.

  truths_are : (c : Chance) → map (λ i. one_or_zero (holds_at trial c.text c.bound i)) (range_with_len 0 count) ≡ map (λ s. one_or_zero (holds problem policy c.text c.bound s)) (scenarios ss)
  truths_are c =
      ap (λ n. map (λ i. one_or_zero (holds_at trial c.text c.bound i)) (range_with_len 0 n)) many_are
      ∙ listed_by (λ i. one_or_zero (holds_at trial c.text c.bound i)) (λ s. one_or_zero (holds problem policy c.text c.bound s)) (scenarios ss)
      (λ i s at. ap one_or_zero (holds_is c.text c.bound i s at))

  pub weight_is : (c : Chance) → weight_where trial (holds_at trial c.text c.bound) ≡ weight_of problem policy c
  weight_is c =
      (λ j. weighted (weights_are trial tried.laid j) (truths_are c j)) ∙ weighted_truths (λ (s : Scenario). s.weight) (holds problem policy c.text c.bound) (scenarios ss)

  -- truths have room, and their sum lies between 0 and the weight of all scenarios
  pub truths_fit : (test : ℕ → Bool) → FitOn (pos 0) trial.tree.now.weights (map (λ i. one_or_zero (test i)) (range_with_len 0 count))
  truths_fit test = they_fit 1 (pos 0) trial.tree.now.weights _ (truths_small test (range_with_len 0 count)) room
    where
      room : unsigned_abs (pos 0) + 1 * sizes trial.tree.now.weights ≤ 2 ^ 126
      room = omega (arith, ints, sizes_sum trial.tree.now.weights tried.weights, tried.whole, tried.most)

  pub sum_between : (test : ℕ → Bool) → IsBetween (pos 0) (weight_where trial test) trial.tree.now.total
  sum_between test = subst (IsBetween (pos 0) _) tried.whole (truths_between test trial.tree.now.weights (range_with_len 0 count) tried.weights)

  -- what is asked of a sum
  pub reached_is : (c : Chance) (sum : ℤ) → sum ≡ weight_of problem policy c → ((c.p *ℤ trial.tree.now.total) ≤ℤ (c.q *ℤ sum)) ↔ IsReached problem policy c
  reached_is c sum is = (
    λ h. subst (λ z. (c.p *ℤ z) ≤ℤ (c.q *ℤ weight_of problem policy c)) tried.laid.whole (subst (λ z. (c.p *ℤ trial.tree.now.total) ≤ℤ (c.q *ℤ z)) is h),
    λ h. subst (λ z. (c.p *ℤ trial.tree.now.total) ≤ℤ (c.q *ℤ z)) (sym is) (subst (λ z. (c.p *ℤ z) ≤ℤ (c.q *ℤ weight_of problem policy c)) (sym tried.laid.whole) h),
  )

  pub sofar_more : (i : ℕ) (sums new : List ℤ) (c : Chance) (sum : ℤ) → slice_get trial.chances.now i ≡ Some c → sum ≡ weight_of problem policy c → IsReached problem policy c
      → new ≡ sums ++ sum ∷ [] → IsSofar trial i sums → IsSofar trial (i + 1) new
  sofar_more i sums new c sum at is reached put sofar = record {
    reached = one_more (IsReached problem policy) trial.chances.now i c at reached sofar.reached;
    weights = ap (λ (zs : List ℤ). zs ++ map (weight_of problem policy) (drop (i + 1) trial.chances.now)) put
        ∙ append_assoc sums (sum ∷ []) (map (weight_of problem policy) (drop (i + 1) trial.chances.now))
        ∙ ap (λ z. sums ++ z ∷ map (weight_of problem policy) (drop (i + 1) trial.chances.now)) is
        ∙ ap (λ cs. sums ++ map (weight_of problem policy) cs) (sym (left_at trial.chances.now i c at))
        ∙ sofar.weights;
  }

  pub sofar_all : (i : ℕ) (sums : List ℤ) → length trial.chances.now ≤ i → IsSofar trial i sums → AreReached trial sums
  sofar_all i sums past sofar = record {
    reached = all_from (IsReached problem policy) trial.chances.now (λ j c at. sofar.reached j c (omega (arith, slice_get_within trial.chances.now j c at, past)) at);
    weights = sym (at_drop_all (λ cs. sums ++ map (weight_of problem policy) cs) trial.chances.now i past ∙ append-nil sums) ∙ sofar.weights;
  }

  -- a chance constraint that is not reached is the first that is not
  pub chance_fails : (i : ℕ) (c : Chance) (sum : ℤ) (sums : List ℤ) → All (IsHeld problem policy) trial.hards.now → slice_get trial.chances.now i ≡ Some c → sum ≡ weight_of problem policy c
      → ¬ IsReached problem policy c → IsSofar trial i sums → IsReport problem policy (chance i sum)
  chance_fails i c sum sums held at is unreached sofar = record {
    hards = held;
    constraint = c;
    first = record { stands = at; other = unreached; before = all_first (IsReached problem policy) i trial.chances.now sofar.reached };
    weight = is;
  }

  -- The objective.

  module _ (sums : List ℤ) (held : All (IsHeld problem policy) trial.hards.now) (reached : AreReached trial sums) where
    module _ (goal : Goal) (asked : trial.goal.now ≡ Some goal) where
      abbrev objective_asked : Objective
      objective_asked = objective_of (goal_tree goal)

      abbrev worths : Scenario → Option ℤ
      worths = value_in problem policy objective_asked

      abbrev at_numbers : ℕ → Option ℤ
      at_numbers = value_at trial (table_known trial.table.now) goal.expr

      stated : problem.objective ≡ Some objective_asked
      stated = ap (λ (g : Option Goal). option_map objective_of (option_map goal_tree g)) asked

      worths_are : all_of at_numbers (range_with_len 0 count) ≡ all_of worths (scenarios ss)
      worths_are = ap (λ n. all_of at_numbers (range_with_len 0 n)) many_are ∙ valued_by at_numbers worths (scenarios ss) (λ i s at. value_is goal.expr i s at)

      module _ (values : List ℤ) (all : all_of at_numbers (range_with_len 0 count) ≡ Some values) where
        all_worths : all_of worths (scenarios ss) ≡ Some values
        all_worths = sym worths_are ∙ all

        pub as_many_values : length values ≡ count
        as_many_values = as_many worths (scenarios ss) values all_worths ∙ sym many_are

        value_found : objective_value problem policy objective_asked ≡ Some (is_worth goal.worst goal.direction trial.tree.now.weights values)
        value_found = by_worst goal.worst
          where
            by_worst : (w : Bool) → (if w then worst (worse goal.direction) worths (scenarios ss) else expected worths (scenarios ss))
                ≡ Some (if w then worst_of goal.direction values else weighted trial.tree.now.weights values)
            by_worst true =
                worst_found goal.direction worths (scenarios ss) values all_worths
                ∙ worst_there goal.direction values (omega (arith, as_many_values, tried.some))
            by_worst false = expected_is worths (scenarios ss) values all_worths ∙ ap (λ ws. Some (weighted ws values)) (sym (weights_are trial tried.laid))

        pub goal_told : (worth : ℤ) → worth ≡ is_worth goal.worst goal.direction trial.tree.now.weights values → IsReport problem policy (satisfied worth sums)
        goal_told worth is = record {
          satisfies =
              record {
                hards = held;
                chances = reached.reached;
                objective =
                    subst (λ (o : Option Objective). IfSome o (λ a. All (IsValued problem policy a) (scenarios ss))) (sym stated)
                    (all_from (IsValued problem policy objective_asked) (scenarios ss) (λ i s at. each_there worths (scenarios ss) values all_worths i s at));
              };
          worth = ap (λ (o : Option Objective). option_map_or (objective_value problem policy) o (Some (pos 0))) stated ∙ value_found ∙ ap Some (sym is);
          weights = reached.weights;
        }

      pub goal_undefined : (k : ℕ) → k < count → at_numbers k ≡ None → ((i : ℕ) → i < k → IsSome (at_numbers i)) → IsReport problem policy (objective k)
      goal_undefined k below none before =
          let s = there (scenarios ss) k (omega (arith, below, many_are)) in
          record {
            hards = held;
            chances = reached.reached;
            asked = objective_asked;
            stands = stated;
            place = s.0;
            earliest =
                record {
                  stands = s.1;
                  other = λ some. true≢false (sym some ∙ ap is_some (sym (value_is goal.expr k s.0 s.1)) ∙ ap is_some none);
                  before =
                      all_first (IsValued problem policy objective_asked) k (scenarios ss)
                      (λ i z inner at. ap is_some (sym (value_is goal.expr i z at)) ∙ before i inner);
                };
          }
