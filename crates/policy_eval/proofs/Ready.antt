-- A policy may be tried on a text that is accepted and passes no limit on its terms.
use Rattle.std.proofs.Common.{arith, ◌≡◌, refl, sym, ap, subst, ◌∙◌, ℕ, zero, suc, ◌+◌, ◌*◌, ◌^◌, ◌≤◌, max, ℤ, pos, ◌*ℤ◌, ◌≤ℤ◌, unsigned_abs, false, List, [], ◌∷◌, ◌++◌, length, map, slice_get, Option, Some, None, IfSome, option_map, Result, Ok, Err, IfOk}
use Rattle.std.proofs.Math.IntN.{pos-*ℤ-pos}
use Rattle.std.proofs.Math.Nat.{mul-add, mul_comm}
use Rattle.std.proofs.lemmas.Int.{ints}
use Rattle.std.proofs.lemmas.List.{length-map}
use Rattle.std.proofs.lemmas.Option.{none-some, same_Some, slice_get_within, get_or_from_slice_get}
use Rattle.std.specs.List.{AllByRecursion, Contains, flat_map, range_with_len}
use Rattle.std.specs.Option.{option_map_or}
use denote.Struct.Props.{props}
use Rattle.std.proofs.Math.Logic.{∥∥₁_elim, ∥∥₁_map}
use Rattle.std.proofs.lemmas.Option.{slice_get-map}
use Rattle.sopl_ast.specs.Cells.{cells, IsPoint, policy_at}
use Rattle.sopl_ast.specs.Instances.{Binding, Chance, Decision, Hard, Objective, Problem, Stochastic}
use Rattle.sopl_ast.specs.Known.{Known}
use Rattle.sopl_ast.specs.Limits.{size_excess, usual_limits}
use Rattle.sopl_ast.specs.Meanings.{Place, meaning}
use Rattle.sopl_ast.specs.Mistakes.{IsWellTyped}
use Rattle.sopl_ast.specs.Numbers.{all_of, both_of, total}
use Rattle.sopl_ast.specs.Optimal.{place_in}
use Rattle.sopl_ast.specs.Origin.{IsFromTokens}
use Rattle.sopl_ast.specs.Policies.{Policy}
use Rattle.sopl_ast.specs.Scenarios.{Scenario, scenarios, total_weight}
use Rattle.sopl_ast.specs.Tree.{Tree}
use Rattle.sopl_ast.specs.UnfoldEvents.{expression_events}
use Rattle.sopl_ast.specs.Unfolding.{objective_of, problem_of, text_events}
use Rattle.sopl_ast.specs.Whole.{GoalTree, ModelTree}
use Rattle.sopl_ast.specs.WholeModel.{goal_tree, whole}
use Rattle.sopl_ast.specs.declared.whole.Model.{Model}
use Rattle.std.specs.declared.alloc.AllocError.{AllocError}
use Rattle.sopl_base.proofs.Lists.{positive_there}
use Rattle.lang_laws.proofs.Limits.{light_within}
use Rattle.policy_eval.specs.Reports.{IsReport}
use Rattle.policy_eval.specs.Shown.{report_shown}
use Rattle.policy_eval.specs.declared.report.Report.{Report}
use Rattle.sopl_ast.specs.declared.whole.Goal.{Goal}
use Rattle.sopl_policy.proofs.Keeping.{point_long}
use Rattle.sopl_scen.specs.Layout.{IsTreeOf}
use Rattle.unfold_laws.specs.Conditions.{IsMet, IsThreshold, placed}
use Rattle.unfold_laws.specs.Passing.{NothingFails}
use Rattle.unfold_laws.proofs.Conditions.{hards_are_met, chances_are_met, objective_is_met}
use Rattle.unfold_laws.proofs.Counts.{instances_are_counted}
use Rattle.unfold_tables.specs.Tables.{table_known}
use Rattle.box_problem.specs.Box.{Box, IsBox, InBox}
use Rattle.term_language.specs.Sizes.{size}
use Rattle.term_language.specs.Terms as c
use Rattle.term_language.specs.Globals as globals
use Rattle.term_language.specs.Values.{value}
use Rattle.compile_laws.proofs.Means.{instances_mean}
use Rattle.term_problem.specs.Objective.{greatest_size}
use Rattle.term_problem.specs.Problems.{ChanceTerms, GoalTerms, ProblemTerms}
use Rattle.compile_laws.specs.Instances.{instance}
use Rattle.compile_laws.specs.Laws.{Agrees}
use Rattle.compile_laws.specs.Measured.{constraint_subterms, goal_number, goal_subterms, measured_terms}
use Rattle.compile_laws.specs.Root.{root_box}
use Rattle.compile_laws.specs.Subterms.{subterms, condition_subterms}
use Rattle.compile_laws.specs.Texts.{program_excess}
use Rattle.compile_laws.specs.Whole.{cell_numbers, chance_terms, condition_at, goal_terms, hard_terms, place_at, problem_terms}
use Rattle.compile_laws.specs.WholeLaws.{AreArraysIn}
use Rattle.compile_laws.proofs.Measuring.{all_small, goal_is_allowed}
use Rattle.compile_laws.proofs.Numbers.{cells_are_numbered}
use Rattle.compile_laws.proofs.Problems.{places_agree}
use Rattle.compile_laws.proofs.Proper.{instances_are_proper}
use Rattle.compile_laws.proofs.Root.{points_of_box, root_is_box}
use Rattle.compile_laws.proofs.WellMade.{problems_are_well_made}
use Rattle.compile_laws.proofs.Whole.{texts_are_arrays}
use Rattle.compile_laws.proofs.Agreeing.{total_so}
use Rattle.compile_counts.specs.Walked.{IsWalked}
use Rattle.compile_counts.proofs.Walking.{expressions_are_walked}
use Rattle.policy_values.specs.Safe.{IsSafe, IsTestable}
use Rattle.policy_eval.specs.Tried.{IsGoalTried, IsTrial, IsTried, policy_of, posed, value_at}
use Rattle.policy_eval.specs.declared.trial.Trial.{Trial}
use Rattle.policy_eval.proofs.Light.{AreLight, before, behind, no_larger}
use Rattle.policy_eval.proofs.Limited.{no_large, no_large_goal}
use Rattle.policy_eval.proofs.Listed.{there, valued_by}
use Rattle.policy_eval.proofs.Placed.{many, place_is, weights_are}
use Rattle.policy_eval.proofs.Safe.{condition_safe, number_safe}
use Rattle.policy_eval.proofs.Weights.{AreAtMost, sizes, sizes_sum, they_fit}

-- Lists.

flat_all : {A : Type 0} (root : Box) (f : A → List c.Term) (xs : List A) (i : ℕ) (x : A) → AreLight root (flat_map f xs) → slice_get xs i ≡ Some x → AreLight root (f x)
flat_all root f [] i x all at = absurd (none-some x at)
flat_all root f (y ∷ ys) zero x all at = subst (λ z. AreLight root (f z)) (same_Some y x at) (before root (f y) (flat_map f ys) all)
flat_all root f (y ∷ ys) (suc i) x all at = flat_all root f ys i x (behind root (f y) (flat_map f ys) all) at

mapped : {A B : Type 0} (f : A → B) (xs : List A) (i : ℕ) (x : A) → slice_get xs i ≡ Some x → slice_get (map f xs) i ≡ Some (f x)
mapped f xs i x at = slice_get-map f xs i ∙ ap (option_map f) at

each_is : {A : Type 0} {P Q : A → Type 0} (xs : List A) → ((i : ℕ) (x : A) → slice_get xs i ≡ Some x → P x → Q x) → AllByRecursion P xs → AllByRecursion Q xs
each_is [] so all = tt
each_is (x ∷ xs) so all = (so 0 x refl all.0, each_is xs (λ i y at. so (suc i) y at) all.1)

values_most : {A : Type 0} (f : A → Option ℤ) (n : ℕ) (zs : List A) (xs : List ℤ) → all_of f zs ≡ Some xs → ((i : ℕ) (z : A) → slice_get zs i ≡ Some z → IfSome (f z) (λ v. unsigned_abs v ≤ n)) → AreAtMost n xs
values_most f n [] xs all each = subst (AreAtMost n) (same_Some [] xs all) tt
values_most f n (z ∷ zs) xs all each = by_options (f z) (each 0 z refl) (all_of f zs) refl all (λ ys q. values_most f n zs ys q (λ i x at. each (suc i) x at))
  where
    by_options : (a : Option ℤ) → IfSome a (λ v. unsigned_abs v ≤ n) → (b : Option (List ℤ)) → all_of f zs ≡ b → both_of (λ y ys. y ∷ ys) a b ≡ Some xs
        → ((ys : List ℤ) → all_of f zs ≡ Some ys → AreAtMost n ys) → AreAtMost n xs
    by_options None small b q h later = absurd (none-some xs h)
    by_options (Some y) small None q h later = absurd (none-some xs h)
    by_options (Some y) small (Some ys) q h later = subst (AreAtMost n) (same_Some (y ∷ ys) xs h) (small, later ys q)

greatest_most : (root : Box) (ts : List c.Term) (i : ℕ) (t : c.Term) → slice_get ts i ≡ Some t → size root t ≤ greatest_size root ts
greatest_most root [] i t at = absurd (none-some t at)
greatest_most root (u ∷ ts) zero t at = subst (λ v. size root v ≤ max (size root u) (greatest_size root ts)) (same_Some u t at) (omega arith)
greatest_most root (u ∷ ts) (suc i) t at = omega (arith, greatest_most root ts i t at)

-- The problem of a text.

module _ (problem : Problem) (point : List ℤ) (is_point : IsPoint (cells problem) point) (arrays : AreArraysIn problem) (is_box : IsBox (root_box (cells problem)))
    (allowed : program_excess problem ≡ None) where
  abbrev root : Box
  root = root_box (cells problem)

  abbrev policy : Policy
  policy = policy_at (cells problem) point

  abbrev terms : ProblemTerms
  terms = problem_terms problem

  in_root : InBox root point
  in_root = (points_of_box (cells problem) point).1 is_point

  all_light : AreLight root (measured_terms terms)
  all_light = all_small root (measured_terms terms) (no_large problem allowed)

  others_light : AreLight root (flat_map (λ (chance : ChanceTerms). constraint_subterms chance.conditions) terms.chances ++ option_map_or goal_subterms terms.goal [])
  others_light = behind root (flat_map constraint_subterms terms.hards) _ all_light

  hard_light : (i : ℕ) (h : Hard) → slice_get problem.hards i ≡ Some h → (j : ℕ) (s : Scenario) → slice_get (scenarios problem.stochastics) j ≡ Some s
      → AreLight root (condition_subterms (condition_at problem h.text h.bound s))
  hard_light i h at j s there =
      flat_all root condition_subterms (hard_terms problem h) j (condition_at problem h.text h.bound s)
      (flat_all root constraint_subterms terms.hards i (hard_terms problem h) (before root (flat_map constraint_subterms terms.hards) _ all_light) (mapped (hard_terms problem) problem.hards i h at))
      (mapped (condition_at problem h.text h.bound) (scenarios problem.stochastics) j s there)

  chance_light : (i : ℕ) (d : Chance) → slice_get problem.chances i ≡ Some d → (j : ℕ) (s : Scenario) → slice_get (scenarios problem.stochastics) j ≡ Some s
      → AreLight root (condition_subterms (condition_at problem d.text d.bound s))
  chance_light i d at j s there =
      flat_all root condition_subterms (chance_terms problem d).conditions j (condition_at problem d.text d.bound s)
      (flat_all root (λ (chance : ChanceTerms). constraint_subterms chance.conditions) terms.chances i (chance_terms problem d)
      (before root (flat_map (λ (chance : ChanceTerms). constraint_subterms chance.conditions) terms.chances) _ others_light) (mapped (chance_terms problem) problem.chances i d at))
      (mapped (condition_at problem d.text d.bound) (scenarios problem.stochastics) j s there)

  goal_light : (o : Objective) → problem.objective ≡ Some o → (j : ℕ) (s : Scenario) → slice_get (scenarios problem.stochastics) j ≡ Some s
      → AreLight root (subterms (instance (place_at problem [] s) o.value).term)
  goal_light o asked j s there =
      flat_all root subterms (goal_terms problem o).terms j (instance (place_at problem [] s) o.value).term
      (subst (λ (g : Option Objective). AreLight root (option_map_or goal_subterms (option_map (goal_terms problem) g) [])) asked
      (behind root (flat_map (λ (chance : ChanceTerms). constraint_subterms chance.conditions) terms.chances) _ others_light))
      (mapped (λ s. (instance (place_at problem [] s) o.value).term) (scenarios problem.stochastics) j s there)

  contained : (j : ℕ) (s : Scenario) → slice_get (scenarios problem.stochastics) j ≡ Some s → Contains (scenarios problem.stochastics) s
  contained j s at = (j, slice_get_within (scenarios problem.stochastics) j s at, get_or_from_slice_get (scenarios problem.stochastics) j s s at)

  agree : (bound : List Binding) (j : ℕ) (s : Scenario) → slice_get (scenarios problem.stochastics) j ≡ Some s → Agrees (place_at problem bound s) (place_in problem policy bound s) point
  agree bound j s at = places_agree problem bound s (cell_numbers problem s) point (cells_are_numbered problem s (contained j s at)) is_point

  condition_ready : (text : ℕ) (bound : List Binding) (e : Tree) → slice_get problem.conditions text ≡ Some e → IsWalked None (placed problem.known bound) e → (j : ℕ) (s : Scenario)
      → slice_get (scenarios problem.stochastics) j ≡ Some s → AreLight root (condition_subterms (condition_at problem text bound s)) → IsTestable (place_in problem policy bound s) e
  condition_ready text bound e stands walked j s at lights =
      condition_safe root is_box point in_root (place_at problem bound s) (place_in problem policy bound s) (agree bound j s at) (arrays bound s (contained j s at)) e walked
      (subst (λ (o : Option Tree). AreLight root (condition_subterms (option_map_or (λ k. (instance (place_at problem bound s) k).cond) o (c.Any c.no_cond)))) stands lights)

  number_ready : (o : Objective) → problem.objective ≡ Some o → IsWalked None (placed problem.known []) o.value → (j : ℕ) (s : Scenario) → slice_get (scenarios problem.stochastics) j ≡ Some s
      → IsSafe (place_in problem policy [] s) o.value
  number_ready o asked walked j s at =
      number_safe root is_box point in_root (place_at problem [] s) (place_in problem policy [] s) (agree [] j s at) (arrays [] s (contained j s at)) o.value walked (goal_light o asked j s at)

  -- no value of the objective is greater than the greatest size of its terms
  value_most : (o : Objective) (j : ℕ) (s : Scenario) → slice_get (scenarios problem.stochastics) j ≡ Some s
      → IfSome (meaning (place_in problem policy [] s) o.value).value (λ v. unsigned_abs v ≤ greatest_size root (goal_terms problem o).terms)
  value_most o j s at =
      let t : c.Term = (instance (place_at problem [] s) o.value).term in
      let fits : size root t ≤ greatest_size root (goal_terms problem o).terms =
      greatest_most root (goal_terms problem o).terms j t (mapped (λ s. (instance (place_at problem [] s) o.value).term) (scenarios problem.stochastics) j s at) in
      let small : IfSome (value point t) (λ v. unsigned_abs v ≤ size root t) = no_larger root point t is_box in_root (instances_are_proper (place_at problem [] s) o.value).term in
      subst (λ (v : Option ℤ). IfSome v (λ z. unsigned_abs z ≤ greatest_size root (goal_terms problem o).terms))
      (instances_mean (place_at problem [] s) (place_in problem policy [] s) point (agree [] j s at) (arrays [] s (contained j s at)) o.value).value
      (wider (value point t) small fits)
    where
      wider : (v : Option ℤ) {m n : ℕ} → IfSome v (λ z. unsigned_abs z ≤ m) → m ≤ n → IfSome v (λ z. unsigned_abs z ≤ n)
      wider None small le = tt
      wider (Some z) small le = omega (arith, small, le)

  goal_number_most : (o : Objective) → problem.objective ≡ Some o → o.worst ≡ false → goal_number root terms (goal_terms problem o) ≤ℤ pos (2 ^ 126)
  goal_number_most o asked expected =
      subst (λ (g : Option Objective). IfSome (option_map (goal_terms problem) g) (λ (goal : GoalTerms). goal.worst ≡ false → goal_number root terms goal ≤ℤ pos (2 ^ 126))) asked
      ((goal_is_allowed root terms).0 (no_large_goal problem allowed)) expected

-- Weights.

objective_is : (model : ModelTree) → (problem_of model).objective ≡ option_map objective_of model.goal
unfolding problem_of
objective_is model = refl

objective_met : (model : ModelTree) → NothingFails (text_events model) → IfSome (problem_of model).objective (λ (o : Objective). NothingFails (expression_events (problem_of model).known o.value))
objective_met model passes =
    subst (λ (g : Option Objective). IfSome g (λ (o : Objective). NothingFails (expression_events (problem_of model).known o.value))) (sym (objective_is model))
    (by_goal model.goal (objective_is_met model passes))
  where
    by_goal : (g : Option GoalTree) → IfSome g (λ (goal : GoalTree). NothingFails (expression_events (problem_of model).known goal.expr))
        → IfSome (option_map objective_of g) (λ (o : Objective). NothingFails (expression_events (problem_of model).known o.value))
    by_goal None met = tt
    by_goal (Some g) met = met

-- what a text that was read and is unfolded says of its problem
pub record IsUnfolding (problem : Problem) : Type 0 where
  arrays : AreArraysIn problem
  is_box : IsBox (root_box (cells problem))
  hards : AllByRecursion (λ (h : Hard). IsMet problem.known problem.conditions h.text h.bound) problem.hards
  chances : AllByRecursion (λ (d : Chance). IsMet problem.known problem.conditions d.text d.bound × IsThreshold d.p d.q) problem.chances
  objective : IfSome problem.objective (λ (o : Objective). NothingFails (expression_events problem.known o.value))
  some : 1 ≤ length (problem_terms problem).weights
  weighs : AllByRecursion (λ w. pos 1 ≤ℤ w) (problem_terms problem).weights
  sums_to : (problem_terms problem).whole ≡ globals.total (problem_terms problem).weights
  few_hards : length problem.hards ≤ 2 ^ 32
  few_chances : length problem.chances ≤ 2 ^ 32

pub unfolds : (model : ModelTree) → ∥ IsFromTokens model ∥₁ → IsWellTyped model → NothingFails (text_events model) → IsUnfolding (problem_of model)
unfolds model from typed passes = record {
  arrays = texts_are_arrays model typed passes;
  is_box = root_is_box model passes;
  hards = hards_are_met model passes;
  chances = chances_are_met model passes;
  objective = objective_met model passes;
  some = ∥∥₁_elim from (search props) (λ f. (problems_are_well_made model f passes).first);
  weighs = positive_there (problem_terms (problem_of model)).weights (∥∥₁_map from (λ f. (problems_are_well_made model f passes).weighs));
  sums_to = ∥∥₁_elim from (search props) (λ f. (problems_are_well_made model f passes).whole);
  few_hards = omega (arith, instances_are_counted model passes);
  few_chances = omega (arith, instances_are_counted model passes);
}

-- so a policy may be tried on it
module _ (trial : Trial) (is : IsUnfolding (posed trial)) (laid : IsTreeOf trial.variables.now.decisions.now trial.variables.now.stochs.now trial.tree.now)
    (within : size_excess usual_limits (posed trial) ≡ None) (allowed : program_excess (posed trial) ≡ None) (is_point : IsPoint (cells (posed trial)) trial.policy.now) where
  abbrev asked : Problem
  asked = posed trial

  abbrev found : List Scenario
  found = scenarios trial.variables.now.stochs.now

  condition_tried : (text : ℕ) (bound : List Binding) → IsMet asked.known asked.conditions text bound
      → ((j : ℕ) (s : Scenario) → slice_get found j ≡ Some s → AreLight (root_box (cells asked)) (condition_subterms (condition_at asked text bound s))) → IsTried trial text bound
  condition_tried text bound met lights = record {
    condition = met.condition;
    stands = met.stands;
    safe = λ i below.
        let s = there found i (omega (arith, below, many trial laid)) in
        subst (λ p. IsTestable p met.condition) (sym (place_is trial laid bound i s.0 s.1))
        (condition_ready asked trial.policy.now is_point is.arrays is.is_box allowed text bound met.condition met.stands
        (expressions_are_walked met.condition None (placed asked.known bound) met.passes) i s.0 s.1 (lights i s.0 s.1));
  }

  sum_whole : pos (sizes trial.tree.now.weights) ≡ total_weight trial.variables.now.stochs.now
  sum_whole =
      sizes_sum trial.tree.now.weights (subst (AllByRecursion (λ w. pos 1 ≤ℤ w)) (sym (weights_are trial laid)) is.weighs)
      ∙ ap total (weights_are trial laid)
      ∙ sym (total_so (problem_terms asked).weights)
      ∙ sym is.sums_to

  room_is : (n : ℕ) (w : ℤ) → pos (sizes trial.tree.now.weights) ≡ w → (w *ℤ pos (n + 1)) ≤ℤ pos (2 ^ 126) → unsigned_abs (pos 0) + n * sizes trial.tree.now.weights ≤ 2 ^ 126
  room_is n w same most =
      let number : w *ℤ pos (n + 1) ≡ pos (sizes trial.tree.now.weights * (n + 1)) = ap (λ z. z *ℤ pos (n + 1)) (sym same) ∙ pos-*ℤ-pos (sizes trial.tree.now.weights) (n + 1) in
      let product : sizes trial.tree.now.weights * (n + 1) ≡ sizes trial.tree.now.weights * n + sizes trial.tree.now.weights * 1 = mul-add (sizes trial.tree.now.weights) n 1 in
      let turned : n * sizes trial.tree.now.weights ≡ sizes trial.tree.now.weights * n = mul_comm n (sizes trial.tree.now.weights) in
      let below : pos (sizes trial.tree.now.weights * (n + 1)) ≤ℤ pos (2 ^ 126) = subst (λ z. z ≤ℤ pos (2 ^ 126)) number most in
      omega (arith, ints, below, product, turned)

  goal_tried : (goal : Goal) → trial.goal.now ≡ Some goal → IsGoalTried trial goal
  goal_tried goal there_is =
      let o : Objective = objective_of (goal_tree goal) in
      let stated : asked.objective ≡ Some o = ap (λ (g : Option Goal). option_map objective_of (option_map goal_tree g)) there_is in
      let passes : NothingFails (expression_events asked.known goal.expr) =
      subst (λ (g : Option Objective). IfSome g (λ (a : Objective). NothingFails (expression_events asked.known a.value))) stated is.objective in
      record {
        safe = λ i below.
            let s = there found i (omega (arith, below, many trial laid)) in
            subst (λ p. IsSafe p goal.expr) (sym (place_is trial laid [] i s.0 s.1))
            (number_ready asked trial.policy.now is_point is.arrays is.is_box allowed o stated (expressions_are_walked goal.expr None (placed asked.known []) passes) i s.0 s.1);
        fits = λ values all expected.
            they_fit (greatest_size (root_box (cells asked)) (goal_terms asked o).terms) (pos 0) trial.tree.now.weights values
            (values_most (λ s. (meaning (place_in asked (policy_of trial) [] s) goal.expr).value) (greatest_size (root_box (cells asked)) (goal_terms asked o).terms) found values
            (sym (ap (λ n. all_of (value_at trial (table_known trial.table.now) goal.expr) (range_with_len 0 n)) (many trial laid)
            ∙ valued_by (value_at trial (table_known trial.table.now) goal.expr) (λ s. (meaning (place_in asked (policy_of trial) [] s) goal.expr).value) found
            (λ i s at. ap (λ (p : Place). (meaning p goal.expr).value) (place_is trial laid [] i s at))) ∙ all)
            (λ i s at. value_most asked trial.policy.now is_point is.arrays is.is_box allowed o i s at))
            (room_is (greatest_size (root_box (cells asked)) (goal_terms asked o).terms) (total_weight trial.variables.now.stochs.now) sum_whole
            (goal_number_most asked trial.policy.now is_point is.arrays is.is_box allowed o stated expected));
      }

  goals_tried : (g : Option Goal) → trial.goal.now ≡ g → IfSome g (IsGoalTried trial)
  goals_tried None there_is = tt
  goals_tried (Some goal) there_is = goal_tried goal there_is

  pub is_ready : IsTrial trial
  is_ready = record {
    laid = laid;
    decided = point_long (cells asked) trial.policy.now is_point;
    hards =
        each_is trial.hards.now (λ i h at met. condition_tried h.text h.bound met (λ j s there_at. hard_light asked trial.policy.now is_point is.arrays is.is_box allowed i h at j s there_at)) is.hards;
    chances =
        each_is trial.chances.now
        (λ i d at met. (condition_tried d.text d.bound met.0 (λ j s there_at. chance_light asked trial.policy.now is_point is.arrays is.is_box allowed i d at j s there_at), met.1)) is.chances;
    goal = goals_tried trial.goal.now refl;
    weights = subst (AllByRecursion (λ w. pos 1 ≤ℤ w)) (sym (weights_are trial laid)) is.weighs;
    whole = ap total (weights_are trial laid) ∙ sym (total_so (problem_terms asked).weights) ∙ sym is.sums_to ∙ sym laid.whole;
    most = subst (λ z. z ≤ℤ pos (2 ^ 100)) (sym laid.whole) (light_within asked within);
    some = omega (arith, is.some, length-map found (λ (s : Scenario). s.weight), many trial laid);
    few_hards = is.few_hards;
    few_chances = is.few_chances;
  }

-- where what is posed is what the text states
pub posed_is : (known : Known) (decisions : List Decision) (stochastics : List Stochastic) (conditions : List Tree) (hards : List Hard) (chances : List Chance) (goal : Option Goal) (m : Model)
    → known ≡ (problem_of (whole m)).known → decisions ≡ (problem_of (whole m)).decisions → stochastics ≡ (problem_of (whole m)).stochastics → conditions ≡ (problem_of (whole m)).conditions
    → hards ≡ (problem_of (whole m)).hards → chances ≡ (problem_of (whole m)).chances → goal ≡ m.goal
    → record {
      known = known;
      decisions = decisions;
      stochastics = stochastics;
      conditions = conditions;
      hards = hards;
      chances = chances;
      objective = option_map objective_of (option_map goal_tree goal);
    }
    ≡ problem_of (whole m)
posed_is known decisions stochastics conditions hards chances goal m knows decided drawn texts firm likely wanted =
    let objective : option_map objective_of (option_map goal_tree goal) ≡ (problem_of (whole m)).objective =
    ap (λ (g : Option Goal). option_map objective_of (option_map goal_tree g)) wanted ∙ sym (objective_is (whole m)) in
    λ i. record {
      known = knows i;
      decisions = decided i;
      stochastics = drawn i;
      conditions = texts i;
      hards = firm i;
      chances = likely i;
      objective = objective i;
    }

pub may_try : (trial : Trial) (m : Model) → posed trial ≡ problem_of (whole m) → ∥ IsFromTokens (whole m) ∥₁ → IsWellTyped (whole m) → NothingFails (text_events (whole m))
    → IsTreeOf (problem_of (whole m)).decisions (problem_of (whole m)).stochastics trial.tree.now → size_excess usual_limits (problem_of (whole m)) ≡ None → program_excess (problem_of (whole m)) ≡ None
    → IsPoint (cells (problem_of (whole m))) trial.policy.now → IsTrial trial
may_try trial m same from typed passes laid within allowed is_point =
    is_ready trial (subst IsUnfolding (sym same) (unfolds (whole m) from typed passes))
    (subst (λ (p : Problem). IsTreeOf p.decisions p.stochastics trial.tree.now) (sym same) laid)
    (subst (λ (p : Problem). size_excess usual_limits p ≡ None) (sym same) within)
    (subst (λ (p : Problem). program_excess p ≡ None) (sym same) allowed)
    (subst (λ (p : Problem). IsPoint (cells p) trial.policy.now) (sym same) is_point)

pub few_drawn : (model : ModelTree) → NothingFails (text_events model) → (xs : List Stochastic) → xs ≡ (problem_of model).stochastics → length xs ≤ 2 ^ 32
few_drawn model passes xs is = omega (arith, ap (length {A = Stochastic}) is, instances_are_counted model passes)

pub few_decided : (model : ModelTree) → NothingFails (text_events model) → (xs : List Decision) → xs ≡ (problem_of model).decisions → length xs ≤ 2 ^ 32
few_decided model passes xs is = omega (arith, ap (length {A = Decision}) is, instances_are_counted model passes)

pub report_either : (r : Result Report AllocError) (p q : Problem) (values kept : List ℤ) → values ≡ kept → p ≡ q → IfOk r (λ report. IsReport p (policy_at (cells p) values) (report_shown report))
    → IfOk r (λ report. IsReport q (policy_at (cells q) kept) (report_shown report))
report_either (Ok report) p q values kept are same told =
    subst (λ (vs : List ℤ). IsReport q (policy_at (cells q) vs) (report_shown report)) are
    (subst (λ (z : Problem). IsReport z (policy_at (cells z) values) (report_shown report)) same told)
report_either (Err e) p q values kept are same told = tt
