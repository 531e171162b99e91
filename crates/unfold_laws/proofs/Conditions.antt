-- What is met in the conditions of constraints.
use Rattle.std.proofs.Common.{◌≡◌, refl, sym, ap, subst, ◌∙◌, ℕ, ◌+◌, ℤ, pos, int_le, true, ◌&&◌, List, [], ◌∷◌, ◌++◌, length, Option, Some, None, IfSome, slice_get}
use Rattle.std.proofs.lemmas.List.{append_assoc, append-nil, length-append}
use Rattle.std.specs.List.{AllByRecursion}
use Rattle.std.proofs.lemmas.Bool.{and_parts}
use Rattle.sopl_base.proofs.Tests.{le_tested}
use Rattle.sopl_base.proofs.Lists.{all_append, all_joined}
use Rattle.sopl_base.specs.declared.codes.TheConstants as codes
use Rattle.sopl_base.specs.declared.limits.TheConstants as largest
use Rattle.sopl_ast.specs.Tree.{Tree, place_of}
use Rattle.sopl_ast.specs.Whole.{ConsTree, ConsTrees, ForallTree, BlockTree, HardTree, ChanceTree, no_cons, cons, conses, GoalTree, ModelTree}
use Rattle.sopl_ast.specs.Known.{Known, with_bound}
use Rattle.sopl_ast.specs.Constants.{value_or_zero, all_bindings}
use Rattle.sopl_ast.specs.UnfoldEvents.{refused_unless, constant_place, expression_events}
use Rattle.sopl_ast.specs.Instances.{Hard, Chance}
use Rattle.sopl_ast.specs.Unfolding.{ConstraintInstance, hard_instance, chance_instance, conditions_of, all_conditions, constraint_instances, all_constraint_instances, hards_among}
use Rattle.sopl_ast.specs.Unfolding.{chances_among, is_threshold, threshold_events, constraint_events, constraints_events, goal_events, problem_of}
use Rattle.unfold_laws.specs.Passing.{NothingFails}
use Rattle.unfold_laws.specs.Conditions.{placed, IsMet, IsThreshold, HardsAreMet, ChancesAreMet, ObjectiveIsMet}
use Rattle.unfold_laws.proofs.Passing.{parts_pass, passes_counted, test_holds}
use Rattle.unfold_laws.proofs.Declared.{each_of}
use Rattle.unfold_laws.proofs.Bindings.{all_given}
use Rattle.unfold_laws.proofs.Whole.{found_in, text_parts}

-- the condition at the end of those before it
stands_at : (before after : List Tree) (e : Tree) → slice_get (before ++ e ∷ after) (length before) ≡ Some e
stands_at [] after e = refl
stands_at (b ∷ before) after e = stands_at before after e

-- an instance whose condition is met, and whose threshold is one
abbrev IsMetInstance : Known → List Tree → ConstraintInstance → Type 0
IsMetInstance known conditions (hard_instance h) = IsMet known conditions h.text h.bound
IsMetInstance known conditions (chance_instance c) = IsMet known conditions c.text c.bound × IsThreshold c.p c.q

-- only binders change what is known
abbrev IsPlaced : Known → Known → Type 0
IsPlaced known here = here ≡ placed known here.bound

placed_further : (known : Known) (name : List ℕ) (n : ℤ) (here : Known) → IsPlaced known here → IsPlaced known (with_bound name n here)
placed_further known name n here is = λ i. placed (is i) (with_bound name n here).bound

threshold_there : (p q : ℤ) → is_threshold p q ≡ true → IsThreshold p q
threshold_there p q is =
    let first = and_parts (int_le (pos 0) p) (int_le p q && (int_le (pos 1) q && int_le q largest.DENOMINATOR)) is in
    let second = and_parts (int_le p q) (int_le (pos 1) q && int_le q largest.DENOMINATOR) first.1 in
    let third = and_parts (int_le (pos 1) q) (int_le q largest.DENOMINATOR) second.1 in
    record { least = le_tested (pos 0) p first.0; most = le_tested p q second.0; positive = le_tested (pos 1) q third.0; small = le_tested q largest.DENOMINATOR third.1 }

mutual
  met_instances : (c : ConsTree) (before after : List Tree) (known here : Known) → IsPlaced known here → NothingFails (constraint_events here c)
      → AllByRecursion (IsMetInstance known (before ++ (conditions_of c ++ after))) (constraint_instances here (length before) c)
  met_instances (ForallTree bs c) before after known here is passes =
      all_joined (IsMetInstance known (before ++ (conditions_of c ++ after))) (λ inner. constraint_instances inner (length before) c) (all_bindings here bs)
      (each_of (λ inner. IsPlaced known inner × NothingFails (constraint_events inner c))
      (λ inner. AllByRecursion (IsMetInstance known (before ++ (conditions_of c ++ after))) (constraint_instances inner (length before) c))
      (λ inner both. met_instances c before after known inner both.0 both.1) (all_bindings here bs)
      (all_given (IsPlaced known) (placed_further known) bs here (λ inner. constraint_events inner c) is passes))
  met_instances (BlockTree cs) before after known here is passes = met_all cs before after known here is passes
  met_instances (HardTree e) before after known here is passes =
      (record { condition = e; stands = stands_at before after e; passes = subst (λ k. NothingFails (expression_events k e)) is (passes_counted (expression_events here e) passes) }, tt)
  met_instances (ChanceTree e p q) before after known here is passes =
      let both = parts_pass (expression_events here e) (threshold_events here p q) (passes_counted (expression_events here e ++ threshold_events here p q) passes) in
      let first = parts_pass (constant_place here p) (constant_place here q ++ refused_unless (is_threshold (value_or_zero here p) (value_or_zero here q)) codes.THRESHOLD (place_of p)) both.1 in
      let second = parts_pass (constant_place here q) (refused_unless (is_threshold (value_or_zero here p) (value_or_zero here q)) codes.THRESHOLD (place_of p)) first.1 in (
        (
          record { condition = e; stands = stands_at before after e; passes = subst (λ k. NothingFails (expression_events k e)) is both.0 },
          threshold_there (value_or_zero here p) (value_or_zero here q) (test_holds _ codes.THRESHOLD (place_of p) second.1),
        ),
        tt,
      )

  met_all : (cs : ConsTrees) (before after : List Tree) (known here : Known) → IsPlaced known here → NothingFails (constraints_events here cs)
      → AllByRecursion (IsMetInstance known (before ++ (all_conditions cs ++ after))) (all_constraint_instances here (length before) cs)
  met_all no_cons before after known here is passes = tt
  met_all (cons c cs) before after known here is passes =
      let both = parts_pass (constraint_events here c) (constraints_events here cs) passes in
      all_append (IsMetInstance known (before ++ ((conditions_of c ++ all_conditions cs) ++ after))) (constraint_instances here (length before) c)
      (all_constraint_instances here (length before + length (conditions_of c)) cs)
      (subst (λ rest. AllByRecursion (IsMetInstance known (before ++ rest)) (constraint_instances here (length before) c))
      (sym (append_assoc (conditions_of c) (all_conditions cs) after))
      (met_instances c before (all_conditions cs ++ after) known here is both.0))
      (subst (λ n. AllByRecursion (IsMetInstance known (before ++ ((conditions_of c ++ all_conditions cs) ++ after))) (all_constraint_instances here n cs))
      (length-append before (conditions_of c))
      (subst (λ all. AllByRecursion (IsMetInstance known all) (all_constraint_instances here (length (before ++ conditions_of c)) cs))
      (append_assoc before (conditions_of c) (all_conditions cs ++ after) ∙ ap (λ rest. before ++ rest) (sym (append_assoc (conditions_of c) (all_conditions cs) after)))
      (met_all cs (before ++ conditions_of c) after known here is both.1)))

hards_met : (known : Known) (conditions : List Tree) (xs : List ConstraintInstance) → AllByRecursion (IsMetInstance known conditions) xs
    → AllByRecursion (λ (h : Hard). IsMet known conditions h.text h.bound) (hards_among xs)
hards_met known conditions [] all = tt
hards_met known conditions (hard_instance h ∷ xs) all = (all.0, hards_met known conditions xs all.1)
hards_met known conditions (chance_instance c ∷ xs) all = hards_met known conditions xs all.1

chances_met : (known : Known) (conditions : List Tree) (xs : List ConstraintInstance) → AllByRecursion (IsMetInstance known conditions) xs
    → AllByRecursion (λ (c : Chance). IsMet known conditions c.text c.bound × IsThreshold c.p c.q) (chances_among xs)
chances_met known conditions [] all = tt
chances_met known conditions (hard_instance h ∷ xs) all = chances_met known conditions xs all.1
chances_met known conditions (chance_instance c ∷ xs) all = (all.0, chances_met known conditions xs all.1)

body_parts : (model : ModelTree) → NothingFails (goal_events (found_in model).known model.goal ++ constraints_events (found_in model).known (conses model.body))
    → AllByRecursion (IsMetInstance (found_in model).known (all_conditions (conses model.body))) (all_constraint_instances (found_in model).known 0 (conses model.body))
body_parts model passes =
    subst (λ conditions. AllByRecursion (IsMetInstance (found_in model).known conditions) (all_constraint_instances (found_in model).known 0 (conses model.body)))
    (append-nil (all_conditions (conses model.body)))
    (met_all (conses model.body) [] [] (found_in model).known (found_in model).known refl
    (parts_pass (goal_events (found_in model).known model.goal) (constraints_events (found_in model).known (conses model.body)) passes).1)

pub hards_are_met : HardsAreMet
unfolding problem_of
hards_are_met model passes = hards_met _ _ _ (body_parts model (text_parts model passes).1)

pub chances_are_met : ChancesAreMet
unfolding problem_of
chances_are_met model passes = chances_met _ _ _ (body_parts model (text_parts model passes).1)

pub objective_is_met : ObjectiveIsMet
unfolding problem_of
objective_is_met model passes =
    on model.goal
    (parts_pass (goal_events (found_in model).known model.goal) (constraints_events (found_in model).known (conses model.body)) (text_parts model passes).1).0
  where
    on : (goal : Option GoalTree) → NothingFails (goal_events (found_in model).known goal)
        → IfSome goal (λ (g : GoalTree). NothingFails (expression_events (found_in model).known g.expr))
    on None is = tt
    on (Some g) is = is
