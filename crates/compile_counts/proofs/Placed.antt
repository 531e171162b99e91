-- Instances of constraints, and the objective.
use Rattle.std.proofs.Common.{◌≡◌, refl, sym, ap, subst, ◌∙◌, ℕ, ◌+◌, ◌<◌, List, [], ◌∷◌, length, get_or, drop, Some, None, IfSome, option_map, Result, Ok, Err, IfOk}
use Rattle.std.specs.Prelude.{slice_get}
use Rattle.std.specs.List.{AllByRecursion}
use Rattle.std.specs.Option.{option_map_or}
use Rattle.std.proofs.lemmas.List.{at_drop_more}
use Rattle.sopl_ast.specs.Tree.{Tree}
use Rattle.sopl_ast.specs.Known.{Binding, Known}
use Rattle.sopl_ast.specs.Instances.{Hard, Chance, Objective}
use Rattle.sopl_ast.specs.UnfoldEvents.{expression_events}
use Rattle.sopl_ast.specs.TermNodes.{nodes, objective_nodes}
use Rattle.sopl_ast.specs.Unfolding.{objective_of, problem_of, text_events}
use Rattle.sopl_ast.specs.Whole.{GoalTree, ModelTree}
use Rattle.unfold_laws.specs.Conditions.{placed, IsMet, IsThreshold}
use Rattle.unfold_laws.specs.Passing.{NothingFails}
use Rattle.unfold_laws.proofs.Conditions.{hards_are_met, chances_are_met, objective_is_met}
use Rattle.compile_counts.specs.Walked.{IsWalked}
use Rattle.compile_counts.proofs.Walking.{expressions_are_walked}

module _ (known here : Known) (conditions : List Tree) (text : ℕ) (bound : List Binding) (is : IsMet known conditions text bound) (at : here ≡ placed known bound) where
  -- its binders and divisors pass
  pub met_walked : (e : Tree) → slice_get conditions text ≡ Some e → IsWalked None here e
  met_walked e there =
      let same : Some is.condition ≡ Some e = sym is.stands ∙ there in
      subst (λ k. IsWalked None k e) (sym at)
      (subst (λ o. IfSome o (λ t. IsWalked None (placed known bound) t)) same (expressions_are_walked is.condition None (placed known bound) is.passes))

-- what holds of chance constraints beside their thresholds
pub chances_met : (known : Known) (conditions : List Tree) (chances : List Chance)
    → AllByRecursion (λ (c : Chance). IsMet known conditions c.text c.bound × IsThreshold c.p c.q) chances
    → AllByRecursion (λ (c : Chance). IsMet known conditions c.text c.bound) chances
chances_met known conditions [] all = tt
chances_met known conditions (c ∷ cs) all = (all.0.0, chances_met known conditions cs all.1)

-- the instances of hard constraints of a text that passes
pub hards_ready : (model : ModelTree) (known : Known) (conditions : List Tree) (hards : List Hard) → NothingFails (text_events model)
    → known ≡ (problem_of model).known → conditions ≡ (problem_of model).conditions → hards ≡ (problem_of model).hards
    → AllByRecursion (λ (h : Hard). IsMet known conditions h.text h.bound) hards
hards_ready model known conditions hards passes knows lists is =
    subst (λ hs. AllByRecursion (λ (h : Hard). IsMet known conditions h.text h.bound) hs) (sym is)
    (subst (λ cs. AllByRecursion (λ (h : Hard). IsMet known cs h.text h.bound) (problem_of model).hards) (sym lists)
    (subst (λ k. AllByRecursion (λ (h : Hard). IsMet k (problem_of model).conditions h.text h.bound) (problem_of model).hards) (sym knows) (hards_are_met model passes)))

-- those of chance constraints
pub chances_ready : (model : ModelTree) (known : Known) (conditions : List Tree) (chances : List Chance) → NothingFails (text_events model)
    → known ≡ (problem_of model).known → conditions ≡ (problem_of model).conditions → chances ≡ (problem_of model).chances
    → AllByRecursion (λ (c : Chance). IsMet known conditions c.text c.bound) chances
chances_ready model known conditions chances passes knows lists is =
    subst (λ xs. AllByRecursion (λ (c : Chance). IsMet known conditions c.text c.bound) xs) (sym is)
    (subst (λ cs. AllByRecursion (λ (c : Chance). IsMet known cs c.text c.bound) (problem_of model).chances) (sym lists)
    (subst (λ k. AllByRecursion (λ (c : Chance). IsMet k (problem_of model).conditions c.text c.bound) (problem_of model).chances) (sym knows)
    (chances_met (problem_of model).known (problem_of model).conditions (problem_of model).chances (chances_are_met model passes))))

-- the objective of a model
goal_is : (model : ModelTree) → (problem_of model).objective ≡ option_map objective_of model.goal
unfolding problem_of
goal_is model = refl

module _ (model : ModelTree) (known : Known) (knows : known ≡ (problem_of model).known) where
  pub no_goal : model.goal ≡ None → 0 ≡ objective_nodes (problem_of model)
  no_goal none = sym (ap (λ o. option_map_or (λ (o : Objective). nodes (problem_of model).known o.value) o 0) (goal_is model ∙ ap (option_map objective_of) none))

  pub goal_nodes : (goal : GoalTree) → model.goal ≡ Some goal → nodes known goal.expr ≡ objective_nodes (problem_of model)
  goal_nodes goal some =
      ap (λ k. nodes k goal.expr) knows
      ∙ sym (ap (λ o. option_map_or (λ (o : Objective). nodes (problem_of model).known o.value) o 0) (goal_is model ∙ ap (option_map objective_of) some))

  pub goal_walked : (goal : GoalTree) → NothingFails (text_events model) → model.goal ≡ Some goal → IsWalked None known goal.expr
  goal_walked goal passes some =
      subst (λ k. IsWalked None k goal.expr) (sym knows)
      (expressions_are_walked goal.expr None (problem_of model).known
      (subst (λ o. IfSome o (λ (g : GoalTree). NothingFails (expression_events (problem_of model).known g.expr))) some (objective_is_met model passes)))

-- what follows for an answer
pub if_ok : {A E : Type 0} (P Q : A → Type 0) → ((x : A) → P x → Q x) → (answer : Result A E) → IfOk answer P → IfOk answer Q
if_ok P Q so (Ok x) holds = so x holds
if_ok P Q so (Err e) holds = tt

-- the first of what is left in a loop
pub next_at : {A : Type 0} (xs : List A) (i : ℕ) (x d : A) → i < length xs → x ≡ get_or xs i d → drop i xs ≡ x ∷ drop (i + 1) xs
next_at xs i x d below at = at_drop_more (λ l. l) xs i d below ∙ ap (λ y. y ∷ drop (i + 1) xs) (sym at)
