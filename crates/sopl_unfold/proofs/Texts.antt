-- A text from its declarations, its objective and its constraints.
use Rattle.std.proofs.Common.{◌≡◌, sym, ap, subst, ◌∙◌, ◌⊎◌, inl, inr, ℕ, List, [], ◌∷◌, ◌++◌, map, Result, Ok, Err, IfOk, Vec, Bor}
use Rattle.std.specs.List.{AllByRecursion}
use Rattle.sopl_base.specs.declared.fault.Fault.{Fault}
use Rattle.sopl_base.specs.declared.fault.Fault.TheVariants.{NoMemory}
use Rattle.std.specs.declared.alloc.AllocError.{AllocError}
use Rattle.std.specs.declared.alloc.Global.{Global}
use Rattle.sopl_ast.specs.declared.whole.Model.{Model}
use Rattle.sopl_ast.specs.Constraints.{cons_trees}
use Rattle.sopl_ast.specs.Tree.{Tree}
use Rattle.sopl_ast.specs.Whole.{ModelTree, conses}
use Rattle.sopl_ast.specs.WholeModel.{whole as whole_model}
use Rattle.sopl_ast.specs.UnfoldEvents.{UnfoldEvent, first_failure}
use Rattle.sopl_ast.specs.Instances.{Stochastic}
use Rattle.sopl_ast.specs.Declarations.{Declared, nothing_declared, behind_all, declarations_events}
use Rattle.sopl_ast.specs.References.{now_of}
use Rattle.sopl_ast.specs.Unfolding.{goal_events, constraints_events, body_events, text_events, problem_of, by_stage, all_conditions, hards_among}
use Rattle.sopl_ast.specs.Unfolding.{chances_among, all_constraint_instances}
use Rattle.unfold_laws.specs.Passing.{NothingFails}
use Rattle.unfold_laws.specs.Bounds.{IsStage, IsBoundedStochastic}
use Rattle.unfold_laws.proofs.Declared.{declared_bounded}
use Rattle.unfold_tables.specs.Tables.{table_known}
use Rattle.sopl_unfold.specs.declared.ground.StatedParts.{StatedParts}
use Rattle.sopl_unfold.specs.Shown.{Unfolds}
use Rattle.sopl_unfold.proofs.Ways.{met_first, stopped_first, passes_so}

-- a way ends by a fault, or memory ran out
abbrev pub Ends : ℕ → List UnfoldEvent → Fault → Type 0
Ends before events f = (f ≡ NoMemory) ⊎ (first_failure before events ≡ Err f)

ends_behind : (before mid : ℕ) (first more : List UnfoldEvent) (f : Fault) → first_failure before first ≡ Ok mid → Ends mid more f → Ends before (first ++ more) f
ends_behind before mid first more f is (inl memory) = inl memory
ends_behind before mid first more f is (inr stopped) = inr (met_first before mid first more is ∙ stopped)

module _ (model : ModelTree) where
  abbrev whole : Declared
  whole = behind_all model.decls nothing_declared

  pub declarations_end : (f : Fault) → Ends 0 (declarations_events nothing_declared model.decls) f → Ends 0 (text_events model) f
  unfolding text_events
  declarations_end f ends = stopped_first 0 (declarations_events nothing_declared model.decls) (body_events whole model) f ends

  module _ (found : Declared) (is : found ≡ behind_all model.decls nothing_declared) (first : ℕ) (declared : first_failure 0 (declarations_events nothing_declared model.decls) ≡ Ok first) where
    pub stages_there : AllByRecursion (λ (s : Stochastic). IsStage s.stage) found.stochastics
    stages_there =
        subst (λ (d : Declared). AllByRecursion (λ (s : Stochastic). IsStage s.stage) d.stochastics) (sym is)
        (stages whole.stochastics (declared_bounded model.decls (passes_so (declarations_events nothing_declared model.decls) first declared)).stochastics)
      where
        stages : (ss : List Stochastic) → AllByRecursion IsBoundedStochastic ss → AllByRecursion (λ (s : Stochastic). IsStage s.stage) ss
        stages [] all = tt
        stages (s ∷ ss) all = (all.0.stage, stages ss all.1)

    pub objective_ends : (f : Fault) → Ends first (goal_events found.known model.goal) f → Ends 0 (text_events model) f
    unfolding text_events
    objective_ends f ends =
        ends_behind 0 first (declarations_events nothing_declared model.decls) (body_events whole model) f declared
        (stopped_first first (goal_events whole.known model.goal) (constraints_events whole.known (conses model.body)) f
        (subst (λ (d : Declared). Ends first (goal_events d.known model.goal) f) is ends))

    module _ (second : ℕ) (walked : first_failure first (goal_events found.known model.goal) ≡ Ok second) where
      goal_walked : first_failure first (goal_events whole.known model.goal) ≡ Ok second
      goal_walked = subst (λ (d : Declared). first_failure first (goal_events d.known model.goal) ≡ Ok second) is walked

      pub constraints_end : (f : Fault) → Ends second (constraints_events found.known (conses model.body)) f → Ends 0 (text_events model) f
      unfolding text_events
      constraints_end f ends =
          ends_behind 0 first (declarations_events nothing_declared model.decls) (body_events whole model) f declared
          (ends_behind first second (goal_events whole.known model.goal) (constraints_events whole.known (conses model.body)) f goal_walked
          (subst (λ (d : Declared). Ends second (constraints_events d.known (conses model.body)) f) is ends))

      text_passes : (third : ℕ) → first_failure second (constraints_events found.known (conses model.body)) ≡ Ok third → NothingFails (text_events model)
      unfolding text_events
      text_passes third last =
          passes_so (declarations_events nothing_declared model.decls ++ body_events whole model) third
          (met_first 0 first (declarations_events nothing_declared model.decls) (body_events whole model) declared
          ∙ met_first first second (goal_events whole.known model.goal) (constraints_events whole.known (conses model.body)) goal_walked
          ∙ subst (λ (d : Declared). first_failure second (constraints_events d.known (conses model.body)) ≡ Ok third) is last)

      -- what was found is what the model states
      pub text_unfolds : (kept : StatedParts) (third : ℕ) → first_failure second (constraints_events found.known (conses model.body)) ≡ Ok third
          → table_known kept.table ≡ found.known → kept.decisions.items ≡ found.decisions → kept.stochs.items ≡ by_stage found.stochastics
          → kept.hards.items ≡ hards_among (all_constraint_instances found.known 0 (conses model.body))
          → kept.chances.items ≡ chances_among (all_constraint_instances found.known 0 (conses model.body)) → Unfolds model kept
      unfolding problem_of
      text_unfolds kept third last known decisions stochastics hards chances =
          record {
            passes = text_passes third last;
            known = known ∙ ap (λ (d : Declared). d.known) is;
            decisions = decisions ∙ ap (λ (d : Declared). d.decisions) is;
            stochastics = stochastics ∙ ap (λ (d : Declared). by_stage d.stochastics) is;
            hards = hards ∙ ap (λ (d : Declared). hards_among (all_constraint_instances d.known 0 (conses model.body))) is;
            chances = chances ∙ ap (λ (d : Declared). chances_among (all_constraint_instances d.known 0 (conses model.body))) is;
          }

-- the conditions of a text are those of its problem
pub conditions_stated : (kept text : Model) → text ≡ kept → (result : Result (Vec (Bor Tree) Global) AllocError)
    → IfOk result (λ found. map now_of found.items ≡ all_conditions (conses (cons_trees text.body))) → IfOk result (λ found. map now_of found.items ≡ (problem_of (whole_model kept)).conditions)
unfolding problem_of
conditions_stated kept text is (Ok found) stated = stated ∙ ap (λ (m : Model). all_conditions (conses (cons_trees m.body))) is
conditions_stated kept text is (Err e) stated = tt
