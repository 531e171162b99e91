-- The objective ends a program, which is then that of the problem.
use Rattle.std.proofs.Common.{arith, ◌≡◌, ◌∙◌, refl, sym, ap, subst, inl, inr, ℕ, ◌+◌, ◌^◌, ◌≤◌, ℤ, pos, ◌*ℤ◌, ◌≤ℤ◌, ◌<ℤ◌, Bool, List, [], ◌∷◌, map, length, Option, Some, None}
use Rattle.std.proofs.Common.{IfErr, IfOk, option_map, Result, Ok, Err}
use Rattle.std.proofs.lemmas.List.{length-map}
use Rattle.std.specs.Option.{option_map_or}
use Rattle.box_problem.specs.Box.{Box}
use Rattle.term_language.specs.Globals.{total}
use Rattle.term_language.specs.Terms.{Term}
use Rattle.compile_laws.specs.Whole.{goal_terms, problem_terms}
use Rattle.term_problem.specs.Objective.{greatest_size}
use Rattle.term_problem.specs.Problems.{ProblemTerms}
use Rattle.compile_laws.specs.Measured.{first_large, measured_excess, measured_terms}
use Rattle.compile_names.specs.declared.setting.Scenarios.{Scenarios}
use Rattle.compile_scene.specs.Scenes.{root_in}
use Rattle.compile_scene.specs.Works.{things_of}
use Rattle.compile_scene.specs.declared.work.Lowering.{Lowering}
use Rattle.sopl_ast.specs.Instances.{Objective}
use Rattle.sopl_ast.specs.Limits.{size_excess, usual_limits}
use Rattle.sopl_ast.specs.Origin.{IsFromTokens}
use Rattle.sopl_ast.specs.Scenarios.{scenarios}
use Rattle.sopl_ast.specs.Unfolding.{objective_of, problem_of, text_events}
use Rattle.sopl_ast.specs.Whole.{GoalTree, ModelTree}
use Rattle.sopl_base.specs.declared.direction.Direction.{Direction}
use Rattle.sopl_base.specs.declared.direction.Direction.TheVariants.{Minimize, Maximize, Nothing}
use Rattle.sopl_base.specs.declared.fault.Fault.{Fault}
use Rattle.sopl_compile.proofs.Allowed.{light}
use Rattle.sopl_compile.proofs.Faults.{IsLimitOf, asked_number, goal_allowed, goal_alone, goal_refused}
use Rattle.sopl_compile.proofs.Listing.{listed_length}
use Rattle.sopl_compile.proofs.Made.{goal_directed, some_weight, whole_is}
use Rattle.sopl_compile.proofs.Objectives.{goal_direction, goal_worst, no_direction, no_terms, objective_is, some_is}
use Rattle.sopl_compile.proofs.Weights.{weight_of}
use Rattle.sopl_compile.specs.Adding.{Adds, with_chances, with_hards}
use Rattle.sopl_compile.specs.Begun.{bare_terms, direction_of, worst_of}
use Rattle.sopl_compile.specs.Listed.{AreListed}
use Rattle.sopl_compile.specs.Posed.{IsSettingOf, terms_asked}
use Rattle.sopl_term.specs.Built.{FitsDirection, asked_direction, asked_worst, built, goal_asked, problem_built, root_built, term_ids}
use Rattle.sopl_term.specs.declared.builder.Builder.{Builder}
use Rattle.term_goals.specs.Goals.{IsMeasured, goal_size, terms_of, too_large}
use Rattle.term_nodes.specs.Things.{term_at, term_in}
use Rattle.term_program.specs.Programs.{problem_in, with_goal}
use Rattle.term_store.specs.declared.ids.TermId.{TermId}
use Rattle.term_program.specs.declared.program.Program.{Program}
use Rattle.unfold_laws.specs.Passing.{NothingFails}
use Rattle.sopl_term.proofs.Finishing.{empty}

fits_directed : (direction : Direction) (n : ℕ) (ids : List TermId) → ¬ direction ≡ Nothing → length ids ≡ n → FitsDirection direction n ids
fits_directed Minimize n ids some many = many
fits_directed Maximize n ids some many = many
fits_directed Nothing n ids some many = absurd (some refl)

-- an objective that is asked for
asked_some : (b : Builder) (ids : List TermId) (direction : Direction) (worst : Bool) (terms : List Term) → 1 ≤ length ids → asked_direction b ≡ direction → asked_worst b ≡ worst
    → map (term_at (built b)) (term_ids ids) ≡ terms → goal_asked b ids ≡ Some (record { direction = direction; worst = worst; terms = terms })
asked_some b [] direction worst terms some directed worse are = absurd (omega (arith, some))
asked_some b (first ∷ later) direction worst terms some directed worse are = λ i. Some (record { direction = directed i; worst = worse i; terms = are i })

-- what is to be ended: the constraints of a text's problem, and the terms of its objective
pub record IsReadyToEnd (model : ModelTree) (root : Box) (b : Builder) (ids : List TermId) : Type 0 where
  pub problem : problem_built b ≡ with_goal (problem_terms (problem_of model)) None
  pub root_is : root_built b ≡ root
  pub direction : asked_direction b ≡ direction_of (problem_of model)
  pub worst : asked_worst b ≡ worst_of (problem_of model)
  pub listed : AreListed term_in (built b) (term_ids ids) (terms_asked (problem_of model))
  pub some : 1 ≤ length (problem_terms (problem_of model)).weights
  pub whole : (problem_terms (problem_of model)).whole ≡ total (problem_terms (problem_of model)).weights
  pub light : (problem_terms (problem_of model)).whole ≤ℤ pos (2 ^ 100)
  pub directed : (goal : GoalTree) → model.goal ≡ Some goal → ¬ goal.direction ≡ Nothing

module _ (model : ModelTree) (root : Box) (b : Builder) (ids : List TermId) (ready : IsReadyToEnd model root b ids) where
  abbrev own : ProblemTerms
  own = problem_terms (problem_of model)

  -- without an objective
  none_asked : model.goal ≡ None → ids ≡ []
  none_asked none =
      empty ids
      (sym (length-map ids (λ (id : TermId). id.0)) ∙ (listed_length term_in (built b) (term_ids ids) (terms_asked (problem_of model)) ready.listed
      ∙ sym (ap (length {A = Term}) (no_terms model none))))

  -- with one
  goal_list : (goal : GoalTree) → model.goal ≡ Some goal → terms_asked (problem_of model) ≡ (goal_terms (problem_of model) (objective_of goal)).terms
  goal_list goal some = ap (λ (x : Option Objective). option_map_or (λ (o : Objective). (goal_terms (problem_of model) o).terms) x []) (some_is model goal some)

  many_asked : (goal : GoalTree) → model.goal ≡ Some goal → length ids ≡ length own.weights
  many_asked goal some =
      sym (length-map ids (λ (id : TermId). id.0))
      ∙ (listed_length term_in (built b) (term_ids ids) (terms_asked (problem_of model)) ready.listed
      ∙ (ap (length {A = Term}) (goal_list goal some)
      ∙ (length-map (scenarios (problem_of model).stochastics) _ ∙ sym (length-map (scenarios (problem_of model).stochastics) weight_of))))

  as_many : length own.weights ≡ length (problem_built b).weights
  as_many = sym (ap (λ (t : ProblemTerms). length t.weights) ready.problem)

  -- there is a term for each scenario, or none without an objective
  pub fits : FitsDirection (asked_direction b) (length (problem_built b).weights) ids
  fits = by model.goal refl
    where
      by : (o : Option GoalTree) → model.goal ≡ o → FitsDirection (asked_direction b) (length (problem_built b).weights) ids
      by None none =
          subst (λ (d : Direction). FitsDirection d (length (problem_built b).weights) ids) (no_direction model none ∙ sym ready.direction) (ap (length {A = TermId}) (none_asked none))
      by (Some goal) some =
          subst (λ (d : Direction). FitsDirection d (length (problem_built b).weights) ids) (goal_direction model goal some ∙ sym ready.direction)
          (fits_directed goal.direction (length (problem_built b).weights) ids (ready.directed goal some) (many_asked goal some ∙ as_many))

  -- the objective is the problem's
  goal_is : goal_asked b ids ≡ own.goal
  goal_is = by model.goal refl
    where
      by : (o : Option GoalTree) → model.goal ≡ o → goal_asked b ids ≡ own.goal
      by None none = ap (goal_asked b) (none_asked none) ∙ sym (ap (option_map (goal_terms (problem_of model))) (objective_is model ∙ ap (option_map objective_of) none))
      by (Some goal) some =
          asked_some b ids goal.direction goal.worst (goal_terms (problem_of model) (objective_of goal)).terms (omega (arith, many_asked goal some, ready.some))
          (ready.direction ∙ sym (goal_direction model goal some)) (ready.worst ∙ sym (goal_worst model goal some)) (ready.listed.are ∙ goal_list goal some)
          ∙ sym (ap (option_map (goal_terms (problem_of model))) (some_is model goal some))

  problem_is : (p : Program) → problem_in p ≡ with_goal (problem_built b) (goal_asked b ids) → problem_in p ≡ own
  problem_is p made = made ∙ (λ i. with_goal (ready.problem i) (goal_is i))

  pub problem_ended : (result : Result Program Fault) → IfOk result (λ (p : Program). problem_in p ≡ with_goal (problem_built b) (goal_asked b ids))
      → IfOk result (λ (p : Program). problem_in p ≡ own)
  problem_ended (Ok p) made = problem_is p made
  problem_ended (Err fault) made = tt

  -- the number that is measured
  number_is : goal_size (root_built b) (problem_built b).weights (terms_of (built b) (term_ids ids)) ≡ asked_number root (problem_of model)
  number_is =
      (λ i. goal_size (ready.root_is i) (ready.problem i).weights (ready.listed.are i))
      ∙ ap (λ (w : ℤ). w *ℤ pos (greatest_size root (terms_asked (problem_of model)) + 1)) (sym ready.whole)

  -- so it is allowed, or refused
  module _ (small : first_large root (measured_terms own) ≡ None) where
    pub end_allowed : (result : Result Program Fault)
        → IsMeasured (asked_worst b) (goal_size (root_built b) (problem_built b).weights (terms_of (built b) (term_ids ids))) result
        → IfOk result (λ (p : Program). measured_excess root own ≡ None)
    end_allowed (Err fault) measured = tt
    end_allowed (Ok p) measured =
        goal_alone root own small
        ∙ goal_allowed root (problem_of model) (λ expected. subst (λ (n : ℤ). n ≤ℤ pos (2 ^ 126)) number_is (measured (ready.worst ∙ expected)))

    pub end_refused : (result : Result Program Fault)
        → IsMeasured (asked_worst b) (goal_size (root_built b) (problem_built b).weights (terms_of (built b) (term_ids ids))) result
        → IfErr result (IsLimitOf (measured_excess root own))
    end_refused (Ok p) measured = tt
    end_refused (Err fault) (inl memory) = inl memory
    end_refused (Err fault) (inr large) =
        inr (
          _,
          large.1 ∙ ap (λ (n : ℤ). too_large n) number_is,
          goal_alone root own small
              ∙ goal_refused root (problem_of model) ready.light (sym ready.worst ∙ large.0) (subst (λ (n : ℤ). pos (2 ^ 126) <ℤ n) number_is large.2),
        )

-- What is begun and has all constraints is ready.
module _ (model : ModelTree) (setting : Scenarios) (before after : Lowering) (from : ∥ IsFromTokens model ∥₁) (passes : NothingFails (text_events model))
    (within : size_excess usual_limits (problem_of model) ≡ None) (of : IsSettingOf (problem_of model) setting) (begun : problem_built before.builder ≡ bare_terms (problem_of model)) where
  pub end_ready : (ids : List TermId) → asked_direction before.builder ≡ direction_of (problem_of model) → asked_worst before.builder ≡ worst_of (problem_of model)
      → Adds setting before after (with_chances (with_hards (problem_built before.builder) (problem_terms (problem_of model)).hards) (problem_terms (problem_of model)).chances)
      → AreListed term_in (things_of after) (term_ids ids) (terms_asked (problem_of model)) → IsReadyToEnd model (root_in setting) after.builder ids
  end_ready ids direction worst adds listed = record {
    problem =
        adds.problem ∙ ap (λ (t : ProblemTerms). with_chances (with_hards t (problem_terms (problem_of model)).hards) (problem_terms (problem_of model)).chances) begun;
    root_is = adds.ready.root;
    direction = adds.direction ∙ direction;
    worst = adds.worst ∙ worst;
    listed = listed;
    some = some_weight model from passes;
    whole = whole_is model from passes;
    light = light (problem_of model) within;
    directed = goal_directed model from passes;
  }
