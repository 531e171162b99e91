-- How a text is unfolded: its declarations, then its objective, then its constraints; the problem that it states, and what is met on the way.
use Rattle.std.specs.Prelude.{ℕ, ◌+◌, ℤ, pos, int_le, Bool, ◌&&◌, List, [], ◌∷◌, ◌++◌, length, filter, nat_eq, Option, Some, None, option_map}
use Rattle.std.specs.List.{flat_map, range_with_len}
use Rattle.sopl_base.specs.declared.codes.TheConstants as codes
use Rattle.sopl_base.specs.declared.limits.TheConstants as largest
use Rattle.sopl_ast.specs.Tree.{Tree, place_of}
use Rattle.sopl_ast.specs.Whole.{ConsTree, ConsTrees, ForallTree, BlockTree, HardTree, ChanceTree, no_cons, cons, conses, GoalTree, ModelTree}
use Rattle.sopl_ast.specs.Known.{Known}
use Rattle.sopl_ast.specs.Constants.{value_or_zero, all_bindings}
use Rattle.sopl_ast.specs.UnfoldEvents.{UnfoldEvent, Counted, refused_unless, constant_place, binding_events, expression_events}
use Rattle.sopl_ast.specs.Instances.{Stochastic, Hard, Chance, Objective, Problem}
use Rattle.sopl_ast.specs.Declarations.{Declared, nothing_declared, behind_all, declarations_events}

-- an instance of a constraint
pub data ConstraintInstance : Type 0 where
  hard_instance : Hard → ConstraintInstance
  chance_instance : Chance → ConstraintInstance

abbrev mutual
  -- the conditions of a constraint's hard and chance constraints, in text order
  pub conditions_of : ConsTree → List Tree
  conditions_of (ForallTree bs c) = conditions_of c
  conditions_of (BlockTree cs) = all_conditions cs
  conditions_of (HardTree e) = e ∷ []
  conditions_of (ChanceTree e p q) = e ∷ []

  -- the conditions of constraints, one constraint behind the other
  pub all_conditions : ConsTrees → List Tree
  all_conditions no_cons = []
  all_conditions (cons c cs) = conditions_of c ++ all_conditions cs

abbrev mutual
  -- the instances of a constraint, of which the first condition has this number among all conditions of the text
  pub constraint_instances : Known → ℕ → ConsTree → List ConstraintInstance
  constraint_instances known first (ForallTree bs c) = flat_map (λ here. constraint_instances here first c) (all_bindings known bs)
  constraint_instances known first (BlockTree cs) = all_constraint_instances known first cs
  constraint_instances known first (HardTree e) = hard_instance (record { text = first; bound = known.bound }) ∷ []
  constraint_instances known first (ChanceTree e p q) =
      chance_instance (record { text = first; bound = known.bound; p = value_or_zero known p; q = value_or_zero known q }) ∷ []

  -- the instances of constraints, of which the first condition has this number among all conditions of the text
  pub all_constraint_instances : Known → ℕ → ConsTrees → List ConstraintInstance
  all_constraint_instances known first no_cons = []
  all_constraint_instances known first (cons c cs) = constraint_instances known first c ++ all_constraint_instances known (first + length (conditions_of c)) cs

-- the hard ones among instances, in order
abbrev pub hards_among : List ConstraintInstance → List Hard
hards_among [] = []
hards_among (hard_instance h ∷ later) = h ∷ hards_among later
hards_among (chance_instance c ∷ later) = hards_among later

-- the chance ones among instances, in order
abbrev pub chances_among : List ConstraintInstance → List Chance
chances_among [] = []
chances_among (hard_instance h ∷ later) = chances_among later
chances_among (chance_instance c ∷ later) = c ∷ chances_among later

-- the stochastic variables of the stages up to this one, by stage, and those of one stage in text order
abbrev pub up_to_stage : ℕ → List Stochastic → List Stochastic
up_to_stage last stochastics =
    flat_map (λ stage. filter (λ (s : Stochastic). nat_eq s.stage stage) stochastics) (range_with_len 1 last)

-- the stochastic variables by stage, and those of one stage in text order; stages go from 1 to 24
unfoldable pub by_stage : List Stochastic → List Stochastic
by_stage stochastics = up_to_stage 24 stochastics

-- an objective
abbrev pub objective_of : GoalTree → Objective
objective_of goal = record { direction = goal.direction; worst = goal.worst; value = goal.expr }

-- the problem of a model whose declarations state this
abbrev pub problem_with : Declared → ModelTree → Problem
problem_with found model =
    record {
      known = found.known;
      decisions = found.decisions;
      stochastics = by_stage found.stochastics;
      conditions = all_conditions (conses model.body);
      hards = hards_among (all_constraint_instances found.known 0 (conses model.body));
      chances = chances_among (all_constraint_instances found.known 0 (conses model.body));
      objective = option_map objective_of model.goal;
    }

-- the problem that a model states, where nothing stops its unfolding
unfoldable pub problem_of : ModelTree → Problem
problem_of model = problem_with (behind_all model.decls nothing_declared) model

-- 115: a threshold is no fraction from 0 to 1, or its denominator is too great
abbrev pub is_threshold : ℤ → ℤ → Bool
is_threshold p q = int_le (pos 0) p && (int_le p q && (int_le (pos 1) q && int_le q largest.DENOMINATOR))

-- the parts of a threshold, and then the threshold
abbrev pub threshold_events : Known → Tree → Tree → List UnfoldEvent
threshold_events known p q =
    constant_place known p ++ (constant_place known q ++ refused_unless (is_threshold (value_or_zero known p) (value_or_zero known q)) codes.THRESHOLD (place_of p))

abbrev mutual
  -- a constraint, of which each instance is counted before what is met in it
  pub constraint_events : Known → ConsTree → List UnfoldEvent
  constraint_events known (ForallTree bs c) = binding_events known None bs (λ here. constraint_events here c)
  constraint_events known (BlockTree cs) = constraints_events known cs
  constraint_events known (HardTree e) = Counted ∷ expression_events known e
  constraint_events known (ChanceTree e p q) = Counted ∷ (expression_events known e ++ threshold_events known p q)

  -- constraints, one behind the other
  pub constraints_events : Known → ConsTrees → List UnfoldEvent
  constraints_events known no_cons = []
  constraints_events known (cons c cs) = constraint_events known c ++ constraints_events known cs

-- an objective
abbrev pub goal_events : Known → Option GoalTree → List UnfoldEvent
goal_events known None = []
goal_events known (Some goal) = expression_events known goal.expr

-- the objective and the constraints behind declarations that state this
abbrev pub body_events : Declared → ModelTree → List UnfoldEvent
body_events found model = goal_events found.known model.goal ++ constraints_events found.known (conses model.body)

-- all that is met in a model
unfoldable pub text_events : ModelTree → List UnfoldEvent
text_events model =
    declarations_events nothing_declared model.decls ++ body_events (behind_all model.decls nothing_declared) model
