-- Each mistake of names or kinds has a code above 104.
use Rattle.std.proofs.Common.{ℕ, ◌+◌, ◌<◌, nat_eq, nat_le, Bool, true, false, ◌||◌, List, [], ◌∷◌, ◌++◌, length, Option, Some, None, Contains, arith, subst}
use Rattle.std.specs.List.{AllByRecursion}
use Rattle.sopl_base.specs.declared.fault.Refusal.{Refusal}
use Rattle.sopl_base.proofs.Lists.{all_append, each_of}
use Rattle.sopl_base.specs.declared.codes.TheConstants as codes
use Rattle.sopl_ast.specs.Tree as t
use Rattle.sopl_ast.specs.Tree.{Tree, Trees, Terms, Factors, Binders, Range, Node, no_tree, tree, no_term, term, no_factor, factor, no_binder, binder, Named, Ends, place_of}
use Rattle.sopl_ast.specs.Whole.{DimTree, InitTree, InitTrees, One, Many, no_init, init, Declaration, IntDecl, RangeDecl, SetDecl, DvarDecl, StochDecl, ConsTree, ConsTrees}
use Rattle.sopl_ast.specs.Whole.{ForallTree, BlockTree, HardTree, ChanceTree, no_cons, cons, conses, GoalTree, ModelTree}
use Rattle.sopl_ast.specs.Mistakes.{Entity, Constant, Variable, RangeName, SetName, Scope, entity_of, no_names, with_entity, one_mistake, mistake_unless, unknown_name, known_name, no_number, no_range}
use Rattle.sopl_ast.specs.Mistakes.{is_condition, no_condition, wrong_indices, no_constant, of_use, count, bind, asks_constant, of_number, of_numbers, of_conditions, of_terms}
use Rattle.sopl_ast.specs.Mistakes.{of_factors, of_binders, of_range, of_condition, bind_dim, bind_dims, of_dim_name, of_dims, of_init, of_inits, wrong_depths, wrong_parts}
use Rattle.sopl_ast.specs.Mistakes.{first_of, of_stage, of_outcomes, of_declaration, declare, of_declarations, declare_all, of_constraint, of_constraints, of_goal, of_model}

-- the code is above 104, the last one of spelling
abbrev pub IsAboveSpelling : Refusal → Type 0
IsAboveSpelling refusal = codes.SYNTAX < refusal.code

-- so is that of each of these
record AreAboveSpelling (refusals : List Refusal) : Type 0 where
  each : AllByRecursion IsAboveSpelling refusals

no_mistake : AreAboveSpelling []
no_mistake = record { each = tt }

one_above : (code at : ℕ) → codes.SYNTAX < code → AreAboveSpelling (one_mistake code at)
one_above code at above = record { each = (above, tt) }

both : (xs ys : List Refusal) → AreAboveSpelling xs → AreAboveSpelling ys → AreAboveSpelling (xs ++ ys)
both xs ys one two = record { each = all_append IsAboveSpelling xs ys one.each two.each }

unless_above : (b : Bool) (code at : ℕ) → codes.SYNTAX < code → AreAboveSpelling (mistake_unless b code at)
unless_above true code at above = no_mistake
unless_above false code at above = one_above code at above

-- Names.

unknown_above : (entity : Option Entity) (at : ℕ) → AreAboveSpelling (unknown_name entity at)
unknown_above None at = one_above codes.UNKNOWN at (omega arith)
unknown_above (Some entity) at = no_mistake

known_above : (entity : Option Entity) (at : ℕ) → AreAboveSpelling (known_name entity at)
known_above None at = no_mistake
known_above (Some entity) at = one_above codes.TWICE at (omega arith)

no_number_above : (entity : Option Entity) (at : ℕ) → AreAboveSpelling (no_number entity at)
no_number_above None at = no_mistake
no_number_above (Some RangeName) at = one_above codes.KIND at (omega arith)
no_number_above (Some SetName) at = one_above codes.KIND at (omega arith)
no_number_above (Some (Constant dims)) at = no_mistake
no_number_above (Some (Variable dims)) at = no_mistake

no_range_above : (sets : Bool) (entity : Option Entity) (at : ℕ) → AreAboveSpelling (no_range sets entity at)
no_range_above sets None at = no_mistake
no_range_above sets (Some RangeName) at = no_mistake
no_range_above sets (Some SetName) at = unless_above sets codes.KIND at (omega arith)
no_range_above sets (Some (Constant dims)) at = one_above codes.KIND at (omega arith)
no_range_above sets (Some (Variable dims)) at = one_above codes.KIND at (omega arith)

no_condition_above : (e : Tree) → AreAboveSpelling (no_condition e)
no_condition_above (Node at shape) = unless_above (is_condition shape) codes.KIND at (omega arith)

indices_above : (entity : Option Entity) (indices at : ℕ) → AreAboveSpelling (wrong_indices entity indices at)
indices_above None indices at = no_mistake
indices_above (Some RangeName) indices at = no_mistake
indices_above (Some SetName) indices at = no_mistake
indices_above (Some (Constant dims)) indices at = unless_above (nat_eq dims indices) codes.DIMENSIONS at (omega arith)
indices_above (Some (Variable dims)) indices at = unless_above (nat_eq dims indices) codes.DIMENSIONS at (omega arith)

no_constant_above : (constant : Bool) (entity : Option Entity) (at : ℕ) → AreAboveSpelling (no_constant constant entity at)
no_constant_above false entity at = no_mistake
no_constant_above true None at = no_mistake
no_constant_above true (Some RangeName) at = no_mistake
no_constant_above true (Some SetName) at = no_mistake
no_constant_above true (Some (Constant dims)) at = no_mistake
no_constant_above true (Some (Variable dims)) at = one_above codes.NOT_CONSTANT at (omega arith)

use_above : (constant : Bool) (entity : Option Entity) (indices at : ℕ) → AreAboveSpelling (of_use constant entity indices at)
use_above constant entity indices at =
    both _ _ (unknown_above entity at) (both _ _ (no_number_above entity at) (both _ _ (indices_above entity indices at) (no_constant_above constant entity at)))

-- Expressions.

mutual
  number_above : (scope : Scope) (constant : Bool) (e : Tree) → AreAboveSpelling (of_number scope constant e)
  number_above scope constant (Node at (t.Lit z)) = no_mistake
  number_above scope constant (Node at (t.Name name)) = use_above constant (entity_of scope name) 0 at
  number_above scope constant (Node at (t.Index name es)) = both _ _ (use_above constant (entity_of scope name) (count es) at) (numbers_above scope constant es)
  number_above scope constant (Node at (t.Call f e)) = number_above scope constant e
  number_above scope constant (Node at (t.Add parts)) = terms_above scope constant parts
  number_above scope constant (Node at (t.Mul first others)) = both _ _ (number_above scope constant first) (factors_above scope constant others)
  number_above scope constant (Node at (t.Cmp op a b)) = both _ _ (number_above scope constant a) (number_above scope constant b)
  number_above scope constant (Node at (t.Not e)) = both _ _ (no_condition_above e) (number_above scope constant e)
  number_above scope constant (Node at (t.And es)) = conditions_above scope constant es
  number_above scope constant (Node at (t.Or es)) = conditions_above scope constant es
  number_above scope constant (Node at (t.Implies a b)) =
      both _ _ (both _ _ (no_condition_above a) (number_above scope constant a)) (both _ _ (no_condition_above b) (number_above scope constant b))
  number_above scope constant (Node at (t.Sum bs e)) = both _ _ (binders_above scope bs) (number_above (bind bs scope) constant e)
  number_above scope constant (Node at (t.Selected which es)) = numbers_above scope constant es
  number_above scope constant (Node at (t.AllDifferent bs e)) = both _ _ (binders_above scope bs) (number_above (bind bs scope) constant e)
  number_above scope constant (Node at (t.Cumulative bs start duration demand capacity)) =
      both _ _ (binders_above scope bs)
      (both _ _ (number_above (bind bs scope) constant start)
      (both _ _ (number_above (bind bs scope) constant duration)
      (both _ _ (number_above (bind bs scope) constant demand) (number_above scope constant capacity))))

  numbers_above : (scope : Scope) (constant : Bool) (es : Trees) → AreAboveSpelling (of_numbers scope constant es)
  numbers_above scope constant no_tree = no_mistake
  numbers_above scope constant (tree e es) = both _ _ (number_above scope constant e) (numbers_above scope constant es)

  conditions_above : (scope : Scope) (constant : Bool) (es : Trees) → AreAboveSpelling (of_conditions scope constant es)
  conditions_above scope constant no_tree = no_mistake
  conditions_above scope constant (tree e es) = both _ _ (both _ _ (no_condition_above e) (number_above scope constant e)) (conditions_above scope constant es)

  terms_above : (scope : Scope) (constant : Bool) (parts : Terms) → AreAboveSpelling (of_terms scope constant parts)
  terms_above scope constant no_term = no_mistake
  terms_above scope constant (term minus e more) = both _ _ (number_above scope constant e) (terms_above scope constant more)

  factors_above : (scope : Scope) (constant : Bool) (others : Factors) → AreAboveSpelling (of_factors scope constant others)
  factors_above scope constant no_factor = no_mistake
  factors_above scope constant (factor op e more) = both _ _ (number_above scope (constant || asks_constant op) e) (factors_above scope constant more)

  binders_above : (scope : Scope) (bs : Binders) → AreAboveSpelling (of_binders scope bs)
  binders_above scope no_binder = no_mistake
  binders_above scope (binder name at range more) =
      both _ _ (known_above (entity_of scope name) at) (both _ _ (range_above scope true range) (binders_above (with_entity name (Constant 0) scope) more))

  range_above : (scope : Scope) (sets : Bool) (range : Range) → AreAboveSpelling (of_range scope sets range)
  range_above scope sets (Named name at) = both _ _ (unknown_above (entity_of scope name) at) (no_range_above sets (entity_of scope name) at)
  range_above scope sets (Ends lo hi) = both _ _ (number_above scope true lo) (number_above scope true hi)

condition_above : (scope : Scope) (constant : Bool) (e : Tree) → AreAboveSpelling (of_condition scope constant e)
condition_above scope constant e = both _ _ (no_condition_above e) (number_above scope constant e)

-- Declarations.

dim_name_above : (names : Scope) (name : Option (List ℕ)) (at : ℕ) → AreAboveSpelling (of_dim_name names name at)
dim_name_above names None at = no_mistake
dim_name_above names (Some name) at = known_above (entity_of names name) at

dims_above : (scope names : Scope) (dims : List DimTree) → AreAboveSpelling (of_dims scope names dims)
dims_above scope names [] = no_mistake
dims_above scope names (d ∷ ds) =
    both _ _ (dim_name_above names d.binder d.at) (both _ _ (range_above scope true d.range) (dims_above scope (bind_dim d.binder names) ds))

mutual
  init_above : (scope : Scope) (x : InitTree) → AreAboveSpelling (of_init scope x)
  init_above scope (One e) = number_above scope true e
  init_above scope (Many at parts) = inits_above scope parts

  inits_above : (scope : Scope) (parts : InitTrees) → AreAboveSpelling (of_inits scope parts)
  inits_above scope no_init = no_mistake
  inits_above scope (init x xs) = both _ _ (init_above scope x) (inits_above scope xs)

mutual
  depths_above : (dims depth : ℕ) (x : InitTree) → AreAboveSpelling (wrong_depths dims depth x)
  depths_above dims depth (One e) = unless_above (nat_eq depth 0 || nat_eq depth dims) codes.DIMENSIONS (place_of e) (omega arith)
  depths_above dims depth (Many at no_init) = unless_above (nat_le (depth + 1) dims) codes.DIMENSIONS at (omega arith)
  depths_above dims depth (Many at (init x xs)) = both _ _ (depths_above dims (depth + 1) x) (parts_above dims (depth + 1) xs)

  parts_above : (dims depth : ℕ) (parts : InitTrees) → AreAboveSpelling (wrong_parts dims depth parts)
  parts_above dims depth no_init = no_mistake
  parts_above dims depth (init x xs) = both _ _ (depths_above dims depth x) (parts_above dims depth xs)

first_above : (mistakes : List Refusal) → AreAboveSpelling mistakes → AreAboveSpelling (first_of mistakes)
first_above [] all = no_mistake
first_above (r ∷ rs) all = record { each = (all.each.0, tt) }

stage_above : (scope : Scope) (stage : Option Tree) → AreAboveSpelling (of_stage scope stage)
stage_above scope None = no_mistake
stage_above scope (Some e) = number_above scope true e

outcomes_above : (scope : Scope) (dist : List (Tree × Tree)) → AreAboveSpelling (of_outcomes scope dist)
outcomes_above scope [] = no_mistake
outcomes_above scope (o ∷ os) = both _ _ (number_above scope true o.0) (both _ _ (number_above scope true o.1) (outcomes_above scope os))

declaration_above : (scope : Scope) (d : Declaration) → AreAboveSpelling (of_declaration scope d)
declaration_above scope (IntDecl name at dims x) =
    both _ _ (known_above (entity_of scope name) at)
    (both _ _ (dims_above scope scope dims)
    (both _ _ (init_above (bind_dims dims scope) x) (first_above (wrong_depths (length dims) 0 x) (depths_above (length dims) 0 x))))
declaration_above scope (RangeDecl name at lo hi) =
    both _ _ (known_above (entity_of scope name) at) (both _ _ (number_above scope true lo) (number_above scope true hi))
declaration_above scope (SetDecl name at elements) = both _ _ (known_above (entity_of scope name) at) (numbers_above scope true elements)
declaration_above scope (DvarDecl name at dims range stage) =
    both _ _ (known_above (entity_of scope name) at)
    (both _ _ (dims_above scope scope dims)
    (both _ _ (range_above (bind_dims dims scope) false range) (stage_above (bind_dims dims scope) stage)))
declaration_above scope (StochDecl name at dims dist stage) =
    both _ _ (known_above (entity_of scope name) at)
    (both _ _ (dims_above scope scope dims)
    (both _ _ (outcomes_above (bind_dims dims scope) dist) (stage_above (bind_dims dims scope) stage)))

declarations_above : (scope : Scope) (ds : List Declaration) → AreAboveSpelling (of_declarations scope ds)
declarations_above scope [] = no_mistake
declarations_above scope (d ∷ ds) = both _ _ (declaration_above scope d) (declarations_above (declare d scope) ds)

-- Constraints and models.

mutual
  constraint_above : (scope : Scope) (c : ConsTree) → AreAboveSpelling (of_constraint scope c)
  constraint_above scope (ForallTree bs c) = both _ _ (binders_above scope bs) (constraint_above (bind bs scope) c)
  constraint_above scope (BlockTree cs) = constraints_above scope cs
  constraint_above scope (HardTree e) = condition_above scope false e
  constraint_above scope (ChanceTree e p q) =
      both _ _ (condition_above scope false e) (both _ _ (number_above scope true p) (number_above scope true q))

  constraints_above : (scope : Scope) (cs : ConsTrees) → AreAboveSpelling (of_constraints scope cs)
  constraints_above scope no_cons = no_mistake
  constraints_above scope (cons c cs) = both _ _ (constraint_above scope c) (constraints_above scope cs)

goal_above : (scope : Scope) (goal : Option GoalTree) → AreAboveSpelling (of_goal scope goal)
goal_above scope None = no_mistake
goal_above scope (Some goal) = number_above scope false goal.expr

model_above : (model : ModelTree) → AreAboveSpelling (of_model model)
model_above model =
    both _ _ (declarations_above no_names model.decls)
    (both _ _ (goal_above (declare_all model.decls no_names) model.goal) (constraints_above (declare_all model.decls no_names) (conses model.body)))

pub mistake_above : (model : ModelTree) (refusal : Refusal) → Contains (of_model model) refusal → IsAboveSpelling refusal
mistake_above model refusal among = subst IsAboveSpelling among.2 (each_of IsAboveSpelling (of_model model) among.0 refusal (model_above model).each among.1)
