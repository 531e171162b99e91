-- The mistakes of a model that is well spelled: names that are unknown or stand twice, wrong kinds, wrong numbers of indices, and variables where a
-- constant is asked for. A mistake is its code and its place. A model is well typed where it has none; else its first mistake is refused.
use Rattle.std.specs.Prelude.{◌≡◌, ℕ, ◌+◌, ◌<◌, ◌≤◌, nat_eq, nat_le, Bool, true, false, ◌||◌, List, [], ◌∷◌, ◌++◌, length, Option, Some, None, if◌then◌else◌}
use Rattle.std.specs.List.{Contains}
use Rattle.std.specs.Str.{bytes_eq}
use Rattle.sopl_base.specs.declared.fault.Refusal.{Refusal}
use Rattle.sopl_base.specs.declared.codes.TheConstants as codes
use Rattle.sopl_ast.specs.declared.operators.MulOp.{MulOp}
use Rattle.sopl_ast.specs.declared.operators.MulOp.TheVariants.{Times, Div, Mod}
use Rattle.sopl_ast.specs.Tree as t
use Rattle.sopl_ast.specs.Tree.{Tree, Shape, Trees, Terms, Factors, Binders, Range, Node, no_tree, tree, no_term, term, no_factor, factor, no_binder, binder, Named, Ends, place_of}
use Rattle.sopl_ast.specs.Whole.{DimTree, InitTree, InitTrees, One, Many, no_init, init, Declaration, IntDecl, RangeDecl, SetDecl, DvarDecl, StochDecl, ConsTree, ConsTrees}
use Rattle.sopl_ast.specs.Whole.{ForallTree, BlockTree, HardTree, ChanceTree, no_cons, cons, conses, GoalTree, ModelTree}

-- what a name stands for: a constant or a variable with so many dimensions, a range, or a set; a name that goes over a range is a constant
pub data Entity : Type 0 where
  Constant : (dims : ℕ) → Entity
  Variable : (dims : ℕ) → Entity
  RangeName : Entity
  SetName : Entity

-- what each name stands for at a place, where it is known
abbrev pub Scope : Type 0
Scope = List ℕ → Option Entity

-- what a name stands for there
abbrev pub entity_of : Scope → List ℕ → Option Entity
entity_of scope name = scope name

-- no name is known
abbrev pub no_names : Scope
no_names name = None

-- one more name, which stands for this from here on
abbrev pub with_entity : List ℕ → Entity → Scope → Scope
with_entity own entity scope name = if bytes_eq own name then Some entity else scope name

-- a mistake, alone
abbrev pub one_mistake : ℕ → ℕ → List Refusal
one_mistake code at = record { code = code; at = at } ∷ []

-- a mistake, where a test fails
abbrev pub mistake_unless : Bool → ℕ → ℕ → List Refusal
mistake_unless true code at = []
mistake_unless false code at = one_mistake code at

-- 105: a name that is used and not known
abbrev pub unknown_name : Option Entity → ℕ → List Refusal
unknown_name None at = one_mistake codes.UNKNOWN at
unknown_name (Some entity) at = []

-- 106: a name that is declared or bound and known already
abbrev pub known_name : Option Entity → ℕ → List Refusal
known_name None at = []
known_name (Some entity) at = one_mistake codes.TWICE at

-- 107: the name of a range or a set, where a number is asked for
abbrev pub no_number : Option Entity → ℕ → List Refusal
no_number (Some RangeName) at = one_mistake codes.KIND at
no_number (Some SetName) at = one_mistake codes.KIND at
no_number entity at = []

-- 107: another name, where a range is asked for; the name of a set too, where only a range will do
abbrev pub no_range : Bool → Option Entity → ℕ → List Refusal
no_range sets (Some (Constant dims)) at = one_mistake codes.KIND at
no_range sets (Some (Variable dims)) at = one_mistake codes.KIND at
no_range sets (Some SetName) at = mistake_unless sets codes.KIND at
no_range sets entity at = []

-- whether an expression is a condition
abbrev pub is_condition : Shape → Bool
is_condition (t.Cmp op a b) = true
is_condition (t.Not e) = true
is_condition (t.And es) = true
is_condition (t.Or es) = true
is_condition (t.Implies a b) = true
is_condition (t.AllDifferent bs e) = true
is_condition (t.Cumulative bs start length demand capacity) = true
is_condition shape = false

-- 107: a number, where a condition is asked for
abbrev pub no_condition : Tree → List Refusal
no_condition (Node at shape) = mistake_unless (is_condition shape) codes.KIND at

-- 108: a name with another number of indices than it has dimensions
abbrev pub wrong_indices : Option Entity → ℕ → ℕ → List Refusal
wrong_indices (Some (Constant dims)) indices at = mistake_unless (nat_eq dims indices) codes.DIMENSIONS at
wrong_indices (Some (Variable dims)) indices at = mistake_unless (nat_eq dims indices) codes.DIMENSIONS at
wrong_indices entity indices at = []

-- 109: a variable, where a constant is asked for
abbrev pub no_constant : Bool → Option Entity → ℕ → List Refusal
no_constant true (Some (Variable dims)) at = one_mistake codes.NOT_CONSTANT at
no_constant constant entity at = []

-- a name with so many indices, used as a number, where `constant` asks for a constant
abbrev pub of_use : Bool → Option Entity → ℕ → ℕ → List Refusal
of_use constant entity indices at =
    unknown_name entity at ++ (no_number entity at ++ (wrong_indices entity indices at ++ no_constant constant entity at))

-- how many expressions there are
abbrev pub count : Trees → ℕ
count no_tree = 0
count (tree e es) = count es + 1

-- the names of binders, behind those that were known
abbrev pub bind : Binders → Scope → Scope
bind no_binder scope = scope
bind (binder name at range more) scope = bind more (with_entity name (Constant 0) scope)

-- whether an operator asks for a constant behind it
abbrev pub asks_constant : MulOp → Bool
asks_constant Times = false
asks_constant Div = true
asks_constant Mod = true

abbrev mutual
  -- an expression in the place of a number
  pub of_number : Scope → Bool → Tree → List Refusal
  of_number scope constant (Node at (t.Lit value)) = []
  of_number scope constant (Node at (t.Name name)) = of_use constant (entity_of scope name) 0 at
  of_number scope constant (Node at (t.Index name es)) = of_use constant (entity_of scope name) (count es) at ++ of_numbers scope constant es
  of_number scope constant (Node at (t.Call f e)) = of_number scope constant e
  of_number scope constant (Node at (t.Add parts)) = of_terms scope constant parts
  of_number scope constant (Node at (t.Mul first others)) = of_number scope constant first ++ of_factors scope constant others
  of_number scope constant (Node at (t.Cmp op a b)) = of_number scope constant a ++ of_number scope constant b
  of_number scope constant (Node at (t.Not e)) = no_condition e ++ of_number scope constant e
  of_number scope constant (Node at (t.And es)) = of_conditions scope constant es
  of_number scope constant (Node at (t.Or es)) = of_conditions scope constant es
  of_number scope constant (Node at (t.Implies a b)) =
      (no_condition a ++ of_number scope constant a) ++ (no_condition b ++ of_number scope constant b)
  of_number scope constant (Node at (t.Sum bs e)) = of_binders scope bs ++ of_number (bind bs scope) constant e
  of_number scope constant (Node at (t.Selected which es)) = of_numbers scope constant es
  of_number scope constant (Node at (t.AllDifferent bs e)) = of_binders scope bs ++ of_number (bind bs scope) constant e
  of_number scope constant (Node at (t.Cumulative bs start length demand capacity)) =
      of_binders scope bs
      ++ (of_number (bind bs scope) constant start
      ++ (of_number (bind bs scope) constant length ++ (of_number (bind bs scope) constant demand ++ of_number scope constant capacity)))

  -- expressions in the place of numbers
  pub of_numbers : Scope → Bool → Trees → List Refusal
  of_numbers scope constant no_tree = []
  of_numbers scope constant (tree e es) = of_number scope constant e ++ of_numbers scope constant es

  -- expressions in the place of conditions
  pub of_conditions : Scope → Bool → Trees → List Refusal
  of_conditions scope constant no_tree = []
  of_conditions scope constant (tree e es) = (no_condition e ++ of_number scope constant e) ++ of_conditions scope constant es

  -- the parts of a chain of `+` and `-`
  pub of_terms : Scope → Bool → Terms → List Refusal
  of_terms scope constant no_term = []
  of_terms scope constant (term minus e more) = of_number scope constant e ++ of_terms scope constant more

  -- what follows the first part of a chain of `*`, `div` and `mod`; a divisor is to be a constant
  pub of_factors : Scope → Bool → Factors → List Refusal
  of_factors scope constant no_factor = []
  of_factors scope constant (factor op e more) = of_number scope (constant || asks_constant op) e ++ of_factors scope constant more

  -- binders: each name is known in the later ranges
  pub of_binders : Scope → Binders → List Refusal
  of_binders scope no_binder = []
  of_binders scope (binder name at range more) =
      known_name (entity_of scope name) at ++ (of_range scope true range ++ of_binders (with_entity name (Constant 0) scope) more)

  -- a range; `sets` says whether the name of a set will do
  pub of_range : Scope → Bool → Range → List Refusal
  of_range scope sets (Named name at) = unknown_name (entity_of scope name) at ++ no_range sets (entity_of scope name) at
  of_range scope sets (Ends lo hi) = of_number scope true lo ++ of_number scope true hi

-- an expression in the place of a condition
abbrev pub of_condition : Scope → Bool → Tree → List Refusal
of_condition scope constant e = no_condition e ++ of_number scope constant e

-- the name that a dimension goes by, behind those that were known
abbrev pub bind_dim : Option (List ℕ) → Scope → Scope
bind_dim None scope = scope
bind_dim (Some name) scope = with_entity name (Constant 0) scope

-- the names of dimensions, behind those that were known
abbrev pub bind_dims : List DimTree → Scope → Scope
bind_dims [] scope = scope
bind_dims (d ∷ ds) scope = bind_dims ds (bind_dim d.binder scope)

-- the name of a dimension, which stands in no earlier one and was not known
abbrev pub of_dim_name : Scope → Option (List ℕ) → ℕ → List Refusal
of_dim_name names None at = []
of_dim_name names (Some name) at = known_name (entity_of names name) at

-- dimensions: their ranges know none of their names, which are in `names` behind those that were known
abbrev pub of_dims : Scope → Scope → List DimTree → List Refusal
of_dims scope names [] = []
of_dims scope names (d ∷ ds) = of_dim_name names d.binder d.at ++ (of_range scope true d.range ++ of_dims scope (bind_dim d.binder names) ds)

abbrev mutual
  -- the expressions of an initial value
  pub of_init : Scope → InitTree → List Refusal
  of_init scope (One e) = of_number scope true e
  of_init scope (Many at parts) = of_inits scope parts

  pub of_inits : Scope → InitTrees → List Refusal
  of_inits scope no_init = []
  of_inits scope (init x xs) = of_init scope x ++ of_inits scope xs

abbrev mutual
  -- 108: expressions and empty brackets that stand in another number of brackets than there are dimensions; an expression in no bracket is right, and so
  -- is an empty bracket that stands in fewer
  pub wrong_depths : ℕ → ℕ → InitTree → List Refusal
  wrong_depths dims depth (One e) = mistake_unless (nat_eq depth 0 || nat_eq depth dims) codes.DIMENSIONS (place_of e)
  wrong_depths dims depth (Many at no_init) = mistake_unless (nat_le (depth + 1) dims) codes.DIMENSIONS at
  wrong_depths dims depth (Many at (init x xs)) = wrong_depths dims (depth + 1) x ++ wrong_parts dims (depth + 1) xs

  pub wrong_parts : ℕ → ℕ → InitTrees → List Refusal
  wrong_parts dims depth no_init = []
  wrong_parts dims depth (init x xs) = wrong_depths dims depth x ++ wrong_parts dims depth xs

-- the first of these, if there is one
abbrev pub first_of : List Refusal → List Refusal
first_of [] = []
first_of (r ∷ rs) = r ∷ []

-- a stage, which is to be a constant
abbrev pub of_stage : Scope → Option Tree → List Refusal
of_stage scope None = []
of_stage scope (Some e) = of_number scope true e

-- the values and weights of a distribution, which are to be constants
abbrev pub of_outcomes : Scope → List (Tree × Tree) → List Refusal
of_outcomes scope [] = []
of_outcomes scope (o ∷ os) = of_number scope true o.0 ++ (of_number scope true o.1 ++ of_outcomes scope os)

-- a declaration
abbrev pub of_declaration : Scope → Declaration → List Refusal
of_declaration scope (IntDecl name at dims value) =
    known_name (entity_of scope name) at
    ++ (of_dims scope scope dims ++ (of_init (bind_dims dims scope) value ++ first_of (wrong_depths (length dims) 0 value)))
of_declaration scope (RangeDecl name at lo hi) = known_name (entity_of scope name) at ++ (of_number scope true lo ++ of_number scope true hi)
of_declaration scope (SetDecl name at elements) = known_name (entity_of scope name) at ++ of_numbers scope true elements
of_declaration scope (DvarDecl name at dims range stage) =
    known_name (entity_of scope name) at
    ++ (of_dims scope scope dims ++ (of_range (bind_dims dims scope) false range ++ of_stage (bind_dims dims scope) stage))
of_declaration scope (StochDecl name at dims dist stage) =
    known_name (entity_of scope name) at
    ++ (of_dims scope scope dims ++ (of_outcomes (bind_dims dims scope) dist ++ of_stage (bind_dims dims scope) stage))

-- the declared name, behind those that were known
abbrev pub declare : Declaration → Scope → Scope
declare (IntDecl name at dims value) scope = with_entity name (Constant (length dims)) scope
declare (RangeDecl name at lo hi) scope = with_entity name RangeName scope
declare (SetDecl name at elements) scope = with_entity name SetName scope
declare (DvarDecl name at dims range stage) scope = with_entity name (Variable (length dims)) scope
declare (StochDecl name at dims dist stage) scope = with_entity name (Variable (length dims)) scope

-- declarations: each name is known behind its own
abbrev pub of_declarations : Scope → List Declaration → List Refusal
of_declarations scope [] = []
of_declarations scope (d ∷ ds) = of_declaration scope d ++ of_declarations (declare d scope) ds

-- the names that are known behind declarations
abbrev pub declare_all : List Declaration → Scope → Scope
declare_all [] scope = scope
declare_all (d ∷ ds) scope = declare_all ds (declare d scope)

abbrev mutual
  -- a constraint
  pub of_constraint : Scope → ConsTree → List Refusal
  of_constraint scope (ForallTree bs c) = of_binders scope bs ++ of_constraint (bind bs scope) c
  of_constraint scope (BlockTree cs) = of_constraints scope cs
  of_constraint scope (HardTree e) = of_condition scope false e
  of_constraint scope (ChanceTree e p q) = of_condition scope false e ++ (of_number scope true p ++ of_number scope true q)

  pub of_constraints : Scope → ConsTrees → List Refusal
  of_constraints scope no_cons = []
  of_constraints scope (cons c cs) = of_constraint scope c ++ of_constraints scope cs

-- the expression of an objective
abbrev pub of_goal : Scope → Option GoalTree → List Refusal
of_goal scope None = []
of_goal scope (Some goal) = of_number scope false goal.expr

-- all mistakes of a model
abbrev pub of_model : ModelTree → List Refusal
of_model model =
    of_declarations no_names model.decls
    ++ (of_goal (declare_all model.decls no_names) model.goal ++ of_constraints (declare_all model.decls no_names) (conses model.body))

-- the model has no mistake
abbrev pub IsWellTyped : ModelTree → Type 0
IsWellTyped model = of_model model ≡ []

-- the one mistake stands no later than the other; at one place the lower code counts
pub data IsNoLater (one other : Refusal) : Type 0 where
  earlier : one.at < other.at → IsNoLater one other
  same_place : one.at ≡ other.at → one.code ≤ other.code → IsNoLater one other

-- the first mistake of a model
pub record IsFirstMistake (model : ModelTree) (refusal : Refusal) : Type 0 where
  pub among : Contains (of_model model) refusal
  pub first : (other : Refusal) → Contains (of_model model) other → IsNoLater refusal other
