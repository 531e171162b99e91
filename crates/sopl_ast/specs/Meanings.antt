-- What an expression of a constraint or an objective means at a place of evaluation.
-- A number is a whole number without bound, or undefined; a condition is true or false, and as a number it is worth 1 or 0.
use Rattle.std.specs.Prelude.{ℕ, ◌+◌, ℤ, neg_ℤ, pos, ◌+ℤ◌, ◌*ℤ◌, Bool, true, false, not, ◌&&◌, ◌||◌, List, [], ◌∷◌, map, Option, Some, None, option_map, option_and_then, if◌then◌else◌}
use Rattle.std.specs.Option.{option_map_or}
use Rattle.std.specs.FinMap.{get}
use Rattle.sopl_base.specs.declared.comparison.CmpOp.{CmpOp}
use Rattle.sopl_base.specs.Extremes.{chosen_by}
use Rattle.sopl_ast.specs.declared.operators.MulOp.{MulOp}
use Rattle.sopl_ast.specs.declared.operators.MulOp.TheVariants.{Times, Div, Mod}
use Rattle.sopl_ast.specs.Tree as t
use Rattle.sopl_ast.specs.Tree.{Tree, Shape, Trees, Terms, Factors, Binders, Node, no_tree, tree, no_term, term, no_factor, factor}
use Rattle.sopl_ast.specs.Numbers.{both_of, all_of, total, extreme, one_or_zero, applied, called, all_distinct, Task, task_of, are_within}
use Rattle.sopl_ast.specs.Known.{Known, known_value}
pub use Rattle.sopl_ast.specs.Numbers.{or_else, compares}
pub use Rattle.sopl_ast.specs.Known.{is_at, bound_value, constant_value}
use Rattle.sopl_ast.specs.Constants.{value, all_bindings}
use Rattle.sopl_ast.specs.Instances.{Decision, Stochastic}
use Rattle.sopl_ast.specs.Histories.{history}
use Rattle.sopl_ast.specs.Policies.{Policy}

-- where an expression is evaluated: what is known, the instances, the values that the scenario gives the stochastic variables, and the policy
pub record Place : Type 0 where
  pub known : Known
  pub decisions : List Decision
  pub stochastics : List Stochastic
  pub scenario : List ℤ
  pub policy : Policy

-- the value that the scenario gives a stochastic variable
abbrev pub seen_value : List ℕ → List ℤ → List Stochastic → List ℤ → Option ℤ
seen_value name index [] values = None
seen_value name index (first ∷ later) [] = None
seen_value name index (first ∷ later) (value ∷ values) =
    if is_at name index first.name first.index then Some value else seen_value name index later values

-- the number and the stage of a decision
abbrev pub decision_at : List ℕ → List ℤ → ℕ → List Decision → Option (ℕ × ℕ)
decision_at name index number [] = None
decision_at name index number (first ∷ later) =
    if is_at name index first.name first.index then Some (number, first.stage) else decision_at name index (number + 1) later

-- the value that the policy gives a decision, at the scenario's history
abbrev pub decided_value : List ℕ → List ℤ → Place → Option ℤ
decided_value name index place =
    option_and_then
    (λ (found : ℕ × ℕ). get place.policy (found.0, history found.1 place.stochastics place.scenario))
    (decision_at name index 0 place.decisions)

-- the value of a name at an index: what is known of it, else the scenario's value, else the policy's; undefined where the index lies outside
abbrev pub named_value : Place → List ℕ → List ℤ → Option ℤ
named_value place name index =
    or_else (known_value place.known name index)
    (or_else (seen_value name index place.stochastics place.scenario) (decided_value name index place))

-- a place with other things known
abbrev pub knowing : Place → Known → Place
knowing place known = record place { known = known }

-- the places for each way in which binders take their values
abbrev pub places : Place → Binders → List Place
places place bs = map (knowing place) (all_bindings place.known bs)

-- a value as a number, or undefined; and a truth as a condition
pub record Meaning : Type 0 where
  pub value : Option ℤ
  pub truth : Bool

-- a number is no condition
abbrev pub number : Option ℤ → Meaning
number value = record { value = value; truth = false }

-- a condition is worth 1 where it is true and 0 where it is false
abbrev pub condition : Bool → Meaning
condition is = record { value = Some (one_or_zero is); truth = is }

-- a comparison with an undefined operand is false
abbrev pub compared : CmpOp → Option ℤ → Option ℤ → Bool
compared op (Some x) (Some y) = compares op x y
compared op (Some x) None = false
compared op None b = false

-- a number divided by another, where both are there and the other is not 0
abbrev pub divided : MulOp → Option ℤ → Option ℤ → Option ℤ
divided op a b = option_and_then (λ x. option_and_then (λ y. applied op x y) b) a

-- terms are all different where each is defined and no two are equal
abbrev pub are_different : Option (List ℤ) → Bool
are_different xs = option_map_or all_distinct xs false

-- tasks fit under a capacity where all of them and the capacity are defined
abbrev pub fit : Option (List Task) → Option ℤ → Bool
fit (Some tasks) (Some capacity) = are_within capacity tasks
fit (Some tasks) None = false
fit None capacity = false

abbrev mutual
  -- what an expression means
  pub meaning : Place → Tree → Meaning
  meaning place (Node at shape) = shape_meaning place shape

  -- what an expression of this shape means
  pub shape_meaning : Place → Shape → Meaning
  shape_meaning place (t.Lit v) = number (Some v)
  shape_meaning place (t.Name name) = number (named_value place name [])
  shape_meaning place (t.Index name es) = number (option_and_then (named_value place name) (defined_values place es))
  shape_meaning place (t.Call f e) = number (option_map (called f) (meaning place e).value)
  shape_meaning place (t.Add parts) = number (sum_value place parts)
  shape_meaning place (t.Mul first others) = number (product_value place (meaning place first).value others)
  shape_meaning place (t.Cmp op a b) = condition (compared op (meaning place a).value (meaning place b).value)
  shape_meaning place (t.Not e) = condition (not (meaning place e).truth)
  shape_meaning place (t.And es) = condition (all_true place es)
  shape_meaning place (t.Or es) = condition (some_true place es)
  shape_meaning place (t.Implies a b) = condition (not (meaning place a).truth || (meaning place b).truth)
  shape_meaning place (t.Sum bs e) = number (option_map total (all_of (λ here. (meaning here e).value) (places place bs)))
  shape_meaning place (t.Selected which es) = number (option_and_then (extreme (chosen_by which)) (defined_values place es))
  shape_meaning place (t.AllDifferent bs e) = condition (are_different (all_of (λ here. (meaning here e).value) (places place bs)))
  shape_meaning place (t.Cumulative bs start duration demand capacity) =
      condition (fit
      (all_of (λ here. task_of (meaning here start).value (meaning here duration).value (meaning here demand).value) (places place bs))
      (meaning place capacity).value)

  -- the values of expressions in order, where each is defined
  pub defined_values : Place → Trees → Option (List ℤ)
  defined_values place no_tree = Some []
  defined_values place (tree e es) = both_of (λ x xs. x ∷ xs) (meaning place e).value (defined_values place es)

  -- the sum of a chain of parts, of which some are subtracted
  pub sum_value : Place → Terms → Option ℤ
  sum_value place no_term = Some (pos 0)
  sum_value place (term minus e later) =
      both_of (λ x y. (if minus then neg_ℤ x else x) +ℤ y) (meaning place e).value (sum_value place later)

  -- the product of what stands before, and the factors that follow it from left to right; a divisor is a constant, and is worth what it is worth there
  pub product_value : Place → Option ℤ → Factors → Option ℤ
  product_value place before no_factor = before
  product_value place before (factor Times e later) = product_value place (both_of ◌*ℤ◌ before (meaning place e).value) later
  product_value place before (factor Div e later) = product_value place (divided Div before (value place.known e)) later
  product_value place before (factor Mod e later) = product_value place (divided Mod before (value place.known e)) later

  -- whether all conditions are true
  pub all_true : Place → Trees → Bool
  all_true place no_tree = true
  all_true place (tree e later) = (meaning place e).truth && all_true place later

  -- whether some condition is true
  pub some_true : Place → Trees → Bool
  some_true place no_tree = false
  some_true place (tree e later) = (meaning place e).truth || some_true place later
