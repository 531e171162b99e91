-- How many term nodes a text has: a node for each name, literal and operator of its expressions, where the body of a `sum` or an `all` stands once for each binding.
use Rattle.std.specs.Prelude.{ℕ, ◌+◌, ◌*◌, List, length, slice_get}
use Rattle.std.specs.List.{sum_by}
use Rattle.std.specs.Option.{option_map_or}
use Rattle.sopl_ast.specs.Tree as t
use Rattle.sopl_ast.specs.Tree.{Tree, Shape, Trees, Terms, Factors, Node, no_tree, tree, no_term, term, no_factor, factor}
use Rattle.sopl_ast.specs.Known.{Binding, Known}
use Rattle.sopl_ast.specs.Constants.{all_bindings}
use Rattle.sopl_ast.specs.Instances.{Hard, Chance, Objective, Problem}
use Rattle.sopl_ast.specs.Scenarios.{scenarios}

abbrev mutual
  -- the nodes of an expression
  pub nodes : Known → Tree → ℕ
  nodes known (Node at shape) = shape_nodes known shape

  -- the nodes of an expression of this shape: its own, and those of its parts
  pub shape_nodes : Known → Shape → ℕ
  shape_nodes known (t.Lit v) = 1
  shape_nodes known (t.Name name) = 1
  shape_nodes known (t.Index name es) = 1 + all_nodes known es
  shape_nodes known (t.Call f e) = 1 + nodes known e
  shape_nodes known (t.Add parts) = 1 + term_nodes known parts
  shape_nodes known (t.Mul first others) = 1 + (nodes known first + factor_nodes known others)
  shape_nodes known (t.Cmp op a b) = 1 + (nodes known a + nodes known b)
  shape_nodes known (t.Not e) = 1 + nodes known e
  shape_nodes known (t.And es) = 1 + all_nodes known es
  shape_nodes known (t.Or es) = 1 + all_nodes known es
  shape_nodes known (t.Implies a b) = 1 + (nodes known a + nodes known b)
  shape_nodes known (t.Sum bs e) = 1 + sum_by (λ here. nodes here e) (all_bindings known bs)
  shape_nodes known (t.Selected which es) = 1 + all_nodes known es
  shape_nodes known (t.AllDifferent bs e) = 1 + sum_by (λ here. nodes here e) (all_bindings known bs)
  shape_nodes known (t.Cumulative bs start duration demand capacity) =
      1 + (sum_by (λ here. nodes here start + (nodes here duration + nodes here demand)) (all_bindings known bs) + nodes known capacity)

  -- the nodes of expressions together
  pub all_nodes : Known → Trees → ℕ
  all_nodes known no_tree = 0
  all_nodes known (tree e es) = nodes known e + all_nodes known es

  -- those of the parts of a chain of `+` and `-`
  pub term_nodes : Known → Terms → ℕ
  term_nodes known no_term = 0
  term_nodes known (term minus e more) = nodes known e + term_nodes known more

  -- those of the factors behind the first part of a product
  pub factor_nodes : Known → Factors → ℕ
  factor_nodes known no_factor = 0
  factor_nodes known (factor op e more) = nodes known e + factor_nodes known more

-- the nodes of the condition with this number
abbrev pub condition_nodes : Problem → ℕ → List Binding → ℕ
condition_nodes problem text bound =
    option_map_or (nodes (record problem.known { bound = bound })) (slice_get problem.conditions text) 0

-- the nodes of an objective, if there is one
abbrev pub objective_nodes : Problem → ℕ
objective_nodes problem = option_map_or (λ (o : Objective). nodes problem.known o.value) problem.objective 0

-- the nodes of all instances of constraints and of the objective
abbrev pub scenario_nodes : Problem → ℕ
scenario_nodes problem =
    sum_by (λ (h : Hard). condition_nodes problem h.text h.bound) problem.hards
    + (sum_by (λ (c : Chance). condition_nodes problem c.text c.bound) problem.chances + objective_nodes problem)

-- the nodes of a text: those of its instances in each scenario
abbrev pub text_nodes : Problem → ℕ
text_nodes problem = length (scenarios problem.stochastics) * scenario_nodes problem
