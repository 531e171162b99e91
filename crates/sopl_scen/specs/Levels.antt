-- The levels of a tree of scenarios, as the program builds them. These steps are the code's own: no public clause cites them.
use Rattle.std.specs.Prelude.{ℕ, zero, suc, ◌+◌, ◌<◌, ◌≤◌, ◌^◌, ℤ, pos, ◌*ℤ◌, unsigned_abs, List, [], ◌∷◌, ◌++◌, length, map, get_or}
use Rattle.std.specs.List.{AllByRecursion, range_with_len}
use Rattle.sopl_ast.specs.Instances.{Outcome, Stochastic, distribution, independent}
use Rattle.sopl_scen.specs.declared.nodes.Node.{Node}

-- the scenario of no variable
abbrev pub root : Node
root = record { parent = 0; value = pos 0; weight = pos 1 }

-- the node of an outcome behind a node, which has this number in its level
abbrev pub child_of : ℕ → Node → Outcome → Node
child_of parent above o = record { parent = parent; value = o.value; weight = above.weight *ℤ o.weight }

-- the nodes of outcomes behind each of these nodes, which are numbered from here on
abbrev pub children : ℕ → List Node → List Outcome → List Node
children first [] outcomes = []
children first (node ∷ later) outcomes = map (child_of first node) outcomes ++ children (first + 1) later outcomes

-- no variable, in place of one that is not there
abbrev pub no_variable : Stochastic
no_variable = independent [] [] [] 0

-- the outcomes of a variable
abbrev pub outcomes_at : List Stochastic → ℕ → List Outcome
outcomes_at stochastics j = distribution (get_or stochastics j no_variable)

-- the level of so many variables
abbrev pub level_at : List Stochastic → ℕ → List Node
level_at stochastics zero = root ∷ []
level_at stochastics (suc j) = children 0 (level_at stochastics j) (outcomes_at stochastics j)

-- the levels of all prefixes
abbrev pub all_levels : List Stochastic → List (List Node)
all_levels stochastics = map (level_at stochastics) (range_with_len 0 (length stochastics + 1))

-- the weight of a node
abbrev pub weight_in : Node → ℤ
weight_in node = node.weight

-- the weight of a node is small
abbrev pub IsLight : Node → Type 0
IsLight node = unsigned_abs node.weight ≤ 2 ^ 100

-- the levels are small, and so are the weights of their nodes
pub record AreSmall (stochastics : List Stochastic) : Type 0 where
  pub light : (j : ℕ) → j ≤ length stochastics → AllByRecursion IsLight (level_at stochastics j)
  pub few : (j : ℕ) → j ≤ length stochastics → length (level_at stochastics j) < 2 ^ 32
