-- Small problems whose values are known.
use Rattle.std.specs.Prelude.{ℕ, ℤ, pos, true, false, List, [], ◌∷◌, Option, Some, None, codes}
use Rattle.sopl_base.specs.declared.comparison.CmpOp.TheVariants.{Eq, Le}
use Rattle.sopl_base.specs.declared.direction.Direction.TheVariants.{Maximize}
use Rattle.sopl_ast.specs.declared.operators.MulOp.TheVariants.{Times}
use Rattle.sopl_ast.specs.Tree as t
use Rattle.sopl_ast.specs.Tree.{Tree, Node, no_term, term, no_factor, factor}
use Rattle.sopl_ast.specs.Known.{nothing_known}
use Rattle.sopl_ast.specs.Instances.{Decision, Stochastic, Hard, Problem, independent}
use Rattle.sopl_ast.specs.Policies.{Key}
use Rattle.sopl_ast.specs.Cells.{cells, policy_at}
use Rattle.sopl_ast.specs.Optimal.{numerator}

-- x lies in 0..5 and is chosen at stage 1
abbrev pub x_decision : Decision
x_decision = record { name = codes "x"; index = []; lo = pos 0; hi = pos 5; stage = 1 }

-- y lies in 0..3 and is chosen at stage 2
abbrev pub y_decision : Decision
y_decision = record { name = codes "y"; index = []; lo = pos 0; hi = pos 3; stage = 2 }

-- d is 1 or 3, which weigh the same, and is seen after stage 1
abbrev pub d_stochastic : Stochastic
d_stochastic = independent (codes "d") [] (record { value = pos 1; weight = pos 1 } ∷ record { value = pos 3; weight = pos 1 } ∷ []) 1

-- x, y and d, as expressions
abbrev pub x_tree : Tree
x_tree = Node 0 (t.Name (codes "x"))

abbrev pub y_tree : Tree
y_tree = Node 0 (t.Name (codes "y"))

abbrev pub d_tree : Tree
d_tree = Node 0 (t.Name (codes "d"))

-- a literal times an expression
abbrev pub times : ℤ → Tree → Tree
times n e = Node 0 (t.Mul (Node 0 (t.Lit n)) (factor Times e no_factor))

-- the constraint, in every scenario, of the condition with this number
abbrev pub hard : ℕ → Hard
hard number = record { text = number; bound = [] }

-- y <= d, y <= x, maximize expected 4*y - 3*x
abbrev pub ordering : Problem
ordering = record {
  known = nothing_known;
  decisions = x_decision ∷ y_decision ∷ [];
  stochastics = d_stochastic ∷ [];
  conditions = Node 0 (t.Cmp Le y_tree d_tree) ∷ Node 0 (t.Cmp Le y_tree x_tree) ∷ [];
  hards = hard 0 ∷ hard 1 ∷ [];
  chances = [];
  objective = Some (record {
    direction = Maximize;
    worst = false;
    value = Node 0 (t.Add (term false (times (pos 4) y_tree) (term true (times (pos 3) x_tree) no_term)));
  });
}

-- the keys of `ordering`: x, y after 1 is seen, and y after 3 is seen
abbrev pub ordering_keys : List Key
ordering_keys = (0, []) ∷ (1, pos 1 ∷ []) ∷ (1, pos 3 ∷ []) ∷ []

-- what a policy of `ordering` is worth, by its x, its y after 1 and its y after 3
abbrev pub ordering_worth : ℤ → ℤ → ℤ → Option ℤ
ordering_worth x after_one after_three = numerator ordering (policy_at (cells ordering) (x ∷ after_one ∷ after_three ∷ []))

-- x == d, where x is chosen before d is seen
abbrev pub guessing : Problem
guessing = record {
  known = nothing_known;
  decisions = x_decision ∷ [];
  stochastics = d_stochastic ∷ [];
  conditions = Node 0 (t.Cmp Eq x_tree d_tree) ∷ [];
  hards = hard 0 ∷ [];
  chances = [];
  objective = None;
}
