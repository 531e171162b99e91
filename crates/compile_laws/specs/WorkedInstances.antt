-- Expressions and conditions of a small problem, and what they are as terms.
use Rattle.std.specs.Prelude.{ℕ, ℤ, pos, false, List, [], ◌∷◌, Some, codes}
use Rattle.sopl_base.specs.declared.comparison.CmpOp.TheVariants.{Le}
use Rattle.sopl_base.specs.declared.direction.Direction.TheVariants.{Maximize}
use Rattle.sopl_ast.specs.declared.operators.MulOp.TheVariants.{Div}
use Rattle.sopl_ast.specs.Tree as t
use Rattle.sopl_ast.specs.Tree.{Tree, Node, no_tree, tree, no_factor, factor, no_binder, binder, Ends}
use Rattle.sopl_ast.specs.Known.{Binding, Constant}
use Rattle.sopl_ast.specs.Instances.{Decision, Stochastic, Problem, independent}
use Rattle.sopl_ast.specs.Scenarios.{Scenario}
use Rattle.term_language.specs.Terms as c

-- c[1] is 2, and c[2] is 0
abbrev pub c_element : ℤ → ℤ → Constant
c_element index value = record { name = codes "c"; index = index ∷ []; value = value }

-- x[1] and x[2] lie in 0..5 and are chosen at stage 2
abbrev pub x_element : ℤ → Decision
x_element index = record { name = codes "x"; index = index ∷ []; lo = pos 0; hi = pos 5; stage = 2 }

-- d is 1 or 3, which weigh 1 and 4, and is seen after stage 1
abbrev pub d_stochastic : Stochastic
d_stochastic =
    independent (codes "d") [] (record { value = pos 1; weight = pos 1 } ∷ record { value = pos 3; weight = pos 4 } ∷ []) 1

-- a name, an element at one index, and a literal
abbrev pub name : List ℕ → Tree
name bytes = Node 0 (t.Name bytes)

abbrev pub element : List ℕ → Tree → Tree
element bytes index = Node 0 (t.Index bytes (tree index no_tree))

abbrev pub literal : ℤ → Tree
literal z = Node 0 (t.Lit z)

-- x[d] <= c[i]
abbrev pub drawn : Tree
drawn = Node 0 (t.Cmp Le (element (codes "x") (name (codes "d"))) (element (codes "c") (name (codes "i"))))

-- 7 div c[i]
abbrev pub divided_by : Tree
divided_by = Node 0 (t.Mul (literal (pos 7)) (factor Div (element (codes "c") (name (codes "i"))) no_factor))

-- sum(j in 1..2) x[j]
abbrev pub summed : Tree
summed = Node 0 (t.Sum (binder (codes "j") 0 (Ends (literal (pos 1)) (literal (pos 2))) no_binder) (element (codes "x") (name (codes "j"))))

-- what a binder gives i
abbrev pub given : ℤ → List Binding
given z = record { name = codes "i"; value = z } ∷ []

-- x[d] <= c[i] for i = 1, and maximize expected sum(j in 1..2) x[j]
abbrev pub drawing : Problem
drawing =
    record {
      known = record { bound = []; constants = c_element (pos 1) (pos 2) ∷ c_element (pos 2) (pos 0) ∷ []; sets = [] };
      decisions = x_element (pos 1) ∷ x_element (pos 2) ∷ [];
      stochastics = d_stochastic ∷ [];
      conditions = drawn ∷ [];
      hards = (record { text = 0; bound = given (pos 1) }) ∷ [];
      chances = [];
      objective = Some (record { direction = Maximize; worst = false; value = summed });
    }

-- the scenarios in which d is 1 and 3
abbrev pub first_scenario : Scenario
first_scenario = record { values = pos 1 ∷ []; weight = pos 1 }

abbrev pub second_scenario : Scenario
second_scenario = record { values = pos 3 ∷ []; weight = pos 4 }

-- an array with indices 1 and 2, and its element at an index
abbrev pub array : c.Item → c.Item → c.Table
array first second = record { sets = (pos 1 ∷ pos 2 ∷ []) ∷ []; items = first ∷ second ∷ [] }

abbrev pub at : c.Table → ℤ → c.Term
at table index = c.Element table (c.term (c.Constant index) c.no_term)

-- the elements of c, and those of x where their cells have these numbers
abbrev pub c_array : c.Table
c_array = array (c.Fixed (pos 2)) (c.Fixed (pos 0))

abbrev pub x_array : ℕ → ℕ → c.Table
x_array first second = array (c.Free first) (c.Free second)
