-- The number expressions that stand in a term or a condition, in the order in which their sizes are asked for: operands before what is made of them, and
-- from left to right.
use Rattle.std.specs.Prelude.{List, [], ◌∷◌, ◌++◌}
use Rattle.term_language.specs.Terms.{Term, Constant, Cell, Sum, Product, Made, Selected, Element, Number, Terms, no_term, term, Parts, no_part, part, Cond}
use Rattle.term_language.specs.Terms.{Compare, Not, All, Any, Implies, AllDifferent, Cumulative, Conds, no_cond, condition, Tasks, no_task, task}

abbrev mutual
  -- those in a term, the term itself last; a divisor is a number and no expression, and so are the items of an array
  pub subterms : Term → List Term
  subterms (Constant z) = Constant z ∷ []
  subterms (Cell cell) = Cell cell ∷ []
  subterms (Sum parts) = part_subterms parts ++ Sum parts ∷ []
  subterms (Product a b) = subterms a ++ (subterms b ++ Product a b ∷ [])
  subterms (Made op a) = subterms a ++ Made op a ∷ []
  subterms (Selected which a later) = subterms a ++ (all_subterms later ++ Selected which a later ∷ [])
  subterms (Element table indices) = all_subterms indices ++ Element table indices ∷ []
  subterms (Number c) = condition_subterms c ++ Number c ∷ []

  -- those in several terms
  pub all_subterms : Terms → List Term
  all_subterms no_term = []
  all_subterms (term a later) = subterms a ++ all_subterms later

  -- those in the parts of a sum: the sum of a few of its parts is none of them
  pub part_subterms : Parts → List Term
  part_subterms no_part = []
  part_subterms (part subtracted a later) = subterms a ++ part_subterms later

  -- those in a condition: the difference of two sides is none of them
  pub condition_subterms : Cond → List Term
  condition_subterms (Compare op a b) = subterms a ++ subterms b
  condition_subterms (Not c) = condition_subterms c
  condition_subterms (All cs) = all_condition_subterms cs
  condition_subterms (Any cs) = all_condition_subterms cs
  condition_subterms (Implies a b) = condition_subterms a ++ condition_subterms b
  condition_subterms (AllDifferent parts) = all_subterms parts
  condition_subterms (Cumulative tasks capacity) = task_subterms tasks ++ subterms capacity

  -- those in several conditions
  pub all_condition_subterms : Conds → List Term
  all_condition_subterms no_cond = []
  all_condition_subterms (condition c later) = condition_subterms c ++ all_condition_subterms later

  -- those in tasks: of each task its start, its length and its demand
  pub task_subterms : Tasks → List Term
  task_subterms no_task = []
  task_subterms (task start duration demand later) = subterms start ++ (subterms duration ++ (subterms demand ++ task_subterms later))
