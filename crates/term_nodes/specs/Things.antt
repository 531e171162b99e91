-- Which term, condition or array a node is.
use Rattle.std.specs.Prelude.{ℕ, pos, List, [], ◌∷◌, ◌++◌, slice_index_or}
use Rattle.term_language.specs.Terms as rule
use Rattle.term_math.specs.Kept.{table_of}
use Rattle.term_nodes.specs.declared.nodes.Node.{Node}
use Rattle.term_nodes.specs.declared.nodes.Node.TheVariants as node
use Rattle.term_nodes.specs.declared.nodes.Signed.{Signed}
use Rattle.term_nodes.specs.declared.nodes.Task.{Task}
use Rattle.term_nodes.specs.declared.items.Item.{Item}

pub data Thing : Type 0 where
  a_term : rule.Term → Thing
  a_cond : rule.Cond → Thing
  a_table : rule.Table → Thing

-- what is not there
abbrev pub nothing : Thing
nothing = a_term (rule.Constant (pos 0))

abbrev pub thing_at : List Thing → ℕ → Thing
thing_at all id = slice_index_or all id nothing

abbrev pub term_in : Thing → rule.Term
term_in (a_term t) = t
term_in (a_cond c) = rule.Constant (pos 0)
term_in (a_table t) = rule.Constant (pos 0)

abbrev pub cond_in : Thing → rule.Cond
cond_in (a_term t) = rule.All rule.no_cond
cond_in (a_cond c) = c
cond_in (a_table t) = rule.All rule.no_cond

-- an array that has no index
abbrev pub no_table : rule.Table
no_table = record { sets = [] ∷ []; items = [] }

abbrev pub table_in : Thing → rule.Table
table_in (a_term t) = no_table
table_in (a_cond c) = no_table
table_in (a_table t) = t

-- the term, the condition and the array of a number
abbrev pub term_at : List Thing → ℕ → rule.Term
term_at all id = term_in (thing_at all id)

abbrev pub cond_at : List Thing → ℕ → rule.Cond
cond_at all id = cond_in (thing_at all id)

abbrev pub table_at : List Thing → ℕ → rule.Table
table_at all id = table_in (thing_at all id)

-- those of several numbers
abbrev pub parts_at : List Thing → List Signed → rule.Parts
parts_at all [] = rule.no_part
parts_at all (p ∷ parts) = rule.part p.subtracted (term_at all p.term) (parts_at all parts)

abbrev pub terms_at : List Thing → List ℕ → rule.Terms
terms_at all [] = rule.no_term
terms_at all (id ∷ ids) = rule.term (term_at all id) (terms_at all ids)

abbrev pub conds_at : List Thing → List ℕ → rule.Conds
conds_at all [] = rule.no_cond
conds_at all (id ∷ ids) = rule.condition (cond_at all id) (conds_at all ids)

abbrev pub tasks_at : List Thing → List Task → rule.Tasks
tasks_at all [] = rule.no_task
tasks_at all (t ∷ tasks) = rule.task (term_at all t.start) (term_at all t.duration) (term_at all t.demand) (tasks_at all tasks)

-- what a node is, where its operands are known
abbrev pub thing_of : List Thing → Node → Thing
thing_of all (node.Constant z) = a_term (rule.Constant z)
thing_of all (node.Cell cell) = a_term (rule.Cell cell)
thing_of all (node.Sum parts) = a_term (rule.Sum (parts_at all parts.items))
thing_of all (node.Product a b) = a_term (rule.Product (term_at all a) (term_at all b))
thing_of all (node.Operation op a) = a_term (rule.Made op (term_at all a))
thing_of all (node.Extreme e first later) = a_term (rule.Selected e (term_at all first) (terms_at all later.items))
thing_of all (node.Element table at) = a_term (rule.Element (table_at all table) (terms_at all at.items))
thing_of all (node.Number c) = a_term (rule.Number (cond_at all c))
thing_of all (node.Compare c) = a_cond (rule.Compare c.op (term_at all c.left) (term_at all c.right))
thing_of all (node.Not c) = a_cond (rule.Not (cond_at all c))
thing_of all (node.All conds) = a_cond (rule.All (conds_at all conds.items))
thing_of all (node.Any conds) = a_cond (rule.Any (conds_at all conds.items))
thing_of all (node.Implies a c) = a_cond (rule.Implies (cond_at all a) (cond_at all c))
thing_of all (node.AllDifferent terms) = a_cond (rule.AllDifferent (terms_at all terms.items))
thing_of all (node.Cumulative tasks capacity) = a_cond (rule.Cumulative (tasks_at all tasks.items) (term_at all capacity))
thing_of all (node.Table t) = a_table (table_of t)

-- what all nodes are, behind those that are known
abbrev pub things_from : List Thing → List Item → List Thing
things_from known [] = known
things_from known (item ∷ items) = things_from (known ++ thing_of known item.node ∷ []) items

abbrev pub things : List Item → List Thing
things items = things_from [] items
