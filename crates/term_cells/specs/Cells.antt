-- Sets of cells, as ascending lists, the cells of linear forms, and those of the operands of a term.
use Rattle.std.specs.Prelude.{ℕ, List, [], ◌++◌, map}
use Rattle.std.specs.BTreeSet.{insert_key}
use Rattle.std.specs.List.{fold}
use Rattle.std.specs.Ordering.{nat_cmp}
use Rattle.box_problem.specs.Box.{Box}
use Rattle.term_language.specs.Forms.{Coefficient}
use Rattle.term_language.specs.Terms.{Term, Product, Made}
use Rattle.term_language.specs.Mentions.{mentions}
use Rattle.term_nodes.specs.declared.nodes.Task.{Task}
use Rattle.term_nodes.specs.Things.{Thing, term_at}

-- a set with the cells of a list put in
abbrev pub with_cells : List ℕ → List ℕ → List ℕ
with_cells set cells = fold (insert_key nat_cmp) set cells

-- the cells of coefficients
abbrev pub form_cells : List Coefficient → List ℕ
form_cells coefficients = map (λ (c : Coefficient). c.cell) coefficients

-- what a term's left operand mentions, and what else the term mentions
abbrev pub left_mentions : Box → Term → List ℕ
left_mentions root (Product a b) = mentions root a
left_mentions root (Made op a) = mentions root a
left_mentions root t = []

abbrev pub other_mentions : Box → Term → List ℕ
other_mentions root (Product a b) = mentions root b
other_mentions root (Made op a) = []
other_mentions root t = mentions root t

-- what the start, the length and the demand of a task mention
abbrev pub task_mentions : Box → List Thing → Task → List ℕ
task_mentions root all t =
    mentions root (term_at all t.start) ++ (mentions root (term_at all t.duration) ++ mentions root (term_at all t.demand))
