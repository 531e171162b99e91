-- A policy's text held against a form: the policy's JSON with the number of the cell in place of each value.
use Rattle.std.specs.Prelude.{ℕ, zero, suc, ◌&&◌, Bool, not, List, [], ◌∷◌, Option, codes, is_some, unwrap_or, flat_map}
use Rattle.std.specs.List.{position_from}
use Rattle.std.specs.Option.{option_map_or}
use Rattle.serde_json.specs.Data.{Data}
use Rattle.serde_json.specs.Find.{get}
use Rattle.serde_json.specs.View.{view}
use Rattle.sopl_ast.specs.Numbers.{both_of}
use Rattle.policy_read.specs.declared.form.Facing as declared
use Rattle.policy_read.specs.declared.entry.Told.{Told}
use Rattle.policy_read.specs.Listed.{list_under, lists_alike, pairwise}
use Rattle.policy_read.specs.Entries.{same_seen, is_told, told_in}

-- a node or a branch of the form, and what the text has in its place
pub record Facing : Type 0 where
  pub form : Data
  pub given : Data

abbrev pub facing : Data → Data → Facing
facing form given = record { form = form; given = given }

-- a node of the form and what the text has, as the program keeps them
abbrev pub facing_in : declared.Facing → Facing
facing_in h = facing (view h.form.now) (view h.given.now)

-- what is decided, and what may be seen next
abbrev pub decided_entries : Data → List Data
decided_entries node = unwrap_or (list_under (codes "decide") node) []

abbrev pub next_branches : Data → List Data
next_branches node = unwrap_or (list_under (codes "next") node) []

-- a branch has what the form's has seen, and leads to something
abbrev pub is_branch : Data → Data → Bool
is_branch form given = lists_alike same_seen (list_under (codes "seen") form) (list_under (codes "seen") given) && is_some (get (codes "then") given)

-- a node decides what the form's does, each by a whole number, and has its branches
abbrev pub is_node : Facing → Bool
is_node h =
    lists_alike is_told (list_under (codes "decide") h.form) (list_under (codes "decide") h.given)
    && lists_alike is_branch (list_under (codes "next") h.form) (list_under (codes "next") h.given)

-- the nodes that a branch leads to
abbrev pub then_in : Facing → Option Facing
then_in branch = both_of facing (get (codes "then") branch.form) (get (codes "then") branch.given)

-- the nodes from one node on, where there is one
abbrev pub nodes_from : (Facing → List Facing) → Option Facing → List Facing
nodes_from nodes node = option_map_or nodes node []

-- the nodes that a branch leads to, where it is told which come from one node on
abbrev pub nodes_behind : (Facing → List Facing) → Data → Data → List Facing
nodes_behind nodes f d = nodes_from nodes (then_in (facing f d))

-- the nodes of a form, in printed order, where so many stages come after the first one
abbrev pub nodes_of : (later : ℕ) → Facing → List Facing
nodes_of zero node = node ∷ []
nodes_of (suc later) node = node ∷ pairwise (nodes_behind (nodes_of later)) (next_branches node.form) (next_branches node.given)

-- a node differs from the form's; the number of the first one that does
abbrev pub differs : Facing → Bool
differs h = not (is_node h)

abbrev pub first_difference : List Facing → Option ℕ
first_difference nodes = position_from differs 0 nodes

-- the value that an entry tells, the values of a node, and those of all nodes, as printed
abbrev pub told_list : Data → Data → List Told
told_list f d = option_map_or (λ t. t ∷ []) (told_in f d) []

abbrev pub told_by : Facing → List Told
told_by h = pairwise told_list (decided_entries h.form) (decided_entries h.given)

abbrev pub all_told : List Facing → List Told
all_told nodes = flat_map told_by nodes
