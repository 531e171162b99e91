-- The cells that number expressions and conditions mention, in the order of writing, each as often as it stands there.
use Rattle.std.specs.Prelude.{ℕ, List, [], ◌∷◌, ◌++◌, map, Option, Some, None, if◌then◌else◌}
use Rattle.std.specs.List.{flat_map, list_all}
use Rattle.box_problem.specs.Box.{Box}
use Rattle.term_language.specs.Terms.{Item, Fixed, Free, Table, Term, Constant, Cell, Sum, Product, Made, Selected, Element, Number, Terms, no_term, term}
use Rattle.term_language.specs.Terms.{Parts, no_part, part, Cond, Compare, Not, All, Any, Implies, AllDifferent, Cumulative, Conds, no_cond, condition, Tasks, no_task, task}
use Rattle.term_language.specs.Arrays.{item_at}
use Rattle.term_language.specs.Forms.{Form, is_constant}
use Rattle.term_language.specs.Rules.{forms}

-- an item mentions its cell, if it is one; an array what its items mention
abbrev pub item_mentions : Item → List ℕ
item_mentions (Fixed z) = []
item_mentions (Free cell) = cell ∷ []

abbrev pub table_mentions : Table → List ℕ
table_mentions table = flat_map item_mentions table.items

-- the item of an array that these indices name, where they are numbers and the index is one of the array's
abbrev pub named_item : Table → List Form → Option Item
named_item table indices = if list_all is_constant indices then item_at table (map (λ (f : Form). f.constant) indices) else None

-- an element mentions what the item mentions that its indices name; if they name none, what the array mentions
abbrev pub element_mentions : Table → Option Item → List ℕ
element_mentions table (Some item) = item_mentions item
element_mentions table None = table_mentions table

abbrev mutual
  -- a cell mentions itself, an operation what its operands mention, an element also what its indices mention
  pub mentions : Box → Term → List ℕ
  mentions root (Constant z) = []
  mentions root (Cell cell) = cell ∷ []
  mentions root (Sum parts) = parts_mention root parts
  mentions root (Product a b) = mentions root a ++ mentions root b
  mentions root (Made op a) = mentions root a
  mentions root (Selected which a later) = mentions root a ++ terms_mention root later
  mentions root (Element table indices) =
      element_mentions table (named_item table (forms root indices)) ++ terms_mention root indices
  mentions root (Number c) = cond_mentions root c

  pub terms_mention : Box → Terms → List ℕ
  terms_mention root no_term = []
  terms_mention root (term t later) = mentions root t ++ terms_mention root later

  pub parts_mention : Box → Parts → List ℕ
  parts_mention root no_part = []
  parts_mention root (part subtracted t later) = mentions root t ++ parts_mention root later

  pub cond_mentions : Box → Cond → List ℕ
  cond_mentions root (Compare op a b) = mentions root a ++ mentions root b
  cond_mentions root (Not c) = cond_mentions root c
  cond_mentions root (All conds) = conds_mention root conds
  cond_mentions root (Any conds) = conds_mention root conds
  cond_mentions root (Implies a c) = cond_mentions root a ++ cond_mentions root c
  cond_mentions root (AllDifferent terms) = terms_mention root terms
  cond_mentions root (Cumulative tasks capacity) = tasks_mention root tasks ++ mentions root capacity

  pub conds_mention : Box → Conds → List ℕ
  conds_mention root no_cond = []
  conds_mention root (condition c later) = cond_mentions root c ++ conds_mention root later

  pub tasks_mention : Box → Tasks → List ℕ
  tasks_mention root no_task = []
  tasks_mention root (task start duration demand later) =
      mentions root start ++ (mentions root duration ++ (mentions root demand ++ tasks_mention root later))
