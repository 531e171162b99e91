-- The rules on boxes: the linear form, the interval and the mark of a number expression, and the truth of a condition.
use Rattle.std.specs.Prelude.{ℤ, pos, negsuc, Bool, true, false, ◌&&◌, List, [], ◌∷◌, map, Option, Some, None, if◌then◌else◌}
use Rattle.std.specs.List.{fold, list_all}
use Rattle.sopl_base.specs.Extremes.{chosen_by}
use Rattle.box_problem.specs.Box.{Box}
use Rattle.term_language.specs.declared.answers.Defined.{Defined}
use Rattle.term_language.specs.declared.answers.Defined.TheVariants.{Never, Maybe, Always}
use Rattle.term_language.specs.declared.answers.Truth.{Truth}
use Rattle.term_language.specs.declared.answers.Truth.TheVariants.{False, True}
use Rattle.term_language.specs.Terms.{Item, Fixed, Free, Table, Term, Constant, Cell, Sum, Product, Made, Selected, Element, Number, Terms, no_term, term}
use Rattle.term_language.specs.Terms.{Parts, no_part, part, Cond, Compare, Not, All, Any, Implies, AllDifferent, Cumulative, Conds, no_cond, condition, Tasks, no_task, task}
use Rattle.term_language.specs.Arrays.{Entry, entries, item_at, reached, are_covered}
use Rattle.term_language.specs.Ends.{Ends, exactly, plus, scaled, times, made_of, made, picked, hull_of, cell_ends}
use Rattle.term_language.specs.Forms.{Form, number_form, cell_form, atom_form, is_constant, plus_form, product_form, sign, whole}
use Rattle.term_language.specs.Marks.{both, all_marks, is_always, opposite, and_truth, or_truth, truth_ends, judged, compared}
use Rattle.term_language.specs.Globals.{never_differ, always_differ, TaskEnds, never_fit, always_fit}

-- how elements are read: those alone whose indices the box allows, or every element of the array
pub data Reading : Type 0 where
  Near : Reading
  Wide : Reading

-- operands fold to a number where they are numbers that are Always defined over the root box
abbrev pub folds : List Form → Defined → Bool
folds forms root_mark = list_all is_constant forms && is_always root_mark

-- what is made of numbers that fold, and nothing else of them
abbrev pub folded : Bool → ℤ → Form
folded true z = number_form z
folded false z = atom_form

abbrev pub unless_folded : Bool → Ends → Ends
unless_folded true atom = exactly (pos 0)
unless_folded false atom = atom

-- one of several numbers, as one of two is chosen
abbrev pub chosen : (ℤ → ℤ → ℤ) → Form → List Form → ℤ
chosen choose f later = fold choose f.constant (map (λ (g : Form). g.constant) later)

-- an element whose indices are numbers of the index set is its item
abbrev pub item_form : Option Item → Form
item_form (Some (Fixed z)) = number_form z
item_form (Some (Free cell)) = cell_form cell
item_form None = atom_form

abbrev pub element_form : Table → List Form → Form
element_form table forms =
    if list_all is_constant forms then item_form (item_at table (map (λ (f : Form). f.constant) forms)) else atom_form

-- the interval of an item
abbrev pub item_ends : Box → Item → Ends
item_ends b (Fixed z) = exactly z
item_ends b (Free cell) = cell_ends b cell

-- the elements that may be read: those whose indices are allowed; all where the reading is wide, or where no index is allowed
abbrev pub if_any : List Entry → List Entry → List Entry
if_any [] all = all
if_any (entry ∷ later) all = entry ∷ later

abbrev pub readable : Reading → List Ends → Table → List Entry
readable Wide intervals table = entries table
readable Near intervals table = if_any (reached intervals table) (entries table)

-- their hull
abbrev pub element_ends : Reading → Box → List Ends → Table → Ends
element_ends reading b intervals table =
    hull_of (map (λ (entry : Entry). item_ends b entry.item) (readable reading intervals table))

-- an element is Never defined where no index is allowed; Always where each that is allowed is one of the array's
abbrev pub reached_mark : Bool → List Entry → Defined
reached_mark covered [] = Never
reached_mark covered (entry ∷ later) = if covered then Always else Maybe

-- and it is no more defined than its indices
abbrev pub element_mark : Table → Defined → List Ends → Defined
element_mark table marks intervals =
    both marks (reached_mark (are_covered intervals table.sets) (reached intervals table))

-- the interval of a product of forms, of which those of all else are given
abbrev pub product_atoms : Box → Form → Form → Ends → Ends → Ends
product_atoms b f g atoms_f atoms_g =
    if is_constant f then scaled f.constant atoms_g
    else if is_constant g then scaled g.constant atoms_f
    else times (whole b f atoms_f) (whole b g atoms_g)

-- the interval of a difference
abbrev pub difference_ends : Box → Form → Form → Ends → Ends → Ends
difference_ends b f g atoms_f atoms_g =
    whole b (plus_form (negsuc 0) f g) (plus atoms_f (scaled (negsuc 0) atoms_g))

abbrev mutual
  -- the linear form; it depends on the root box alone, where marks say what folds
  pub form : Box → Term → Form
  form root (Constant z) = number_form z
  form root (Cell cell) = cell_form cell
  form root (Sum parts) = sum_form root parts
  form root (Product a b) = product_form (form root a) (form root b)
  form root (Made op a) = folded (folds (form root a ∷ []) (mark Near root root a)) (made_of op (form root a).constant)
  form root (Selected which a later) =
      folded (folds (form root a ∷ forms root later) (both (mark Near root root a) (all_marks (marks Near root root later))))
      (chosen (chosen_by which) (form root a) (forms root later))
  form root (Element table indices) = element_form table (forms root indices)
  form root (Number c) = atom_form

  pub forms : Box → Terms → List Form
  forms root no_term = []
  forms root (term t later) = form root t ∷ forms root later

  pub sum_form : Box → Parts → Form
  sum_form root no_part = number_form (pos 0)
  sum_form root (part subtracted t later) = plus_form (sign subtracted) (sum_form root later) (form root t)

  -- the interval of all that is in the form besides its constant and its cells
  pub atoms : Reading → Box → Box → Term → Ends
  atoms reading root b (Constant z) = exactly (pos 0)
  atoms reading root b (Cell cell) = exactly (pos 0)
  atoms reading root b (Sum parts) = sum_atoms reading root b parts
  atoms reading root b (Product a c) =
      product_atoms b (form root a) (form root c) (atoms reading root b a) (atoms reading root b c)
  atoms reading root b (Made op a) =
      unless_folded (folds (form root a ∷ []) (mark Near root root a)) (made op (whole b (form root a) (atoms reading root b a)))
  atoms reading root b (Selected which a later) =
      unless_folded (folds (form root a ∷ forms root later) (both (mark Near root root a) (all_marks (marks Near root root later))))
      (fold (picked which) (whole b (form root a) (atoms reading root b a)) (intervals reading root b later))
  atoms reading root b (Element table indices) =
      unless_folded (element_form table (forms root indices)).plain (element_ends reading b (intervals reading root b indices) table)
  atoms reading root b (Number c) = truth_ends (truth reading root b c)

  pub sum_atoms : Reading → Box → Box → Parts → Ends
  sum_atoms reading root b no_part = exactly (pos 0)
  sum_atoms reading root b (part subtracted t later) =
      plus (scaled (sign subtracted) (atoms reading root b t)) (sum_atoms reading root b later)

  -- the whole intervals of several
  pub intervals : Reading → Box → Box → Terms → List Ends
  intervals reading root b no_term = []
  intervals reading root b (term t later) = whole b (form root t) (atoms reading root b t) ∷ intervals reading root b later

  -- the mark of definedness: Never where an operand is, Always where all are; coefficients that cancel change nothing
  pub mark : Reading → Box → Box → Term → Defined
  mark reading root b (Constant z) = Always
  mark reading root b (Cell cell) = Always
  mark reading root b (Sum parts) = sum_mark reading root b parts
  mark reading root b (Product a c) = both (mark reading root b a) (mark reading root b c)
  mark reading root b (Made op a) = mark reading root b a
  mark reading root b (Selected which a later) = both (mark reading root b a) (all_marks (marks reading root b later))
  mark reading root b (Element table indices) =
      element_mark table (all_marks (marks reading root b indices)) (intervals reading root b indices)
  mark reading root b (Number c) = Always

  pub marks : Reading → Box → Box → Terms → List Defined
  marks reading root b no_term = []
  marks reading root b (term t later) = mark reading root b t ∷ marks reading root b later

  pub sum_mark : Reading → Box → Box → Parts → Defined
  sum_mark reading root b no_part = Always
  sum_mark reading root b (part subtracted t later) = both (mark reading root b t) (sum_mark reading root b later)

  -- the truth of a condition, by three-valued logic
  pub truth : Reading → Box → Box → Cond → Truth
  truth reading root b (Compare op a c) =
      compared op (difference_ends b (form root a) (form root c) (atoms reading root b a) (atoms reading root b c))
      (both (mark reading root b a) (mark reading root b c))
  truth reading root b (Not c) = opposite (truth reading root b c)
  truth reading root b (All conds) = all_truth reading root b conds
  truth reading root b (Any conds) = any_truth reading root b conds
  truth reading root b (Implies a c) = or_truth (opposite (truth reading root b a)) (truth reading root b c)
  truth reading root b (AllDifferent terms) =
      judged (all_marks (marks reading root b terms)) (never_differ (intervals reading root b terms)) (always_differ (intervals reading root b terms))
  truth reading root b (Cumulative tasks capacity) =
      judged (both (task_mark reading root b tasks) (mark reading root b capacity))
      (never_fit (task_ends reading root b tasks) (whole b (form root capacity) (atoms reading root b capacity)))
      (always_fit (task_ends reading root b tasks) (whole b (form root capacity) (atoms reading root b capacity)))

  pub all_truth : Reading → Box → Box → Conds → Truth
  all_truth reading root b no_cond = True
  all_truth reading root b (condition c later) = and_truth (truth reading root b c) (all_truth reading root b later)

  pub any_truth : Reading → Box → Box → Conds → Truth
  any_truth reading root b no_cond = False
  any_truth reading root b (condition c later) = or_truth (truth reading root b c) (any_truth reading root b later)

  pub task_ends : Reading → Box → Box → Tasks → List TaskEnds
  task_ends reading root b no_task = []
  task_ends reading root b (task start duration demand later) =
      record {
        start = whole b (form root start) (atoms reading root b start);
        duration = whole b (form root duration) (atoms reading root b duration);
        demand = whole b (form root demand) (atoms reading root b demand);
      } ∷ task_ends reading root b later

  pub task_mark : Reading → Box → Box → Tasks → Defined
  task_mark reading root b no_task = Always
  task_mark reading root b (task start duration demand later) =
      both (mark reading root b start) (both (mark reading root b duration) (both (mark reading root b demand) (task_mark reading root b later)))

-- the interval of a number expression over a box
abbrev pub interval : Reading → Box → Box → Term → Ends
interval reading root b t = whole b (form root t) (atoms reading root b t)
