-- What terms are over a box.
use Rattle.std.specs.Prelude.{◌≡◌, ℕ, ℤ, Bool, true, false, List, Option}
use Rattle.box_problem.specs.Box.{Box, IsBox, Inside}
use Rattle.term_language.specs.Ends as ends
use Rattle.std.specs.List.{fold}
use Rattle.term_language.specs.Marks.{both, all_marks}
use Rattle.term_language.specs.Terms.{Table, Term, Terms, Parts}
use Rattle.term_language.specs.Rules as rule
use Rattle.term_language.specs.declared.answers.Defined.{Defined}
use Rattle.sopl_base.specs.declared.extreme.Extreme.{Extreme}
use Rattle.term_language.specs.Ends.{picked}
use Rattle.term_math.specs.Shown.{box_in}
pub use Rattle.term_math.specs.Sights.{Sight, sight_of}
use Rattle.term_math.specs.Within.{Known, all_covered, allowed_ends, seen_ends, seen_mark, with_dimensions}
use Rattle.term_language.specs.Globals.{TaskEnds}
use Rattle.term_nodes.specs.declared.evaluation.Evaluator.{Evaluator}
use Rattle.term_nodes.specs.declared.nodes.Task.{Task}
use Rattle.term_nodes.specs.Things.{tasks_at, terms_at, things}
use Rattle.term_nodes.specs.Built.{IsBuilt}

-- the interval of the non-linear part, and the mark
abbrev pub sight : rule.Reading → Box → Box → Term → Sight
sight reading root b t = record { ends = rule.atoms reading root b t; mark = rule.mark reading root b t }

abbrev pub sum_sight : rule.Reading → Box → Box → Parts → Sight
sum_sight reading root b parts = record { ends = rule.sum_atoms reading root b parts; mark = rule.sum_mark reading root b parts }

-- the whole interval of a term, and its mark
abbrev pub range : rule.Reading → Box → Box → Term → Sight
range reading root b t = record { ends = rule.interval reading root b t; mark = rule.mark reading root b t }

-- the whole interval of the least or the greatest of several, and the mark of all
abbrev pub extreme_range : rule.Reading → Box → Box → Extreme → Term → Terms → Sight
extreme_range reading root b e t later = record {
  ends = fold (picked e) (rule.interval reading root b t) (rule.intervals reading root b later);
  mark = both (rule.mark reading root b t) (all_marks (rule.marks reading root b later));
}

-- an element of which the marks of the indices, all together, and their intervals are given
abbrev pub element_sight : Box → Table → Defined → List ends.Ends → Sight
element_sight b table marks intervals = record {
  ends = rule.element_ends rule.Near b intervals table;
  mark = rule.element_mark table marks intervals;
}

-- an element of which the mark of all indices is given, and what is known of them
abbrev pub known_sight : Box → Table → Defined → Option Known → Sight
known_sight b table mark known = record {
  ends = seen_ends b table (allowed_ends b table known);
  mark = seen_mark mark (all_covered known) (allowed_ends b table known);
}

-- and one of which the mark of the indices behind these is given, and what is known of those
abbrev pub indexed_sight : rule.Reading → Box → Box → Table → Terms → List (List ℤ) → Defined → Known → Sight
indexed_sight reading root b table at sets mark known =
    known_sight b table (both (all_marks (rule.marks reading root b at)) mark) (with_dimensions (rule.intervals reading root b at) sets known)

-- how elements are read
abbrev pub by_width : Bool → rule.Reading
by_width true = rule.Wide
by_width false = rule.Near

abbrev pub reading_of : Evaluator → rule.Reading
reading_of here = by_width here.wide

-- the intervals of several terms over the box, and those of several tasks
abbrev pub intervals_seen : Evaluator → List ℕ → List ends.Ends
intervals_seen here ids = rule.intervals (reading_of here) (box_in here.root) (box_in here.view) (terms_at (things here.items.now) ids)

abbrev pub tasks_seen : Evaluator → List Task → List TaskEnds
tasks_seen here tasks = rule.task_ends (reading_of here) (box_in here.root) (box_in here.view) (tasks_at (things here.items.now) tasks)

-- the nodes are right, and the box lies inside the root; by the wide reading it is the root
pub record CanRead (here : Evaluator) : Type 0 where
  pub built : IsBuilt (box_in here.root) here.items.now
  pub root_is_box : IsBox (box_in here.root)
  pub inside : Inside (box_in here.view) (box_in here.root)
  pub whole : here.wide ≡ true → box_in here.view ≡ box_in here.root

-- and elements are read whose indices the box allows
pub record IsReady (here : Evaluator) : Type 0 where
  pub built : IsBuilt (box_in here.root) here.items.now
  pub root_is_box : IsBox (box_in here.root)
  pub inside : Inside (box_in here.view) (box_in here.root)
  pub near : here.wide ≡ false
