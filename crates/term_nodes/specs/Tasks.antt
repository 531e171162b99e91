-- Tasks over a box.
use Rattle.std.specs.Prelude.{List}
use Rattle.box_problem.specs.Box.{Box}
use Rattle.term_language.specs.Globals.{TaskEnds}
use Rattle.term_language.specs.Marks.{both}
use Rattle.term_language.specs.Rules.{Reading, interval, mark}
use Rattle.term_language.specs.declared.answers.Defined.{Defined}
use Rattle.term_nodes.specs.declared.nodes.Task.{Task}
use Rattle.term_nodes.specs.Things.{Thing, term_at}

-- the intervals of a task's numbers
abbrev pub task_seen : Reading → Box → Box → List Thing → Task → TaskEnds
task_seen reading root b all t = record {
  start = interval reading root b (term_at all t.start);
  duration = interval reading root b (term_at all t.duration);
  demand = interval reading root b (term_at all t.demand);
}

-- the mark of all three
abbrev pub mark_seen : Reading → Box → Box → List Thing → Task → Defined
mark_seen reading root b all t =
    both (mark reading root b (term_at all t.start)) (both (mark reading root b (term_at all t.duration)) (mark reading root b (term_at all t.demand)))
