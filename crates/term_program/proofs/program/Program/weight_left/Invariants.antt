use Rattle.std.proofs.Common.{◌≡◌, map, drop}
use Rattle.term_problem.specs.Refuted.{weight_left}
use Rattle.term_math.specs.Shown.{box_in}
use Rattle.term_nodes.specs.Things.{cond_at}
use Rattle.term_program.specs.Programs.{root_in, things_in}
use Rattle.term_program.proofs.program.Program.weight_left.Given as goal

abbrev pub invariant-loop-i : goal.invariant-loop-i
invariant-loop-i l =
    l.left.value ≡ weight_left (root_in l.self) (box_in l.view) (drop l.i l.self.draft.weights.items) (map (cond_at (things_in l.self)) (drop l.i l.conditions.ids.items))
