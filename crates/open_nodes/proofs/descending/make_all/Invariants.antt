use Rattle.std.proofs.Common.{◌≡◌, ◌++◌, drop, map, take}
use Rattle.box_problem.specs.Steps.{after_steps}
use Rattle.open_nodes.specs.Remade.{step_cell}
use Rattle.open_nodes.specs.Ways.{StepsCut}
use Rattle.open_nodes.proofs.descending.make_all.Given as goal

abbrev pub invariant-steps : goal.invariant-steps
invariant-steps l = record {
  cuts : StepsCut l.store.box (drop l.step-index l.steps);
  leads : after_steps l.store.box (drop l.step-index l.steps) ≡ after_steps l.fn.store.box l.steps;
  marks : l.store.marks ≡ l.fn.store.marks;
  listed : l.remade.items ≡ l.fn.remade.items ++ map step_cell (take l.step-index l.steps);
}
