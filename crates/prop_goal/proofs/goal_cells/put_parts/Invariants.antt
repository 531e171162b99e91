use Rattle.prop_shave.specs.Probes.{HasAll, HasOnly}
use Rattle.prop_goal.specs.Cells.{ArePartsWithin, parts_mention}
use Rattle.prop_goal.proofs.goal_cells.put_parts.Given as goal

abbrev pub invariant-parts : goal.invariant-parts
invariant-parts l = record {
  kept : HasAll l.cells.keys l.fn.cells.keys;
  within : ArePartsWithin l.program l.atoms l.number l.cells.keys;
  only : HasOnly l.cells.keys l.fn.cells.keys (parts_mention l.program l.atoms);
}
