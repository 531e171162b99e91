use Rattle.std.proofs.Common.{◌≡◌, map, take}
use Rattle.prop_shave.specs.GoalSums.{touched_by}
use Rattle.term_program.specs.Programs.{root_in, things_in}
use Rattle.prop_chance.specs.UpToDate.{part_numbers}
use Rattle.prop_goal.proofs.goal_cells.touched_parts.Given as goal

abbrev pub invariant-cells : goal.invariant-cells
invariant-cells l =
    map part_numbers l.lists.items ≡ map (touched_by (root_in l.program) (things_in l.program) l.atoms) (take l.cell-index l.cells)
