use Rattle.std.proofs.Common.{◌≡◌, map, take}
use Rattle.prop_shave.specs.ChanceSums.{touched_by}
use Rattle.term_program.specs.Programs.{problem_in, root_in}
use Rattle.prop_chance.specs.UpToDate.{numbers_in}
use Rattle.prop_chance.proofs.chance_constraint.touched_scenarios.Given as goal

abbrev pub invariant-cells : goal.invariant-cells
invariant-cells l =
    map numbers_in l.lists.items ≡ map (touched_by (root_in l.program) (problem_in l.program) l.instance) (take l.cell-index l.cells)
