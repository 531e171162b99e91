use Rattle.std.proofs.Common.{◌≡◌}
use Rattle.std.specs.List.{filter, range_with_len}
use Rattle.term_program.specs.Programs.{root_in, things_in}
use Rattle.prop_shave.specs.GoalSums.{touches_at}
use Rattle.prop_shave.proofs.touched_parts.parts_touching.Given as goal

abbrev pub invariant-atoms : goal.invariant-atoms
invariant-atoms l = l.numbers.items ≡ filter (touches_at (root_in l.program) (things_in l.program) l.atoms l.cell) (range_with_len 0 l.at)
