use Rattle.std.proofs.Common.{◌≡◌, vec_capacity}
use Rattle.log_check.specs.Sides.{AreSidesTo}
use Rattle.log_check.specs.Verdicts.{first_line}
use Rattle.log_check.proofs.sides.fill_sides.Given as goal

abbrev pub invariant-rows : goal.invariant-rows
invariant-rows l = record {
  sides : AreSidesTo l.rows l.at l.sides.items;
  line : l.line ≡ first_line l.rows l.at;
  capacity : vec_capacity l.sides ≡ vec_capacity l.initial.sides;
}
