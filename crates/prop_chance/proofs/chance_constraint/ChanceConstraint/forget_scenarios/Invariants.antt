use Rattle.std.proofs.Common.{◌≡◌, length, take}
use Rattle.prop_shave.specs.ChanceSums.{is_touched}
use Rattle.term_program.specs.Programs.{problem_in, root_in}
use Rattle.prop_chance.specs.KeptTurns.{AreFewer, AreForgottenIn}
use Rattle.prop_chance.proofs.chance_constraint.ChanceConstraint.forget_scenarios.Given as goal

abbrev pub invariant-scenarios : goal.invariant-scenarios
invariant-scenarios l = record {
  forgotten : AreForgottenIn (is_touched (root_in l.program) (problem_in l.program) l.self.instance) l.self.cells.items l.outdated.waits.items (length (problem_in l.program).weights)
      (take l.number-index l.numbers) l.turns;
  fewer : AreFewer l.fn.turns l.turns;
  room : length l.turns.known.items ≡ length l.fn.turns.known.items;
}
