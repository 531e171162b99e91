use Rattle.std.proofs.Common.{◌∙◌, arith, length}
use Rattle.prop_shave.specs.ChanceSums.{is_touched}
use Rattle.term_program.specs.Programs.{problem_in, root_in}
use Rattle.prop_chance.proofs.Turned.{fewer_on, forgotten_all, forgotten_on}
use Rattle.prop_chance.proofs.chance_constraint.ChanceConstraint.forget_scenarios.Goals as goal

pub forget_scenario-requires-clause-room : goal.forget_scenario-requires-clause-room
forget_scenario-requires-clause-room c = c.scenarios.invariant.room ∙ c.requires.room

pub scenarios-preserved : goal.scenarios-preserved
scenarios-preserved c = record {
  forgotten = forgotten_on (is_touched (root_in c.args.program.now) (problem_in c.args.program.now) c.args.self.now.instance) c.args.self.now.cells.items c.args.outdated.now.waits.items
      (length (problem_in c.args.program.now).weights) c.args.numbers.now c.scenarios.number-index _ c.scenarios.turns c.forget_scenario.new.turns c.scenarios-test.true
      c.forget_scenario.ensures.fewer c.scenarios.invariant.forgotten c.forget_scenario.ensures.forgotten;
  fewer = fewer_on c.args.turns.now c.scenarios.turns c.forget_scenario.new.turns c.scenarios.invariant.fewer c.forget_scenario.ensures.fewer;
  room = c.forget_scenario.ensures.room ∙ c.scenarios.invariant.room;
}

pub returns : goal.returns
returns c = record {
  forgotten = forgotten_all (is_touched (root_in c.args.program.now) (problem_in c.args.program.now) c.args.self.now.instance) c.args.self.now.cells.items c.args.outdated.now.waits.items
      (length (problem_in c.args.program.now).weights) c.args.numbers.now c.scenarios.number-index c.scenarios.turns (omega (arith, c.scenarios-test.false)) c.scenarios.invariant.forgotten;
  fewer = c.scenarios.invariant.fewer;
  room = c.scenarios.invariant.room;
}
