use Rattle.std.proofs.Common.{◌≡◌, ◌<◌, List, None, arith, false, get_or, length, rules, subst, sym, true, ℕ}
use Rattle.std.specs.List.{Contains}
use Rattle.term_program.specs.Programs.{problem_in, root_in}
use Rattle.prop_shave.specs.ChanceSums.{is_touched}
use Rattle.prop_chance.specs.KeptTurns.{turns_of}
use Rattle.prop_chance.proofs.Turned.{fewer_same, not_waiting, touched_listed}
use Rattle.prop_chance.proofs.chance_constraint.ChanceConstraint.forget_scenario.Goals as goal

pub returns-then-not-has_waiting : goal.returns-then-not-has_waiting
returns-then-not-has_waiting c =
    let calm : c.has_waiting.result ≡ false = search rules in
    record {
      forgotten = λ below waiting. not_waiting c.args.outdated.now.waits.items c.args.number (c.has_waiting.ensures.calm calm (omega (arith, below, c.requires.waits))) waiting;
      fewer = fewer_same c.args.turns.now;
      room = search rules;
    }

pub scenario_numbered-scenario-requires-clause-exists : goal.scenario_numbered-scenario-requires-clause-exists
scenario_numbered-scenario-requires-clause-exists c =
    let waiting : c.has_waiting.result ≡ true = search rules in
    omega (arith, c.has_waiting.ensures.exists waiting, c.requires.waits)

pub returns : goal.returns
returns c = record {
  forgotten = λ exists waiting place below touched.
      subst
      (λ (cells : List ℕ). (at : ℕ) → at < length cells → Contains c.cells_of-mentioned.result.now (get_or cells at 0) → turns_of c.forget.new.self at ≡ None)
      c.as_slice.ensures.value c.forget.ensures.forgotten place below
      (touched_listed (root_in c.args.program.now) (problem_in c.args.program.now) c.args.self.now.instance c.scenario_numbered-scenario.result _ _ c.cells_of-mentioned.result.now
      c.chance.ensures.condition c.cells_of-mentioned.ensures.cells
      (subst (λ (n : ℕ). is_touched (root_in c.args.program.now) (problem_in c.args.program.now) c.args.self.now.instance (get_or c.args.self.now.cells.items place 0) n ≡ true)
      (sym c.scenario_numbered-scenario.ensures) touched));
  fewer = c.forget.ensures.fewer;
  room = c.forget.ensures.room;
}
