use Rattle.std.proofs.Common.{◌≡◌, List, length, rules, subst, ℕ}
use Rattle.prop_shave.specs.ChanceSums.{is_touched}
use Rattle.term_program.specs.Programs.{problem_in, root_in}
use Rattle.prop_chance.specs.KeptTurns.{AreForgottenIn}
use Rattle.prop_chance.proofs.Turned.{forgotten_listed, none_fewer}
use Rattle.prop_chance.proofs.chance_constraint.ChanceConstraint.forget_waiting.Goals as goal

pub returns-then-outdated-gt0 : goal.returns-then-outdated-gt0
returns-then-outdated-gt0 c = record {
  forgotten = λ number place below there waiting touched. c.forget_all.ensures.none place;
  fewer = none_fewer c.args.turns.now c.forget_all.new.self c.forget_all.ensures.none;
  room = c.forget_all.ensures.room;
}

pub returns-clause-forgotten : goal.returns-clause-forgotten
returns-clause-forgotten c =
    let mentions = is_touched (root_in c.args.program.now) (problem_in c.args.program.now) c.args.self.now.instance in
    let o = c.args.outdated.now in
    let count = length (problem_in c.args.program.now).weights in
    let first : o.unlisted ≡ 0 = search rules in
    forgotten_listed mentions c.args.self.now.cells.items o count c.forget_scenarios.new.turns c.requires.listed c.requires.waits first
    (subst (λ (ns : List ℕ). AreForgottenIn mentions c.args.self.now.cells.items o.waits.items count ns c.forget_scenarios.new.turns) c.as_slice.ensures.value c.forget_scenarios.ensures.forgotten)
