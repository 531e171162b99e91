use Rattle.std.proofs.Common.{◌∙◌, length, sym}
use Rattle.term_program.specs.Programs.{problem_in, root_in}
use Rattle.prop_shave.proofs.AtEnds.{condition_cells, weight_turns_alike}
use Rattle.prop_shave.proofs.Mentioned.{untouched}
use Rattle.prop_shave.specs.ChanceSums.{is_touched, left_over}
use Rattle.prop_chance.proofs.Turned.{turns_told}
use Rattle.prop_chance.proofs.chances.ChanceWatching.touched.Goals as goal

pub returns-clause-in_step : goal.returns-clause-in_step
returns-clause-in_step c = λ program before after agree step.
    let root = root_in program in
    let terms = problem_in program in
    let p = c.args.self.now in
    let instance = p.constraint.instance in
    let mentions = is_touched root terms instance in
    record {
      weight = c.tell.ensures.keeps root terms instance before after agree step.weight;
      turns = turns_told (left_over root terms instance) mentions (condition_cells root terms instance) (length terms.weights) c.args.cell before after p.weight.outdated c.tell.new.self.outdated
          p.constraint.cells.items p.turns (λ x y cell turns. weight_turns_alike root x y terms instance cell turns)
          (λ scenario is. untouched c.args.cell (condition_cells root terms instance scenario) is) (λ scenario. c.tell.ensures.told mentions scenario) agree step.turns;
      rested = tt;
    }

pub returns-clause-fitted_before : goal.returns-clause-fitted_before
returns-clause-fitted_before c = λ program fits. record {
  constraint = fits.constraint;
  room = sym c.tell.ensures.room ∙ fits.room;
  waits = sym c.tell.ensures.waits ∙ fits.waits;
  turns = fits.turns;
}
