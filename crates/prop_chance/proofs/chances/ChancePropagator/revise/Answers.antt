use Rattle.std.proofs.Common.{◌∙◌, sym}
use Rattle.term_program.specs.Programs.{problem_in, root_in}
use Rattle.prop_shave.specs.ChanceSums.{is_touched, left_over}
use Rattle.prop_chance.proofs.Turned.{none_kept}
use Rattle.prop_chance.proofs.chances.ChancePropagator.revise.Goals as goal

pub ask-requires-clause-weight : goal.ask-requires-clause-weight
ask-requires-clause-weight c =
    c.forget.ensures.keeps (root_in c.args.program.now) (problem_in c.args.program.now) c.args.self.now.constraint.instance c.args.store.now.box

pub ask-requires-clause-turns : goal.ask-requires-clause-turns
ask-requires-clause-turns c =
    let root = root_in c.args.program.now in
    let terms = problem_in c.args.program.now in
    let p = c.args.self.now.constraint in
    none_kept (left_over root terms p.instance) (is_touched root terms p.instance) _ c.args.store.now.box c.forget.new.self.outdated p.cells.items c.forget_all.new.self c.forget_all.ensures.none

pub returns-clause-fitted_before : goal.returns-clause-fitted_before
returns-clause-fitted_before c = λ program fits.
    let before = c.ask.ensures.fitted_before program fits in
    record {
      constraint = before.constraint;
      room = sym c.forget.ensures.room ∙ before.room;
      waits = sym c.forget.ensures.waits ∙ before.waits;
      turns = sym c.forget_all.ensures.room ∙ before.turns;
    }
