use Rattle.prop_shave.specs.ChanceSums.{is_touched, left_over}
use Rattle.term_program.specs.Programs.{problem_in, root_in}
use Rattle.prop_chance.proofs.Turned.{none_kept}
use Rattle.prop_chance.proofs.chances.Chance.new.Goals as goal

pub returns-clause-in_step : goal.returns-clause-in_step
returns-clause-in_step c = λ b.
    let root = root_in c.args.program.now in
    let terms = problem_in c.args.program.now in
    let made = c.in_ok-constraint.constraint in
    record {
      weight = c.in_ok-weight.ensures.keeps root terms made.instance b;
      turns = none_kept (left_over root terms made.instance) (is_touched root terms made.instance) _ b c.in_ok-weight.weight.outdated made.cells.items c.in_ok-turns.turns c.in_ok-turns.ensures.none;
      rested = tt;
    }
