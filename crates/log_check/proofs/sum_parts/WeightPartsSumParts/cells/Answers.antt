use Rattle.std.proofs.Common.{ℕ, subst, sym}
use Rattle.std.specs.List.{Contains}
use Rattle.term_program.specs.Programs.{problem_in, root_in}
use Rattle.prop_shave.specs.ChanceSums.{condition_cells}
use Rattle.log_check.proofs.Keeping.{condition_listed}
use Rattle.log_check.proofs.sum_parts.WeightPartsSumParts.cells.Goals as goal

pub returns : goal.returns
returns c = λ cell has.
    let root = root_in c.args.self.now.program.now in
    let terms = problem_in c.args.self.now.program.now in
    condition_listed root terms c.args.self.now.instance c.scenario.result _ c.cells_of.result.now c.chance-cond.ensures.condition c.cells_of.ensures.cells cell
    (subst (λ (n : ℕ). Contains (condition_cells root terms c.args.self.now.instance n) cell) (sym c.scenario.ensures) has)
