use Rattle.term_program.specs.Stated.{box_problem_of}
use Rattle.log_check.specs.Closing.{ChancesOpen}
use Rattle.log_check.specs.KeptSums.{KeepsSums}
use Rattle.log_check.proofs.ends.any_chance_closing.Given as goal

abbrev pub invariant-instances : goal.invariant-instances
invariant-instances l = record {
  chances : ChancesOpen (box_problem_of l.program) l.store.box l.instance;
  in_step : KeepsSums l.program l.store.box l.sums;
}
