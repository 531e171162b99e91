-- The decisions from the current one on are by the stage.
use Rattle.std.proofs.Common.{drop}
use Rattle.compile_laws.specs.Repeating.{IsBy}
use Rattle.sopl_compile.proofs.repeats.last_stage.Given as goal

abbrev pub invariant-decisions : goal.invariant-decisions
invariant-decisions l = IsBy l.e l.stage (drop l.j l.decisions)
