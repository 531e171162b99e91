-- The variables from the current one on are not needed.
use Rattle.std.proofs.Common.{drop}
use Rattle.std.specs.List.{AllByRecursion}
use Rattle.compile_laws.specs.Repeating.{IsPast}
use Rattle.sopl_compile.proofs.repeats.needed.Given as goal

abbrev pub invariant-variables : goal.invariant-variables
invariant-variables l = AllByRecursion (IsPast l.e l.stage) (drop l.j l.stochs)
