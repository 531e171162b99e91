-- What a verdict excludes.
use Rattle.std.specs.Prelude.{ℕ, List}
use Rattle.box_problem.specs.BoxProblem.{BoxProblem}
use Rattle.log_rows.specs.declared.rows.Row.{Row}
use Rattle.log_rows.specs.declared.rows.Footer.{Footer}
use Rattle.log_rows.specs.Accepted.{Accepted}
use Rattle.log_check.specs.Verdicts.{IsWrongLine}

-- a log with a wrong line is not accepted
abbrev pub WrongLogsAreRejected : Type 0
WrongLogsAreRejected =
    (problem : BoxProblem) (rows : List Row) (footer : Footer) (node line : ℕ) → IsWrongLine problem rows footer node line → ¬ Accepted problem rows footer
