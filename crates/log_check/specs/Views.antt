-- A log that is checked against a program.
use Rattle.std.specs.Prelude.{◌^◌, ◌<◌, length}
use Rattle.box_problem.specs.BoxProblem.{BoxProblem}
use Rattle.log_rows.specs.Rows.{AreOrdered}
use Rattle.term_program.specs.Programs.{IsMade}
use Rattle.term_program.specs.Stated.{box_problem_of}
use Rattle.log_check.specs.declared.view.LogView.{LogView}
use Rattle.log_check.specs.Sides.{AreSides}
use Rattle.log_check.specs.Verdicts.{first_line}

-- the problem that the log is checked against
abbrev pub checked_problem : LogView → BoxProblem
checked_problem view = box_problem_of view.program.now

-- a program as it is made, and rows in order, with their sides; the numbers of all lines fit
pub record IsLogView (view : LogView) : Type 0 where
  pub made : IsMade view.program.now
  pub ordered : AreOrdered view.rows.now
  pub sides : AreSides view.rows.now view.sides.now
  pub fits : first_line view.rows.now (length view.rows.now) < 2 ^ 64
