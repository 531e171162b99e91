-- A log with a wrong line is not accepted.
use Rattle.std.proofs.Common.{inl, inr, ℕ, List, length, sym, subst}
use Rattle.std.proofs.Math.Seq.{take-length}
use Rattle.std.proofs.lemmas.Option.{slice_get_within}
use Rattle.box_problem.specs.BoxProblem.{BoxProblem}
use Rattle.box_problem.specs.Rightness.{AllRight}
use Rattle.log_rows.specs.declared.rows.Row.{Row}
use Rattle.log_rows.specs.declared.rows.Footer.{Footer}
use Rattle.log_rows.specs.Rows.{row_at, start_of}
use Rattle.log_rows.specs.Accepted.{Accepted, claimed}
use Rattle.log_check.specs.Verdicts.{IsWrongLine}
use Rattle.log_check.proofs.Wronging.{right_before}

pub wrong_logs_are_rejected : (problem : BoxProblem) (rows : List Row) (footer : Footer) (node line : ℕ) → IsWrongLine problem rows footer node line → ¬ Accepted problem rows footer
wrong_logs_are_rejected problem rows footer node line (inl step) accepted =
    step.wrong
    (right_before problem (claimed footer) (start_of problem.root rows node) (row_at rows node).steps (length (row_at rows node).steps) step.k step.step
    (subst (AllRight problem (claimed footer) (start_of problem.root rows node)) (sym (take-length (row_at rows node).steps)) (accepted.right node step.exists).steps)
    (slice_get_within (row_at rows node).steps step.k step.step step.is) step.is)
wrong_logs_are_rejected problem rows footer node line (inr (inl end)) accepted = end.wrong (accepted.right node end.exists).end
wrong_logs_are_rejected problem rows footer node line (inr (inr last)) accepted = last.wrong accepted.footer_right
