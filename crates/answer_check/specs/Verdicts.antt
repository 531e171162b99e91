-- The status and the line of a verdict.
use Rattle.std.specs.Prelude.{ℤ, pos}
use Rattle.serde_json.specs.Data.{Data}
use Rattle.log_rows.specs.declared.rows.Footer.{Footer}
use Rattle.log_check.specs.declared.verdict.Verdict.{Verdict}
use Rattle.log_check.specs.declared.verdict.Verdict.TheVariants.{Accepted, Rejected}
use Rattle.answer_texts.specs.declared.status.Status.{Status}
use Rattle.answer_texts.specs.declared.status.Status.TheVariants.{Done, Failing}
use Rattle.answer_check.specs.CheckData.{accepted_data, rejected_data}

abbrev pub status_of : Verdict → Status
status_of Accepted = Done
status_of (Rejected node line) = Failing

-- of a log with this claim, its values over a denominator
abbrev pub verdict_data : Footer → ℤ → Verdict → Data
verdict_data claim denominator Accepted = accepted_data claim denominator
verdict_data claim denominator (Rejected node line) = rejected_data (pos line) (pos node)
