-- A report of the program as what it tells.
use Rattle.policy_eval.specs.declared.report.Report as declared
use Rattle.policy_eval.specs.declared.report.Report.TheVariants as report
use Rattle.policy_eval.specs.Reports.{Judgement, satisfied, hard, chance, objective}

abbrev pub report_shown : declared.Report → Judgement
report_shown (report.Satisfied value chances) = satisfied value chances.items
report_shown (report.Hard instance scenario) = hard instance scenario
report_shown (report.Chance instance sum) = chance instance sum
report_shown (report.Objective scenario) = objective scenario
