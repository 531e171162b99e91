use Rattle.policy_eval.proofs.ReportLaws.{reports_are_one}
use Rattle.policy_eval.proofs.laws.reports_are_one.Goals as goal

pub returns : goal.returns
returns c = record { law = reports_are_one }
