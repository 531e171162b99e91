use Rattle.policy_eval.proofs.ReportLaws.{satisfying_are_told}
use Rattle.policy_eval.proofs.laws.satisfying_are_told.Goals as goal

pub returns : goal.returns
returns c = record { law = satisfying_are_told }
