use Rattle.compile_laws.proofs.Whole.{problems_mean}
use Rattle.compile_laws.proofs.Best.{satisfying_has_value, values_are_same}
use Rattle.compile_laws.proofs.laws.problems_mean.Goals as goal

pub returns : goal.returns
returns c = record { law = problems_mean; values = values_are_same; worth = satisfying_has_value }
