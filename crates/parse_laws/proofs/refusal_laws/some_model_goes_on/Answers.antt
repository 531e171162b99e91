use Rattle.parse_laws.proofs.ModelsLeft.{some_model_goes_on}
use Rattle.parse_laws.proofs.refusal_laws.some_model_goes_on.Goals as goal

pub returns : goal.returns
returns c = record { law = some_model_goes_on }
