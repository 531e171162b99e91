use Rattle.policy_json.proofs.Printed.{accepted_json}
use Rattle.policy_json.proofs.Texts.{accepted_texts}
use Rattle.policy_json.proofs.laws.texts_differ.Goals as goal

pub returns : goal.returns
returns c = record { json = accepted_json; text = accepted_texts }
