use Rattle.policy_json.proofs.Held.{data_there}
use Rattle.policy_json.proofs.Staged.{texts_are_staged}
use Rattle.policy_json.proofs.laws.held_throughout.Goals as goal

pub returns : goal.returns
returns c = record { held = data_there; staged = texts_are_staged }
