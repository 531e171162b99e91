use Rattle.compile_counts.proofs.Conditions.{condition_there}
use Rattle.compile_counts.proofs.instances.condition_at.Goals as goal

pub returns : goal.returns
returns c = record { at = condition_there c.args.conditions.now c.args.text c.index-conditions-text.result c.requires.exists c.index-conditions-text.is }
