use Rattle.compile_names.proofs.Planned.{tables_are_planned}
use Rattle.compile_names.proofs.plan_laws.tables_are_planned.Goals as goal

pub returns : goal.returns
returns c = record { law = tables_are_planned }
