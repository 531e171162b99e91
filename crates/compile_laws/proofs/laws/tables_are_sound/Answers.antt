use Rattle.compile_laws.proofs.Tables.{tables_are_sound, tables_have_sets}
use Rattle.compile_laws.proofs.Proper.{instances_are_proper, problems_are_proper}
use Rattle.compile_laws.proofs.laws.tables_are_sound.Goals as goal

pub returns : goal.returns
returns c = record { law = tables_are_sound; sets = tables_have_sets; instances = instances_are_proper; problems = problems_are_proper }
