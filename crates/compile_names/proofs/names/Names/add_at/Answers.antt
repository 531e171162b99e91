use Rattle.std.proofs.Common.{sym, ap, ◌∙◌}
use Rattle.std.specs.Option.{option_copied_mut}
use Rattle.compile_names.proofs.Grouping.{none_at}
use Rattle.compile_names.proofs.names.Names.add_at.Goals as goal

pub returns-in-None : goal.returns-in-None
returns-in-None c = none_at c.args.self.now.groups.entries c.args.place c.args.number (sym c.get_index_mut.ensures.value ∙ ap option_copied_mut c.in-None.is)
