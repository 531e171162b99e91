use Rattle.std.proofs.Common.{ap, ◌∙◌, map}
use Rattle.unfold_tables.specs.Listed.{element_shown}
use Rattle.unfold_tables.specs.Tables.{table_known}
use Rattle.compile_names.proofs.Listing.{constants_either}
use Rattle.compile_names.proofs.setting.Scenarios.list_constants.Goals as goal

pub returns-clause-elements : goal.returns-clause-elements
returns-clause-elements c =
    constants_either c.list_fixed.result c.args.found.now.items c.list_fixed.new.found.items c.args.name.now (table_known c.args.self.now.table.now).constants c.as_slice.result.now
    (ap (map element_shown) c.as_slice.ensures.value ∙ c.in_ok-elements.ensures) c.list_fixed.ensures.elements
