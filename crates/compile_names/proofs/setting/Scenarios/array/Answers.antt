use Rattle.std.proofs.Common.{sym, subst, ap, ◌∙◌, length, map}
use Rattle.unfold_tables.specs.Tables.{table_known}
use Rattle.compile_names.specs.Variables.{AreThere, entry_from}
use Rattle.compile_names.proofs.Planning.{array_either}
use Rattle.compile_names.proofs.There.{there_either}
use Rattle.compile_names.proofs.setting.Scenarios.array.Goals as goal

pub returns-clause-table : goal.returns-clause-table
returns-clause-table c =
    array_either c.array_of.result c.as_slice.result.now c.args.name.now (table_known c.args.self.now.table.now).constants c.args.self.now.decisions.now c.args.self.now.stochs.now
    c.array_of.ensures.table (λ known tree i same. ap (map (entry_from tree i)) c.as_slice.ensures.value ∙ c.in_ok-sources.ensures.elements known tree i same)

pub returns-clause-origins_exist : goal.returns-clause-origins_exist
returns-clause-origins_exist c =
    there_either c.array_of.result (length c.args.self.now.stochs.now) (length c.args.self.now.decisions.now) c.as_slice.result.now c.array_of.ensures.origins_exist
    (subst (AreThere (length c.args.self.now.stochs.now) (length c.args.self.now.decisions.now)) (sym c.as_slice.ensures.value) c.in_ok-sources.ensures.origins_exist)
