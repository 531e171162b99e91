use Rattle.sopl_ast.specs.Inits.{init_tree}
use Rattle.unfold_tables.specs.Tables.{elements_in, table_known}
use Rattle.unfold_constants.proofs.Outcomes.{walks_so, worth_so}
use Rattle.unfold_declarations.proofs.DeclaringAgreement.{agree_entries}
use Rattle.unfold_declarations.proofs.Values.{value_is}
use Rattle.unfold_declarations.proofs.declare.constant_entries.Goals as goal

pub returns-clause-met : goal.returns-clause-met
returns-clause-met c =
    walks_so elements_in _ _ c.entries.result (agree_entries (table_known c.args.table.now) c.args.dims.now (init_tree c.args.init.now)) (rw c.new-known.ensures at c.entries.ensures)

pub returns-clause-values : goal.returns-clause-values
returns-clause-values c =
    value_is elements_in _ c.entries.result
    (worth_so elements_in _ _ c.entries.result (agree_entries (table_known c.args.table.now) c.args.dims.now (init_tree c.args.init.now)) (rw c.new-known.ensures at c.entries.ensures))
