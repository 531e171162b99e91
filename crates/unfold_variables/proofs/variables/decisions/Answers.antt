use Rattle.std.proofs.Common.{option_map}
use Rattle.std.specs.Borrow.{Bor}
use Rattle.sopl_ast.specs.Ranges.{range_of}
use Rattle.sopl_ast.specs.Tree.{Tree}
use Rattle.unfold_tables.specs.Tables.{items, table_known}
use Rattle.unfold_constants.proofs.Outcomes.{walks_so, worth_so}
use Rattle.unfold_declarations.proofs.Values.{value_is}
use Rattle.unfold_variables.proofs.ArrayAgreement.{agree_decisions}
use Rattle.unfold_variables.proofs.variables.decisions.Goals as goal

pub returns-clause-met : goal.returns-clause-met
returns-clause-met c =
    walks_so items _ _ c.decision_array.result
    (agree_decisions (table_known c.args.table.now) c.args.name.now c.args.dims.now (range_of c.args.range.now) (option_map (λ (e : Bor Tree). e.now) c.args.stage))
    (rw c.new-known.ensures at c.decision_array.ensures)

pub returns-clause-stated : goal.returns-clause-stated
returns-clause-stated c =
    value_is items _ c.decision_array.result
    (worth_so items _ _ c.decision_array.result
    (agree_decisions (table_known c.args.table.now) c.args.name.now c.args.dims.now (range_of c.args.range.now) (option_map (λ (e : Bor Tree). e.now) c.args.stage))
    (rw c.new-known.ensures at c.decision_array.ensures))
