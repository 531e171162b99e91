use Rattle.sopl_ast.specs.Lists.{trees}
use Rattle.unfold_tables.specs.Tables.{items, table_known}
use Rattle.unfold_constants.proofs.Outcomes.{walks_so, worth_so}
use Rattle.unfold_declarations.proofs.DeclaringAgreement.{agree_set}
use Rattle.unfold_declarations.proofs.Values.{value_is}
use Rattle.unfold_declarations.proofs.declare.element_numbers.Goals as goal

pub returns-clause-met : goal.returns-clause-met
returns-clause-met c = walks_so items _ _ c.set_numbers.result (agree_set (table_known c.args.table.now) (trees c.args.elements.now)) (rw c.new-known.ensures at c.set_numbers.ensures)

pub returns-clause-numbers : goal.returns-clause-numbers
returns-clause-numbers c =
    value_is items _ c.set_numbers.result
    (worth_so items _ _ c.set_numbers.result (agree_set (table_known c.args.table.now) (trees c.args.elements.now)) (rw c.new-known.ensures at c.set_numbers.ensures))
