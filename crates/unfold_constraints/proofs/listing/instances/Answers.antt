use Rattle.sopl_ast.specs.Constraints.{cons_trees}
use Rattle.sopl_ast.specs.Whole.{conses}
use Rattle.unfold_constants.proofs.Outcomes.{walks_so, worth_so}
use Rattle.unfold_tables.specs.Tables.{table_known}
use Rattle.unfold_constraints.specs.Shown.{found_in}
use Rattle.unfold_constraints.specs.Stepping.{nothing_found}
use Rattle.unfold_constraints.proofs.Found.{hards_is, chances_is}
use Rattle.unfold_constraints.proofs.SteppingAgreement.{agree_constraints}
use Rattle.unfold_constraints.proofs.listing.instances.Goals as goal

pub returns-clause-met : goal.returns-clause-met
returns-clause-met c =
    walks_so found_in _ _ c.all_instances.result (agree_constraints (conses (cons_trees c.args.body.now)) (table_known c.args.table.now) 0 nothing_found)
    (rw c.new-known.ensures at c.all_instances.ensures)

pub returns-clause-hards : goal.returns-clause-hards
returns-clause-hards c =
    hards_is _ c.all_instances.result
    (worth_so found_in _ _ c.all_instances.result (agree_constraints (conses (cons_trees c.args.body.now)) (table_known c.args.table.now) 0 nothing_found)
    (rw c.new-known.ensures at c.all_instances.ensures))

pub returns-clause-chances : goal.returns-clause-chances
returns-clause-chances c =
    chances_is _ c.all_instances.result
    (worth_so found_in _ _ c.all_instances.result (agree_constraints (conses (cons_trees c.args.body.now)) (table_known c.args.table.now) 0 nothing_found)
    (rw c.new-known.ensures at c.all_instances.ensures))
