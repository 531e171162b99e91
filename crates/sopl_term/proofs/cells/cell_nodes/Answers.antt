use Rattle.std.proofs.Common.{rules, ◌≤◌}
use Rattle.sopl_term.proofs.CellTerms.{all_cells, next_cell}
use Rattle.sopl_term.proofs.cells.cell_nodes.Goals as goal

pub loop-cell-preserved : goal.loop-cell-preserved
loop-cell-preserved c =
    next_cell c.args.store.now c.loop-cell.store c.cell_node.new.store c.loop-cell.nodes.items c.push.new.self.items c.loop-cell.cell c.in_ok-id.id c.loop-cell.invariant c.cell_node.ensures.sound
    c.cell_node.ensures.root
    c.in_ok-id.ensures.adds c.in_ok-push.ensures.items

pub returns-clause-cells : goal.returns-clause-cells
returns-clause-cells c =
    let most : c.loop-cell.cell ≤ c.args.count = search rules in
    let past : c.args.count ≤ c.loop-cell.cell = search rules in
    all_cells c.args.store.now c.loop-cell.store c.loop-cell.nodes.items c.loop-cell.cell c.args.count c.loop-cell.invariant most past c.requires.count
