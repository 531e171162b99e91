use Rattle.std.proofs.Common.{get_or, refl, pos}
use Rattle.term_math.specs.declared.combinations.WideCoefficient.{WideCoefficient}
use Rattle.term_math.specs.Shown.{box_in}
use Rattle.term_nodes.specs.Things.{things}
use Rattle.term_goals.specs.Goals.{listed_ends}
use Rattle.term_goals.proofs.Cells.{cell_exists, cell_skip, cell_step, cells_done}
use Rattle.term_goals.proofs.listing.add_cells.Goals as goal

pub loop-cell-preserved-in_default : goal.loop-cell-preserved-in_default
loop-cell-preserved-in_default c = record {
  sum = λ b inside.
      let root = box_in c.args.here.now.root in
      let all = things c.args.here.now.items.now in
      let none : WideCoefficient = record { cell = 0; k = pos 0 } in
      cell_skip root b all c.args.nodes.now c.args.cells.now c.loop-cell.cell-index none (listed_ends root b all c.loop-cell.list.items) _ c.requires.nodes inside c.loop-cell-test.true
      c.in_default.ensures.none (c.loop-cell.invariant.sum b inside);
  exist = c.loop-cell.invariant.exist;
}

pub loop-cell-preserved : goal.loop-cell-preserved
loop-cell-preserved c = record {
  sum = λ b inside.
      let root = box_in c.args.here.now.root in
      let all = things c.args.here.now.items.now in
      let none : WideCoefficient = record { cell = 0; k = pos 0 } in
      cell_step root b all c.args.nodes.now c.args.cells.now c.loop-cell.cell-index none c.in-Some.node c.loop-cell.list.items c.push.new.self.items c.times_node.result _ c.requires.nodes
      c.requires.ready.root_is_box inside c.loop-cell-test.true c.in-Some.ensures.some (c.in-Some.ensures.exists refl)
      c.in_ok-push.ensures.items c.times_node.ensures (c.loop-cell.invariant.sum b inside);
  exist = λ all.
      let none : WideCoefficient = record { cell = 0; k = pos 0 } in
      cell_exists c.args.here.now.items.now c.args.nodes.now (get_or c.args.cells.now c.loop-cell.cell-index none) c.in-Some.node c.loop-cell.list.items c.push.new.self.items
      c.times_node.result (box_in c.args.here.now.root) c.requires.nodes c.in-Some.ensures.some (c.in-Some.ensures.exists refl)
      c.in_ok-push.ensures.items c.times_node.ensures (c.loop-cell.invariant.exist all);
}

pub returns-clause-sum : goal.returns-clause-sum
returns-clause-sum c = λ b inside.
    let root = box_in c.args.here.now.root in
    let all = things c.args.here.now.items.now in
    cells_done b c.args.cells.now c.loop-cell.cell-index (listed_ends root b all c.loop-cell.list.items) _ c.loop-cell-test.false (c.loop-cell.invariant.sum b inside)
