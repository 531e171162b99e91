use Rattle.std.proofs.Common.{subst, sym}
use Rattle.std.specs.List.Sorted.{IsStrictlyIncreasing}
use Rattle.prop_set.proofs.Deciding.{hard_decided}
use Rattle.prop_set.proofs.members.hard_cells.Goals as goal

pub returns : goal.returns
returns c = record {
  decide = hard_decided c.args.program.now c.args.instance c.args.scenario _ c.cells_of.result.now c.in_ok-cells.cells.items c.hard.ensures.condition c.cells_of.ensures.cells
      c.in_ok-cells.ensures.items;
  ascend = subst IsStrictlyIncreasing (sym c.in_ok-cells.ensures.items) c.cells_of.ensures.cells.ascending;
}
