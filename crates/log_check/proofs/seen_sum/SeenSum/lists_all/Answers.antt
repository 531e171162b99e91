use Rattle.log_check.proofs.Seeing.{listed_more}
use Rattle.log_check.proofs.seen_sum.SeenSum.lists_all.Goals as goal

pub places-preserved : goal.places-preserved
places-preserved g c =
    listed_more (g.P.SumParts.mention c.args.parts.now) c.args.self.now c.places.at c.cells.result.now (c.lists_cells.ensures c.if-not-lists_cells.false) c.cells.ensures c.places.invariant
