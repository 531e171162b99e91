use Rattle.std.proofs.Common.{◌∙◌}
use Rattle.log_check.proofs.Siding.{line_fits_more, line_more, sides_row}
use Rattle.log_check.proofs.sides.fill_sides.Goals as goal

pub overflow_add-line-in-rows : goal.overflow_add-line-in-rows
overflow_add-line-in-rows c =
    line_fits_more c.args.rows.now c.rows.at c.index-rows-at.result c.as_slice.result.now c.rows.line c.rows-test.true c.rows.invariant.line c.index-rows-at.is c.as_slice.ensures.items c.requires.fits

pub rows-preserved : goal.rows-preserved
rows-preserved c = record {
  sides = sides_row c.args.rows.now c.rows.at c.rows.sides.items c.add_row.new.sides.items c.rows.line c.index-rows-at.result c.requires.ordered c.rows-test.true c.rows.invariant.sides c.rows.invariant.line c.index-rows-at.is
      c.add_row.ensures.added;
  line = line_more c.args.rows.now c.rows.at c.index-rows-at.result c.as_slice.result.now c.rows.line c.rows-test.true c.rows.invariant.line c.index-rows-at.is c.as_slice.ensures.items;
  capacity = c.add_row.ensures.capacity ∙ c.rows.invariant.capacity;
}
