use Rattle.std.proofs.Common.{rules, subst, ◌<◌, ◌≤◌, length}
use Rattle.log_rows.specs.Ranges.{RowFits}
use Rattle.log_tree.proofs.Writing.{fit_all, fit_more}
use Rattle.log_tree.proofs.written.rows_fit.Goals as goal

pub rows-preserved : goal.rows-preserved
rows-preserved c =
    let exists : c.rows.row-index < length c.args.rows.now = search rules in
    fit_more RowFits c.args.rows.now c.rows.row-index c.row-item.result exists c.rows.invariant (subst RowFits c.row-item.is c.row_fits.ensures.fit)

pub returns : goal.returns
returns c =
    let done : length c.args.rows.now ≤ c.rows.row-index = search rules in
    record { fit = fit_all RowFits c.args.rows.now c.rows.row-index done c.rows.invariant }
