use Rattle.std.proofs.Common.{rules, ◌<◌, length, arith, refl, ◌∙◌}
use Rattle.sopl_io.proofs.Calling.{calls_more, stops_later}
use Rattle.sopl_io.proofs.Gathering.{none_gathered, on_err}
use Rattle.log_rows.proofs.Texts.{rows_more, rows_prefix}
use Rattle.sopl_io.specs.Calls.{no_call}
use Rattle.log_rows.proofs.row_lines.put_rows.Goals as goal

pub returns-in_err-put_row-clause-prefix : goal.returns-in_err-put_row-clause-prefix
returns-in_err-put_row-clause-prefix g c =
    let exists : c.rows.number < length c.args.rows.now = search rules in
    on_err _ (rows_prefix _ _ _ _ _ c.args.rows.now c.rows.number c.index-rows-number.result exists c.index-rows-number.is c.rows.invariant.gathered c.in_err-put_row.ensures.prefix)

pub rows-init : goal.rows-init
rows-init g c = record {
  gathered = none_gathered (g.K.Sink.taken c.args.sink.now) c.args.gather.now.kept;
  size = refl;
  calls = no_call;
  names = refl;
  later = omega arith;
}

pub returns-in_err-put_row-clause-outcomes : goal.returns-in_err-put_row-clause-outcomes
returns-in_err-put_row-clause-outcomes g c =
    stops_later (g.K.Sink.outcomes c.args.sink.now) (g.K.Sink.outcomes c.rows.sink) _ c.from_residual.result c.rows.invariant.calls (search rules)

pub rows-preserved : goal.rows-preserved
rows-preserved g c =
    let exists : c.rows.number < length c.args.rows.now = search rules in
    record {
      gathered = rows_more _ _ _ _ _ _ c.args.rows.now c.rows.number c.index-rows-number.result exists c.index-rows-number.is c.rows.invariant.gathered c.in_ok-put_row.ensures.all;
      size = c.put_row.ensures.size ∙ c.rows.invariant.size;
      calls = calls_more _ _ _ c.rows.invariant.calls c.in_ok-put_row.ensures.outcomes.all;
      names = c.put_row.ensures.names ∙ c.rows.invariant.names;
      later = omega (arith, c.rows.invariant.later, c.put_row.ensures.cause.later);
    }
