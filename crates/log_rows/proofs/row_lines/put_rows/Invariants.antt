use Rattle.std.proofs.Common.{◌≡◌, ◌≤◌, take}
use Rattle.sopl_io.specs.Calls.{AllSucceeded}
use Rattle.sopl_io.specs.Gathered.{GathersAll}
use Rattle.log_rows.specs.Lines.{rows_lines, text_of}
use Rattle.log_rows.proofs.row_lines.put_rows.Given as goal

abbrev pub invariant-rows : goal.invariant-rows
invariant-rows g l = record {
  gathered : GathersAll (g.K.Sink.taken l.initial.sink) l.initial.gather.kept (g.K.Sink.taken l.sink) l.gather.kept (text_of (rows_lines 0 (take l.number l.rows)));
  size : l.gather.size ≡ l.initial.gather.size;
  calls : AllSucceeded (g.K.Sink.outcomes l.initial.sink) (g.K.Sink.outcomes l.sink);
  names : g.K.Sink.names l.sink ≡ g.K.Sink.names l.initial.sink;
  later : g.K.Sink.faults l.initial.sink ≤ g.K.Sink.faults l.sink;
}
