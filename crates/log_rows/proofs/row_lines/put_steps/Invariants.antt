use Rattle.std.proofs.Common.{◌≡◌, ◌≤◌, map, take}
use Rattle.sopl_io.specs.Calls.{AllSucceeded}
use Rattle.sopl_io.specs.Gathered.{GathersAll}
use Rattle.log_rows.specs.Lines.{step_line, text_of}
use Rattle.log_rows.proofs.row_lines.put_steps.Given as goal

abbrev pub invariant-steps : goal.invariant-steps
invariant-steps g l = record {
  gathered : GathersAll (g.K.Sink.taken l.initial.sink) l.initial.gather.kept (g.K.Sink.taken l.sink) l.gather.kept (text_of (map step_line (take l.step-index l.steps)));
  size : l.gather.size ≡ l.initial.gather.size;
  calls : AllSucceeded (g.K.Sink.outcomes l.initial.sink) (g.K.Sink.outcomes l.sink);
  names : g.K.Sink.names l.sink ≡ g.K.Sink.names l.initial.sink;
  later : g.K.Sink.faults l.initial.sink ≤ g.K.Sink.faults l.sink;
}
