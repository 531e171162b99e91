use Rattle.std.proofs.Common.{◌≡◌, ◌≤◌, map, take}
use Rattle.sopl_io.specs.Calls.{AllSucceeded}
use Rattle.sopl_io.specs.Gathered.{GathersAll}
use Rattle.log_rows.specs.Lines.{rows_lines, text_of}
use Rattle.open_nodes.specs.declared.seats.OpenNode.{OpenNode}
use Rattle.sopl_search.specs.Lines.{open_line, parent_above}
use Rattle.sopl_search.proofs.listing.put_opens.Given as goal

abbrev pub invariant-nodes : goal.invariant-nodes
invariant-nodes g l = record {
  gathered : GathersAll (g.K.Sink.taken l.initial.sink) l.initial.gather.kept (g.K.Sink.taken l.sink) l.gather.kept
      (text_of (rows_lines l.first (map (λ (x : OpenNode). open_line (parent_above x)) (take l.at l.nodes))));
  size : l.gather.size ≡ l.initial.gather.size;
  calls : AllSucceeded (g.K.Sink.outcomes l.initial.sink) (g.K.Sink.outcomes l.sink);
  names : g.K.Sink.names l.sink ≡ g.K.Sink.names l.initial.sink;
  later : g.K.Sink.faults l.initial.sink ≤ g.K.Sink.faults l.sink;
}
