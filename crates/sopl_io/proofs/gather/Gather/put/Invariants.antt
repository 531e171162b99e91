use Rattle.std.proofs.Common.{◌≡◌, ◌+◌, ◌≤◌, ◌++◌, length}
use Rattle.sopl_io.specs.Calls.{AllSucceeded}
use Rattle.sopl_io.proofs.Gathering.{IsGathered}
use Rattle.sopl_io.proofs.gather.Gather.put.Given as goal

abbrev pub invariant-pieces : goal.invariant-pieces
invariant-pieces g l = record {
  gathered : IsGathered (g.K.Sink.taken l.initial.sink) (g.K.Sink.taken l.sink) (l.initial.self.kept ++ l.bytes) l.self.kept l.left;
  size : l.self.size ≡ l.initial.self.size;
  calls : AllSucceeded (g.K.Sink.outcomes l.initial.sink) (g.K.Sink.outcomes l.sink);
  names : g.K.Sink.names l.sink ≡ g.K.Sink.names l.initial.sink;
  later : g.K.Sink.faults l.initial.sink ≤ g.K.Sink.faults l.sink;
}

abbrev pub decreases-pieces : goal.decreases-pieces
decreases-pieces g l = length l.left + length l.self.kept
