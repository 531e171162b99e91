use Rattle.std.proofs.Common.{◌≡◌, ◌-◌, ◌≤◌, length, take}
use Rattle.std.specs.Io.KnownBytes.{Appends}
use Rattle.sopl_io.specs.Calls.{AllSucceeded, MakesAtMost}
use Rattle.sopl_io.proofs.transfer.write_all.Given as goal

abbrev pub invariant-pieces : goal.invariant-pieces
invariant-pieces g l = record {
  written : Appends (g.K.Sink.taken l.initial.sink) (g.K.Sink.taken l.sink) (take l.at l.bytes);
  within : l.at ≤ length l.bytes;
  calls : AllSucceeded (g.K.Sink.outcomes l.initial.sink) (g.K.Sink.outcomes l.sink);
  turns : MakesAtMost l.at (g.K.Sink.outcomes l.initial.sink) (g.K.Sink.outcomes l.sink);
  names : g.K.Sink.names l.sink ≡ g.K.Sink.names l.initial.sink;
  later : g.K.Sink.faults l.initial.sink ≤ g.K.Sink.faults l.sink;
}

abbrev pub decreases-pieces : goal.decreases-pieces
decreases-pieces g l = length l.bytes - l.at
