use Rattle.std.proofs.Common.{◌≡◌, ◌-◌, ◌≤◌, length, vec_len}
use Rattle.std.specs.Io.KnownBytes.{Consumes}
use Rattle.sopl_io.specs.Calls.{AllSucceeded, MakesAtMost}
use Rattle.sopl_io.proofs.transfer.read_all.Given as goal

abbrev pub invariant-pieces : goal.invariant-pieces
invariant-pieces g l = record {
  read : Consumes (g.S.Source.left l.initial.source) (g.S.Source.left l.source) l.bytes.items;
  bound : vec_len l.bytes ≤ l.most;
  stock : g.S.Source.stock l.source ≡ g.S.Source.stock l.initial.source;
  calls : AllSucceeded (g.S.Source.outcomes l.initial.source) (g.S.Source.outcomes l.source);
  turns : MakesAtMost (length l.bytes.items) (g.S.Source.outcomes l.initial.source) (g.S.Source.outcomes l.source);
  names : g.S.Source.names l.source ≡ g.S.Source.names l.initial.source;
  later : g.S.Source.faults l.initial.source ≤ g.S.Source.faults l.source;
}

abbrev pub decreases-pieces : goal.decreases-pieces
decreases-pieces g l = l.most - vec_len l.bytes
