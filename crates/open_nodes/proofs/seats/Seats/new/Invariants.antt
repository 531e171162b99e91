use Rattle.std.proofs.Common.{◌≡◌, [], map, replicate}
use Rattle.open_nodes.proofs.Joining.{list_of}
use Rattle.open_nodes.proofs.seats.Seats.new.Given as goal

abbrev pub invariant-seats : goal.invariant-seats
invariant-seats l = map list_of l.seats.items ≡ replicate l._seat []
