use Rattle.std.proofs.Common.{◌≡◌, ℕ, ◌<◌, []}
use Rattle.open_nodes.specs.Takes.{lists_of, seat_nodes}
use Rattle.open_nodes.proofs.seats.Seats.steal.Given as goal

abbrev pub invariant-seats : goal.invariant-seats
invariant-seats l = record {
  same : lists_of l.self ≡ lists_of l.fn.self;
  first : (seat : ℕ) → seat < l.at → seat_nodes (lists_of l.self) seat ≡ [];
}
