use Rattle.std.proofs.Common.{◌≡◌, ◌+◌, ◌≤◌, drop}
use Rattle.term_windows.specs.Windows.{inside_in, spans}
use Rattle.term_windows.proofs.windows.Window.count.Given as goal

abbrev pub invariant-ends : goal.invariant-ends
invariant-ends l = (l.count ≤ l.here-index) × (l.count + inside_in l.self (spans (drop l.here-index l.ends)) ≡ inside_in l.self (spans l.ends))
