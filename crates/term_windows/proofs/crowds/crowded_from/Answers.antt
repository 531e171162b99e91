use Rattle.std.proofs.Common.{sym}
use Rattle.term_windows.specs.Windows.{spans}
use Rattle.term_windows.proofs.Crowding.{full_window}
use Rattle.term_windows.proofs.crowds.crowded_from.Goals as goal

pub returns-then-count-window : goal.returns-then-count-window
returns-then-count-window c =
    sym (full_window (spans c.args.ends.now) c.args.from.now.low c.windows.window c.count-count.result c.requires.ordered
    c.windows.invariant c.count-count.ensures c.windows-test.true c.if-count-window.true)
