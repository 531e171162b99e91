-- Windows of numbers, and intervals as they are kept.
use Rattle.std.specs.Prelude.{ℕ, ℤ, pos, ◌+ℤ◌, ◌-ℤ◌, List, map}
use Rattle.term_language.specs.Ends as rule
use Rattle.term_crowds.specs.Crowds.{inside_count}
use Rattle.term_math.specs.Shown.{ends_of}
use Rattle.term_math.specs.declared.ends.Ends.{Ends}
use Rattle.term_windows.specs.declared.windows.Window.{Window}

-- several intervals as they are by the rules
abbrev pub spans : List Ends → List rule.Ends
spans es = map ends_of es

-- the greatest number of a window
abbrev pub last_in : Window → ℤ
last_in w = w.low +ℤ pos w.width -ℤ pos 1

-- how many intervals lie in it
abbrev pub inside_in : Window → List rule.Ends → ℕ
inside_in w es = inside_count w.low (last_in w) es
