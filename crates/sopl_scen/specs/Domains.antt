-- The domains of cells, by their ends.
use Rattle.std.specs.Prelude.{ℤ, List, replicate}
use Rattle.std.specs.List.{flat_map}
use Rattle.sopl_base.specs.declared.interval.Interval.{Interval}
use Rattle.sopl_ast.specs.Cells.{Cell}
use Rattle.sopl_ast.specs.Instances.{Decision}
use Rattle.sopl_scen.specs.Layout.{Layout, histories_in}

-- the ends of an interval, of a cell's domain and of a decision's
abbrev pub ends_of : Interval → ℤ × ℤ
ends_of interval = (interval.lo, interval.hi)

abbrev pub cell_ends : Cell → ℤ × ℤ
cell_ends cell = (cell.lo, cell.hi)

abbrev pub decision_ends : Decision → ℤ × ℤ
decision_ends d = (d.lo, d.hi)

-- how the program makes the domains: that of each decision, once for each history of its stage
abbrev pub domains_in : Layout → List Decision → List (ℤ × ℤ)
domains_in tree decisions = flat_map (λ (d : Decision). replicate (histories_in tree d.stage) (decision_ends d)) decisions
