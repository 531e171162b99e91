use Rattle.brancher.specs.Finding.{FindsMost}
use Rattle.brancher.specs.Counters.{counter_weight}
use Rattle.brancher.proofs.finding.most_counted.Given as goal

abbrev pub invariant-cells : goal.invariant-cells
invariant-cells l = FindsMost (counter_weight l.counters) l.lows l.highs l.at l.found
