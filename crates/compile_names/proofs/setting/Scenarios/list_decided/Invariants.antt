use Rattle.std.proofs.Common.{◌≡◌, ◌++◌, ℕ, length, map, drop}
use Rattle.sopl_scen.specs.Layout.{Layout}
use Rattle.compile_names.specs.Variables.{AreThere, decided_entry, entry_from}
use Rattle.compile_names.proofs.setting.Scenarios.list_decided.Given as goal

abbrev pub invariant-numbers : goal.invariant-numbers
invariant-numbers l =
    ((tree : Layout) (i : ℕ)
    → map (entry_from tree i) l.found.items ++ map (decided_entry l.self.decisions.now tree i) (drop l.number-index l.numbers)
    ≡ map (entry_from tree i) l.fn.found.items ++ map (decided_entry l.self.decisions.now tree i) l.numbers)
    × (AreThere (length l.self.stochs.now) (length l.self.decisions.now) l.fn.found.items → AreThere (length l.self.stochs.now) (length l.self.decisions.now) l.found.items)
