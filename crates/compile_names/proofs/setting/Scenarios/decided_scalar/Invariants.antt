use Rattle.std.proofs.Common.{◌≡◌, ℕ, [], map, drop}
use Rattle.term_language.specs.Arrays.{item_in}
use Rattle.sopl_scen.specs.Layout.{Layout}
use Rattle.compile_names.specs.Variables.{decided_entry}
use Rattle.compile_names.proofs.setting.Scenarios.decided_scalar.Given as goal

abbrev pub invariant-numbers : goal.invariant-numbers
invariant-numbers l =
    (tree : Layout) (i : ℕ)
    → item_in (map (decided_entry l.self.decisions.now tree i) (drop l.number-index l.numbers)) [] ≡ item_in (map (decided_entry l.self.decisions.now tree i) l.numbers) []
