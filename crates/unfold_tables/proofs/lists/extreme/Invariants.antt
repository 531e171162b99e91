use Rattle.std.proofs.Common.{◌≡◌, Some, drop}
use Rattle.std.specs.List.{fold}
use Rattle.sopl_base.specs.Extremes.{chosen_by}
use Rattle.sopl_ast.specs.Numbers as spec
use Rattle.unfold_tables.proofs.lists.extreme.Given as goal

abbrev pub invariant-others : goal.invariant-others
invariant-others l = Some (fold (chosen_by l.which) l.extreme (drop l.number-index l.others)) ≡ spec.extreme (chosen_by l.which) l.numbers
