use Rattle.std.proofs.Common.{◌≡◌, drop}
use Rattle.std.specs.Ordering.{int_cmp}
use Rattle.std.specs.BTreeSet.{contains}
use Rattle.sopl_ast.specs.Numbers as spec
use Rattle.unfold_tables.proofs.Distinct.{distinct_from}
use Rattle.unfold_tables.proofs.lists.all_distinct.Given as goal

abbrev pub invariant-numbers : goal.invariant-numbers
invariant-numbers l = distinct_from (contains int_cmp l.seen) (drop l.number-index l.numbers) ≡ spec.all_distinct l.numbers
