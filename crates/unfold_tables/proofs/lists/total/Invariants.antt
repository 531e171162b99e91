use Rattle.std.proofs.Common.{◌≡◌, ◌+ℤ◌, ◌*◌, ◌≤◌, drop, unsigned_abs}
use Rattle.std.specs.List.{fold}
use Rattle.sopl_ast.specs.Numbers as spec
use Rattle.unfold_tables.proofs.lists.total.Given as goal

abbrev pub invariant-numbers : goal.invariant-numbers
invariant-numbers l = record {
  value : fold ◌+ℤ◌ l.total.value (drop l.number-index l.numbers) ≡ spec.total l.numbers;
  bound : unsigned_abs l.total.value ≤ 9223372036854775808 * l.number-index;
}
