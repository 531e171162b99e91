use Rattle.std.proofs.Common.{◌≡◌, ◌++◌, length, map, reverse}
use Rattle.search_tests.specs.declared.prop_core_asking.CountingProp.{CountingProp}
use Rattle.search_tests.proofs.prop_core_asking.wrapped.Given as goal

abbrev pub invariant-props : goal.invariant-props
invariant-props l = l.left.items ++ map (λ (counting : CountingProp). counting.prop) (reverse l.list.items) ≡ l.fn.props.items

abbrev pub decreases-props : goal.decreases-props
decreases-props l = length l.left.items
