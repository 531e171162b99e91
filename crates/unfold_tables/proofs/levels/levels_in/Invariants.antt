use Rattle.std.proofs.Common.{◌≡◌, ℤ, ◌+ℤ◌, drop, IfSome}
use Rattle.std.specs.BTreeMap.{get}
use Rattle.std.specs.Ordering.{int_cmp}
use Rattle.sopl_base.specs.declared.wide.Wide.{Wide}
use Rattle.unfold_tables.specs.Changing.{level}
use Rattle.unfold_tables.proofs.Sweeping.{total_of}
use Rattle.unfold_tables.proofs.levels.levels_in.Given as goal

abbrev pub invariant-changes : goal.invariant-changes
invariant-changes l = record {
  total : l.total.value +ℤ total_of (drop l.change-index l.changes) ≡ total_of l.changes;
  levels : (time : ℤ) → IfSome (get int_cmp l.levels time) (λ (w : Wide). w.value ≡ level time l.changes);
}
