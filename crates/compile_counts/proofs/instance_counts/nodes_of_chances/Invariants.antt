-- The constraints that are left are yet to be counted.
use Rattle.std.proofs.Common.{drop, map}
use Rattle.std.specs.List.{AllByRecursion, sum_by}
use Rattle.sopl_ast.specs.Instances.{Chance}
use Rattle.sopl_ast.specs.References.{now_of}
use Rattle.unfold_laws.specs.Conditions.{IsMet}
use Rattle.unfold_tables.specs.Tables.{table_known}
use Rattle.compile_counts.specs.Counted.{nodes_at}
use Rattle.compile_counts.proofs.Counting.{IsLeft}
use Rattle.compile_counts.proofs.instance_counts.nodes_of_chances.Given as goal

abbrev pub invariant-chances : goal.invariant-chances
invariant-chances l =
    IsLeft (AllByRecursion (λ (c : Chance). IsMet (table_known l.table) (map now_of l.conditions) c.text c.bound))
    (sum_by (λ (c : Chance). nodes_at (table_known l.table) (map now_of l.conditions) c.text c.bound)) l.sum.count (drop l.chance-index l.chances)
    (sum_by (λ (c : Chance). nodes_at (table_known l.table) (map now_of l.conditions) c.text c.bound) l.chances)
