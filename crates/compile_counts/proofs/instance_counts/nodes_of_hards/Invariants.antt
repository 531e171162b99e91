-- The constraints that are left are yet to be counted.
use Rattle.std.proofs.Common.{drop, map}
use Rattle.std.specs.List.{AllByRecursion, sum_by}
use Rattle.sopl_ast.specs.Instances.{Hard}
use Rattle.sopl_ast.specs.References.{now_of}
use Rattle.unfold_laws.specs.Conditions.{IsMet}
use Rattle.unfold_tables.specs.Tables.{table_known}
use Rattle.compile_counts.specs.Counted.{nodes_at}
use Rattle.compile_counts.proofs.Counting.{IsLeft}
use Rattle.compile_counts.proofs.instance_counts.nodes_of_hards.Given as goal

abbrev pub invariant-hards : goal.invariant-hards
invariant-hards l =
    IsLeft (AllByRecursion (λ (h : Hard). IsMet (table_known l.table) (map now_of l.conditions) h.text h.bound))
    (sum_by (λ (h : Hard). nodes_at (table_known l.table) (map now_of l.conditions) h.text h.bound)) l.sum.count (drop l.hard-index l.hards)
    (sum_by (λ (h : Hard). nodes_at (table_known l.table) (map now_of l.conditions) h.text h.bound) l.hards)
