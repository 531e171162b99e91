use Rattle.std.proofs.Common.{◌∙◌, map}
use Rattle.std.proofs.lemmas.List.Sums.{sum_by-cons}
use Rattle.sopl_ast.specs.References.{now_of}
use Rattle.unfold_tables.specs.Tables.{table_known}
use Rattle.compile_counts.specs.Counted.{nodes_at}
use Rattle.sopl_ast.specs.Instances.{Hard}
use Rattle.compile_counts.proofs.Counting.{left_more}
use Rattle.compile_counts.proofs.Placed.{next_at}
use Rattle.compile_counts.proofs.instance_counts.nodes_of_hards.Goals as goal

pub hards-preserved : goal.hards-preserved
hards-preserved c =
    let x : Hard = record { text = c.hard.inside.text; bound = c.hard.inside.env } in
    left_more c.hards.invariant (nodes_at (table_known c.args.table.now) (map now_of c.args.conditions.now) x.text x.bound) _
    (next_at c.args.hards.now c.hards.hard-index x _ c.hards-test.true (c.hard.view_is ∙ c.hard-item.is)) (sum_by-cons (λ (h : Hard). nodes_at (table_known c.args.table.now) (map now_of c.args.conditions.now) h.text h.bound) x) (λ held. held.1) c.in_ok-inside.ensures.nodes c.plus-sum.ensures.both
