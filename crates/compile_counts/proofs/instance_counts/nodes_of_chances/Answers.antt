use Rattle.std.proofs.Common.{◌∙◌, map}
use Rattle.std.proofs.lemmas.List.Sums.{sum_by-cons}
use Rattle.sopl_ast.specs.References.{now_of}
use Rattle.unfold_tables.specs.Tables.{table_known}
use Rattle.compile_counts.specs.Counted.{nodes_at}
use Rattle.sopl_ast.specs.Instances.{Chance}
use Rattle.compile_counts.proofs.Counting.{left_more}
use Rattle.compile_counts.proofs.Placed.{next_at}
use Rattle.compile_counts.proofs.instance_counts.nodes_of_chances.Goals as goal

pub chances-preserved : goal.chances-preserved
chances-preserved c =
    let x : Chance = record { text = c.chance.inside.text; bound = c.chance.inside.env; p = c.chance.inside.p; q = c.chance.inside.q } in
    left_more c.chances.invariant (nodes_at (table_known c.args.table.now) (map now_of c.args.conditions.now) x.text x.bound) _
    (next_at c.args.chances.now c.chances.chance-index x _ c.chances-test.true (c.chance.view_is ∙ c.chance-item.is)) (sum_by-cons (λ (d : Chance). nodes_at (table_known c.args.table.now) (map now_of c.args.conditions.now) d.text d.bound) x) (λ held. held.1) c.in_ok-inside.ensures.nodes c.plus-sum.ensures.both
