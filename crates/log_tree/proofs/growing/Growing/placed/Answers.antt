use Rattle.std.proofs.Common.{rules}
use Rattle.log_tree.proofs.Nodes.{bad_place, bad_depth}
use Rattle.log_tree.proofs.growing.Growing.placed.Goals as goal

pub returns-then-not-is_next-clause-err : goal.returns-then-not-is_next-clause-err
returns-then-not-is_next-clause-err c =
    bad_place c.args.self.now.rows.items c.args.self.now.slots.items c.requires.keeps c.args.number c.args.heading.now c.refused.result c.is_next.result (search rules)
    c.if-not-is_next.true c.refused.ensures

pub returns-then-depth-gt-NODE_DEPTH-clause-err : goal.returns-then-depth-gt-NODE_DEPTH-clause-err
returns-then-depth-gt-NODE_DEPTH-clause-err c =
    bad_depth c.args.self.now.rows.items c.args.self.now.slots.items c.requires.keeps c.args.number c.args.heading.now c.refused-then-depth-gt-NODE_DEPTH.result c.is_next.result
    (search rules) c.depth_in-depth.result c.if-not-is_next.false (search rules) c.if-depth-gt-NODE_DEPTH.true c.refused-then-depth-gt-NODE_DEPTH.ensures
