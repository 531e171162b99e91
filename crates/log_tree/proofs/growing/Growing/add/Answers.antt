use Rattle.std.proofs.Common.{rules}
use Rattle.log_tree.proofs.Nodes.{kept_more}
use Rattle.log_tree.proofs.growing.Growing.add.Goals as goal

pub returns-clause-keeps : goal.returns-clause-keeps
returns-clause-keeps c =
    kept_more c.args.self.now.rows.items c.args.self.now.slots.items c.args.parent c.args.steps c.args.end c.args.depth c.push.new.self.items c.add_slots.new.slots.items c.requires.keeps c.requires.hangs
    c.requires.depth c.requires.shallow (search rules) (search rules)
