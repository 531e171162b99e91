use Rattle.std.proofs.Common.{length, refl}
use Rattle.term_math.specs.Shown.{box_in}
use Rattle.term_nodes.specs.Things.{things}
use Rattle.term_goals.proofs.Growing.{atom_exists, leaf_added}
use Rattle.term_goals.proofs.listing.add_leaf.Goals as goal

pub returns-clause-sum : goal.returns-clause-sum
returns-clause-sum c = λ b.
    leaf_added (box_in c.args.here.now.root) b (things c.args.here.now.items.now) c.args.list.now.items c.push.new.self.items c.args.atom.now c.args.atom.now.k c.args.atom.now.term
    c.requires.leaf c.in_ok-push.ensures.items refl

pub returns-clause-exist : goal.returns-clause-exist
returns-clause-exist c = λ all. atom_exists (length c.args.here.now.items.now) c.args.list.now.items c.push.new.self.items c.args.atom.now c.args.atom.now.k c.args.atom.now.term all
    c.requires.exists c.in_ok-push.ensures.items refl
