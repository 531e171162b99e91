use Rattle.std.proofs.Common.{pos}
use Rattle.term_math.specs.Shown.{box_in}
use Rattle.term_nodes.specs.Things.{things}
use Rattle.term_goals.specs.declared.sums.Atom.{Atom}
use Rattle.term_goals.specs.Goals.{listed_ends}
use Rattle.term_goals.proofs.Growing.{atom_room, atom_step, atoms_done}
use Rattle.term_goals.proofs.listing.add_atoms.Goals as goal

pub add-requires-clause-room : goal.add-requires-clause-room
add-requires-clause-room c =
    let none : Atom = record { k = pos 0; term = 0 } in
    atom_room (box_in c.args.here.now.root) (things c.args.here.now.items.now) c.args.atoms.now c.loop-atom.atom-index none c.factor.result.value c.loop-atom-test.true c.factor.ensures c.requires.room

pub loop-atom-preserved : goal.loop-atom-preserved
loop-atom-preserved c = record {
  sum = λ b inside.
      let root = box_in c.args.here.now.root in
      let all = things c.args.here.now.items.now in
      let none : Atom = record { k = pos 0; term = 0 } in
      atom_step root b all c.args.atoms.now c.loop-atom.atom-index none c.factor.result.value (listed_ends root b all c.loop-atom.list.items) (listed_ends root b all c.add.new.list.items)
      _ c.loop-atom-test.true c.factor.ensures (c.in_ok-add.ensures.sum b inside) (c.loop-atom.invariant.sum b inside);
  exist = λ all. c.in_ok-add.ensures.exist (c.loop-atom.invariant.exist all);
}

pub returns-clause-sum : goal.returns-clause-sum
returns-clause-sum c = λ b inside.
    let root = box_in c.args.here.now.root in
    let all = things c.args.here.now.items.now in
    atoms_done root b all c.args.atoms.now c.loop-atom.atom-index (listed_ends root b all c.loop-atom.list.items) _ c.loop-atom-test.false (c.loop-atom.invariant.sum b inside)
