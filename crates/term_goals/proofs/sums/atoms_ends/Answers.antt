use Rattle.std.proofs.Common.{pos}
use Rattle.term_goals.specs.declared.sums.Atom.{Atom}
use Rattle.term_goals.specs.Wide.{wide_ends}
use Rattle.term_goals.proofs.Steps.{times_atom_fit, atoms_fit}
use Rattle.term_goals.proofs.sums.atoms_ends.Goals as goal

pub times_atom-times-requires-clause-fits : goal.times_atom-times-requires-clause-fits
times_atom-times-requires-clause-fits c =
    let none : Atom = record { k = pos 0; term = 0 } in
    times_atom_fit c.args.here.now c.args.atoms.now c.loop-i.i none c.requires.ready c.requires.room c.loop-i-test.true c.loop-i.auto.i

pub plus-sum-requires : goal.plus-sum-requires
plus-sum-requires c =
    let none : Atom = record { k = pos 0; term = 0 } in
    record {
      fits = atoms_fit c.args.here.now c.args.atoms.now c.loop-i.i none (wide_ends c.times_atom-times.result) (wide_ends c.loop-i.sum) c.requires.ready c.requires.room c.loop-i-test.true
          c.loop-i.auto.i c.times_atom-times.ensures c.loop-i.invariant;
    }
