use Rattle.std.proofs.Common.{length, refl, sym}
use Rattle.prop_shave.specs.GoalSums.{parts_over}
use Rattle.prop_chance.proofs.Turned.{turns_kept}
use Rattle.prop_goal.specs.KeptParts.{touches}
use Rattle.prop_goal.specs.declared.kept_ends.KeptEnds.{KeptEnds}
use Rattle.prop_goal.proofs.KeptEnds.{ends_fit}
use Rattle.prop_goal.proofs.kept_ends.KeptEnds.step.Goals as goal

pub step_by-requires-clause-known : goal.step_by-requires-clause-known
step_by-requires-clause-known c = c.requires.known.known

pub step_by-requires-clause-turns : goal.step_by-requires-clause-turns
step_by-requires-clause-turns c = c.requires.known.turns

pub step_by-requires-clause-room : goal.step_by-requires-clause-room
step_by-requires-clause-room c = c.requires.fits.turns

pub returns-clause-keeps : goal.returns-clause-keeps
returns-clause-keeps c =
    let program = c.args.probe.now.program.now in
    let p = c.args.self.now in
    let atoms = p.parts.atoms.items in
    record {
      parts = c.requires.keeps.parts;
      summed = c.requires.keeps.summed;
      turns = turns_kept (parts_over program atoms) (touches program atoms) (length atoms) c.args.probe.now.store.now.box p.parts.outdated c.args.watched.now.cells.items c.step_by.new.turns
          c.step_by.ensures.turns;
    }

pub returns-clause-fits : goal.returns-clause-fits
returns-clause-fits c =
    let p = c.args.self.now in
    let k : KeptEnds = record { parts = p.parts; end = p.end; turns = c.step_by.new.turns } in
    ends_fit p k (record { atoms = refl; ends = refl; waits = refl }) c.step_by.ensures.room

pub returns-clause-fitted : goal.returns-clause-fitted
returns-clause-fitted c =
    let p = c.args.self.now in
    let k : KeptEnds = record { parts = p.parts; end = p.end; turns = c.step_by.new.turns } in
    ends_fit k p (record { atoms = refl; ends = refl; waits = refl }) (sym c.step_by.ensures.room)
