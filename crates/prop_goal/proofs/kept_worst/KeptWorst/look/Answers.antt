use Rattle.std.proofs.Common.{length, subst, sym, ◌∙◌}
use Rattle.term_goals.specs.Goals.{AtomsExist}
use Rattle.term_program.specs.Programs.{things_in}
use Rattle.prop_goal.specs.KeptParts.{AreAllSeen, AreAlike, AreCalm}
use Rattle.prop_goal.proofs.KeptEnds.{if_so_map}
use Rattle.prop_goal.proofs.KeptParts.{alike_back, one_each_on, parts_wait}
use Rattle.prop_goal.proofs.Worst.{worst_fits}
use Rattle.prop_goal.proofs.kept_worst.KeptWorst.look.Goals as goal

pub let_told_wait-requires-clause-watched : goal.let_told_wait-requires-clause-watched
let_told_wait-requires-clause-watched c = (c.args.program.now, c.requires.watched)

pub let_told_wait-requires-clause-waits : goal.let_told_wait-requires-clause-waits
let_told_wait-requires-clause-waits c = c.requires.fits.one_each.waits

pub renew_all-requires-clause-listed : goal.renew_all-requires-clause-listed
renew_all-requires-clause-listed c = c.let_told_wait.ensures.listed c.requires.keeps.listed

pub renew_all-requires-clause-exist : goal.renew_all-requires-clause-exist
renew_all-requires-clause-exist c = subst (λ list. AtomsExist (length (things_in c.args.program.now)) list.items) (sym c.let_told_wait.ensures.alike.atoms) c.requires.fits.are.terms.exist

pub renew_all-requires-clause-one_each : goal.renew_all-requires-clause-one_each
renew_all-requires-clause-one_each c = one_each_on c.args.self.now.parts c.let_told_wait.new.self c.let_told_wait.ensures.alike c.requires.fits.one_each

pub renew_all-requires-clause-seen : goal.renew_all-requires-clause-seen
renew_all-requires-clause-seen c =
    parts_wait c.args.program.now c.args.store.now.box c.args.self.now.parts c.let_told_wait.new.self c.let_told_wait.ensures.alike.atoms c.let_told_wait.ensures.ends
    (λ number fresh. c.let_told_wait.ensures.wait c.args.program.now number c.requires.watched fresh) c.let_told_wait.ensures.clean c.requires.keeps.ends

pub returns : goal.returns
returns c =
    let p = c.args.self.now in
    let k = c.renew_all.new.self in
    let alike = c.let_told_wait.ensures.alike in
    let frames : AreAlike p.parts k.parts = record {
      atoms = c.renew_all.ensures.atoms ∙ alike.atoms;
      ends = c.renew_all.ensures.ends ∙ alike.ends;
      waits = c.renew_all.ensures.waits ∙ alike.waits;
    } in
    record {
      seen = if_so_map c.renew_all.result (AreCalm k.parts) (AreAllSeen c.args.program.now c.args.store.now.box k.parts) (λ calm. record { seen = c.renew_all.ensures.seen; calm = calm })
          c.renew_all.ensures.calm;
      keeps = record { ends = c.renew_all.ensures.seen.keeps; listed = c.renew_all.ensures.listed };
      fits = λ program fits. worst_fits p k frames program fits;
      fitted = λ program fits. worst_fits k p (alike_back p.parts k.parts frames) program fits;
      atoms = frames.atoms;
    }
