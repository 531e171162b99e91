use Rattle.std.proofs.Common.{ap, length, refl, subst, sym, ◌∙◌}
use Rattle.prop_shave.specs.GoalSums.{AreParts, parts_over}
use Rattle.prop_chance.specs.KeptTurns.{KeepsTurns, KnowsTurns}
use Rattle.prop_chance.specs.UpToDate.{IsUpToDate}
use Rattle.prop_chance.proofs.Turned.{turns_kept, turns_known}
use Rattle.prop_goal.specs.Cells.{AreGoalCells}
use Rattle.prop_goal.specs.KeptEnds.{KnowsEnd}
use Rattle.prop_goal.specs.KeptParts.{AreAlike, AreCalm, touches}
use Rattle.prop_goal.specs.declared.kept_ends.KeptEnds.{KeptEnds}
use Rattle.prop_goal.proofs.KeptEnds.{end_seen, ends_fit, if_so_map, same_sum}
use Rattle.prop_goal.proofs.KeptParts.{alike_back, ends_seen, one_each_on, parts_wait}
use Rattle.prop_goal.proofs.kept_ends.KeptEnds.look.Goals as goal

pub let_told_wait-requires-clause-watched : goal.let_told_wait-requires-clause-watched
let_told_wait-requires-clause-watched c = (c.args.program.now, c.requires.watched)

pub let_told_wait-requires-clause-waits : goal.let_told_wait-requires-clause-waits
let_told_wait-requires-clause-waits c = c.requires.fits.one_each.waits

pub forget_waiting-requires-clause-cells : goal.forget_waiting-requires-clause-cells
forget_waiting-requires-clause-cells c = subst (λ list. AreGoalCells c.args.watched.now c.args.program.now list.items) (sym c.let_told_wait.ensures.alike.atoms) c.requires.watched

pub forget_waiting-requires-clause-parts : goal.forget_waiting-requires-clause-parts
forget_waiting-requires-clause-parts c = subst (λ list. AreParts c.args.program.now list.items) (sym c.let_told_wait.ensures.alike.atoms) c.requires.fits.are

pub forget_waiting-requires-clause-waits : goal.forget_waiting-requires-clause-waits
forget_waiting-requires-clause-waits c = (one_each_on c.args.self.now.parts c.let_told_wait.new.self c.let_told_wait.ensures.alike c.requires.fits.one_each).waits

pub forget_waiting-requires-clause-room : goal.forget_waiting-requires-clause-room
forget_waiting-requires-clause-room c = c.requires.fits.turns

pub forget_waiting-requires-clause-listed : goal.forget_waiting-requires-clause-listed
forget_waiting-requires-clause-listed c = c.let_told_wait.ensures.listed c.requires.keeps.parts.listed

pub renew_all-requires-clause-listed : goal.renew_all-requires-clause-listed
renew_all-requires-clause-listed c = c.let_told_wait.ensures.listed c.requires.keeps.parts.listed

pub renew_all-requires-clause-parts : goal.renew_all-requires-clause-parts
renew_all-requires-clause-parts c = subst (λ list. AreParts c.args.program.now list.items) (sym c.let_told_wait.ensures.alike.atoms) c.requires.fits.are

pub renew_all-requires-clause-one_each : goal.renew_all-requires-clause-one_each
renew_all-requires-clause-one_each c = one_each_on c.args.self.now.parts c.let_told_wait.new.self c.let_told_wait.ensures.alike c.requires.fits.one_each

pub renew_all-requires-clause-seen : goal.renew_all-requires-clause-seen
renew_all-requires-clause-seen c =
    let program = c.args.program.now in
    let p = c.args.self.now in
    let alike = c.let_told_wait.ensures.alike in
    let now : KeptEnds = record { parts = c.let_told_wait.new.self; end = p.end; turns = c.forget_waiting.new.turns } in
    record {
      parts = parts_wait program c.args.store.now.box p.parts c.let_told_wait.new.self alike.atoms c.let_told_wait.ensures.ends
          (λ number fresh. c.let_told_wait.ensures.wait program number c.requires.watched fresh) c.let_told_wait.ensures.clean c.requires.keeps.parts.ends;
      summed = same_sum program p now alike.atoms c.let_told_wait.ensures.ends refl c.requires.keeps.summed;
    }

pub returns : goal.returns
returns c =
    let program = c.args.program.now in
    let b = c.args.store.now.box in
    let cells = c.args.watched.now.cells.items in
    let p = c.args.self.now in
    let told = c.let_told_wait.new.self in
    let left = c.forget_waiting.new.turns in
    let k = c.renew_all.new.self in
    let alike = c.let_told_wait.ensures.alike in
    let atoms = told.atoms.items in
    let knows =
    turns_known (parts_over program atoms) (touches program atoms) (length atoms) b p.parts.outdated told.outdated cells p.turns left
    (λ number fresh.
    subst (λ list. IsUpToDate (touches program list.items) p.parts.outdated number) (sym alike.atoms)
    (c.let_told_wait.ensures.wait program number c.requires.watched (subst (λ list. IsUpToDate (touches program list.items) told.outdated number) alike.atoms fresh)))
    c.let_told_wait.ensures.clean c.forget_waiting.ensures.forgotten c.forget_waiting.ensures.fewer
    (subst (λ list. KeepsTurns (parts_over program list.items) (touches program list.items) (length list.items) b p.parts.outdated cells p.turns) (sym alike.atoms) c.requires.keeps.turns)
    in
    let turns =
    subst (λ t. KnowsTurns (parts_over program k.parts.atoms.items) b cells t) (sym c.renew_all.ensures.turns)
    (subst (λ list. KnowsTurns (parts_over program list.items) b cells left) (sym c.renew_all.ensures.atoms) knows)
    in
    let frames : AreAlike p.parts k.parts = record {
      atoms = c.renew_all.ensures.atoms ∙ alike.atoms;
      ends = c.renew_all.ensures.ends ∙ alike.ends;
      waits = c.renew_all.ensures.waits ∙ alike.waits;
    } in
    let are = subst (λ list. AreParts program list.items) (sym (c.renew_all.ensures.atoms ∙ alike.atoms)) c.requires.fits.are in
    let one = one_each_on p.parts k.parts frames c.requires.fits.one_each in
    record {
      known = if_so_map c.renew_all.result (AreCalm k.parts) (KnowsEnd program cells b k)
          (λ calm. record {
            known = record {
              are = are;
              end = end_seen program b k c.requires.made are c.requires.inside c.renew_all.ensures.seen calm;
              ends = ends_seen program b k.parts c.requires.made c.requires.inside one.ends (record { seen = c.renew_all.ensures.seen.parts; calm = calm });
            };
            turns = turns;
          })
          c.renew_all.ensures.calm;
      keeps = record {
        parts = record { ends = c.renew_all.ensures.seen.parts.keeps; listed = c.renew_all.ensures.listed };
        summed = c.renew_all.ensures.seen.summed;
        turns = turns_kept (parts_over program k.parts.atoms.items) (touches program k.parts.atoms.items) (length k.parts.atoms.items) b k.parts.outdated cells k.turns turns;
      };
      fits = ends_fit p k frames (ap (λ t. length t.known.items) c.renew_all.ensures.turns ∙ c.forget_waiting.ensures.room);
      fitted = ends_fit k p (alike_back p.parts k.parts frames) (sym (ap (λ t. length t.known.items) c.renew_all.ensures.turns ∙ c.forget_waiting.ensures.room));
      atoms = c.renew_all.ensures.atoms ∙ alike.atoms;
    }
