use Rattle.std.proofs.Common.{length, refl, subst, sym, ◌∙◌}
use Rattle.prop_shave.proofs.AtEnds.{goal_turns_alike, part_cells, touches_listed}
use Rattle.prop_shave.proofs.Mentioned.{untouched}
use Rattle.prop_shave.specs.GoalSums.{parts_over}
use Rattle.prop_chance.specs.KeptTurns.{KeepsTurns}
use Rattle.prop_chance.proofs.Turned.{turns_told}
use Rattle.prop_goal.specs.KeptParts.{touches}
use Rattle.prop_goal.specs.declared.kept_ends.KeptEnds.{KeptEnds}
use Rattle.prop_goal.proofs.KeptEnds.{ends_fit, same_sum}
use Rattle.prop_goal.proofs.KeptParts.{alike_back}
use Rattle.prop_goal.proofs.kept_ends.KeptEnds.tell.Goals as goal

pub returns : goal.returns
returns c =
    let old = c.args.self.now in
    let parts = c.tell.new.self in
    let atoms = old.parts.atoms.items in
    let alike = c.tell.ensures.alike in
    let k : KeptEnds = record { parts = parts; end = old.end; turns = old.turns } in
    record {
      keeps = λ program list b d agree keeps. record {
        parts = c.tell.ensures.keeps program b d agree keeps.parts;
        summed = same_sum program old k alike.atoms c.tell.ensures.ends refl keeps.summed;
        turns = subst (λ xs. KeepsTurns (parts_over program xs.items) (touches program xs.items) (length xs.items) d parts.outdated list old.turns) (sym alike.atoms)
            (turns_told (parts_over program atoms) (touches program atoms) (part_cells program atoms) (length atoms) c.args.cell b d old.parts.outdated parts.outdated list old.turns
            (λ x y cell turns. goal_turns_alike program x y atoms cell turns)
            (λ number apart. untouched c.args.cell (part_cells program atoms number) (sym (touches_listed program atoms c.args.cell number) ∙ apart))
            (λ number. c.tell.ensures.told (touches program atoms) number) agree keeps.turns);
      };
      fits = ends_fit old k alike refl;
      fitted = ends_fit k old (alike_back old.parts parts alike) refl;
      atoms = alike.atoms;
    }
