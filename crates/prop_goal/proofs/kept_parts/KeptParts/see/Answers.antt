use Rattle.std.proofs.Common.{◌≡◌, Some, ap, slice_get, subst, sym, ◌∙◌}
use Rattle.std.proofs.lemmas.Option.{same_Some}
use Rattle.prop_shave.proofs.GoalMentioned.{part_found}
use Rattle.prop_shave.specs.GoalKnown.{IsPartSeen}
use Rattle.term_goals.specs.declared.sums.Atom.{Atom}
use Rattle.prop_chance.specs.Deciding.{if_some_map}
use Rattle.prop_goal.proofs.kept_parts.KeptParts.see.Goals as goal

pub returns : goal.returns
returns c =
    let program = c.args.program.now in
    let b = c.args.store.now.box in
    let atoms = c.args.self.now.atoms.items in
    let x = c.index.result.now in
    record {
      seen = if_some_map c.see_part.result (IsPartSeen program b x) (λ e. (a : Atom) → slice_get atoms c.args.number ≡ Some a → IsPartSeen program b a e)
          (λ e is a at.
          subst (λ (y : Atom). IsPartSeen program b y e) (same_Some x a (ap (λ y. Some y) c.index.ensures ∙ sym (part_found atoms c.args.number x c.requires.exists) ∙ at)) is)
          c.see_part.ensures;
    }
