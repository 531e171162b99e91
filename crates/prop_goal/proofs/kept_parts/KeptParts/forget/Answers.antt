use Rattle.std.proofs.Common.{ap, length, ◌∙◌}
use Rattle.prop_goal.proofs.KeptParts.{none_seen}
use Rattle.prop_goal.proofs.kept_parts.KeptParts.forget.Goals as goal

pub returns : goal.returns
returns c = record {
  keeps = λ program b. none_seen program b _ c.let_all_wait.ensures.all c.let_all_wait.ensures.listed;
  cleared = c.clear.ensures.cleared;
  alike = record {
    atoms = c.clear.ensures.atoms;
    ends = c.clear.ensures.room;
    waits = c.let_all_wait.ensures.count ∙ ap (λ o. length o.waits.items) c.clear.ensures.outdated;
  };
}
