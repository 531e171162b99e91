use Rattle.std.proofs.Common.{rules, ap, ◌∙◌, not, w64, SFits}
use Rattle.std.proofs.lemmas.Int.{to_z-of_z}
use Rattle.std.specs.List.{list_any}
use Rattle.std.specs.Ordering.{int_eq}
use Rattle.unfold_variables.proofs.distributions.is_new.Goals as goal

pub returns : goal.returns
returns c =
    let fits : SFits w64 c.args.number = search rules in
    ap not (c.contains.ensures ∙ ap (λ x. list_any (int_eq x) c.args.set.now.keys) (to_z-of_z w64 c.args.number fits))
