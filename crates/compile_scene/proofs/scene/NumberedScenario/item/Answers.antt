use Rattle.std.proofs.Common.{rules, sym, ap, ◌∙◌, option_map, Some, SFits}
use Rattle.std.proofs.lemmas.Int.{to_z-of_z}
use Rattle.std.specs.Int.{w64}
use Rattle.term_language.specs.Terms.{Fixed}
use Rattle.term_math.specs.Kept.{item_of}
use Rattle.unfold_constants.specs.Here.{known_in}
use Rattle.compile_scene.proofs.Naming.{known_not, known_there}
use Rattle.compile_scene.proofs.scene.NumberedScenario.item.Goals as goal

pub returns-in-Some-clause-item : goal.returns-in-Some-clause-item
returns-in-Some-clause-item c =
    let fits : SFits w64 c.in-Some.value = search rules in
    ap (λ z. Some (Fixed z)) (to_z-of_z w64 c.in-Some.value fits)
    ∙ known_there (known_in c.args.known.now) c.args.name.now _ c.in-Some.value (sym c.value.ensures ∙ c.in-Some.is)

pub returns-in-None-clause-item : goal.returns-in-None-clause-item
returns-in-None-clause-item c =
    known_not (known_in c.args.known.now) c.args.name.now _ (option_map item_of c.variable.result) (sym c.value.ensures ∙ c.in-None.is) c.variable.ensures.item
