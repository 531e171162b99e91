use Rattle.std.proofs.Common.{ap, ◌∙◌, ℤ, Vec, map}
use Rattle.std.specs.declared.alloc.Global.{Global}
use Rattle.compile_names.specs.Variables.{item_from}
use Rattle.term_math.specs.Kept.{items_of, sets_of}
use Rattle.term_math.specs.declared.elements.Element.{Element}
use Rattle.compile_scene.proofs.scene.NumberedScenario.table_of.Goals as goal

pub returns : goal.returns
returns c =
    λ i. record {
      sets = (ap (λ (sets : Vec (Vec ℤ Global) Global). sets_of sets.items) c.of.ensures.sets ∙ (c.in_ok-sets.ensures ∙ ap sets_of c.as_slice.ensures.value)) i;
      items = (ap (λ (elements : Vec Element Global). items_of elements.items) c.of.ensures.elements
          ∙ (c.in_ok-elements.ensures ∙ ap (map (item_from c.args.self.now.setting.now.tree.now c.args.self.now.scenario)) c.as_slice-2.ensures.value)) i;
    }
