use Rattle.std.proofs.Common.{rules, ◌<◌, ◌∙◌, length}
use Rattle.std.proofs.lemmas.Int.{to_z-of_z}
use Rattle.std.specs.Int.{w64}
use Rattle.compile_names.proofs.Listing.{fixed_at}
use Rattle.compile_names.proofs.There.{there_more}
use Rattle.compile_names.proofs.origins.list_fixed.Goals as goal

pub elements-preserved : goal.elements-preserved
elements-preserved c =
    let within : c.elements.element-index < length c.args.elements.now = search rules in (
      (λ tree i.
          fixed_at c.args.elements.now c.elements.element-index _ _ c.elements.found.items c.push.new.self.items within (to_z-of_z w64 _ (search rules)) c.in_ok-push.ensures.items tree i
          ∙ c.elements.invariant.0 tree i),
      (λ drawn decided there.
          there_more drawn decided c.elements.found.items c.push.new.self.items _ c.in_ok-push.ensures.items tt (c.elements.invariant.1 drawn decided there)),
    )
