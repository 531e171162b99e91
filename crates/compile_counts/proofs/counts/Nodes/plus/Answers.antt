use Rattle.std.proofs.Common.{rules, ◌∙◌, ap₂, ◌+ℤ◌, SFits}
use Rattle.std.proofs.lemmas.Int.{to_z-of_z}
use Rattle.std.specs.Int.{w128, saturate_signed}
use Rattle.compile_counts.proofs.Capped.{capped_plus}
use Rattle.compile_counts.proofs.counts.Nodes.plus.Goals as goal

pub returns : goal.returns
returns c =
    record {
      both = λ a b one two.
          let fits : SFits w128 c.saturating_add.result = search rules in
          let first : SFits w128 c.args.self.count = search rules in
          let second : SFits w128 c.args.other.count = search rules in
          to_z-of_z w128 c.saturating_add.result fits
          ∙ c.saturating_add.ensures
          ∙ ap₂ (λ x y. saturate_signed w128 (x +ℤ y)) (to_z-of_z w128 c.args.self.count first ∙ one) (to_z-of_z w128 c.args.other.count second ∙ two)
          ∙ capped_plus a b;
    }
