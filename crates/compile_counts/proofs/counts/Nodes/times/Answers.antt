use Rattle.std.proofs.Common.{rules, ◌∙◌, ap₂, ◌*ℤ◌, SFits}
use Rattle.std.proofs.lemmas.Int.{to_z-of_z}
use Rattle.std.specs.Int.{w128, saturate_signed}
use Rattle.compile_counts.proofs.Capped.{capped_times}
use Rattle.compile_counts.proofs.counts.Nodes.times.Goals as goal

pub returns : goal.returns
returns c =
    record {
      all = λ a is.
          let fits : SFits w128 c.saturating_mul.result = search rules in
          let first : SFits w128 c.args.self.count = search rules in
          let second : SFits w128 c.from.result = search rules in
          to_z-of_z w128 c.saturating_mul.result fits
          ∙ c.saturating_mul.ensures
          ∙ ap₂ (λ x y. saturate_signed w128 (x *ℤ y)) (to_z-of_z w128 c.args.self.count first ∙ is) (to_z-of_z w128 c.from.result second ∙ c.from.ensures)
          ∙ capped_times a c.args.scenarios;
    }
