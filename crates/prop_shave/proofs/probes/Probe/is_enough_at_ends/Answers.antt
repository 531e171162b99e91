use Rattle.std.proofs.Common.{◌≡◌, ◌∙◌, ◌+ℤ◌, ℤ, ap, rules, true}
use Rattle.prop_shave.specs.Turns.{at_high, at_low}
use Rattle.prop_shave.proofs.AtEnds.{enough_at_ends}
use Rattle.prop_shave.proofs.probes.Probe.is_enough_at_ends.Goals as goal

pub is_enough_with-at_low-requires-clause-turned : goal.is_enough_with-at_low-requires-clause-turned
is_enough_with-at_low-requires-clause-turned c = (
  at_low c.args.self.now.store.now.box c.args._cell,
  ap (λ (z : ℤ). z +ℤ c.args.turns.now.low.value) c.requires.left ∙ c.requires.turns.to_low,
)

pub is_enough_with-requires-clause-turned : goal.is_enough_with-requires-clause-turned
is_enough_with-requires-clause-turned c = (
  at_high c.args.self.now.store.now.box c.args._cell,
  ap (λ (z : ℤ). z +ℤ c.args.turns.now.high.value) c.requires.left ∙ c.requires.turns.to_high,
)

pub returns : goal.returns
returns c =
    let b = c.args.self.now.store.now.box in
    let met : c.is_enough_with-at_low.result ≡ true = search rules in
    record {
      stays = λ is.
          enough_at_ends c.args.self.now c.args.instance c.args._cell c.requires.reason
          (c.is_enough_with-at_low.ensures (at_low b c.args._cell) (ap (λ (z : ℤ). z +ℤ c.args.turns.now.low.value) c.requires.left ∙ c.requires.turns.to_low) met)
          (c.is_enough_with.ensures (at_high b c.args._cell) (ap (λ (z : ℤ). z +ℤ c.args.turns.now.high.value) c.requires.left ∙ c.requires.turns.to_high) is);
    }
