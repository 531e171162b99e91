use Rattle.std.proofs.Common.{◌≡◌, ◌∙◌, arith, length-set, refl}
use Rattle.term_language.specs.declared.answers.Truth.{Truth}
use Rattle.term_language.specs.declared.answers.Truth.TheVariants.{False}
use Rattle.prop_chance.proofs.Setting.{holds_all, holds_more}
use Rattle.prop_chance.proofs.kept_weight.KeptWeight.clear.Goals as goal

pub scenarios-preserved : goal.scenarios-preserved
scenarios-preserved c = record {
  cleared = holds_more (λ (t : Truth). t ≡ False) c.scenarios.self.truths.items c.scenarios.at False False refl refl c.scenarios.invariant.cleared;
  outdated = c.scenarios.invariant.outdated;
  room = length-set c.scenarios.self.truths.items c.scenarios.at False ∙ c.scenarios.invariant.room;
}

pub returns : goal.returns
returns c = record {
  cleared = holds_all (λ (t : Truth). t ≡ False) c.scenarios.self.truths.items False refl
      (λ k below. c.scenarios.invariant.cleared k (omega (arith, below, c.scenarios.invariant.room, c.scenarios-test.false)));
  left = refl;
  outdated = c.scenarios.invariant.outdated;
  room = c.scenarios.invariant.room;
}
