use Rattle.std.proofs.Common.{◌≡◌, ◌∙◌, Bool, ap, arith, length, length-set, refl, true, ℕ}
use Rattle.prop_core.specs.Watches.{waits_at}
use Rattle.prop_chance.proofs.Setting.{holds_all, holds_more}
use Rattle.prop_chance.proofs.outdated.Outdated.let_all_wait.Goals as goal

pub things-preserved : goal.things-preserved
things-preserved c = record {
  all = holds_more (λ (t : Bool). t ≡ true) c.things.self.waits.items c.things.at true true refl refl c.things.invariant.all;
  count = length-set c.things.self.waits.items c.things.at true ∙ c.things.invariant.count;
  told = c.things.invariant.told;
}

pub returns : goal.returns
returns c =
    let all : (k : ℕ) → waits_at c.things.self.waits.items k ≡ true =
    holds_all (λ (t : Bool). t ≡ true) c.things.self.waits.items true refl (λ k below. c.things.invariant.all k (omega (arith, below, c.things.invariant.count, c.things-test.false))) in
    record {
      all = λ k. ap (λ flags. waits_at flags.items k) c.unlist.ensures.waits ∙ all k;
      listed = c.unlist.ensures.listed;
      count = ap (λ flags. length flags.items) c.unlist.ensures.waits ∙ c.things.invariant.count;
      told = c.unlist.ensures.told ∙ c.things.invariant.told;
    }
