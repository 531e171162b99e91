use Rattle.std.proofs.Common.{◌≡◌, ◌<◌, ℕ, get_or, length}
use Rattle.term_language.specs.declared.answers.Truth.TheVariants.{False}
use Rattle.prop_chance.proofs.kept_weight.KeptWeight.clear.Given as goal

abbrev pub invariant-scenarios : goal.invariant-scenarios
invariant-scenarios l = record {
  cleared : (k : ℕ) → k < l.at → get_or l.self.truths.items k False ≡ False;
  outdated : l.self.outdated ≡ l.fn.self.outdated;
  room : length l.self.truths.items ≡ length l.fn.self.truths.items;
}
