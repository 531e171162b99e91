use Rattle.std.proofs.Common.{◌≡◌, ◌++◌, drop, string_bytes}
use Rattle.model_gen.specs.Texts.{other_numbers}
use Rattle.model_gen.proofs.text.add_others.Given as goal

abbrev pub invariant-numbers : goal.invariant-numbers
invariant-numbers l = string_bytes l.text ++ other_numbers (drop l.number-index l.numbers) ≡ string_bytes l.initial.text ++ other_numbers l.numbers
