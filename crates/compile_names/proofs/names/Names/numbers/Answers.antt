use Rattle.std.proofs.Common.{sym, ap, ◌∙◌}
use Rattle.std.specs.Map.{lookup}
use Rattle.std.specs.Option.{option_copied}
use Rattle.compile_names.proofs.Grouping.{is_key, numbers_found, no_numbers}
use Rattle.compile_names.proofs.names.Names.numbers.Goals as goal

pub returns-in-Some : goal.returns-in-Some
returns-in-Some c = record {
  numbers =
      λ all is.
      c.as_slice-in-Some.ensures.value
      ∙ sym (numbers_found c.args.self.now c.args.name.now c.in-Some.numbers.now
      (ap (λ name. lookup (is_key name) c.args.self.now.groups.entries) (sym c.as_slice.ensures.bytes) ∙ sym c.get.ensures.value ∙ ap option_copied c.in-Some.is))
      ∙ is c.args.name.now;
}

pub returns-in-None : goal.returns-in-None
returns-in-None c = record {
  numbers =
      λ all is.
      sym (no_numbers c.args.self.now c.args.name.now
      (ap (λ name. lookup (is_key name) c.args.self.now.groups.entries) (sym c.as_slice.ensures.bytes) ∙ sym c.get.ensures.value ∙ ap option_copied c.in-None.is))
      ∙ is c.args.name.now;
}
