use Rattle.std.proofs.Common.{rules, ◌≤◌, ◌<◌, sym, ap, ◌∙◌, ◌++◌, map, length}
use Rattle.compile_names.specs.Variables.{drawn_entry, drawn_name, entry_from}
use Rattle.compile_names.proofs.Listing.{seen_are, listed_end, number_exists}
use Rattle.compile_names.proofs.setting.Scenarios.list_drawn.Goals as goal

pub drawn_source-requires : goal.drawn_source-requires
drawn_source-requires c =
    let within : c.numbers.number-index < length c.numbers-numbers.result.now = search rules in
    record {
      exists =
          number_exists drawn_name c.args.self.now.stochs.now c.args.name.now c.numbers-numbers.result.now c.numbers.number-index
          (c.numbers-numbers.ensures.numbers (map drawn_name c.args.self.now.stochs.now) c.args.self.now.drawn_named) within;
    }

pub returns-clause-elements : goal.returns-clause-elements
returns-clause-elements c tree i =
    let past : length c.numbers-numbers.result.now ≤ c.numbers.number-index = search rules in
    sym (listed_end (drawn_entry c.args.self.now.stochs.now) c.numbers-numbers.result.now c.numbers.number-index c.numbers.found.items past tree i)
    ∙ c.numbers.invariant.0 tree i
    ∙ ap (λ l. map (entry_from tree i) c.args.found.now.items ++ l)
    (ap (map (drawn_entry c.args.self.now.stochs.now tree i)) (c.numbers-numbers.ensures.numbers (map drawn_name c.args.self.now.stochs.now) c.args.self.now.drawn_named)
    ∙ sym (seen_are c.args.name.now c.args.self.now.stochs.now tree i))

pub returns-clause-origins_exist : goal.returns-clause-origins_exist
returns-clause-origins_exist c = c.numbers.invariant.1
