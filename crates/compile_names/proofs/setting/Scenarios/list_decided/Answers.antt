use Rattle.std.proofs.Common.{rules, ◌≤◌, ◌<◌, sym, ap, ◌∙◌, ◌++◌, map, length}
use Rattle.compile_names.specs.Variables.{decided_entry, decided_name, entry_from}
use Rattle.compile_names.proofs.Listing.{decided_are, listed_end, number_exists}
use Rattle.compile_names.proofs.setting.Scenarios.list_decided.Goals as goal

pub decided_source-requires : goal.decided_source-requires
decided_source-requires c =
    let within : c.numbers.number-index < length c.numbers-numbers.result.now = search rules in
    record {
      exists =
          number_exists decided_name c.args.self.now.decisions.now c.args.name.now c.numbers-numbers.result.now c.numbers.number-index
          (c.numbers-numbers.ensures.numbers (map decided_name c.args.self.now.decisions.now) c.args.self.now.decided_named) within;
    }

pub returns-clause-elements : goal.returns-clause-elements
returns-clause-elements c tree i =
    let past : length c.numbers-numbers.result.now ≤ c.numbers.number-index = search rules in
    sym (listed_end (decided_entry c.args.self.now.decisions.now) c.numbers-numbers.result.now c.numbers.number-index c.numbers.found.items past tree i)
    ∙ c.numbers.invariant.0 tree i
    ∙ ap (λ l. map (entry_from tree i) c.args.found.now.items ++ l)
    (ap (map (decided_entry c.args.self.now.decisions.now tree i)) (c.numbers-numbers.ensures.numbers (map decided_name c.args.self.now.decisions.now) c.args.self.now.decided_named)
    ∙ sym (decided_are c.args.name.now c.args.self.now.decisions.now tree i))

pub returns-clause-origins_exist : goal.returns-clause-origins_exist
returns-clause-origins_exist c = c.numbers.invariant.1
