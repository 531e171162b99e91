use Rattle.std.proofs.Common.{rules, ◌≤◌, ◌<◌, sym, ap, ◌∙◌, [], length, map}
use Rattle.term_language.specs.Arrays.{item_in}
use Rattle.compile_names.specs.Variables.{decided_entry, decided_name}
use Rattle.compile_names.proofs.FirstScalar.{scalar_here, scalar_later, scalar_none}
use Rattle.compile_names.proofs.Listing.{number_exists, decided_are}
use Rattle.compile_names.proofs.setting.Scenarios.decided_scalar.Goals as goal

pub decided_source-source-requires : goal.decided_source-source-requires
decided_source-source-requires c =
    let within : c.numbers.number-index < length c.numbers-numbers.result.now = search rules in
    record {
      exists =
          number_exists decided_name c.args.self.now.decisions.now c.args.name.now c.numbers-numbers.result.now c.numbers.number-index
          (c.numbers-numbers.ensures.numbers (map decided_name c.args.self.now.decisions.now) c.args.self.now.decided_named) within;
    }

pub numbers-preserved : goal.numbers-preserved
numbers-preserved c tree i =
    let within : c.numbers.number-index < length c.numbers-numbers.result.now = search rules in
    scalar_later (decided_entry c.args.self.now.decisions.now) c.numbers-numbers.result.now c.numbers.number-index c.decided_source-source.result within
    c.decided_source-source.ensures.element tree i _
    c.is_empty.result c.is_empty.ensures c.if-is_empty.false (c.numbers.invariant tree i)

pub returns-then-is_empty-clause-item : goal.returns-then-is_empty-clause-item
returns-then-is_empty-clause-item c tree i =
    let within : c.numbers.number-index < length c.numbers-numbers.result.now = search rules in
    scalar_here (decided_entry c.args.self.now.decisions.now) c.numbers-numbers.result.now c.numbers.number-index c.decided_source-source.result within c.decided_source-source.ensures.element tree i _
    c.is_empty.result c.is_empty.ensures c.if-is_empty.true (c.numbers.invariant tree i)
    ∙ ap (λ numbers. item_in (map (decided_entry c.args.self.now.decisions.now tree i) numbers) [])
    (c.numbers-numbers.ensures.numbers (map decided_name c.args.self.now.decisions.now) c.args.self.now.decided_named)
    ∙ sym (ap (λ entries. item_in entries []) (decided_are c.args.name.now c.args.self.now.decisions.now tree i))

pub returns-clause-item : goal.returns-clause-item
returns-clause-item c tree i =
    let past : length c.numbers-numbers.result.now ≤ c.numbers.number-index = search rules in
    scalar_none (decided_entry c.args.self.now.decisions.now tree i) c.numbers-numbers.result.now c.numbers.number-index _ past (c.numbers.invariant tree i)
    ∙ ap (λ numbers. item_in (map (decided_entry c.args.self.now.decisions.now tree i) numbers) [])
    (c.numbers-numbers.ensures.numbers (map decided_name c.args.self.now.decisions.now) c.args.self.now.decided_named)
    ∙ sym (ap (λ entries. item_in entries []) (decided_are c.args.name.now c.args.self.now.decisions.now tree i))
