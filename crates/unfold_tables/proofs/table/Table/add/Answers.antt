use Rattle.std.proofs.Common.{sym, ap, ◌∙◌, ◌++◌, is_ok}
use Rattle.unfold_tables.specs.Tables.{constants_in, sets_in, constants_under, sets_under}
use Rattle.unfold_tables.proofs.Placing.{within_pushed, passed_pushed, constants_more, sets_more, placed_as}
use Rattle.unfold_tables.proofs.table.Table.add.Goals as goal

pub invariant_of-self : goal.invariant_of-self
invariant_of-self c =
    let known = placed_as _ _ c.place.new.self.places.entries (sym (c.in_ok-name.ensures.items ∙ c.as_slice.ensures.bytes)) c.in_ok-place.ensures.placed in
    record {
      within = within_pushed (is_ok c.push.result) c.place.new.self.places.entries c.place.new.self.entries.items _ _ c.push.ensures.items known
          c.place.new.self.within c.place.new.self.passed;
      passed = passed_pushed (is_ok c.push.result) c.place.new.self.places.entries c.place.new.self.entries.items _ _ c.push.ensures.items known
          c.place.new.self.within c.place.new.self.passed;
    }

pub returns-clause-constants : goal.returns-clause-constants
returns-clause-constants c =
    ap constants_in c.in_ok-push.ensures.items
    ∙ constants_more c.place.new.self.entries.items _
    ∙ (λ i. constants_in (c.place.ensures.entries i) ++ constants_under ((c.in_ok-name.ensures.items ∙ c.as_slice.ensures.bytes) i) c.args.entity)

pub returns-clause-sets : goal.returns-clause-sets
returns-clause-sets c =
    ap sets_in c.in_ok-push.ensures.items
    ∙ sets_more c.place.new.self.entries.items _
    ∙ (λ i. sets_in (c.place.ensures.entries i) ++ sets_under ((c.in_ok-name.ensures.items ∙ c.as_slice.ensures.bytes) i) c.args.entity)
