use Rattle.std.proofs.Common.{rules, ◌≡◌, sym, ◌∙◌, ℤ, pos, get_or, w64, SFits, to_z, of_z}
use Rattle.std.proofs.lemmas.Int.{to_z-of_z}
use Rattle.unfold_tables.proofs.Distinct.{distinct_more, distinct_twice}
use Rattle.unfold_tables.proofs.TooMany.{was_seen, was_new}
use Rattle.unfold_tables.proofs.lists.all_distinct.Goals as goal

pub returns-then-not-branch : goal.returns-then-not-branch
returns-then-not-branch c =
    let x : ℤ = get_or c.args.numbers.now c.numbers.number-index (pos 0) in
    let fits : SFits w64 x = search rules in
    let is : to_z w64 (of_z w64 x) ≡ x = to_z-of_z w64 x fits in
    sym (distinct_twice c.args.numbers.now c.numbers.number-index c.numbers.seen (to_z w64 (of_z w64 x)) c.numbers-test.true is
    (was_seen _ _ c.in_ok-insert.ensures.added c.if-not-branch.true))
    ∙ c.numbers.invariant

pub numbers-preserved : goal.numbers-preserved
numbers-preserved c =
    let x : ℤ = get_or c.args.numbers.now c.numbers.number-index (pos 0) in
    let fits : SFits w64 x = search rules in
    let is : to_z w64 (of_z w64 x) ≡ x = to_z-of_z w64 x fits in
    distinct_more c.args.numbers.now c.numbers.number-index c.numbers.seen (to_z w64 (of_z w64 x)) c.insert.new.self c.numbers-test.true is
    (was_new _ _ c.in_ok-insert.ensures.added c.if-not-branch.false) c.in_ok-insert.ensures.updates
    ∙ c.numbers.invariant
