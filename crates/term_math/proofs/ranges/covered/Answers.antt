use Rattle.std.proofs.Common.{◌<ℤ◌, arith, rules, ap, sym, ◌∙◌}
use Rattle.std.proofs.lemmas.Int.{ints}
use Rattle.term_language.specs.Arrays.{is_covered}
use Rattle.term_language.specs.Ends.{Ends}
use Rattle.term_math.proofs.Covering.{next_covered}
use Rattle.term_math.proofs.ranges.covered.Goals as goal

pub loop-left-preserved : goal.loop-left-preserved
loop-left-preserved c =
    let below : c.loop-left.left.low <ℤ c.loop-left.left.high = first_of (search rules, grind (arith, ints)) in
    c.loop-left.invariant
    ∙ next_covered c.loop-left.left.low c.loop-left.left.high c.args.set.now (sym c.has_number_at.ensures ∙ c.loop-left-test.true) below
    ∙ ap (λ (a : Ends). is_covered a c.args.set.now) (sym c.behind_first-left.ensures)
