use Rattle.std.proofs.Common.{ap}
use Rattle.term_math.specs.Shown.{ends_of}
use Rattle.term_math.specs.Kept.{sets_of}
use Rattle.term_math.specs.Within.{ranges_of, wide_sets}
use Rattle.term_math.proofs.Lacking.{lacks_later}
use Rattle.term_math.proofs.Reaching.{wide_first}
use Rattle.term_math.proofs.ranges.+is_lacking.Goals as goal

pub returns : goal.returns
returns t c =
    λ told.
    lacks_later (ranges_of c.args.ranges.now) (ends_of c.in-First.ends) (ranges_of c.in-First.later.now) (wide_sets (sets_of c.args.sets.now)) c.as_slice.result.now
    (wide_sets (sets_of c.in-Some.behind.now)) (ap ranges_of c.in-First.is)
    (wide_first c.args.sets.now c.from_wide-wide.result.now c.in-Some.set.now c.in-Some.behind.now c.as_slice.result.now c.from_wide-wide.ensures.same
    c.from_wide-wide.ensures.first c.in-Some.ensures.cases.0 c.as_slice.ensures.value) (c.is_lacking.ensures told)
