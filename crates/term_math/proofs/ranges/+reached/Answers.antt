use Rattle.std.proofs.Common.{ℕ, ◌+◌, ℤ, pos, length, drop, take, get_or, option_map, arith, ap, sym, ◌∙◌}
use Rattle.std.proofs.lemmas.List.{get_or_default}
use Rattle.term_language.specs.Arrays.{indices}
use Rattle.term_math.specs.Shown.{box_in, ends_of}
use Rattle.term_math.specs.Kept.{items_of, sets_of}
use Rattle.term_math.specs.Within.{grown, ranges_of, wide_sets}
use Rattle.term_math.proofs.Reaching.{of_blocks, wide_first, sets_first, sets_count, first_over, left_over, block_reached, block_passed, no_number, width_is}
use Rattle.term_math.proofs.ranges.+reached.Goals as goal

pub loop-number-init : goal.loop-number-init
loop-number-init t c = (
  ap (grown (option_map ends_of c.args.found)) (sets_first (box_in c.args.view.now) (ranges_of c.args.ranges.now) (ends_of c.in-First.ends) (ranges_of c.in-First.later.now)
      (wide_sets (sets_of c.args.sets.now)) c.as_slice-numbers.result.now (wide_sets (sets_of c.in-Some.behind.now)) (items_of c.args.elements.now) (ap ranges_of c.in-First.is)
      (wide_first c.args.sets.now c.from_wide-wide.result.now c.in-Some.set.now c.in-Some.behind.now c.as_slice-numbers.result.now c.from_wide-wide.ensures.same
      c.from_wide-wide.ensures.first c.in-Some.ensures.cases.0 c.as_slice-numbers.ensures.value)),
  c.requires.complete ∙ sets_count (wide_sets (sets_of c.args.sets.now)) c.as_slice-numbers.result.now (wide_sets (sets_of c.in-Some.behind.now))
      (wide_first c.args.sets.now c.from_wide-wide.result.now c.in-Some.set.now c.in-Some.behind.now c.as_slice-numbers.result.now c.from_wide-wide.ensures.same
      c.from_wide-wide.ensures.first c.in-Some.ensures.cases.0 c.as_slice-numbers.ensures.value),
)

pub split_at-requires : goal.split_at-requires
split_at-requires t c =
    let numbers = c.as_slice-numbers.result.now in
    let wide : ℕ = length (indices (wide_sets (sets_of c.in-Some.behind.now))) in
    let is = width_is c.args.elements.now (wide_sets (sets_of c.args.sets.now)) numbers (wide_sets (sets_of c.in-Some.behind.now)) c.width-width.result c.loop-number.number-index
    c.width-width.ensures c.loop-number-test.true
    (wide_first c.args.sets.now c.from_wide-wide.result.now c.in-Some.set.now c.in-Some.behind.now c.as_slice-numbers.result.now c.from_wide-wide.ensures.same
    c.from_wide-wide.ensures.first c.in-Some.ensures.cases.0 c.as_slice-numbers.ensures.value) c.requires.complete in
    omega (arith, is, first_over numbers wide c.loop-number.left.now c.loop-number.number-index c.loop-number-test.true c.loop-number.invariant.1)

pub loop-number-preserved-then-not-has : goal.loop-number-preserved-then-not-has
loop-number-preserved-then-not-has t c =
    let numbers = c.as_slice-numbers.result.now in
    let i = c.loop-number.number-index in
    let number : ℤ = get_or numbers i (pos 0) in
    let left = c.loop-number.left.now in
    let first = c.split_at.result.0.now in
    let rest = c.split_at.result.1.now in
    let sets = wide_sets (sets_of c.in-Some.behind.now) in
    let wide : ℕ = length (indices sets) in
    let is = width_is c.args.elements.now (wide_sets (sets_of c.args.sets.now)) numbers (wide_sets (sets_of c.in-Some.behind.now)) c.width-width.result c.loop-number.number-index
    c.width-width.ensures c.loop-number-test.true
    (wide_first c.args.sets.now c.from_wide-wide.result.now c.in-Some.set.now c.in-Some.behind.now c.as_slice-numbers.result.now c.from_wide-wide.ensures.same
    c.from_wide-wide.ensures.first c.in-Some.ensures.cases.0 c.as_slice-numbers.ensures.value) c.requires.complete in (
      sym (block_passed (box_in c.args.view.now) (ends_of c.in-First.ends) (ranges_of c.in-First.later.now) sets numbers i number left first rest c.loop-number-test.true
          (get_or_default numbers i (pos 0) number c.loop-number-test.true) c.loop-number.invariant.1
          (c.split_at.ensures.front ∙ ap (λ (n : ℕ). take n left) is) (c.split_at.ensures.back ∙ ap (λ (n : ℕ). drop n left) is) (option_map ends_of c.loop-number.hull) (sym c.has.ensures
          ∙ c.if-not-has.true))
          ∙ c.loop-number.invariant.0,
      left_over numbers wide left rest i c.loop-number-test.true c.loop-number.invariant.1 (omega (arith, is, c.split_at.ensures.back_len)),
    )

pub reached-hull-requires : goal.reached-hull-requires
reached-hull-requires t c =
    let numbers = c.as_slice-numbers.result.now in
    let wide : ℕ = length (indices (wide_sets (sets_of c.in-Some.behind.now))) in
    let is = width_is c.args.elements.now (wide_sets (sets_of c.args.sets.now)) numbers (wide_sets (sets_of c.in-Some.behind.now)) c.width-width.result c.loop-number.number-index
    c.width-width.ensures c.loop-number-test.true
    (wide_first c.args.sets.now c.from_wide-wide.result.now c.in-Some.set.now c.in-Some.behind.now c.as_slice-numbers.result.now c.from_wide-wide.ensures.same
    c.from_wide-wide.ensures.first c.in-Some.ensures.cases.0 c.as_slice-numbers.ensures.value) c.requires.complete in
    (omega (arith, ap (λ rs. length (ranges_of rs)) c.in-First.is), c.split_at.ensures.front_len ∙ is)

pub loop-number-preserved : goal.loop-number-preserved
loop-number-preserved t c =
    let numbers = c.as_slice-numbers.result.now in
    let i = c.loop-number.number-index in
    let number : ℤ = get_or numbers i (pos 0) in
    let left = c.loop-number.left.now in
    let first = c.split_at.result.0.now in
    let rest = c.split_at.result.1.now in
    let sets = wide_sets (sets_of c.in-Some.behind.now) in
    let wide : ℕ = length (indices sets) in
    let is = width_is c.args.elements.now (wide_sets (sets_of c.args.sets.now)) numbers (wide_sets (sets_of c.in-Some.behind.now)) c.width-width.result c.loop-number.number-index
    c.width-width.ensures c.loop-number-test.true
    (wide_first c.args.sets.now c.from_wide-wide.result.now c.in-Some.set.now c.in-Some.behind.now c.as_slice-numbers.result.now c.from_wide-wide.ensures.same
    c.from_wide-wide.ensures.first c.in-Some.ensures.cases.0 c.as_slice-numbers.ensures.value) c.requires.complete in (
      ap (λ (found : _). grown found (of_blocks (box_in c.args.view.now) (ends_of c.in-First.ends) (ranges_of c.in-First.later.now) (drop (i + 1) numbers) (indices sets) (items_of rest)))
          c.reached-hull.ensures
          ∙ sym (block_reached (box_in c.args.view.now) (ends_of c.in-First.ends) (ranges_of c.in-First.later.now) sets numbers i number left first rest c.loop-number-test.true
          (get_or_default numbers i (pos 0) number c.loop-number-test.true) c.loop-number.invariant.1
          (c.split_at.ensures.front ∙ ap (λ (n : ℕ). take n left) is) (c.split_at.ensures.back ∙ ap (λ (n : ℕ). drop n left) is) (option_map ends_of c.loop-number.hull) (sym c.has.ensures
          ∙ c.if-not-has.false))
          ∙ c.loop-number.invariant.0,
      left_over numbers wide left rest i c.loop-number-test.true c.loop-number.invariant.1 (omega (arith, is, c.split_at.ensures.back_len)),
    )

pub returns : goal.returns
returns t c =
    sym (no_number (box_in c.args.view.now) (ends_of c.in-First.ends) (ranges_of c.in-First.later.now)
    (wide_sets (sets_of c.in-Some.behind.now)) c.as_slice-numbers.result.now c.loop-number.number-index
    (items_of c.loop-number.left.now) (option_map ends_of c.loop-number.hull) c.loop-number-test.false)
    ∙ c.loop-number.invariant.0
