use Rattle.std.proofs.Common.{◌<◌, ◌∙◌, arith, inl, inr, length, rules}
use Rattle.std.proofs.lemmas.Bool.{cases_eq}
use Rattle.prop_goal.proofs.Scenarios.{beaten_whole, end_kept, one_more, open_whole}
use Rattle.prop_goal.proofs.kept_worst.KeptWorst.is_beaten_by.Goals as goal

pub returns-then-is_no_better : goal.returns-then-is_no_better
returns-then-is_no_better c =
    let q = c.args.probe.now in
    let k = c.args.self.now.parts in
    let exists : c.scenarios.number < length k.ends.items = search rules in
    let below : c.scenarios.number < length k.atoms.items = omega (arith, exists, c.requires.fits.one_each.ends) in
    beaten_whole q k.atoms.items c.args.best.value c.scenarios.number c.requires.asked c.requires.reason c.requires.best c.requires.fits.are below
    (end_kept q k c.scenarios.number c.args.best.value c.index.result.now c.direction.result c.is_no_better.result c.requires.asked c.requires.fits.one_each c.requires.seen below c.index.ensures
    c.direction.ensures c.is_no_better.ensures ∙ c.if-is_no_better.true)

pub scenarios-preserved : goal.scenarios-preserved
scenarios-preserved c = λ i under.
    let q = c.args.probe.now in
    let k = c.args.self.now.parts in
    let exists : c.scenarios.number < length k.ends.items = search rules in
    let below : c.scenarios.number < length k.atoms.items = omega (arith, exists, c.requires.fits.one_each.ends) in
    elim (cases_eq i c.scenarios.number) [
      | inl same ↦ one_more q k.atoms.items i c.scenarios.number c.args.best.value same
          (end_kept q k c.scenarios.number c.args.best.value c.index.result.now c.direction.result c.is_no_better.result c.requires.asked c.requires.fits.one_each c.requires.seen below c.index.ensures
          c.direction.ensures c.is_no_better.ensures ∙ c.if-is_no_better.false)
      | inr other ↦ c.scenarios.invariant i (omega (arith, under, other))
    ]

pub returns : goal.returns
returns c =
    let q = c.args.probe.now in
    let k = c.args.self.now.parts in
    open_whole q k.atoms.items c.args.best.value c.requires.asked c.requires.reason c.requires.best c.requires.fits.are
    (λ i below. c.scenarios.invariant i (omega (arith, below, c.requires.fits.one_each.ends, c.scenarios-test.false)))
