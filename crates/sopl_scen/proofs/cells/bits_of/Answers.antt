use Rattle.std.proofs.lemmas.Int.{to_z-of_z}
use Rattle.std.proofs.Common.{rules, w64, to_z, of_z, SFits, ◌≡◌, ◌∙◌, ◌≤◌, ◌^◌, pos, refl, sym, ap, subst}
use Rattle.sopl_ast.specs.Instances.{Decision}
use Rattle.sopl_scen.specs.Stages.{bit_count, cell_count}
use Rattle.unfold_laws.specs.Bounds.{IsBoundedDecision}
use Rattle.sopl_scen.proofs.Digits.{AreBits, bits_read, bit_value, bit_few}
use Rattle.sopl_scen.proofs.cells.bits_of.Goals as goal

abbrev seen : (c : goal.After-product) → Decision
seen c = record { name = c.decision.inside.name; index = c.decision.inside.index; lo = c.decision.inside.lo; hi = c.decision.inside.hi; stage = c.decision.inside.stage }

bounded : (c : goal.After-product) → IsBoundedDecision (seen c)
bounded c = subst IsBoundedDecision (sym c.decision.view_is) c.requires.bounded

low : (c : goal.After-product) → to_z w64 (of_z w64 c.decision.inside.lo) ≡ c.decision.inside.lo
low c =
    let fits : SFits w64 c.decision.inside.lo = search rules in
    to_z-of_z w64 c.decision.inside.lo fits

high : (c : goal.After-product) → to_z w64 (of_z w64 c.decision.inside.hi) ≡ c.decision.inside.hi
high c =
    let fits : SFits w64 c.decision.inside.hi = search rules in
    to_z-of_z w64 c.decision.inside.hi fits

digits : (c : goal.After-product) → AreBits (seen c) c.bits.result
digits c =
    bits_read (seen c) (to_z w64 (of_z w64 c.decision.inside.lo)) (to_z w64 (of_z w64 c.decision.inside.hi)) c.bits.result (low c) (high c)
    c.bits.ensures.none c.bits.ensures.enough c.bits.ensures.least

pub returns-clause-value : goal.returns-clause-value
returns-clause-value c =
    c.product.ensures
    ∙ (ap pos (bit_value c.args.stages.now (seen c) c.bits.result (cell_count c.args.stages.now (seen c)) (bounded c) (digits c) refl)
    ∙ ap (λ (d : Decision). pos (bit_count c.args.stages.now d)) c.decision.view_is)

pub returns-clause-few : goal.returns-clause-few
returns-clause-few c =
    subst (λ (d : Decision). bit_count c.args.stages.now d ≤ 2 ^ 40) c.decision.view_is
    (bit_few c.args.stages.now (seen c) c.bits.result (cell_count c.args.stages.now (seen c)) (bounded c) (digits c) refl
    (c.requires.fewer (seen c).stage (bounded c).stage))
