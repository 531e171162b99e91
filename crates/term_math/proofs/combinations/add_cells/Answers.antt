use Rattle.std.proofs.Common.{arith, ℤ, pos, List, ◌-◌, ◌+◌, ◌<◌, ◌^◌, ◌*ℤ◌, unsigned_abs, get_or, ap, sym, subst}
use Rattle.term_language.specs.Forms as rule
use Rattle.term_math.specs.declared.combinations.WideCoefficient.{WideCoefficient}
use Rattle.term_math.specs.declared.forms.Coefficient.{Coefficient}
use Rattle.term_math.specs.Sums.{nonzero, mass}
use Rattle.term_math.proofs.Weights.{room_back}
use Rattle.term_math.proofs.combinations.add_cells.Goals as goal

pub put-requires : goal.put-requires
put-requires c =
    let is = ap (λ (r : WideCoefficient). r.k) c.times.ensures in
    let none : Coefficient = record { cell = 0; k = pos 0 } in
    let k : ℤ = c.args.factor.now.value *ℤ (get_or c.args.more.now (c.loop-i.i - 1) none).k in
    record {
      room =
          subst (λ (z : ℤ). mass (nonzero c.loop-i.cells.entries) + unsigned_abs z < 2 ^ 127) (sym is)
          (subst (λ (cells : List rule.Coefficient). mass cells + unsigned_abs k < 2 ^ 127) (sym c.loop-i.invariant)
          (room_back c.args.factor.now.value (nonzero c.args.cells.now.entries) c.args.more.now c.loop-i.i none c.loop-i-test.true c.loop-i.auto.i c.requires.room));
    }

pub times-requires : goal.times-requires
times-requires c =
    let none : Coefficient = record { cell = 0; k = pos 0 } in
    let all = room_back c.args.factor.now.value (nonzero c.args.cells.now.entries) c.args.more.now c.loop-i.i none c.loop-i-test.true c.loop-i.auto.i c.requires.room in
    record { room = omega (arith, all) }
