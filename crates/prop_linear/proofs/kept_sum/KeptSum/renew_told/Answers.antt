use Rattle.std.proofs.Common.{◌≡◌, ℕ, Vec, refl, rules, subst, sym, true}
use Rattle.std.specs.Global.{Global}
use Rattle.prop_linear.specs.Balances.{box_of}
use Rattle.prop_linear.specs.KeptSums.{SumsUp}
use Rattle.prop_linear.proofs.Renewing.{sums_popped}
use Rattle.prop_linear.proofs.kept_sum.KeptSum.renew_told.Goals as goal

pub cells-preserved : goal.cells-preserved
cells-preserved c =
    let d = c.args.difference.now in
    let met : c.renew_cell.result ≡ true = search rules in
    record {
      sums = subst (λ (v : Vec ℕ Global). SumsUp v.items d.constant d.parts.now (box_of d) c.renew_cell.new.self) (sym c.renew_cell.ensures.told)
          (c.renew_cell.ensures.renewed c.pop.new.self.items met (sums_popped _ d c.cells.self _ c.cells.invariant.sums (search rules) refl refl refl));
      places = c.renew_cell.ensures.places;
    }
