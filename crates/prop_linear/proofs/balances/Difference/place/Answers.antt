use Rattle.std.proofs.Common.{◌≡◌, get_or, rules}
use Rattle.std.proofs.lemmas.Fn.{always_returns_same}
use Rattle.std.specs.FinMap.{nat_cmp-IsAntisymmetric}
use Rattle.term_math.specs.declared.forms.Coefficient.{Coefficient}
use Rattle.prop_linear.proofs.balances.Difference.place.Goals as goal

pub returns-in-Ok : goal.returns-in-Ok
returns-in-Ok c = record {
  exists = c.in-Ok.ensures.bound;
  own = λ d.
      nat_cmp-IsAntisymmetric (get_or c.args.self.now.parts.now c.in-Ok.place d).cell c.args.cell
      (c.in-Ok.ensures.position (λ (x : Coefficient). x.cell) (always_returns_same _ (λ a r. r ≡ a.0.now.cell) _ (λ a r q k. search rules)) d);
}
