use Rattle.std.proofs.Common.{◌≡◌, ℕ, length, rules, subst}
use Rattle.prop_linear.specs.KeptSums.{HasPlaces}
use Rattle.prop_linear.proofs.Watched.{constraint_looks}
use Rattle.prop_linear.proofs.comparisons.Linear.new.Goals as goal

pub returns-clause-fits : goal.returns-clause-fits
returns-clause-fits c =
    let made = c.in_ok-constraint.constraint in
    let read = c.in_ok-constraint.ensures in
    let same : c.len-parts.result ≡ length made.parts.items = search rules in
    record {
      constraint = read.fits;
      watched = read.watched;
      listed = read.listed;
      looks = constraint_looks made c.args.program.now read.fits read.watched;
      places = subst (λ (n : ℕ). HasPlaces n c.in_ok-sum.sum) same c.in_ok-sum.ensures.places;
    }
