use Rattle.std.proofs.Common.{refl}
use Rattle.prop_linear.proofs.Renewing.{sums_told}
use Rattle.prop_linear.proofs.kept_sum.KeptSum.tell.Goals as goal

pub returns-then-len-capacity-clause-sums : goal.returns-then-len-capacity-clause-sums
returns-then-len-capacity-clause-sums c = λ constant parts b d agree sums known.
    sums_told constant parts b d c.args.cell c.args.self.now _ refl refl refl c.push_reserved.ensures.items agree (sums known)
