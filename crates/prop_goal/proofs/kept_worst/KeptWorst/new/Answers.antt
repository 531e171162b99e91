use Rattle.std.proofs.Common.{◌≡◌, length, subst, sym}
use Rattle.prop_goal.specs.KeptWorst.{AreWorst}
use Rattle.prop_goal.proofs.kept_worst.KeptWorst.new.Goals as goal

pub returns-clause-fits : goal.returns-clause-fits
returns-clause-fits c = λ program are.
    let same = sym c.in_ok-parts.ensures.atoms in
    record {
      are = subst (λ list. AreWorst program list.items) same are;
      one_each = record {
        ends = subst (λ list. length c.in_ok-parts.parts.ends.items ≡ length list.items) same c.in_ok-parts.ensures.ends;
        waits = subst (λ list. length c.in_ok-parts.parts.outdated.waits.items ≡ length list.items) same c.in_ok-parts.ensures.waits;
      };
    }
