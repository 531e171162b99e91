use Rattle.std.proofs.Common.{◌≡◌, length, subst, sym}
use Rattle.prop_shave.specs.GoalSums.{AreParts, parts_over}
use Rattle.prop_chance.proofs.Turned.{none_kept}
use Rattle.prop_goal.specs.KeptParts.{touches}
use Rattle.prop_goal.proofs.KeptEnds.{none_summed}
use Rattle.prop_goal.proofs.kept_ends.KeptEnds.new.Goals as goal

pub returns-clause-fits : goal.returns-clause-fits
returns-clause-fits c = λ program expected are.
    let same = sym c.in_ok-parts.ensures.atoms in
    record {
      expected = expected;
      are = subst (λ list. AreParts program list.items) same are;
      one_each = record {
        ends = subst (λ list. length c.in_ok-parts.parts.ends.items ≡ length list.items) same c.in_ok-parts.ensures.ends;
        waits = subst (λ list. length c.in_ok-parts.parts.outdated.waits.items ≡ length list.items) same c.in_ok-parts.ensures.waits;
      };
      turns = c.in_ok-turns.ensures.room;
    }

pub returns-clause-keeps : goal.returns-clause-keeps
returns-clause-keeps c = λ program list b is.
    let k = c.in_ok-parts.parts in
    record {
      parts = c.in_ok-parts.ensures.keeps program b;
      summed = none_summed program (record { parts = k; end = c.args.constant; turns = c.in_ok-turns.turns }) c.in_ok-parts.ensures.cleared is;
      turns = none_kept (parts_over program k.atoms.items) (touches program k.atoms.items) (length k.atoms.items) b k.outdated list c.in_ok-turns.turns c.in_ok-turns.ensures.none;
    }
