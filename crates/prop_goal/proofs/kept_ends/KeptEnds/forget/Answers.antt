use Rattle.std.proofs.Common.{length, sym}
use Rattle.prop_shave.specs.GoalSums.{parts_over}
use Rattle.prop_chance.proofs.Turned.{none_kept}
use Rattle.prop_goal.specs.KeptParts.{touches}
use Rattle.prop_goal.specs.declared.kept_ends.KeptEnds.{KeptEnds}
use Rattle.prop_goal.proofs.KeptEnds.{ends_fit, none_summed}
use Rattle.prop_goal.proofs.KeptParts.{alike_back}
use Rattle.prop_goal.proofs.kept_ends.KeptEnds.forget.Goals as goal

pub returns : goal.returns
returns c =
    let parts = c.forget.new.self in
    let k : KeptEnds = record { parts = parts; end = c.args.constant; turns = c.forget_all.new.self } in
    record {
      keeps = λ program list b is. record {
        parts = c.forget.ensures.keeps program b;
        summed = none_summed program k c.forget.ensures.cleared is;
        turns = none_kept (parts_over program parts.atoms.items) (touches program parts.atoms.items) (length parts.atoms.items) b parts.outdated list k.turns c.forget_all.ensures.none;
      };
      fits = ends_fit c.args.self.now k c.forget.ensures.alike c.forget_all.ensures.room;
      fitted = ends_fit k c.args.self.now (alike_back c.args.self.now.parts parts c.forget.ensures.alike) (sym c.forget_all.ensures.room);
      atoms = c.forget.ensures.alike.atoms;
    }
