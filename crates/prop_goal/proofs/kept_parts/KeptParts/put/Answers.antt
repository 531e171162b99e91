use Rattle.std.proofs.Common.{ap, false, length, length-set, refl, ◌∙◌}
use Rattle.prop_goal.proofs.kept_parts.KeptParts.put.Goals as goal

pub returns : goal.returns
returns c =
    let k = c.args.self.now in
    record {
      put = record { atoms = refl; ends = refl; waits = c.wait_no_more.ensures.waits; listed = c.wait_no_more.ensures.listed; left = c.wait_no_more.ensures.left; told = c.wait_no_more.ensures.told };
      alike = record {
        atoms = refl;
        ends = length-set k.ends.items c.args.number c.args.ends.now;
        waits = ap (λ list. length list) c.wait_no_more.ensures.waits ∙ length-set k.outdated.waits.items c.args.number false;
      };
    }
