use Rattle.std.proofs.Common.{◌≡◌, rules, subst}
use Rattle.prop_shave.specs.Opened.{IsOpen}
use Rattle.prop_shave.proofs.probes.Probe.bound_stays_open.Goals as goal

pub returns : goal.returns
returns c = record {
  stays = λ is.
      let same : c.args.counted.now.cell ≡ c.args.cell = search rules in
      subst (IsOpen c.args.self.now) same (c.bound_stays_open_at.ensures.stays is);
}
