use Rattle.prop_shave.proofs.Reaching.{part_seen}
use Rattle.prop_shave.proofs.part_ends.see_part.Goals as goal

pub returns : goal.returns
returns c =
    part_seen c.args.program.now c.args.store.now.box c.args.atom.now c.range_of-range.result c.in_ok-better.better c.worse_in-worse.result c.direction.result c.range_of-range.ensures.interval
    c.range_of-range.ensures.mark c.direction.ensures c.in_ok-better.ensures c.worse_in-worse.ensures.always c.worse_in-worse.ensures.worse
