use Rattle.std.proofs.Common.{◌<◌, length, arith, rules, option_map}
use Rattle.term_math.specs.Shown.{box_in, ends_of}
use Rattle.term_math.proofs.Reaching.{sets_still}
use Rattle.term_math.proofs.ranges.with_last.Goals as goal

pub returns-then-not-is_empty : goal.returns-then-not-is_empty
returns-then-not-is_empty c =
    let some : 0 < length c.args.sets.now = first_of (search rules, grind arith) in
    sets_still (box_in c.args.view.now) c.args.sets.now c.args.elements.now (option_map ends_of c.args.found) some c.requires.wide c.requires.complete
