use Rattle.std.proofs.Common.{rules, ◌≡◌, pos, to_z}
use Rattle.std.specs.Int.{w128}
use Rattle.unfold_tables.proofs.sizes.checked_count.Goals as goal

pub returns : goal.returns
returns c count =
    let is : to_z w128 c.args.numbers ≡ pos c.args.numbers = search rules in
    c.checked_size.ensures c.args.numbers count is
