use Rattle.std.proofs.Common.{rules, ◌≡◌, pos, false, int_eq, ◌∙◌}
use Rattle.std.proofs.lemmas.Int.{to_z-of_z}
use Rattle.std.specs.Int.{w64}
use Rattle.unfold_tables.proofs.Quotients.{quotient_is}
use Rattle.unfold_tables.proofs.numbers.quotient.Goals as goal

pub returns : goal.returns
returns c =
    let nonzero : int_eq c.args.y (pos 0) ≡ false = search rules in
    quotient_is c.args.x c.args.y _ _ _ (c.from.ensures ∙ to_z-of_z w64 c.args.x c.ranges.x) (c.from-2.ensures ∙ to_z-of_z w64 c.args.y c.ranges.y)
    c.ranges.x c.ranges.y nonzero c.within.ensures.value
