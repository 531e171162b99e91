use Rattle.std.proofs.Common.{ℤ, pos, get_or, sym, ◌∙◌}
use Rattle.std.proofs.lemmas.List.{get_or_default}
use Rattle.term_math.proofs.Covering.{number_there}
use Rattle.term_math.proofs.ranges.has_number_at.Goals as goal

pub returns-then-is_same : goal.returns-then-is_same
returns-then-is_same c =
    let here : ℤ = get_or c.args.set.now c.args.place (pos 0) in
    sym (number_there c.args.number.now c.args.set.now c.args.place here c.if-place-set.true
    (get_or_default c.args.set.now c.args.place (pos 0) here c.if-place-set.true) (sym c.is_same.ensures ∙ c.if-is_same.true))
