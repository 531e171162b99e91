use Rattle.std.proofs.Common.{get_or, pos}
use Rattle.std.proofs.lemmas.List.{get_or_default}
use Rattle.term_math.specs.declared.forms.Coefficient.{Coefficient}
use Rattle.prop_linear.proofs.balances.Difference.part_at.Goals as goal

pub part-requires-clause-own_part : goal.part-requires-clause-own_part
part-requires-clause-own_part c =
    let parts = c.args.self.now.parts.now in
    let none : Coefficient = record { cell = 0; k = pos 0 } in
    (c.args.place, c.requires.exists, get_or_default parts c.args.place (get_or parts c.args.place none) none c.requires.exists)
