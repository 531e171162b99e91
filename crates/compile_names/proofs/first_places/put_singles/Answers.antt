use Rattle.std.proofs.Common.{◌∙◌, ap, [], ◌∷◌, ◌++◌, rules, SFits, w64}
use Rattle.std.proofs.lemmas.Int.{to_z-of_z}
use Rattle.compile_names.proofs.Singles.{one_more}
use Rattle.compile_names.proofs.first_places.put_singles.Goals as goal

pub singles-preserved : goal.singles-preserved
singles-preserved c =
    let fits : SFits w64 c.in-Some.number = search rules in
    one_more c.args.index.now.items c.args.sets.now c.singles.index.items c.push.new.self.items c.singles.left.now c.in-Some.later.now c.in-Some.number
    c.in-Some.ensures.number c.in-Some.ensures.fewer
    (c.in_ok-push.ensures.items ∙ ap (λ n. c.singles.index.items ++ n ∷ []) (to_z-of_z w64 c.in-Some.number fits)) c.singles.invariant
