use Rattle.std.proofs.Common.{refl}
use Rattle.term_program.specs.Drafts.{draft_things}
use Rattle.term_math.specs.Shown.{box_in}
use Rattle.term_program.proofs.Listing.{node_listed}
use Rattle.term_program.proofs.globals.GlobalTerms.put_next.Goals as goal

pub returns : goal.returns
returns c =
    let here = c.here-here.result in
    let at = c.in-Some.ensures.some (box_in here.root) c.here-here.ensures.ready.built in
    c.in_ok-put.ensures (draft_things c.args.draft.now) c.requires.before
    (node_listed (box_in here.root) here.items.now (draft_things c.args.draft.now) c.args.id c.in-Some.item.now c.in_ok-terms.terms.items c.here-here.ensures.things at (c.in-Some.ensures.exists refl)
    c.in_ok-terms.ensures)
