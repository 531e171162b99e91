use Rattle.std.proofs.Common.{ℕ, get_or}
use Rattle.std.proofs.lemmas.List.{get_or_default}
use Rattle.term_program.specs.Drafts.{draft_root, draft_things}
use Rattle.term_program.specs.Mentions.{term_lists}
use Rattle.term_program.proofs.Lists.{gained_next}
use Rattle.term_program.proofs.mentions.Mentions.put_terms.Goals as goal

pub ids-preserved : goal.ids-preserved
ids-preserved c =
    let id : ℕ = get_or c.args.ids.now c.ids.id-index 0 in
    gained_next (term_lists (draft_root c.args.draft.now) (draft_things c.args.draft.now)) c.args.self.now c.ids.self c.put_term.new.self c.args.ids.now c.ids.id-index id c.ids-test.true
    (get_or_default c.args.ids.now c.ids.id-index 0 id c.ids-test.true) c.ids.invariant c.in_ok-put_term.ensures
