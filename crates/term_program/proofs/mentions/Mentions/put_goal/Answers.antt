use Rattle.std.proofs.Common.{◌∙◌, List, OnOk, Option, ap, subst, sym, ℕ}
use Rattle.term_goals.specs.declared.goal.Goal.{Goal}
use Rattle.term_program.specs.Drafts.{draft_root, draft_things}
use Rattle.term_program.specs.Mentions.{Gained, goal_ids, term_lists}
use Rattle.term_program.proofs.Lists.{gained_none}
use Rattle.term_program.proofs.mentions.Mentions.put_goal.Goals as goal

pub returns-in-Some : goal.returns-in-Some
returns-in-Some c =
    let lists = term_lists (draft_root c.args.draft.now) (draft_things c.args.draft.now) in
    subst (λ (xs : List ℕ). OnOk c.put_terms.result (Gained lists c.args.self.now c.put_terms.new.self xs)) (c.terms.ensures ∙ sym (ap goal_ids c.in-Some.is)) c.put_terms.ensures

pub returns-in-None : goal.returns-in-None
returns-in-None c =
    let lists = term_lists (draft_root c.args.draft.now) (draft_things c.args.draft.now) in
    subst (λ (o : Option Goal). Gained lists c.args.self.now c.args.self.now (goal_ids o)) (sym c.in-None.is) (gained_none lists c.args.self.now c.requires.lists)
