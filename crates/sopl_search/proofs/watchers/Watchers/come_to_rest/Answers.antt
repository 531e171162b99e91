use Rattle.std.proofs.Common.{◌≡◌, ◌∙◌, ap, drop, length, map, subst, sym}
use Rattle.box_problem.specs.Box.{Box}
use Rattle.prop_core.specs.Watches.{AllInStep}
use Rattle.sopl_search.proofs.Followed.{follows_at, given_back, same_highs, same_lows, still_watch}
use Rattle.sopl_search.proofs.Resting.{appended_inside}
use Rattle.sopl_search.proofs.watchers.Watchers.come_to_rest.Goals as goal

pub stand_at-requires-clause-lows : goal.stand_at-requires-clause-lows
stand_at-requires-clause-lows g c =
    let problem = g.P.Propagator.problem c.args.program.now in
    let after = c.fixpoint_kept-calm.new.store.box in
    ap (λ (b : Box). length b.lows) c.catch_up.ensures.ends
    ∙ same_lows c.args.store.now.box after problem.root c.requires.inside
    (appended_inside problem c.args.best c.args.store.now.box after c.args.steps.now c.fixpoint_kept-calm.new.steps c.requires.inside c.fixpoint_kept-calm.ensures.steps)

pub stand_at-requires-clause-highs : goal.stand_at-requires-clause-highs
stand_at-requires-clause-highs g c =
    let problem = g.P.Propagator.problem c.args.program.now in
    let after = c.fixpoint_kept-calm.new.store.box in
    ap (λ (b : Box). length b.highs) c.catch_up.ensures.ends
    ∙ same_highs c.args.store.now.box after problem.root c.requires.inside
    (appended_inside problem c.args.best c.args.store.now.box after c.args.steps.now c.fixpoint_kept-calm.new.steps c.requires.inside c.fixpoint_kept-calm.ensures.steps)

pub returns-clause-following : goal.returns-clause-following
returns-clause-following g c =
    let problem = g.P.Propagator.problem c.args.program.now in
    let after = c.fixpoint_kept-calm.new.store.box in
    let inside = appended_inside problem c.args.best c.args.store.now.box after c.args.steps.now c.fixpoint_kept-calm.new.steps c.requires.inside c.fixpoint_kept-calm.ensures.steps in
    let items : c.stand_at.new.self.list.items ≡ c.fixpoint_kept-calm.new.list =
    c.stand_at.ensures.list
    ∙ given_back c.catch_up.new.self.list.len c.fixpoint_kept-calm.new.list (drop (length c.fixpoint_kept-calm.new.list) c.catch_up.new.self.list.items)
    (c.fixpoint_kept-calm.auto.list ∙ c.as_mut_slice-list.ensures.len) in
    follows_at g.P.Propagator.in_step g.P.Propagator.watches c.args.program.now problem.root after c.stand_at.new.self inside c.stand_at.ensures.ends
    (subst (λ xs. AllInStep g.P.Propagator.in_step c.args.program.now after xs) (sym items) c.fixpoint_kept-calm.ensures.in_step)
    (still_watch (map g.P.Propagator.watches c.args.self.now.list.items) (map g.P.Propagator.watches c.stand_at.new.self.list.items) c.args.self.now.watch c.stand_at.new.self.watch
    (length c.args.self.now.lows.items) (length c.stand_at.new.self.lows.items)
    (ap (map g.P.Propagator.watches) items ∙ (c.fixpoint_kept-calm.ensures.same_watches ∙ (ap (map g.P.Propagator.watches) c.as_mut_slice-list.ensures.value ∙ c.catch_up.ensures.same_watches)))
    (c.stand_at.ensures.watch ∙ c.catch_up.ensures.watch)
    (ap (λ (b : Box). length b.lows) c.stand_at.ensures.ends ∙ (inside.same_cells ∙ sym c.requires.following.inside.same_cells))
    c.requires.following.watch)
