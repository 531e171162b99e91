use Rattle.std.proofs.Common.{◌≡◌, [], rules, subst, sym, ◌∷◌}
use Rattle.box_problem.specs.Box.{Box}
use Rattle.box_store.specs.Store.{AgreesOutside}
use Rattle.term_program.specs.Stated.{box_problem_of}
use Rattle.log_check.proofs.Judging.{outside_back, part_within, removed_outside}
use Rattle.log_check.proofs.steps.removes.Goals as goal

pub closes_by_sums-closed-requires-clause-inside : goal.closes_by_sums-closed-requires-clause-inside
closes_by_sums-closed-requires-clause-inside c =
    part_within (box_problem_of c.args.program.now).root c.args.store.now.box c.take_removed.new.store.box c.args.step.now c.requires.cut c.requires.inside (search rules)

pub closes_by_sums-closed-requires-clause-in_step : goal.closes_by_sums-closed-requires-clause-in_step
closes_by_sums-closed-requires-clause-in_step c =
    c.tell.ensures.follow c.args.store.now.box c.take_removed.new.store.box
    (removed_outside c.args.store.now.box c.take_removed.new.store.box c.args.step.now c.requires.cut.exists (search rules)) c.args.program.now c.requires.in_step

pub returns-clause-in_step : goal.returns-clause-in_step
returns-clause-in_step c =
    let before = c.args.store.now.box in
    let part = c.take_removed.new.store.box in
    let back : c.undo.new.self.box ≡ before = search rules in
    let agree = removed_outside before part c.args.step.now c.requires.cut.exists (search rules) in
    c.tell-2.ensures.follow part c.undo.new.self.box
    (subst (λ (b : Box). AgreesOutside (c.args.step.now.cell ∷ []) part b) (sym back) (outside_back (c.args.step.now.cell ∷ []) before part agree)) c.args.program.now
    c.closes_by_sums-closed.ensures.in_step
