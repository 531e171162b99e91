use Rattle.std.proofs.Common.{length, get_or, [], ◌∷◌, ◌++◌, ap, ◌∙◌}
use Rattle.term_goals.specs.declared.sums.Atom.{Atom}
use Rattle.std.proofs.lemmas.List.{get_or_default}
use Rattle.term_math.specs.Shown.{box_in, form_of}
use Rattle.term_nodes.specs.Things.{things}
use Rattle.term_nodes.proofs.Steps.{cond_below}
use Rattle.term_goals.specs.Goals.{others}
use Rattle.term_goals.proofs.Summing.{others_skip, others_more}
use Rattle.term_goals.proofs.goal.Objective.others.Goals as goal

pub form_at-requires : goal.form_at-requires
form_at-requires c = record {
  exists = cond_below (length c.args.here.now.items.now) c.args.self.now.terms.now c.loop-i.i (get_or c.args.self.now.terms.now c.loop-i.i 0) c.requires.exist c.loop-i-test.true
      (get_or_default c.args.self.now.terms.now c.loop-i.i 0 (get_or c.args.self.now.terms.now c.loop-i.i 0) c.loop-i-test.true);
}

pub loop-i-preserved-then-form_at : goal.loop-i-preserved-then-form_at
loop-i-preserved-then-form_at c =
    let root = box_in c.args.here.now.root in
    let all = things c.args.here.now.items.now in
    others_skip root all c.args.self.now.weights.now c.args.self.now.terms.now c.loop-i.i 0 c.loop-i.list.items (others root all c.args.self.now.weights.now c.args.self.now.terms.now)
    (form_of c.form_at.result.now)
    c.requires.each c.loop-i-test.true (c.form_at.ensures root c.requires.ready.built) c.if-form_at.true c.loop-i.invariant

pub loop-i-preserved : goal.loop-i-preserved
loop-i-preserved c =
    let root = box_in c.args.here.now.root in
    let all = things c.args.here.now.items.now in
    others_more root all c.args.self.now.weights.now c.args.self.now.terms.now c.loop-i.i 0 c.loop-i.list.items c.push.new.self.items
    (others root all c.args.self.now.weights.now c.args.self.now.terms.now) c.scenario_weight-weight.result.value (form_of c.form_at.result.now)
    c.requires.each c.loop-i-test.true (c.form_at.ensures root c.requires.ready.built) c.if-form_at.false c.scenario_weight-weight.ensures
    (c.in_ok-push.ensures.items ∙ ap (λ (a : Atom). c.loop-i.list.items ++ a ∷ []) c.times.ensures) c.loop-i.invariant
