use Rattle.term_math.specs.Shown.{box_in}
use Rattle.term_nodes.proofs.Ready.{range_fit}
use Rattle.term_nodes.proofs.evaluation.Evaluator.whole.Goals as goal

pub whole-requires : goal.whole-requires
whole-requires c = record {
  fits = range_fit c.args.self.now c.args.id c.form_at-form.result.now c.args.seen.now c.requires.ready (c.form_at-form.ensures (box_in c.args.self.now.root) c.requires.ready.built) c.requires.seen;
}
