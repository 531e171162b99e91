use Rattle.answer_texts.proofs.Grounds.{stated_bounded, stated_few, stated_words}
use Rattle.answer_texts.proofs.answer.tree_line.Goals as goal

pub tree_text-requires-clause-bounded : goal.tree_text-requires-clause-bounded
tree_text-requires-clause-bounded c = stated_bounded c.args.stated.now c.decisions.result.now c.decisions.ensures.decisions

pub tree_text-requires-clause-names : goal.tree_text-requires-clause-names
tree_text-requires-clause-names c = stated_words c.args.stated.now c.stochs.result.now c.stochs.ensures.stochastics

pub tree_text-requires-clause-few : goal.tree_text-requires-clause-few
tree_text-requires-clause-few c = stated_few c.args.stated.now c.stochs.result.now c.stochs.ensures.stochastics
