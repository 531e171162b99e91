use Rattle.std.proofs.Common.{◌≡◌, ℕ, IfOk, subst}
use Rattle.term_nodes.specs.Built.{Facts, kept}
use Rattle.term_nodes.specs.Seen.{sight_of}
use Rattle.term_store.specs.Stores.{IsMeasured, root_of}
use Rattle.term_store.proofs.Folding.{extreme_kept, extreme_measured}
use Rattle.term_store.proofs.store.TermStore.extreme_facts.Goals as goal

pub returns-clause-facts : goal.returns-clause-facts
returns-clause-facts c =
    subst (λ (f : Facts). IfOk c.folded_facts.result (λ facts. kept facts ≡ f))
    (extreme_kept (root_of c.args.self.now) c.args.self.now.items.items c.args.extreme c.args.first c.args.later.now c.operands_fold-folds.result c.marks_known-mark.result
    (sight_of c.extreme_known-wide.result) c.requires.sound.root_is_box c.requires.sound.built c.operands_fold-folds.ensures c.marks_known-mark.ensures c.extreme_known-wide.ensures)
    c.folded_facts.ensures.facts

pub returns-clause-measured : goal.returns-clause-measured
returns-clause-measured c =
    subst (λ (n : ℕ). IsMeasured n c.folded_facts.result)
    (extreme_measured (root_of c.args.self.now) c.args.self.now.items.items c.args.extreme c.args.first c.args.later.now c.operands_fold-folds.result (sight_of c.extreme_known-wide.result)
    c.requires.sound.root_is_box c.requires.sound.built c.operands_fold-folds.ensures c.extreme_known-wide.ensures)
    c.folded_facts.ensures.measured
