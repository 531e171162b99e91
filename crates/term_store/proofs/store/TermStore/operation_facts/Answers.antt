use Rattle.std.proofs.Common.{◌≡◌, ℕ, IfOk, subst}
use Rattle.term_nodes.specs.Built.{Facts, kept}
use Rattle.term_nodes.specs.Seen.{sight_of}
use Rattle.term_store.specs.Stores.{IsMeasured, root_of}
use Rattle.term_store.proofs.Folding.{operation_kept, operation_measured}
use Rattle.term_store.proofs.store.TermStore.operation_facts.Goals as goal

pub returns-clause-facts : goal.returns-clause-facts
returns-clause-facts c =
    subst (λ (f : Facts). IfOk c.folded_facts.result (λ facts. kept facts ≡ f))
    (operation_kept (root_of c.args.self.now) c.args.self.now.items.items c.args.operation.now c.args.id c.operand_folds-folds.result c.mark_known-mark.result (sight_of c.made_known-wide.result)
    c.requires.sound.root_is_box c.requires.sound.built c.operand_folds-folds.ensures c.mark_known-mark.ensures c.made_known-wide.ensures)
    c.folded_facts.ensures.facts

pub returns-clause-measured : goal.returns-clause-measured
returns-clause-measured c =
    subst (λ (n : ℕ). IsMeasured n c.folded_facts.result)
    (operation_measured (root_of c.args.self.now) c.args.self.now.items.items c.args.operation.now c.args.id c.operand_folds-folds.result (sight_of c.made_known-wide.result)
    c.requires.sound.root_is_box c.requires.sound.built c.operand_folds-folds.ensures c.made_known-wide.ensures)
    c.folded_facts.ensures.measured
