use Rattle.sopl_scen.proofs.DomainSteps.{domains_are, ordered_all, staged_all}
use Rattle.sopl_scen.proofs.cell_domains.domains.Goals as goal

pub laid_domains-requires-clause-ordered : goal.laid_domains-requires-clause-ordered
laid_domains-requires-clause-ordered c = ordered_all c.args.decisions.now c.requires.bounded

pub laid_domains-requires-clause-staged : goal.laid_domains-requires-clause-staged
laid_domains-requires-clause-staged c = staged_all c.args.decisions.now c.requires.bounded

pub returns : goal.returns
returns c = record { cells = domains_are c.laid_domains.result c.args.tree.now c.args.decisions.now c.requires.bounded c.laid_domains.ensures }
