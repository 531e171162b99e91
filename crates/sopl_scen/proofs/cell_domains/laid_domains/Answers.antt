use Rattle.std.proofs.Common.{◌∙◌, ap, map, arith}
use Rattle.sopl_ast.specs.Instances.{Decision}
use Rattle.sopl_scen.specs.Layout.{histories_in}
use Rattle.sopl_scen.specs.Domains.{ends_of}
use Rattle.sopl_scen.proofs.DomainSteps.{next_domains, all_domains}
use Rattle.sopl_scen.proofs.cell_domains.laid_domains.Goals as goal

pub decisions-preserved : goal.decisions-preserved
decisions-preserved c =
    next_domains c.args.tree.now c.args.decisions.now c.decisions.decision-index c.decision-item.result c.histories-count.result (ends_of c.domain_of.result)
    (map ends_of c.decisions.domains.items) (map ends_of c.add_domains.new.domains.items) c.decisions-test.true c.decision-item.is
    (c.histories-count.ensures ∙ ap (λ (d : Decision). histories_in c.args.tree.now d.stage) c.decision.view_is)
    c.domain_of.ensures c.in_ok-add_domains.ensures c.decisions.invariant

pub returns : goal.returns
returns c =
    all_domains c.args.tree.now c.args.decisions.now c.decisions.decision-index (map ends_of c.decisions.domains.items) (omega arith) c.decisions.invariant
