use Rattle.std.proofs.Common.{List, subst, sym}
use Rattle.sopl_base.specs.declared.reason.Reason.{Reason}
use Rattle.prop_core.specs.Watches.{HasRested}
use Rattle.prop_core.proofs.resting.Resting.ask.Goals as goal

pub returns-clause-rested : goal.returns-clause-rested
returns-clause-rested g c =
    let problem = g.M.Propagator.problem c.args.program.now in
    subst (λ (reasons : List Reason). HasRested problem reasons c.rested_by-self.result c.args.store.now.box) (sym c.revise-finding.ensures.same_reasons)
    (c.rested_by-self.ensures problem (g.M.Propagator.reasons c.args.self.now.member) c.args.store.now.box c.revise-finding.ensures.finds)
