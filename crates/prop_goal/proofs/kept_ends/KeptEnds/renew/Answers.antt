use Rattle.prop_goal.specs.KeptParts.{IsPartPut, IsPartRenewed}
use Rattle.prop_goal.proofs.KeptEnds.{if_so_map}
use Rattle.prop_goal.proofs.kept_ends.KeptEnds.renew.Goals as goal

pub returns-in-Some-clause-renewed : goal.returns-in-Some-clause-renewed
returns-in-Some-clause-renewed c =
    let old = c.args.self.now.parts in
    let new = c.put.new.self.parts in
    if_so_map c.put.result (IsPartPut old new c.args.number c.in-Some.ends) (IsPartRenewed c.args.program.now c.args.store.now.box old new c.args.number)
    (λ put. record { told = c.in-Some.ends; put = put; seen = c.in-Some.ensures.seen }) c.put.ensures.put
