use Rattle.scen_accept.proofs.Texts.{size_refused}
use Rattle.scen_accept.proofs.read.stated_in.Goals as goal

pub returns-clause-refused : goal.returns-clause-refused
returns-clause-refused c =
    size_refused c.args.text.now c.in_ok-ground.ground c.scenarios-tree.result c.with_scenarios.result c.in_ok-ground.ensures.model
    c.scenarios-tree.ensures.limit c.with_scenarios.ensures.refused
