use Rattle.std.proofs.Common.{length, option_map}
use Rattle.compile_laws.specs.Instances.{decided_elements, seen_elements}
use Rattle.compile_names.specs.Places.{cells_at, values_at}
use Rattle.compile_names.specs.Variables.{item_from}
use Rattle.compile_names.proofs.FirstScalar.{first_none, first_some}
use Rattle.compile_names.proofs.setting.Scenarios.scalar.Goals as goal

pub returns-in-Some-clause-item : goal.returns-in-Some-clause-item
returns-in-Some-clause-item c tree i =
    first_some (item_from tree i) c.drawn_scalar.result (seen_elements c.args.name.now c.args.self.now.stochs.now (values_at tree (length c.args.self.now.stochs.now) i))
    (decided_elements c.args.name.now c.args.self.now.decisions.now (cells_at tree (length c.args.self.now.decisions.now) i))
    c.in-Some.origin (c.drawn_scalar.ensures.item tree i) c.in-Some.is

pub returns-in-None-clause-item : goal.returns-in-None-clause-item
returns-in-None-clause-item c tree i =
    first_none (item_from tree i) c.drawn_scalar.result (seen_elements c.args.name.now c.args.self.now.stochs.now (values_at tree (length c.args.self.now.stochs.now) i))
    (decided_elements c.args.name.now c.args.self.now.decisions.now (cells_at tree (length c.args.self.now.decisions.now) i))
    (option_map (item_from tree i) c.decided_scalar.result) (c.drawn_scalar.ensures.item tree i) c.in-None.is (c.decided_scalar.ensures.item tree i)
