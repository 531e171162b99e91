use Rattle.std.proofs.Common.{◌≡◌, map}
use Rattle.std.specs.List.{flat_map, range_with_len}
use Rattle.box_problem.specs.Box.{Box}
use Rattle.prop_core.specs.Members.{AllFit, together}
use Rattle.prop_core.specs.Watches.{AllInStep}
use Rattle.prop_set.specs.Kinds.{Fits, IsInStep, instance_reasons, reasons_of}
use Rattle.term_program.specs.Programs.{problem_in}
use Rattle.prop_set.proofs.members.hard_props.Given as goal

abbrev pub invariant-instances : goal.invariant-instances
invariant-instances l = record {
  fit : AllFit Fits l.program l.list.items;
  in_step : (b : Box) → AllInStep IsInStep l.program b l.list.items;
  reasons : together (map reasons_of l.list.items) ≡ flat_map (instance_reasons (problem_in l.program)) (range_with_len 0 l.instance);
}
