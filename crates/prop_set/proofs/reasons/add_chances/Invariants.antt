use Rattle.std.proofs.Common.{◌≡◌, ◌++◌, map}
use Rattle.std.specs.List.{range_with_len}
use Rattle.sopl_base.specs.declared.reason.Reason.TheVariants.{Chance}
use Rattle.box_problem.specs.Box.{Box}
use Rattle.prop_core.specs.Members.{AllFit, together}
use Rattle.prop_core.specs.Watches.{AllInStep}
use Rattle.prop_set.specs.Kinds.{Fits, IsInStep, reasons_of}
use Rattle.prop_set.proofs.reasons.add_chances.Given as goal

abbrev pub invariant-instances : goal.invariant-instances
invariant-instances l = record {
  fit : AllFit Fits l.program l.list.items;
  in_step : (b : Box) → AllInStep IsInStep l.program b l.list.items;
  reasons : together (map reasons_of l.list.items) ≡ together (map reasons_of l.fn.list.items) ++ map Chance (range_with_len 0 l.instance);
}
