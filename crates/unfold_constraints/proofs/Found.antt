-- The instances that were found, from what all of them show.
use Rattle.std.proofs.Common.{◌≡◌, sym, ap, Some, Result, Ok, Err, IfOk}
use Rattle.std.specs.Option.{unwrap_or}
use Rattle.sopl_base.specs.declared.fault.Fault.{Fault}
use Rattle.unfold_tables.specs.Tables.{items}
use Rattle.unfold_constraints.specs.Shown.{found_in}
use Rattle.unfold_constraints.specs.Stepping.{Found}
use Rattle.unfold_constraints.specs.declared.items.Instances.{Instances}

pub hards_is : (v : Found) (result : Result Instances Fault) → IfOk result (λ found. Some v ≡ Some (found_in found)) → IfOk result (λ found. items found.hards ≡ v.hards)
hards_is v (Ok found) is = sym (ap (λ o. (unwrap_or o v).hards) is)
hards_is v (Err f) is = tt

pub chances_is : (v : Found) (result : Result Instances Fault) → IfOk result (λ found. Some v ≡ Some (found_in found)) → IfOk result (λ found. items found.chances ≡ v.chances)
chances_is v (Ok found) is = sym (ap (λ o. (unwrap_or o v).chances) is)
chances_is v (Err f) is = tt
