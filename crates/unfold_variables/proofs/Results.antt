-- What a result shows.
use Rattle.std.proofs.Common.{◌≡◌, sym, Result, Ok, Err, IfOk}
use Rattle.sopl_base.specs.declared.fault.Fault.{Fault}

-- the value is what the answer shows
pub shown_so : {A B : Type 0} (view : A → B) (v : B) (result : Result A Fault) → IfOk result (λ x. view x ≡ v) → IfOk result (λ x. v ≡ view x)
shown_so view v (Ok x) is = sym is
shown_so view v (Err f) is = tt
