-- What a result says of the outcome that is computed.
use Rattle.std.specs.Prelude.{◌≡◌, ℕ, Result, Ok, Err}
use Rattle.sopl_base.specs.declared.fault.Fault.{Fault}
use Rattle.sopl_base.specs.declared.fault.Fault.TheVariants as fault

-- the outcome is the fault that is answered; out of memory says nothing
abbrev pub Fails : {B : Type 0} → Fault → Result B Fault → Type 0
Fails (fault.Text refusal) outcome = outcome ≡ Err (fault.Text refusal)
Fails (fault.Limit excess) outcome = outcome ≡ Err (fault.Limit excess)
Fails fault.NoMemory outcome = Unit {0}

-- the outcome is the answer, as `view` shows it, with so many things counted behind it; or the fault
abbrev pub Answers : {A B : Type 0} → (A → B) → ℕ → Result A Fault → Result (B × ℕ) Fault → Type 0
Answers view count (Ok x) outcome = outcome ≡ Ok (view x, count)
Answers view count (Err f) outcome = Fails f outcome
