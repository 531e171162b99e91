-- What a result says of the outcomes of a relation on texts.
use Rattle.std.specs.Prelude.{Result, Ok, Err}
use Rattle.sopl_base.specs.declared.fault.Fault.{Fault}
use Rattle.sopl_base.specs.declared.fault.Fault.TheVariants as fault
use Rattle.sopl_base.specs.declared.fault.Refusal.{Refusal}

-- the value, as `view` shows it, or the refusal that is answered has the property; out of memory answers neither, and no limit is answered
abbrev pub Answers : {A B : Type 0} → (A → B) → Result A Fault → (Result B Refusal → Type 0) → Type 0
Answers view (Ok value) P = P (Ok (view value))
Answers view (Err (fault.Text refusal)) P = P (Err refusal)
Answers view (Err (fault.Limit excess)) P = ⊥
Answers view (Err fault.NoMemory) P = Unit {0}
