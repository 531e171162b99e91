-- Texts that a sink takes one behind another.
use Rattle.std.proofs.Common.{◌≡◌, ℕ, ◌≤◌, List, ◌++◌, Option, OnOk, OnErr, codes, arith, subst}
use Rattle.std.specs.Prelude.{Result, Ok, Err}
use Rattle.sopl_io.specs.Transfer.{AppendsPrefix}
use Rattle.sopl_io.specs.Causes.{Rose, HasCause}
use Rattle.sopl_io.specs.Gathered.{GathersAll}
use Rattle.log_rows.specs.Lines.{ended}

-- a call behind another: what failed, failed where the count rose
pub rose_later : (before middle now : ℕ) → before ≤ middle → Rose middle now → Rose before now
rose_later before middle now later rose = omega (arith, rose)

failed_later : {T E : Type 0} (before middle now : ℕ) (result : Result T E) → before ≤ middle → OnErr result (Rose middle now) → OnErr result (Rose before now)
failed_later before middle now (Ok value) later failed = tt
failed_later before middle now (Err error) later failed = rose_later before middle now later failed

pub cause_later : {T E : Type 0} (before middle now : ℕ) (result : Result T E) → before ≤ middle → HasCause middle now result → HasCause before now result
cause_later before middle now result later cause = record {
  later = omega (arith, later, cause.later);
  failed = failed_later before middle now result later cause.failed;
}

-- a line that is gathered with its end
pub ended_all : {T E : Type 0} (a b : Option (List ℕ)) (k j line bytes : List ℕ) (result : Result T E) → bytes ≡ line ++ codes "\n" → OnOk result (GathersAll a k b j bytes)
    → OnOk result (GathersAll a k b j (ended line))
ended_all a b k j line bytes result is gathered = subst (λ (l : List ℕ). OnOk result (GathersAll a k b j l)) is gathered

pub ended_prefix : {T E : Type 0} (a b : Option (List ℕ)) (k line bytes : List ℕ) (result : Result T E) → bytes ≡ line ++ codes "\n"
    → OnErr result (AppendsPrefix a b (k ++ bytes)) → OnErr result (AppendsPrefix a b (k ++ ended line))
ended_prefix a b k line bytes result is some = subst (λ (l : List ℕ). OnErr result (AppendsPrefix a b (k ++ l))) is some

-- a line that is the one to be written
pub same_all : {T E : Type 0} (a b : Option (List ℕ)) (k j line other : List ℕ) (result : Result T E) → line ≡ other → OnOk result (GathersAll a k b j (ended line))
    → OnOk result (GathersAll a k b j (ended other))
same_all a b k j line other result is gathered = subst (λ (l : List ℕ). OnOk result (GathersAll a k b j (ended l))) is gathered

pub same_prefix : {T E : Type 0} (a b : Option (List ℕ)) (k line other : List ℕ) (result : Result T E) → line ≡ other
    → OnErr result (AppendsPrefix a b (k ++ ended line)) → OnErr result (AppendsPrefix a b (k ++ ended other))
same_prefix a b k line other result is some = subst (λ (l : List ℕ). OnErr result (AppendsPrefix a b (k ++ ended l))) is some
