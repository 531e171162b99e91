-- Laws that crates above share.
use Rattle.std.proofs.Common.{Bool, Option, if◌then◌else◌, Some, ◌≡◌, None, true, refl, false, sym}
use Rattle.std.proofs.lemmas.Option.{none-some}
use Rattle.sopl_base.specs.declared.fault.Excess.{Excess}
use Rattle.sopl_ast.specs.Numbers.{or_else}

pub passed : (c : Bool) (e : Excess) (later : Option Excess) → (if c then later else Some e) ≡ None → c ≡ true
passed true e later none = refl
passed false e later none = absurd (none-some e (sym none))

pub later_none : (c : Bool) (e : Excess) (later : Option Excess) → (if c then later else Some e) ≡ None → later ≡ None
later_none true e later none = none
later_none false e later none = absurd (none-some e (sym none))

pub first_none : {A : Type 0} (a b : Option A) → or_else a b ≡ None → a ≡ None
first_none None b none = refl
first_none (Some x) b none = absurd (none-some x (sym none))

pub then_none : {A : Type 0} (a b : Option A) → or_else a b ≡ None → b ≡ None
then_none None b none = none
then_none (Some x) b none = absurd (none-some x (sym none))
