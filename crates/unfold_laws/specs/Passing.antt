-- Occurrences that nothing stops, and what follows for parts of them.
use Rattle.std.specs.Prelude.{◌≡◌, ℤ, ◌≤◌, List, ◌++◌, Some, IsOk}
use Rattle.std.specs.Int.RustNames.{unsigned_abs}
use Rattle.sopl_base.specs.declared.limits.TheConstants as largest
use Rattle.sopl_ast.specs.Tree.{Tree}
use Rattle.sopl_ast.specs.Known.{Known}
use Rattle.sopl_ast.specs.Constants.{value}
use Rattle.sopl_ast.specs.UnfoldEvents.{UnfoldEvent, first_failure, constant_place}

-- nothing stops the way through these occurrences, where nothing was counted before
abbrev pub NothingFails : List UnfoldEvent → Type 0
NothingFails events = IsOk (first_failure 0 events)

-- parts of what passes pass, each counted from nothing
abbrev pub PartsPass : Type 0
PartsPass = (xs ys : List UnfoldEvent) → NothingFails (xs ++ ys) → NothingFails xs × NothingFails ys

-- a size that constants have
abbrev pub IsConstant : ℤ → Type 0
IsConstant z = unsigned_abs z ≤ largest.CONSTANT_SIZE

-- an expression in a constant place has a value of such a size, where what is met there passes
abbrev pub ConstantsHaveValues : Type 0
ConstantsHaveValues = (known : Known) (e : Tree) → NothingFails (constant_place known e) → (x : ℤ) × (value known e ≡ Some x) × IsConstant x
