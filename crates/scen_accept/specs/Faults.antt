-- Why a text is not taken.
use Rattle.std.specs.Prelude.{ℕ, List}
use Rattle.sopl_base.specs.declared.fault.Fault.{Fault}
use Rattle.sopl_base.specs.declared.fault.Fault.TheVariants as fault
use Rattle.sopl_ast.specs.Accepted.{IsLimitedFor, IsRefusedFor}
use Rattle.sopl_ast.specs.Limits.{usual_limits}

-- a fault of a text says why it is not taken
abbrev pub IsTextFault : List ℕ → Fault → Type 0
IsTextFault text (fault.Text refusal) = IsRefusedFor text refusal
IsTextFault text (fault.Limit excess) = IsLimitedFor usual_limits text excess
IsTextFault text fault.NoMemory = Unit {0}
