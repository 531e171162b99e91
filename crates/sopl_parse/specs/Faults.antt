-- The fault of a reader that halts, and what a fault says of the tokens.
use Rattle.std.specs.Prelude.{ℕ, List}
use Rattle.sopl_base.specs.declared.fault.Fault.{Fault}
use Rattle.sopl_base.specs.declared.fault.Fault.TheVariants as fault
use Rattle.sopl_base.specs.declared.codes.TheConstants as codes
use Rattle.sopl_ast.specs.declared.token.Token.{Token}
use Rattle.sopl_ast.specs.Misspelled.{IsMisspelled, place_in}
use Rattle.parse_exprs.specs.declared.reader.ParseStop.{ParseStop}
use Rattle.parse_exprs.specs.declared.reader.ParseStop.TheVariants as halt

-- tokens that spell no model are refused with 104, an opening too many with 103
abbrev pub fault_of : ℕ → ParseStop → Fault
fault_of length (halt.Syntax left) = fault.Text (record { code = codes.SYNTAX; at = place_in length left.now })
fault_of length (halt.Depth left) = fault.Text (record { code = codes.DEPTH; at = place_in length left.now })
fault_of length halt.NoMemory = fault.NoMemory

-- the fault of a text says where its tokens go wrong; no limit is met
abbrev pub IsSpellingFault : ℕ → List Token → Fault → Type 0
IsSpellingFault length tokens (fault.Text refusal) = IsMisspelled length tokens refusal
IsSpellingFault length tokens (fault.Limit excess) = ⊥
IsSpellingFault length tokens fault.NoMemory = Unit {0}
