-- What a source has left of a text after a read of so many bytes at most.
use Rattle.std.specs.Prelude.{◌≡◌, ℕ, ◌≤◌, List, drop, Option, Some, IfSome}
use Rattle.std.specs.Io.KnownBytes.{IsAtEnd}
use Rattle.sopl_io.specs.Causes.{Rose}

-- all but so many bytes at most of its front; or nothing, where the source failed
pub data LeavesRest (most : Option ℕ) (text : List ℕ) (before now : ℕ) (left : Option (List ℕ)) : Type 0 where
  behind : (count : ℕ) → IfSome most (λ m. count ≤ m) → left ≡ Some (drop count text) → LeavesRest most text before now left
  closed : Rose before now → IsAtEnd left → LeavesRest most text before now left
