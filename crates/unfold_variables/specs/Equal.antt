-- Decisions that are the same at each index of an array.
use Rattle.std.specs.Prelude.{◌≡◌, ℕ, ℤ, false, is_some, List, Option, Ok}
use Rattle.std.specs.List.{list_any}
use Rattle.sopl_ast.specs.Known.{Known}
use Rattle.sopl_ast.specs.Tree.{Tree, Range}
use Rattle.sopl_ast.specs.Whole.{DimTree}
use Rattle.unfold_tables.specs.Tables.{ends_in}
use Rattle.unfold_variables.specs.Listing.{decision}
use Rattle.unfold_variables.specs.declared.equal_decisions.DecisionParts.{DecisionParts}

-- a domain and a stage
abbrev pub parts_in : DecisionParts → (ℤ × ℤ) × ℕ
parts_in parts = (ends_in parts.domain, parts.stage)

-- no name goes over a dimension, and a decision has this domain and this stage whatever its index and whatever was counted
pub record AreEqual (known : Known) (name : List ℕ) (dims : List DimTree) (range : Range) (e : Option Tree) (parts : DecisionParts) : Type 0 where
  pub unnamed : list_any (λ (d : DimTree). is_some d.binder) dims ≡ false
  pub same : (index : List ℤ) (count : ℕ)
      → decision known name range e index count ≡ Ok (record { name = name; index = index; lo = parts.domain.lo; hi = parts.domain.hi; stage = parts.stage }, count)
