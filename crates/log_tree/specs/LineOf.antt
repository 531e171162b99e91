-- Which lines a log has, and that a line is one of them or not.
use Rattle.std.specs.Prelude.{◌≡◌, ◌<◌, ◌^◌, ℕ, List, Option, Some, None}
use Rattle.log_rows.specs.Lines.{node_line}
use Rattle.log_rows.specs.Ranges.{ParentFits}
use Rattle.log_tree.specs.declared.reading.Heading.{Heading}

-- what was read of a line is the one thing of which it is the line, and nothing where there is no such thing
abbrev pub IsLineOf : {A : Type 0} → (A → Type 0) → (A → List ℕ) → List ℕ → Option A → Type 0
IsLineOf Fits text line None = (x : _) → Fits x → ¬ (text x ≡ line)
IsLineOf Fits text line (Some x) = Fits x × (text x ≡ line)

-- a node's line
abbrev pub heading_line : Heading → List ℕ
heading_line heading = node_line heading.number heading.parent

pub record HeadingFits (heading : Heading) : Type 0 where
  pub number_fits : heading.number < 2 ^ 64
  pub parent_fits : ParentFits heading.parent
