-- What is known of the weight that is left to a chance constraint.
use Rattle.std.specs.Prelude.{◌≡◌, ℕ, ◌<◌, List, IfSome, get_or, length}
use Rattle.box_problem.specs.Box.{Box}
use Rattle.term_language.specs.declared.answers.Truth.{Truth}
use Rattle.term_problem.specs.Problems.{ProblemTerms}
use Rattle.prop_shave.specs.declared.chance_delta.ChanceDelta.{ChanceDelta}
use Rattle.prop_shave.specs.ChanceSums.{left_over, touched_by, truth_over}
use Rattle.prop_shave.specs.Turns.{AreEndTurns}

-- the truths of the constraint's condition over a box, in each of the first scenarios
abbrev pub AreSeenTo : Box → ProblemTerms → ℕ → Box → ℕ → List Truth → Type 0
AreSeenTo root terms instance b count truths =
    (scenario : ℕ) (d : Truth) → scenario < count → get_or truths scenario d ≡ truth_over root terms instance b scenario

-- and in all of them
pub record AreTruths (root : Box) (terms : ProblemTerms) (instance : ℕ) (b : Box) (truths : List Truth) : Type 0 where
  pub as_many : length truths ≡ length terms.weights
  pub each : AreSeenTo root terms instance b (length terms.weights) truths

-- it is the weight that is left over the box, the truths are those of the condition there, the scenarios are those in which it mentions the cell, and by the
-- turns, where there are some, the weight turns with the cell at its ends
pub record IsWeighed (root : Box) (terms : ProblemTerms) (b : Box) (w : ChanceDelta) : Type 0 where
  pub exists : w.instance < length terms.chances
  pub left : w.left.value ≡ left_over root terms w.instance b
  pub truths : AreTruths root terms w.instance b w.truths.now
  pub scenarios : w.scenarios.now ≡ touched_by root terms w.instance w.cell
  pub turns : IfSome w.turns (AreEndTurns (left_over root terms w.instance) b w.cell)
