-- The weight that is left to a chance constraint, as it is kept from one box to the next.
use Rattle.std.specs.Prelude.{◌≡◌, ℕ, ◌<◌, ℤ, Bool, true, false, List, [], get_or, length, slice_set}
use Rattle.box_problem.specs.Box.{Box}
use Rattle.term_language.specs.declared.answers.Truth.{Truth}
use Rattle.term_language.specs.declared.answers.Truth.TheVariants.{False}
use Rattle.term_problem.specs.Problems.{ProblemTerms}
use Rattle.term_problem.specs.Refuted.{is_false}
use Rattle.term_problem.specs.Search.{numbers_to}
use Rattle.term_program.specs.Programs.{kept}
use Rattle.prop_shave.specs.Sums.{sum_over}
use Rattle.prop_shave.specs.ChanceKnown.{AreTruths}
use Rattle.prop_shave.specs.ChanceSums.{is_touched, left_over, truth_over, weight_at}
use Rattle.prop_chance.specs.UpToDate.{AreListed, IsUpToDate}
use Rattle.prop_chance.specs.declared.kept_weight.KeptWeight.{KeptWeight}

-- the weight of a scenario, unless its truth among these is False; and the weight that is kept is the sum of these
abbrev pub weight_by : ProblemTerms → List Truth → ℕ → ℤ
weight_by terms truths scenario = kept (is_false (get_or truths scenario False)) (weight_at terms scenario)

abbrev pub IsSummed : ProblemTerms → KeptWeight → Type 0
IsSummed terms w = w.left.value ≡ sum_over (weight_by terms w.truths.items) (numbers_to (length terms.weights))

-- in each scenario that is up to date the condition's truth is that over the box; and the weight is that of the truths
pub record KeepsTruths (root : Box) (terms : ProblemTerms) (instance : ℕ) (b : Box) (w : KeptWeight) : Type 0 where
  pub summed : IsSummed terms w
  pub each : (scenario : ℕ) (d : Truth) → scenario < length terms.weights → IsUpToDate (is_touched root terms instance) w.outdated scenario
      → get_or w.truths.items scenario d ≡ truth_over root terms instance b scenario

-- so they are, and the scenarios that wait are listed
pub record KeepsWeight (root : Box) (terms : ProblemTerms) (instance : ℕ) (b : Box) (w : KeptWeight) : Type 0 where
  pub truths : KeepsTruths root terms instance b w
  pub listed : AreListed w.outdated

-- the weight is what is left over the box, and the truths are those of the condition there
pub record KnowsWeight (root : Box) (terms : ProblemTerms) (instance : ℕ) (b : Box) (w : KeptWeight) : Type 0 where
  pub left : w.left.value ≡ left_over root terms instance b
  pub truths : AreTruths root terms instance b w.truths.items

abbrev pub IfSo : Bool → Type 0 → Type 0
IfSo true T = T
IfSo false T = Unit {0}

-- the truth in one scenario has been set, and the weight with it
pub record IsTruthSet (terms : ProblemTerms) (old new : KeptWeight) (scenario : ℕ) (truth : Truth) : Type 0 where
  pub truths : new.truths.items ≡ slice_set old.truths.items scenario truth
  pub summed : IsSummed terms old → IsSummed terms new
  pub outdated : new.outdated ≡ old.outdated

-- what is kept is right for a box, and no cell was told since
pub record IsWeightSeen (root : Box) (terms : ProblemTerms) (instance : ℕ) (b : Box) (w : KeptWeight) : Type 0 where
  pub keeps : KeepsTruths root terms instance b w
  pub clean : w.outdated.told.items ≡ []
