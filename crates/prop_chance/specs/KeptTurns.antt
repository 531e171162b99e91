-- By how much a number turns with each of several cells at its ends, as it is kept from one box to the next.
use Rattle.std.specs.Prelude.{◌≡◌, ℕ, ◌<◌, ℤ, Bool, true, List, Option, None, Some, IfSome, Contains, get_or, length}
use Rattle.box_problem.specs.Box.{Box}
use Rattle.prop_core.specs.Watches.{waits_at}
use Rattle.prop_shave.specs.Turns.{AreEndTurns}
use Rattle.prop_shave.specs.declared.end_turns.EndTurns.{EndTurns}
use Rattle.prop_chance.specs.UpToDate.{IsUpToDate}
use Rattle.prop_chance.specs.declared.kept_turns.KeptTurns.{KeptTurns}
use Rattle.prop_chance.specs.declared.outdated.Outdated.{Outdated}

-- the turns of the cell at a place, where they are known
abbrev pub turns_of : KeptTurns → ℕ → Option EndTurns
turns_of k place = get_or k.known.items place None

-- some have been forgotten, and the others are as they were
pub record AreFewer (old new : KeptTurns) : Type 0 where
  pub each : (place : ℕ) → IfSome (turns_of new place) (λ turns. turns_of old place ≡ Some turns)

-- no cell's turns are known that one of so many things mentions which waits
abbrev pub AreForgottenTo : (ℕ → ℕ → Bool) → List ℕ → List Bool → ℕ → KeptTurns → Type 0
AreForgottenTo mentions cells waits count k =
    (number place : ℕ) → number < count → place < length cells → waits_at waits number ≡ true
    → mentions (get_or cells place 0) number ≡ true → turns_of k place ≡ None

-- or of these things alone
abbrev pub AreForgottenIn : (ℕ → ℕ → Bool) → List ℕ → List Bool → ℕ → List ℕ → KeptTurns → Type 0
AreForgottenIn mentions cells waits count things k =
    (number place : ℕ) → Contains things number → number < count → place < length cells → waits_at waits number ≡ true
    → mentions (get_or cells place 0) number ≡ true → turns_of k place ≡ None

-- all that are known are right for a box
pub record KnowsTurns (number : Box → ℤ) (b : Box) (cells : List ℕ) (k : KeptTurns) : Type 0 where
  pub each : (place : ℕ) → place < length cells → IfSome (turns_of k place) (AreEndTurns number b (get_or cells place 0))

-- those of each cell are of which all things are up to date, out of so many, that mention it
pub record KeepsTurns (number : Box → ℤ) (mentions : ℕ → ℕ → Bool) (count : ℕ) (b : Box) (o : Outdated) (cells : List ℕ) (k : KeptTurns)
    : Type 0 where
  pub each : (place : ℕ) → place < length cells
      → ((thing : ℕ) → thing < count → mentions (get_or cells place 0) thing ≡ true → IsUpToDate mentions o thing)
      → IfSome (turns_of k place) (AreEndTurns number b (get_or cells place 0))
