-- What is up to date of several things that mention cells.
use Rattle.std.specs.Prelude.{◌≡◌, ◌+◌, ◌<◌, ◌≤◌, ℕ, Bool, false, List, length, map, Contains}
use Rattle.std.specs.List.{filter}
use Rattle.prop_core.specs.Watches.{waits_at}
use Rattle.prop_shave.specs.declared.touched_parts.TouchedParts.{TouchedParts}
use Rattle.prop_shave.specs.declared.touched_scenarios.TouchedScenarios.{TouchedScenarios}
use Rattle.term_problem.specs.Search.{numbers_to}
use Rattle.prop_chance.specs.declared.outdated.Outdated.{Outdated}

-- a thing does not wait, and mentions no cell that was told
pub record IsUpToDate (mentions : ℕ → ℕ → Bool) (o : Outdated) (number : ℕ) : Type 0 where
  pub calm : waits_at o.waits.items number ≡ false
  pub apart : (cell : ℕ) → Contains o.told.items cell → mentions cell number ≡ false

-- behind the first things, which are not listed, a thing does not wait that the list does not have
pub record AreListed (o : Outdated) : Type 0 where
  pub each : (number : ℕ) → number < length o.waits.items → o.unlisted ≤ number → ¬ Contains o.listed.items number
      → waits_at o.waits.items number ≡ false

-- but one, which may
pub record AreListedBut (one : ℕ) (o : Outdated) : Type 0 where
  pub each : (number : ℕ) → number < length o.waits.items → o.unlisted ≤ number → ¬ Contains o.listed.items number → ¬ number ≡ one
      → waits_at o.waits.items number ≡ false

-- how many numbers there are to look at
abbrev pub left_to_see : Outdated → ℕ
left_to_see o = length o.listed.items + o.unlisted

-- these are, for each of some cells, the numbers of those of so many things that mention it
abbrev pub AreMentioning : (ℕ → ℕ → Bool) → ℕ → List ℕ → List (List ℕ) → Type 0
AreMentioning mentions count cells lists = lists ≡ map (λ cell. filter (mentions cell) (numbers_to count)) cells

-- the numbers of several scenarios, and of several parts of an objective's sum
abbrev pub numbers_in : TouchedScenarios → List ℕ
numbers_in s = s.numbers.items

abbrev pub part_numbers : TouchedParts → List ℕ
part_numbers p = p.numbers.items
