-- Parts of an objective and their ends, as they are kept from one box to the next.
use Rattle.std.specs.Prelude.{◌≡◌, ℕ, ◌<◌, ℤ, pos, Bool, false, List, [], Some, None, get_or, length, slice_get, slice_set}
use Rattle.box_problem.specs.Box.{Box}
use Rattle.term_goals.specs.declared.sums.Atom.{Atom}
use Rattle.term_program.specs.declared.program.Program.{Program}
use Rattle.term_program.specs.Programs.{root_in, things_in}
use Rattle.prop_core.specs.Watches.{waits_at}
use Rattle.prop_shave.specs.GoalKnown.{IsPartSeen}
use Rattle.prop_shave.specs.GoalSums.{touches_at}
use Rattle.prop_shave.specs.declared.part_ends.PartEnds.{PartEnds}
use Rattle.prop_chance.specs.UpToDate.{AreListed, AreListedBut, IsUpToDate, left_to_see}
use Rattle.prop_goal.specs.declared.kept_parts.KeptParts.{KeptParts}

-- whether the part with a number mentions a cell
abbrev pub touches : Program → List Atom → ℕ → ℕ → Bool
touches program atoms = touches_at (root_in program) (things_in program) atoms

-- the better end of a part among these
abbrev pub better_by : List PartEnds → ℕ → ℤ
better_by ends number = (get_or ends number (record { better = record { value = pos 0 }; worse = None })).better.value

-- there are as many ends as parts, and it is told of as many whether they wait
pub record AreOneEach (k : KeptParts) : Type 0 where
  pub ends : length k.ends.items ≡ length k.atoms.items
  pub waits : length k.outdated.waits.items ≡ length k.atoms.items

-- they are of the same parts, with as many ends
pub record AreAlike (old new : KeptParts) : Type 0 where
  pub atoms : new.atoms ≡ old.atoms
  pub ends : length new.ends.items ≡ length old.ends.items
  pub waits : length new.outdated.waits.items ≡ length old.outdated.waits.items

-- the ends of each part that is up to date are those over the box
pub record KeepsPartEnds (program : Program) (b : Box) (k : KeptParts) : Type 0 where
  pub each : (number : ℕ) (a : Atom) (e : PartEnds) → slice_get k.atoms.items number ≡ Some a
      → IsUpToDate (touches program k.atoms.items) k.outdated number → IsPartSeen program b a (get_or k.ends.items number e)

-- so they are, and the parts that wait are listed
pub record KeepsParts (program : Program) (b : Box) (k : KeptParts) : Type 0 where
  pub ends : KeepsPartEnds program b k
  pub listed : AreListed k.outdated

-- so they are, and no cell was told since
pub record ArePartsSeen (program : Program) (b : Box) (k : KeptParts) : Type 0 where
  pub keeps : KeepsPartEnds program b k
  pub clean : k.outdated.told.items ≡ []

-- no part waits
abbrev pub AreCalm : KeptParts → Type 0
AreCalm k = (number : ℕ) → number < length k.atoms.items → waits_at k.outdated.waits.items number ≡ false

-- so all parts have been seen
pub record AreAllSeen (program : Program) (b : Box) (k : KeptParts) : Type 0 where
  pub seen : ArePartsSeen program b k
  pub calm : AreCalm k

-- the ends of one part have been set, which waits no more
pub record IsPartPut (old new : KeptParts) (number : ℕ) (e : PartEnds) : Type 0 where
  pub atoms : new.atoms ≡ old.atoms
  pub ends : new.ends.items ≡ slice_set old.ends.items number e
  pub waits : new.outdated.waits.items ≡ slice_set old.outdated.waits.items number false
  pub listed : AreListedBut number old.outdated → AreListed new.outdated
  pub left : left_to_see new.outdated ≡ left_to_see old.outdated
  pub told : new.outdated.told ≡ old.outdated.told

-- they are those over a box
pub record IsPartRenewed (program : Program) (b : Box) (old new : KeptParts) (number : ℕ) : Type 0 where
  pub told : PartEnds
  pub put : IsPartPut old new number told
  pub seen : (a : Atom) → slice_get old.atoms.items number ≡ Some a → IsPartSeen program b a told
