-- What a store of terms and conditions stands for.
use Rattle.std.specs.Prelude.{◌≡◌, ◌⊎◌, ◌<◌, ◌≤◌, ◌^◌, pos, ℕ, Result, Ok, Err, List, [], ◌∷◌, ◌++◌, length}
use Rattle.sopl_base.specs.declared.fault.Fault.{Fault}
use Rattle.sopl_base.specs.declared.fault.Fault.TheVariants.{Limit, NoMemory}
use Rattle.sopl_base.specs.declared.codes.TheConstants as codes
use Rattle.sopl_base.specs.declared.limits.TheConstants as largest
use Rattle.box_problem.specs.Box.{Box, IsBox}
use Rattle.term_store.specs.declared.store.TermStore.{TermStore}
use Rattle.term_nodes.specs.Things.{Thing, things}
use Rattle.term_nodes.specs.Built.{IsBuilt}

-- the root box, and what stands at each number
abbrev pub root_of : TermStore → Box
root_of s = record { lows = s.lows.items; highs = s.highs.items }

abbrev pub all : TermStore → List Thing
all s = things s.items.items

-- all that is kept is right
pub record IsSoundStore (s : TermStore) : Type 0 where
  pub root_is_box : IsBox (root_of s)
  pub built : IsBuilt (root_of s) s.items.items
  pub few : length s.items.items < 2 ^ 32

-- something was added, behind what there was
pub record IsAdded (before after : List Thing) (id : ℕ) (thing : Thing) : Type 0 where
  pub number : id ≡ length before
  pub added : after ≡ before ++ thing ∷ []

-- the refusal of a term of this size
abbrev pub too_large : ℕ → Fault
too_large size = Limit (record { code = codes.TERM_SIZE; counted = pos size; limit = pos largest.TERM_SIZE })

-- a term is there only with a size of at most 2^40; it is refused for a greater one, or memory runs out
abbrev pub IsMeasured : {A : Type 0} → ℕ → Result A Fault → Type 0
IsMeasured size (Ok x) = size ≤ largest.TERM_SIZE
IsMeasured size (Err fault) = (fault ≡ NoMemory) ⊎ ((fault ≡ too_large size) × (2 ^ 40 < size))
