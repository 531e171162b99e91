-- The elements of an array whose indices lie within intervals.
use Rattle.std.specs.Prelude.{◌≡◌, ℤ, Bool, true, false, ◌&&◌, ◌||◌, not, List, [], ◌∷◌, map, Option, Some, None, option_map, if◌then◌else◌}
use Rattle.std.specs.List.{filter, list_any}
use Rattle.box_problem.specs.Box.{Box}
use Rattle.term_language.specs.Arrays.{Entry, indices, paired, lies_in, is_covered}
use Rattle.term_language.specs.Ends.{Ends, has, hull, hull_of}
use Rattle.term_language.specs.Marks.{both}
use Rattle.term_language.specs.Rules.{item_ends}
use Rattle.term_language.specs.Terms.{Item, Table}
use Rattle.term_language.specs.declared.answers.Defined.{Defined}
use Rattle.term_language.specs.declared.answers.Defined.TheVariants.{Never, Maybe}
use Rattle.term_math.specs.Shown.{ends_of}
use Rattle.term_math.specs.declared.ranges.Indices.{Indices}
use Rattle.term_math.specs.declared.ranges.Ranges.{Ranges, End, First'}

-- intervals as they are kept
abbrev pub ranges_of : Ranges → List Ends
ranges_of End = []
ranges_of (First' a at later) = ends_of a ∷ ranges_of later

-- the hull of what was found, if anything was, and of an interval more
abbrev pub joined : Option Ends → Ends → Ends
joined None a = a
joined (Some found) a = hull found a

-- and of several more
abbrev pub grown : Option Ends → List Ends → Option Ends
grown found [] = found
grown found (a ∷ later) = grown (Some (joined found a)) later

-- the intervals of the items whose indices lie within intervals
abbrev pub reached_ends : Box → List Ends → List (List ℤ) → List Item → List Ends
reached_ends b intervals sets items =
    map (λ (entry : Entry). item_ends b entry.item) (filter (λ (entry : Entry). lies_in intervals entry.index) (paired (indices sets) items))

-- a set of one number, the sets that are none, and whether the first one is none
abbrev pub is_one : List ℤ → Bool
is_one [] = false
is_one (n ∷ []) = true
is_one (n ∷ (m ∷ set)) = false

abbrev pub wide_sets : List (List ℤ) → List (List ℤ)
wide_sets [] = []
wide_sets (set ∷ sets) = if is_one set then wide_sets sets else set ∷ wide_sets sets

abbrev pub IsWideFirst : List (List ℤ) → Type 0
IsWideFirst [] = Unit
IsWideFirst (set ∷ sets) = is_one set ≡ false

-- one of the intervals has no number of the set beside it
abbrev pub lacks : List Ends → List (List ℤ) → Bool
lacks [] sets = false
lacks (r ∷ rs) [] = false
lacks (r ∷ rs) (set ∷ sets) = not (list_any (has r) set) || lacks rs sets

-- an interval has the number of a set of one number
abbrev pub has_one : Ends → List ℤ → Bool
has_one r [] = true
has_one r (n ∷ []) = has r n
has_one r (n ∷ (m ∷ set)) = true

-- what is known of the indices of an element: whether each number that they may have is in its set, whether those of sets of one number may have
-- that number, and the intervals of the others
pub record Known : Type 0 where
  pub covered : Bool
  pub allowed : Bool
  pub ranges : List Ends

abbrev pub none_known : Known
none_known = record { covered = true; allowed = true; ranges = [] }

abbrev pub known_of : Indices → List Ends → Known
known_of indices ranges = record { covered = indices.covered; allowed = indices.allowed; ranges = ranges }

-- with an index in front, and with several, if there is one for each set
abbrev pub with_dimension : Ends → List ℤ → Known → Known
with_dimension r set known = record {
  covered = is_covered r set && known.covered;
  allowed = has_one r set && known.allowed;
  ranges = if is_one set then known.ranges else r ∷ known.ranges;
}

abbrev pub with_dimensions : List Ends → List (List ℤ) → Known → Option Known
with_dimensions [] [] known = Some known
with_dimensions [] (set ∷ sets) known = None
with_dimensions (r ∷ rs) [] known = None
with_dimensions (r ∷ rs) (set ∷ sets) known = option_map (with_dimension r set) (with_dimensions rs sets known)

-- the intervals of the items that such indices allow
abbrev pub if_allowed : Bool → List Ends → List Ends
if_allowed true es = es
if_allowed false es = []

abbrev pub allowed_ends : Box → Table → Option Known → List Ends
allowed_ends b table None = []
allowed_ends b table (Some known) = if_allowed known.allowed (reached_ends b known.ranges (wide_sets table.sets) table.items)

abbrev pub all_covered : Option Known → Bool
all_covered None = false
all_covered (Some known) = known.covered

-- what is seen of an element by the intervals of the items that are allowed: their hull, or that of all where there are none
abbrev pub seen_ends : Box → Table → List Ends → Ends
seen_ends b table [] = hull_of (map (item_ends b) table.items)
seen_ends b table (a ∷ found) = hull_of (a ∷ found)

-- and its mark, by that of the indices
abbrev pub seen_mark : Defined → Bool → List Ends → Defined
seen_mark mark covered [] = Never
seen_mark mark covered (a ∷ found) = if covered then mark else both mark Maybe
