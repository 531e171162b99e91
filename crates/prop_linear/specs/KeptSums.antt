-- The sum of a linear comparison, as it is kept from one box to the next.
use Rattle.std.specs.Prelude.{◌≡◌, ℕ, ◌<◌, ◌≤◌, ℤ, pos, true, List, [], ◌∷◌, length, Contains, slice_index_or}
use Rattle.box_problem.specs.Box.{Box}
use Rattle.term_language.specs.Ends as rule
use Rattle.term_math.specs.declared.ends.Ends.{Ends}
use Rattle.term_math.specs.declared.forms.Coefficient.{Coefficient}
use Rattle.term_math.specs.Shown.{ends_of}
use Rattle.prop_linear.specs.declared.balances.Difference.{Difference}
use Rattle.prop_linear.specs.declared.kept_sum.KeptSum.{KeptSum}
use Rattle.prop_linear.specs.declared.maxima.Maxima.{Maxima}
use Rattle.prop_linear.specs.Balances.{box_of, ends_width, multiple_over, sum_over}
use Rattle.prop_linear.specs.Maxima.{IsTopped, kept_number}

-- the sum of several intervals
abbrev pub sum_of_ends : List Ends → rule.Ends
sum_of_ends [] = rule.exactly (pos 0)
sum_of_ends (a ∷ later) = rule.plus (ends_of a) (sum_of_ends later)

-- the sum is that of the intervals that are kept, each of which is that of a part over a box, unless its cell was told; and their widths
-- are kept
pub record SumsUp (told : List ℕ) (constant : ℤ) (parts : List Coefficient) (b : Box) (k : KeptSum) : Type 0 where
  pub whole : ends_of k.whole ≡ rule.plus (rule.exactly constant) (sum_of_ends k.each.items)
  pub each : (place : ℕ) (c : Coefficient) (e : Ends) → place < length parts → ¬ Contains told (slice_index_or parts place c).cell
      → ends_of (slice_index_or k.each.items place e) ≡ multiple_over b (slice_index_or parts place c)
  pub widths : (place : ℕ) (e : Ends) → place < length k.each.items
      → kept_number k.widths place ≡ ends_width (ends_of (slice_index_or k.each.items place e))

-- which is so where it is said that something is known
abbrev pub SumsUpIfKnown : ℤ → List Coefficient → Box → KeptSum → Type 0
SumsUpIfKnown constant parts b k = k.known ≡ true → SumsUp k.told.items constant parts b k

-- there is a place for each of so many parts
pub record HasPlaces (count : ℕ) (k : KeptSum) : Type 0 where
  pub each : length k.each.items ≡ count
  pub places : count ≤ k.widths.first
  pub topped : IsTopped k.widths

-- these are the widths of a comparison's parts over its box
pub record AreWidths (d : Difference) (m : Maxima) : Type 0 where
  pub topped : IsTopped m
  pub places : length d.parts.now ≤ m.first
  pub each : (place : ℕ) (c : Coefficient) → place < length d.parts.now
      → kept_number m place ≡ ends_width (multiple_over (box_of d) (slice_index_or d.parts.now place c))

-- and this is its sum
pub record KnowsSum (d : Difference) (k : KeptSum) : Type 0 where
  pub whole : ends_of k.whole ≡ sum_over d (box_of d)
  pub widths : AreWidths d k.widths
