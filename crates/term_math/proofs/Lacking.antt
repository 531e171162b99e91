-- Where an interval has no number of its set, no element is reached.
use Rattle.std.proofs.Common.{◌≡◌, ℕ, suc, ◌+◌, ◌*◌, ◌≤◌, ℤ, Bool, true, false, ◌||◌, not, List, [], ◌∷◌, ◌++◌, length, take, drop, Some, None, arith, refl, ap, sym, ◌∙◌}
use Rattle.std.specs.List.{list_any}
use Rattle.std.proofs.lemmas.Bool.{or_right}
use Rattle.std.proofs.lemmas.List.{length-drop, length-take-le}
use Rattle.box_problem.specs.Box.{Box}
use Rattle.term_language.specs.Arrays.{indices, paired}
use Rattle.term_language.specs.Ends.{Ends, has}
use Rattle.term_language.specs.Terms.{Item, Table}
use Rattle.term_language.proofs.FormValues.{by_bool}
use Rattle.term_math.specs.Within.{Known, allowed_ends, grown, if_allowed, lacks, reached_ends, wide_sets}
use Rattle.term_math.proofs.Blocks.{length_all, under}
use Rattle.term_math.proofs.Narrow.{same_count}
use Rattle.term_math.proofs.Reaching.{item_intervals, within, of_blocks, block_first, under_in, under_out}

-- each block is passed, or nothing in it is reached
module _ (b : Box) (r : Ends) (rs : List Ends) (lists : List (List ℤ)) where
  behind : (n : ℕ) (items : List Item) → length items ≡ suc n * length lists → length (drop (length lists) items) ≡ n * length lists
  behind n items complete = omega (arith, length-drop (length lists) items, complete)

  block_empty : (number : ℤ) (items : List Item) → length lists ≤ length items
      → (has r number ≡ true → item_intervals b (within rs (paired lists (take (length lists) items))) ≡ [])
      → item_intervals b (within (r ∷ rs) (paired (under number lists) (take (length lists) items))) ≡ []
  block_empty number items most none =
      by_bool (λ there. has r number ≡ there → item_intervals b (within (r ∷ rs) (paired (under number lists) (take (length lists) items))) ≡ []) (has r number)
      (λ met there. under_in b r rs number lists (take (length lists) items) there ∙ none there)
      (λ unmet out. under_out b r rs number lists (take (length lists) items) out) refl

  blocks_empty : (set : List ℤ) (items : List Item) → length items ≡ length set * length lists
      → ((number : ℤ) → (list_any (has r) set ≡ false → has r number ≡ false) → (xs : List Item) → length xs ≡ length lists → has r number ≡ true
      → item_intervals b (within rs (paired lists xs)) ≡ [])
      → of_blocks b r rs set lists items ≡ []
  blocks_empty [] items complete none = refl
  blocks_empty (number ∷ set) items complete none =
      let most : length lists ≤ length items = omega (arith, complete) in
      block_first b r rs number set lists items most
      ∙ ap (λ (es : List Ends). es ++ of_blocks b r rs set lists (drop (length lists) items))
      (block_empty number items most (none number (first_out (has r number) (list_any (has r) set)) (take (length lists) items) (length-take-le (length lists) items most)))
      ∙ blocks_empty set (drop (length lists) items) (behind (length set) items complete)
      (λ another out. none another (λ all_out. out (later_out (has r number) (list_any (has r) set) all_out)))
    where
      first_out : (a c : Bool) → (a || c) ≡ false → a ≡ false
      first_out true c is = cc
      first_out false c is = refl

      later_out : (a c : Bool) → (a || c) ≡ false → c ≡ false
      later_out true c is = absurd (cc)
      later_out false c is = is

none_reached : (b : Box) (rs : List Ends) (sets : List (List ℤ)) (items : List Item) → lacks rs sets ≡ true → length items ≡ length (indices sets) → reached_ends b rs sets items ≡ []
none_reached b [] sets items lacking complete = absurd (cc)
none_reached b (r ∷ rs) [] items lacking complete = absurd (cc)
none_reached b (r ∷ rs) (set ∷ sets) items lacking complete =
    let whole : length items ≡ length set * length (indices sets) = complete ∙ length_all set (indices sets) in
    by_bool (λ some. list_any (has r) set ≡ some → (not some || lacks rs sets) ≡ true → of_blocks b r rs set (indices sets) items ≡ []) (list_any (has r) set)
    (λ met some others. blocks_empty b r rs (indices sets) set items whole (λ number out xs count there. none_reached b rs sets xs others count))
    (λ unmet none others. blocks_empty b r rs (indices sets) set items whole (λ number out xs count there. let missing = out none in absurd (cc)))
    refl lacking

-- so none is, of those that the intervals of indices allow
pub none_allowed : (b : Box) (table : Table) (known : Known) → length table.items ≡ length (indices table.sets) → lacks known.ranges (wide_sets table.sets) ≡ true
    → grown None (allowed_ends b table (Some known)) ≡ None
none_allowed b table known complete lacking =
    ap (λ (es : List Ends). grown None (if_allowed known.allowed es)) (none_reached b known.ranges (wide_sets table.sets) table.items lacking (complete ∙ sym (same_count table.sets)))
    ∙ nothing known.allowed
  where
    nothing : (allowed : Bool) → grown None (if_allowed allowed []) ≡ None
    nothing true = refl
    nothing false = refl

-- one dimension after the other
module _ (rs : List Ends) (r : Ends) (later : List Ends) (sets : List (List ℤ)) (numbers : List ℤ) (others : List (List ℤ)) (is : rs ≡ r ∷ later) (first : sets ≡ numbers ∷ others) where
  lacks_is : lacks rs sets ≡ (not (list_any (has r) numbers) || lacks later others)
  lacks_is = ap (λ (es : List Ends). lacks es sets) is ∙ ap (lacks (r ∷ later)) first

  pub lacks_later : lacks later others ≡ true → lacks rs sets ≡ true
  lacks_later lacking = lacks_is ∙ or_right (not (list_any (has r) numbers)) (lacks later others) lacking
