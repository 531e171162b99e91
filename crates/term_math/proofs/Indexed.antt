-- An element whose indices are known one after the other is what it is by all their intervals.
use Rattle.std.proofs.Common.{◌≡◌, suc, Vec, Global, ℤ, Bool, true, false, List, [], ◌∷◌, ◌++◌, map, length, Option, None, Some, option_map, if◌then◌else◌, arith, refl, ap, sym, ◌∙◌}
use Rattle.box_problem.specs.Box.{Box}
use Rattle.term_language.specs.Arrays.{Entry, indices, entries, reached, are_covered}
use Rattle.term_language.specs.Ends.{Ends, hull_of}
use Rattle.term_language.specs.Marks.{both}
use Rattle.term_language.specs.Rules.{Near, item_ends, if_any, element_ends, reached_mark}
use Rattle.term_language.specs.Terms.{Table}
use Rattle.term_language.specs.declared.answers.Defined.{Defined}
use Rattle.term_language.specs.declared.answers.Defined.TheVariants.{Never, Maybe, Always}
use Rattle.term_math.specs.declared.elements.Element.{Element}
use Rattle.term_math.specs.Kept.{items_of, sets_of}
use Rattle.term_math.specs.Within.{Known, grown, none_known, with_dimension, with_dimensions, allowed_ends, all_covered, seen_ends, seen_mark, wide_sets}
use Rattle.term_math.proofs.Blocks.{length_all}
use Rattle.term_math.proofs.Narrow.{Agrees, blocks_agree, narrow_is, ones_allow, same_count, wide_ranges}
use Rattle.term_math.proofs.Reaching.{item_intervals, all_read, no_sets, none_grown, sets_left, some_grown}

-- all intervals beside all sets, if they are as many; else no index lies within the intervals
abbrev whole : List Ends → List (List ℤ) → Known
whole rs sets = record { covered = are_covered rs sets; allowed = ones_allow rs sets; ranges = wide_ranges rs sets }

by_count : (P : Option Known → Type 0) (rs : List Ends) (sets : List (List ℤ)) → (length rs ≡ length sets → P (Some (whole rs sets)))
    → (((b : Box) → Agrees b rs sets rs sets false) → P None) → P (with_dimensions rs sets none_known)
by_count P [] [] same other = same refl
by_count P [] (set ∷ sets) same other = other (λ b items count. none_grown _ (sets_left b set sets items None count))
by_count P (r ∷ rs) [] same other = other (λ b items count. none_grown _ (no_sets b r rs items None))
by_count P (r ∷ rs) (set ∷ sets) same other =
    by_count (λ known. P (option_map (with_dimension r set) known)) rs sets (λ many. same (omega (arith, many)))
    (λ none. other (λ b items count. blocks_agree b r rs set sets rs sets false refl (none b) items (count ∙ length_all set (indices sets))))

-- what is seen of entries
seen_entries : (b : Box) (table : Table) (es : List Entry) → length table.items ≡ length (indices table.sets)
    → seen_ends b table (item_intervals b es) ≡ hull_of (item_intervals b (if_any es (entries table)))
seen_entries b table [] complete = ap hull_of (sym (all_read b table complete))
seen_entries b table (e ∷ es) complete = refl

both_never : (m : Defined) → Never ≡ both m Never
both_never Never = refl
both_never Maybe = refl
both_never Always = refl

marked_entries : (b : Box) (m : Defined) (covered : Bool) (es : List Entry) → seen_mark m covered (item_intervals b es) ≡ both m (reached_mark covered es)
marked_entries b m covered [] = both_never m
marked_entries b m covered (e ∷ es) = marked m covered
  where
    marked : (m : Defined) (c : Bool) → (if c then m else both m Maybe) ≡ both m (if c then Always else Maybe)
    marked Never true = refl
    marked Maybe true = refl
    marked Always true = refl
    marked m false = refl

-- over all indices
module _ (b : Box) (rs : List Ends) (table : Table) (complete : length table.items ≡ length (indices table.sets)) where
  allowed_is : allowed_ends b table (with_dimensions rs table.sets none_known) ≡ item_intervals b (reached rs table)
  allowed_is =
      by_count (λ known. allowed_ends b table known ≡ item_intervals b (reached rs table)) rs table.sets (λ same. sym (narrow_is b rs table.sets same table.items complete))
      (λ none. sym (none b table.items complete))

  pub indexed_ends : seen_ends b table (allowed_ends b table (with_dimensions rs table.sets none_known)) ≡ element_ends Near b rs table
  indexed_ends = ap (seen_ends b table) allowed_is ∙ seen_entries b table (reached rs table) complete

  pub indexed_mark : (m : Defined) → seen_mark m (all_covered (with_dimensions rs table.sets none_known)) (allowed_ends b table (with_dimensions rs table.sets none_known))
      ≡ both m (reached_mark (are_covered rs table.sets) (reached rs table))
  indexed_mark m =
      by_count (λ known. seen_mark m (all_covered known) (allowed_ends b table known) ≡ both m (reached_mark (are_covered rs table.sets) (reached rs table))) rs table.sets
      (λ same. ap (seen_mark m (are_covered rs table.sets)) (sym (narrow_is b rs table.sets same table.items complete)) ∙ marked_entries b m (are_covered rs table.sets) (reached rs table))
      (λ none. ap (seen_mark m (are_covered rs table.sets)) (sym (none b table.items complete)) ∙ marked_entries b m (are_covered rs table.sets) (reached rs table))

-- the last index goes first
no_more_sets : (rs : List Ends) (r : Ends) (known : Known) → with_dimensions (rs ++ r ∷ []) [] known ≡ None
no_more_sets [] r known = refl
no_more_sets (q ∷ rs) r known = refl

no_more_ranges : (sets : List (List ℤ)) (set : List ℤ) (known : Known) → with_dimensions [] (sets ++ set ∷ []) known ≡ None
no_more_ranges [] set known = refl
no_more_ranges (one ∷ sets) set known = refl

pub last_known : (rs : List Ends) (r : Ends) (sets : List (List ℤ)) (set : List ℤ) (known : Known) → with_dimensions (rs ++ r ∷ []) (sets ++ set ∷ []) known
    ≡ with_dimensions rs sets (with_dimension r set known)
last_known [] r [] set known = refl
last_known [] r (one ∷ sets) set known = ap (option_map (with_dimension r one)) (no_more_ranges sets set known)
last_known (q ∷ rs) r [] set known = ap (option_map (with_dimension q set)) (no_more_sets rs r known)
last_known (q ∷ rs) r (one ∷ sets) set known = ap (option_map (with_dimension q one)) (last_known rs r sets set known)

pub sets_missing : (rs : List Ends) (r : Ends) (sets : List (List ℤ)) (known : Known) → length sets ≡ 0 → with_dimensions (rs ++ r ∷ []) sets known ≡ None
sets_missing rs r [] known none = no_more_sets rs r known
sets_missing rs r (set ∷ sets) known none = absurd (omega (arith, none))

-- what was found, and what is seen then
pub none_ends : (b : Box) (table : Table) (found : List Ends) (a : Ends) → grown None found ≡ None → a ≡ hull_of (map (item_ends b) table.items) → a ≡ seen_ends b table found
none_ends b table found a none is = is ∙ sym (ap (seen_ends b table) (none_grown found none))

pub none_mark : (m : Defined) (covered : Bool) (found : List Ends) → grown None found ≡ None → Never ≡ seen_mark m covered found
none_mark m covered found none = sym (ap (seen_mark m covered) (none_grown found none))

pub some_ends : (b : Box) (table : Table) (found : List Ends) (a : Ends) → grown None found ≡ Some a → a ≡ seen_ends b table found
some_ends b table [] a is = absurd (cc)
some_ends b table (e ∷ found) a is = some_grown (e ∷ found) a is

pub some_mark : (m : Defined) (covered : Bool) (found : List Ends) (a : Ends) → grown None found ≡ Some a → (if covered then m else both m Maybe) ≡ seen_mark m covered found
some_mark m covered [] a is = absurd (cc)
some_mark m covered (e ∷ found) a is = refl

pub wide_complete : (sets ss : List (Vec ℤ Global)) (elements es : List Element) → ss ≡ sets → es ≡ elements → length (items_of elements) ≡ length (indices (sets_of sets))
    → length es ≡ length (indices (wide_sets (sets_of ss)))
wide_complete sets ss elements es same_sets same_elements complete =
    ap length same_elements ∙ sym (count elements) ∙ complete ∙ sym (same_count (sets_of sets)) ∙ ap (λ (xs : List (Vec ℤ Global)). length (indices (wide_sets (sets_of xs)))) (sym same_sets)
  where
    count : (xs : List Element) → length (items_of xs) ≡ length xs
    count [] = refl
    count (x ∷ xs) = ap suc (count xs)
