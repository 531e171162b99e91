-- A sum that is kept, and how it is mended.
use Rattle.std.proofs.Common.{◌≡◌, inl, inr, ℕ, zero, suc, ◌+◌, ◌<◌, ◌≤◌, ℤ, ◌+ℤ◌, ◌-ℤ◌, Vec, List, [], ◌∷◌, ◌++◌, length, get_or, set, length-set, arith, refl, sym, ap, ap₂, subst, ◌∙◌}
use Rattle.std.specs.Global.{Global}
use Rattle.std.specs.List.{Contains}
use Rattle.std.proofs.lemmas.Bool.{cases_eq, cases_lt}
use Rattle.std.proofs.lemmas.Grind.{get_or-set_at}
use Rattle.std.proofs.lemmas.Int.{ints}
use Rattle.std.proofs.lemmas.List.{get_or_default, get_or-set_other}
use Rattle.std.proofs.lemmas.List.Elements.{Contains-append_cases, Contains-append_left, Contains-append_right}
use Rattle.sopl_base.proofs.Lists.{contains_one}
use Rattle.box_problem.specs.Box.{Box}
use Rattle.term_language.specs.Ends as rule
use Rattle.term_language.specs.Forms.{cells_ends}
use Rattle.term_math.specs.declared.ends.Ends.{Ends}
use Rattle.term_math.specs.declared.forms.Coefficient.{Coefficient}
use Rattle.term_math.specs.Shown.{cells_of, ends_of}
use Rattle.prop_core.specs.Watches.{AgreeElsewhere}
use Rattle.prop_linear.specs.declared.balances.Difference.{Difference}
use Rattle.prop_linear.specs.declared.kept_sum.KeptSum.{KeptSum}
use Rattle.prop_linear.specs.declared.maxima.Maxima.{Maxima}
use Rattle.prop_linear.specs.Balances.{Ascend, IsLight, IsPartAt, IsPlaceOf, box_of, ends_width, multiple_over, sum_over}
use Rattle.prop_linear.specs.KeptSums.{HasPlaces, KnowsSum, SumsUp, SumsUpIfKnown, sum_of_ends}
use Rattle.prop_linear.specs.Maxima.{IsTopped, kept_number}
use Rattle.prop_linear.proofs.Cells.{IsMoved, above_all}

-- a sum in which one interval is another one
pub sum_set : (xs : List Ends) (i : ℕ) (d new : Ends) → i < length xs → IsMoved (sum_of_ends xs) (sum_of_ends (set xs i new)) (ends_of (get_or xs i d)) (ends_of new)
sum_set [] i d new below = absurd (omega (arith, below))
sum_set (x ∷ xs) zero d new below = record { low = omega (arith, ints); high = omega (arith, ints) }
sum_set (x ∷ xs) (suc i) d new below =
    let rest = sum_set xs i d new (omega (arith, below)) in
    record { low = omega (arith, ints, rest.low); high = omega (arith, ints, rest.high) }

-- the sum of the intervals of all parts
pub sum_cells : (b : Box) (parts : List Coefficient) (each : List Ends) → length each ≡ length parts
    → ((i : ℕ) (c : Coefficient) (e : Ends) → i < length parts → ends_of (get_or each i e) ≡ multiple_over b (get_or parts i c)) → sum_of_ends each ≡ cells_ends b (cells_of parts)
sum_cells b [] [] same all = refl
sum_cells b [] (x ∷ xs) same all = absurd (omega (arith, same))
sum_cells b (c ∷ parts) [] same all = absurd (omega (arith, same))
sum_cells b (c ∷ parts) (x ∷ xs) same all =
    ap₂ rule.plus (all 0 c x (omega arith)) (sum_cells b parts xs (omega (arith, same)) (λ i d e below. all (suc i) d e (omega (arith, below))))

-- cells that ascend differ
ascends_at : (parts : List Coefficient) (i j : ℕ) (c : Coefficient) → Ascend parts → i < j → j < length parts → (get_or parts i c).cell < (get_or parts j c).cell
ascends_at [] i j c ascend before below = absurd (omega (arith, below))
ascends_at (x ∷ later) i zero c ascend before below = absurd (omega (arith, before))
ascends_at (x ∷ later) zero (suc j) c ascend before below =
    let there : j < length later = omega (arith, below) in
    above_all x.cell later (get_or later j c) ascend.0 (j, there, get_or_default later j (get_or later j c) c there)
ascends_at (x ∷ later) (suc i) (suc j) c ascend before below = ascends_at later i j c ascend.1 (omega (arith, before)) (omega (arith, below))

cells_differ : (parts : List Coefficient) (i j : ℕ) (c : Coefficient) → Ascend parts → ¬ i ≡ j → i < length parts → j < length parts → ¬ (get_or parts i c).cell ≡ (get_or parts j c).cell
cells_differ parts i j c ascend other first second = λ same.
    elim (cases_lt i j) [
      | inl before ↦ let less = ascends_at parts i j c ascend before second in absurd (omega (arith, less, same))
      | inr behind ↦ let less = ascends_at parts j i c ascend (omega (arith, behind, other)) first in absurd (omega (arith, less, same))
    ]

-- a cell is told
pub places_alike : (old new : KeptSum) (count : ℕ) → new.each ≡ old.each → new.widths ≡ old.widths → HasPlaces count old → HasPlaces count new
places_alike old new count each widths places = record {
  each = ap (λ (v : Vec Ends Global). length v.items) each ∙ places.each;
  places = subst (λ (m : Maxima). count ≤ m.first) (sym widths) places.places;
  topped = subst IsTopped (sym widths) places.topped;
}

pub sums_told : (constant : ℤ) (parts : List Coefficient) (b c : Box) (cell : ℕ) (old new : KeptSum) → new.whole ≡ old.whole → new.each ≡ old.each → new.widths ≡ old.widths
    → new.told.items ≡ old.told.items ++ cell ∷ [] → AgreeElsewhere cell b c → SumsUp old.told.items constant parts b old → SumsUp new.told.items constant parts c new
sums_told constant parts b c cell old new whole each widths told agree sums = record {
  whole = ap ends_of whole ∙ (sums.whole ∙ sym (ap (λ (v : Vec Ends Global). rule.plus (rule.exactly constant) (sum_of_ends v.items)) each));
  each = λ place part e below fresh.
      let own = get_or parts place part in
      let before : ¬ Contains old.told.items own.cell =
      λ there. fresh (subst (λ (list : List ℕ). Contains list own.cell) (sym told) (Contains-append_left old.told.items (cell ∷ []) own.cell there))
      in
      let other : ¬ own.cell ≡ cell =
      λ same. fresh (subst (λ (list : List ℕ). Contains list own.cell) (sym told) (Contains-append_right old.told.items (cell ∷ []) own.cell (0, omega arith, sym same)))
      in
      ap (λ (v : Vec Ends Global). ends_of (get_or v.items place e)) each
      ∙ (sums.each place part e below before ∙ ap (rule.scaled own.k) (ap₂ rule.ends (agree.lows own.cell other) (agree.highs own.cell other)));
  widths = λ place e below.
      ap (λ (m : Maxima). kept_number m place) widths
      ∙ (sums.widths place e (subst (λ (v : Vec Ends Global). place < length v.items) each below)
      ∙ sym (ap (λ (v : Vec Ends Global). ends_width (ends_of (get_or v.items place e))) each));
}

pub sums_popped : (told : List ℕ) (d : Difference) (old new : KeptSum) → SumsUp old.told.items d.constant d.parts.now (box_of d) old → old.told.items ≡ told → new.whole ≡ old.whole
    → new.each ≡ old.each → new.widths ≡ old.widths → SumsUp told d.constant d.parts.now (box_of d) new
sums_popped told d old new sums is whole each widths =
    subst (λ (list : List ℕ). SumsUp list d.constant d.parts.now (box_of d) new) is
    (record {
      whole = ap ends_of whole ∙ (sums.whole ∙ sym (ap (λ (v : Vec Ends Global). rule.plus (rule.exactly d.constant) (sum_of_ends v.items)) each));
      each = λ place part e below fresh. ap (λ (v : Vec Ends Global). ends_of (get_or v.items place e)) each ∙ sums.each place part e below fresh;
      widths = λ place e below.
          ap (λ (m : Maxima). kept_number m place) widths
          ∙ (sums.widths place e (subst (λ (v : Vec Ends Global). place < length v.items) each below)
          ∙ sym (ap (λ (v : Vec Ends Global). ends_width (ends_of (get_or v.items place e))) each));
    })

-- an interval is put at its place
pub record IsPartPut (old new : KeptSum) (place : ℕ) (part : Ends) : Type 0 where
  pub each : new.each.items ≡ set old.each.items place part
  pub width : kept_number new.widths place ≡ ends_width (ends_of part)
  pub others : (other : ℕ) → ¬ other ≡ place → kept_number new.widths other ≡ kept_number old.widths other

put_here : (old new : KeptSum) (place k : ℕ) (part e : Ends) → IsPartPut old new place part → place < length old.each.items → k ≡ place → get_or new.each.items k e ≡ part
put_here old new place k part e put exists same =
    ap (λ (xs : List Ends). get_or xs k e) put.each ∙ get_or-set_at old.each.items place k part e same exists

put_there : (old new : KeptSum) (place k : ℕ) (part e : Ends) → IsPartPut old new place part → ¬ k ≡ place → get_or new.each.items k e ≡ get_or old.each.items k e
put_there old new place k part e put other =
    ap (λ (xs : List Ends). get_or xs k e) put.each ∙ get_or-set_other old.each.items place k part e other

width_put : (old new : KeptSum) (place k : ℕ) (part e : Ends) → IsPartPut old new place part → place < length old.each.items
    → (¬ k ≡ place → kept_number old.widths k ≡ ends_width (ends_of (get_or old.each.items k e))) → kept_number new.widths k ≡ ends_width (ends_of (get_or new.each.items k e))
width_put old new place k part e put exists before =
    elim (cases_eq k place) [
      | inl same ↦
          ap (kept_number new.widths) same ∙ (put.width ∙ sym (ap (λ (x : Ends). ends_width (ends_of x)) (put_here old new place k part e put exists same)))
      | inr other ↦
          put.others k other ∙ (before other ∙ sym (ap (λ (x : Ends). ends_width (ends_of x)) (put_there old new place k part e put other)))
    ]

-- the part of a cell that was told is seen anew
pub sums_renewed : (told : List ℕ) (cell : ℕ) (d : Difference) (old new : KeptSum) (place : ℕ) (before part rest : Ends) → IsLight d → IsPlaceOf d place cell
    → HasPlaces (length d.parts.now) old → IsPartAt d place (ends_of part) → before ≡ get_or old.each.items place before → IsPartPut old new place part
    → rest.low ≡ old.whole.low -ℤ before.low → rest.high ≡ old.whole.high -ℤ before.high → new.whole.low ≡ rest.low +ℤ part.low → new.whole.high ≡ rest.high +ℤ part.high
    → SumsUp (told ++ cell ∷ []) d.constant d.parts.now (box_of d) old → SumsUp told d.constant d.parts.now (box_of d) new
sums_renewed told cell d old new place before part rest light at places seen was put rest_low rest_high low high sums =
    let b = box_of d in
    let parts = d.parts.now in
    let exists : place < length old.each.items = omega (arith, at.exists, places.each) in
    let moved = sum_set old.each.items place before part exists in
    let old_low = ap (λ (a : rule.Ends). a.low) sums.whole in
    let old_high = ap (λ (a : rule.Ends). a.high) sums.whole in
    let was_low = ap (λ (e : Ends). e.low) was in
    let was_high = ap (λ (e : Ends). e.high) was in
    record {
      whole = ap₂ rule.ends (omega (arith, ints, low, rest_low, old_low, was_low, moved.low)) (omega (arith, ints, high, rest_high, old_high, was_high, moved.high))
          ∙ sym (ap (λ (xs : List Ends). rule.plus (rule.exactly d.constant) (sum_of_ends xs)) put.each);
      each = λ k c e below fresh.
          elim (cases_eq k place) [
            | inl same ↦
                ap ends_of (put_here old new place k part e put exists same) ∙ (seen c ∙ ap (λ (n : ℕ). multiple_over b (get_or parts n c)) (sym same))
            | inr other ↦
                ap ends_of (put_there old new place k part e put other)
                ∙ sums.each k c e below
                (λ there. elim (Contains-append_cases told (cell ∷ []) (get_or parts k c).cell there) [
                  | inl left ↦ fresh left
                  | inr last ↦
                      cells_differ parts k place c light.ascend other below at.exists (sym (contains_one cell (get_or parts k c).cell last) ∙ sym (at.own c))
                ])
          ];
      widths = λ k e below.
          width_put old new place k part e put exists (λ other. sums.widths k e (omega (arith, below, ap length put.each, length-set old.each.items place part)));
    }

-- and all parts are
pub record ArePartsSeen (d : Difference) (count : ℕ) (k : KeptSum) : Type 0 where
  pub each : (place : ℕ) (c : Coefficient) (e : Ends) → place < count → ends_of (get_or k.each.items place e) ≡ multiple_over (box_of d) (get_or d.parts.now place c)
  pub widths : (place : ℕ) (e : Ends) → place < count → kept_number k.widths place ≡ ends_width (ends_of (get_or k.each.items place e))

pub parts_more : (d : Difference) (at : ℕ) (old new : KeptSum) (part : Ends) → at < length old.each.items → IsPartAt d at (ends_of part) → IsPartPut old new at part → ArePartsSeen d at old
    → ArePartsSeen d (at + 1) new
parts_more d at old new part exists seen put before = record {
  each = λ k c e below.
      elim (cases_eq k at) [
        | inl same ↦
            ap ends_of (put_here old new at k part e put exists same) ∙ (seen c ∙ ap (λ (n : ℕ). multiple_over (box_of d) (get_or d.parts.now n c)) (sym same))
        | inr other ↦
            ap ends_of (put_there old new at k part e put other) ∙ before.each k c e (omega (arith, below, other))
      ];
  widths = λ k e below.
      width_put old new at k part e put exists (λ other. before.widths k e (omega (arith, below, other)));
}

pub parts_all : (d : Difference) (told : List ℕ) (count : ℕ) (k : KeptSum) → length d.parts.now ≤ count → HasPlaces (length d.parts.now) k → ends_of k.whole ≡ sum_over d (box_of d)
    → ArePartsSeen d count k → SumsUp told d.constant d.parts.now (box_of d) k
parts_all d told count k all places whole seen = record {
  whole = whole
      ∙ sym (ap (rule.plus (rule.exactly d.constant))
      (sum_cells (box_of d) d.parts.now k.each.items places.each (λ place c e below. seen.each place c e (omega (arith, below, all)))));
  each = λ place c e below fresh. seen.each place c e (omega (arith, below, all));
  widths = λ place e below. seen.widths place e (omega (arith, below, all, places.each));
}

-- then the sum is known
nothing_told : (n : ℕ) → ¬ Contains [] n
nothing_told n has = omega (arith, has.1)

pub sum_known : (d : Difference) (k : KeptSum) → HasPlaces (length d.parts.now) k → SumsUp [] d.constant d.parts.now (box_of d) k → KnowsSum d k
sum_known d k places sums =
    let b = box_of d in
    let parts = d.parts.now in
    let each : (i : ℕ) (c : Coefficient) (e : Ends) → i < length parts → ends_of (get_or k.each.items i e) ≡ multiple_over b (get_or parts i c) =
    λ i c e below. sums.each i c e below (nothing_told (get_or parts i c).cell)
    in
    let none : Ends = record { low = k.whole.low; high = k.whole.high } in
    record {
      whole = sums.whole ∙ ap (rule.plus (rule.exactly d.constant)) (sum_cells b parts k.each.items places.each each);
      widths = record {
        topped = places.topped;
        places = places.places;
        each = λ i c below. sums.widths i none (omega (arith, below, places.each)) ∙ ap ends_width (each i c none below);
      };
    }

-- what is kept, of a comparison that is read from a constraint
pub sums_read : (constant : ℤ) (parts : List Coefficient) (b : Box) (d : Difference) (k : KeptSum) → d.constant ≡ constant → d.parts.now ≡ parts → box_of d ≡ b
    → SumsUpIfKnown constant parts b k → SumsUpIfKnown d.constant d.parts.now (box_of d) k
sums_read constant parts b d k same_constant same_parts same_box sums =
    subst (λ (z : ℤ). SumsUpIfKnown z d.parts.now (box_of d) k) (sym same_constant)
    (subst (λ (list : List Coefficient). SumsUpIfKnown constant list (box_of d) k) (sym same_parts) (subst (λ (x : Box). SumsUpIfKnown constant parts x k) (sym same_box) sums))

pub sums_kept : (constant : ℤ) (parts : List Coefficient) (b : Box) (d : Difference) (k : KeptSum) → d.constant ≡ constant → d.parts.now ≡ parts → box_of d ≡ b
    → SumsUpIfKnown d.constant d.parts.now (box_of d) k → SumsUpIfKnown constant parts b k
sums_kept constant parts b d k same_constant same_parts same_box sums =
    subst (λ (z : ℤ). SumsUpIfKnown z parts b k) same_constant
    (subst (λ (list : List Coefficient). SumsUpIfKnown d.constant list b k) same_parts (subst (λ (x : Box). SumsUpIfKnown d.constant d.parts.now x k) same_box sums))
