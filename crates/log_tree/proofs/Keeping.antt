-- What is kept of the rows tells where the next node may hang.
use Rattle.std.proofs.Common.{◌≡◌, ◌∙◌, ◌<◌, ◌≤◌, ◌+◌, ◌⊎◌, inl, inr, ◌==◌, ℕ, suc, List, [], ◌∷◌, ◌++◌, length, Option, Some, None, Bool, true, false, refl, sym, ap, subst, arith, lt-ltb}
use Rattle.std.specs.Bool.{Decides}
use Rattle.std.proofs.lemmas.Bool.{and_parts, cases_eq, and_from}
use Rattle.std.proofs.lemmas.List.{get_or_append_left, length-append, get_or-set_same, get_or-set_other, length-set}
use Rattle.std.proofs.Math.Seq.{get_or-append_seam}
use Rattle.sopl_base.specs.declared.reason.Side.{Side}
use Rattle.sopl_base.specs.declared.reason.Side.TheVariants.{Le, Ge}
use Rattle.sopl_base.proofs.Tests.{nat_tested}
use Rattle.log_rows.specs.declared.rows.Parent.{Parent}
use Rattle.log_rows.specs.declared.rows.Row.{Row}
use Rattle.log_rows.specs.declared.rows.EndLine.{EndLine}
use Rattle.log_rows.specs.declared.rows.EndLine.TheVariants.{Refuted, Split, Point, Unfinished}
use Rattle.log_rows.specs.Rows.{row_at, Hangs, AreOrdered, IsSplit, depth_of, depth_at}
use Rattle.log_rows.specs.Accepted.{greatest_depth}
use Rattle.log_rows.proofs.Places.{row_stays, row_last, depth_stays, depth_last, hangs_stays, hangs_prefix}
use Rattle.log_rows.proofs.Growing.{hung, still_hangs, side_hangs, side_in}
use Rattle.log_tree.specs.declared.slots.Slots.{Slots}
use Rattle.log_tree.specs.declared.reading.Heading.{Heading}
use Rattle.log_tree.specs.Reads.{IsNextNode}
use Rattle.log_tree.specs.Slots.{slots_at, no_slots, is_free, taken, is_split, may_hang, is_next, depth_in, with_taken, new_slots, some_parent, SlotsFit}

equal_is : (m n : ℕ) → (m == n) ≡ true → m ≡ n
equal_is m n is = grind (arith, is)

is_equal : (m n : ℕ) → m ≡ n → (m == n) ≡ true
is_equal m n is = grind (arith, is)

module _ (rows : List Row) (slots : List Slots) (keeps : SlotsFit rows slots) where
  pub may_hang_tells : (parent : Option Parent) → may_hang slots parent ≡ true → Hangs rows (length rows) parent
  may_hang_tells None is = sym keeps.each ∙ equal_is (length slots) 0 is
  may_hang_tells (Some parent) is =
      let parts = and_parts _ _ is in
      (keeps.free parent.node parent.side (subst (λ n. parent.node < n) keeps.each (nat_tested parent.node (length slots) parts.0))).0 parts.1

  pub may_hang_told : (parent : Option Parent) → Hangs rows (length rows) parent → may_hang slots parent ≡ true
  may_hang_told None hangs = is_equal (length slots) 0 (keeps.each ∙ hangs)
  may_hang_told (Some parent) hangs =
      and_from _ _ (lt-ltb parent.node (length slots) (subst (λ n. parent.node < n) (sym keeps.each) hangs.earlier)) ((keeps.free parent.node parent.side hangs.earlier).1 hangs)

  pub next_tells : (heading : Heading) → is_next slots heading ≡ true → IsNextNode rows heading
  next_tells heading is =
      let parts = and_parts _ _ is in
      record { number = equal_is heading.number (length slots) parts.0 ∙ keeps.each; hangs = may_hang_tells heading.parent parts.1 }

  pub next_told : (heading : Heading) → IsNextNode rows heading → is_next slots heading ≡ true
  next_told heading next = and_from _ _ (is_equal heading.number (length slots) (next.number ∙ sym keeps.each)) (may_hang_told heading.parent next.hangs)

  pub depth_is : (parent : Option Parent) → Hangs rows (length rows) parent → depth_in slots parent ≡ depth_at rows parent
  depth_is None hangs = refl
  depth_is (Some parent) hangs = ap (λ n. n + 1) (keeps.depths parent.node hangs.earlier)

free_taken : (h : Slots) (a b : Side) → ((a ≡ b) × (is_free (taken h a) b ≡ false)) ⊎ ((¬ a ≡ b) × (is_free (taken h a) b ≡ is_free h b))
free_taken h Le Le = inl (refl, refl)
free_taken h Le Ge = inr (λ same. absurd (cc), refl)
free_taken h Ge Le = inr (λ same. absurd (cc), refl)
free_taken h Ge Ge = inl (refl, refl)

-- one row more
module _ (rows : List Row) (slots : List Slots) (keeps : SlotsFit rows slots) (row : Row) (hangs : Hangs rows (length rows) row.parent) (shallow : depth_at rows row.parent ≤ greatest_depth) where
  abbrev more : List Row
  more = rows ++ row ∷ []

  abbrev last : Slots
  last = new_slots row.end (depth_at rows row.parent)

  abbrev kept : List Slots
  kept = with_taken slots row.parent ++ last ∷ []

  more_length : length more ≡ suc (length rows)
  more_length = omega (arith, length-append rows (row ∷ []))

  same_length : (parent : Option Parent) → length (with_taken slots parent) ≡ length rows
  same_length None = keeps.each
  same_length (Some parent) = length-set slots parent.node (taken (slots_at slots parent.node) parent.side) ∙ keeps.each

  each_more : length kept ≡ length more
  each_more = omega (arith, length-append (with_taken slots row.parent) (last ∷ []), length-append rows (row ∷ []), same_length row.parent)

  old_slots : (k : ℕ) → k < length rows → slots_at kept k ≡ slots_at (with_taken slots row.parent) k
  old_slots k exists = get_or_append_left (with_taken slots row.parent) (last ∷ []) no_slots k (subst (λ n. k < n) (sym (same_length row.parent)) exists)

  last_slots : slots_at kept (length rows) ≡ last
  last_slots = ap (λ n. slots_at kept n) (sym (same_length row.parent)) ∙ get_or-append_seam (with_taken slots row.parent) last [] no_slots

  -- each row, old or new
  each_of : (P : ℕ → Type 0) → ((k : ℕ) → k < length rows → P k) → P (length rows) → (k : ℕ) → k < length more → P k
  each_of P old new k exists =
      elim (cases_eq k (length rows)) [
        | inl same ↦ subst P (sym same) new
        | inr other ↦ old k (omega (arith, more_length, other))
      ]

  row_parent : (row_at more (length rows)).parent ≡ row.parent
  row_parent = ap (λ (r : Row). r.parent) (row_last rows row [])

  hangs_there : Hangs more (length rows) (row_at more (length rows)).parent
  hangs_there = subst (λ (p : Option Parent). Hangs more (length rows) p) (sym row_parent) (hangs_stays rows (row ∷ []) (length rows) row.parent (omega arith) hangs)

  ordered_more : AreOrdered more
  ordered_more = each_of (λ k. Hangs more k (row_at more k).parent) (λ k exists. subst (λ (r : Row). Hangs more k r.parent) (sym (row_stays rows (row ∷ []) k exists)) (hangs_stays rows (row ∷ []) k (row_at rows k).parent (omega arith) (keeps.ordered k exists))) hangs_there

  -- what is kept of an earlier row
  changed : (parent : Parent) (k : ℕ) → parent.node < length rows → k ≡ parent.node → slots_at (with_taken slots (Some parent)) k ≡ taken (slots_at slots k) parent.side
  changed parent k within same =
      subst (λ n. slots_at (with_taken slots (Some parent)) n ≡ taken (slots_at slots n) parent.side) (sym same)
      (get_or-set_same slots parent.node (taken (slots_at slots parent.node) parent.side) no_slots (subst (λ n. parent.node < n) (sym keeps.each) within))

  unchanged : (parent : Parent) (k : ℕ) → ¬ k ≡ parent.node → slots_at (with_taken slots (Some parent)) k ≡ slots_at slots k
  unchanged parent k other = get_or-set_other slots parent.node k (taken (slots_at slots parent.node) parent.side) no_slots other

  taken_depth : (h : Slots) (side : Side) → (taken h side).depth ≡ h.depth
  taken_depth h Le = refl
  taken_depth h Ge = refl

  depth_kept : (parent : Option Parent) (k : ℕ) → Hangs rows (length rows) parent → (slots_at (with_taken slots parent) k).depth ≡ (slots_at slots k).depth
  depth_kept None k within = refl
  depth_kept (Some parent) k within =
      elim (cases_eq k parent.node) [
        | inl same ↦ ap (λ (h : Slots). h.depth) (changed parent k within.earlier same) ∙ taken_depth (slots_at slots k) parent.side
        | inr other ↦ ap (λ (h : Slots). h.depth) (unchanged parent k other)
      ]

  depths_more : (k : ℕ) → k < length more → (slots_at kept k).depth ≡ depth_of more k
  depths_more = each_of (λ k. (slots_at kept k).depth ≡ depth_of more k)
      (λ k exists. ap (λ (h : Slots). h.depth) (old_slots k exists) ∙ depth_kept row.parent k hangs ∙ keeps.depths k exists ∙ sym (depth_stays rows (row ∷ []) k exists))
      (ap (λ (h : Slots). h.depth) last_slots ∙ sym (depth_last rows row))

  shallow_more : (k : ℕ) → k < length more → depth_of more k ≤ greatest_depth
  shallow_more = each_of (λ k. depth_of more k ≤ greatest_depth) (λ k exists. subst (λ n. n ≤ greatest_depth) (sym (depth_stays rows (row ∷ []) k exists)) (keeps.shallow k exists))
      (subst (λ n. n ≤ greatest_depth) (sym (depth_last rows row)) shallow)

  -- a side that is free behind the new row was free before, and is not the one that the row took
  hangs_before : (k : ℕ) (side : Side) → k < length rows → Hangs more (suc (length rows)) (some_parent k side) → Hangs rows (length rows) (some_parent k side) × ¬ row.parent ≡ some_parent k side
  hangs_before k side exists there =
      elim (hung more (length rows) (some_parent k side) there) [
        | inl both ↦ (hangs_prefix rows (row ∷ []) (length rows) (some_parent k side) (omega arith) both.0, λ same. both.1 (row_parent ∙ same))
        | inr new ↦ absurd (omega (arith, exists, ap node_in new.is))
      ]
    where
      node_in : Option Parent → ℕ
      node_in None = 0
      node_in (Some parent) = parent.node

  hangs_after : (k : ℕ) (side : Side) → Hangs rows (length rows) (some_parent k side) → ¬ row.parent ≡ some_parent k side → Hangs more (suc (length rows)) (some_parent k side)
  hangs_after k side before differs =
      still_hangs more (length rows) (some_parent k side) hangs_there (hangs_stays rows (row ∷ []) (length rows) (some_parent k side) (omega arith) before) (λ same. differs (sym row_parent ∙ same))

  -- what is free of an earlier row
  free_kept : (parent : Option Parent) (k : ℕ) (side : Side) → Hangs rows (length rows) parent → k < length rows
      → Decides (is_free (slots_at (with_taken slots parent) k) side) (Hangs rows (length rows) (some_parent k side) × ¬ parent ≡ some_parent k side)
  free_kept None k side there exists = (λ free. ((keeps.free k side exists).0 free, λ same. absurd (cc)), λ both. (keeps.free k side exists).1 both.0)
  free_kept (Some parent) k side there exists =
      elim (cases_eq k parent.node) [
        | inl same ↦ elim (free_taken (slots_at slots k) parent.side side) [
          | inl one ↦ (λ free. absurd (true_false (sym (free_is same) ∙ free) one.1), λ both. absurd (both.1 (whole same one.0)))
          | inr differs ↦ (
            λ free. ((keeps.free k side exists).0 (sym differs.1 ∙ sym (free_is same) ∙ free), λ is. differs.0 (ap side_in is)),
            λ both. free_is same ∙ differs.1 ∙ (keeps.free k side exists).1 both.0,
          )
        ]
        | inr other ↦ (
          λ free. ((keeps.free k side exists).0 (ap (λ h. is_free h side) (sym (unchanged parent k other)) ∙ free), λ same. other (sym (ap node_in same))),
          λ both. ap (λ h. is_free h side) (unchanged parent k other) ∙ (keeps.free k side exists).1 both.0,
        )
      ]
    where
      node_in : Option Parent → ℕ
      node_in None = 0
      node_in (Some parent) = parent.node

      true_false : {b : Bool} → b ≡ true → b ≡ false → ⊥
      true_false is isnt = absurd (cc)

      free_is : k ≡ parent.node → is_free (slots_at (with_taken slots (Some parent)) k) side ≡ is_free (taken (slots_at slots k) parent.side) side
      free_is same = ap (λ h. is_free h side) (changed parent k there.earlier same)

      whole : k ≡ parent.node → parent.side ≡ side → Some parent ≡ some_parent k side
      whole same is = ap (λ (n : ℕ). some_parent n parent.side) (sym same) ∙ ap (λ (s : Side). some_parent k s) is

  -- what is free of the new row
  new_free : (side : Side) → is_free last side ≡ is_split row.end
  new_free Le = refl
  new_free Ge = refl

  split_tells : (end : EndLine) → is_split end ≡ true → IsSplit end
  split_tells (Refuted reason) is = absurd (cc)
  split_tells (Split cut) is = tt
  split_tells Point is = absurd (cc)
  split_tells Unfinished is = absurd (cc)

  split_told : (end : EndLine) → IsSplit end → is_split end ≡ true
  split_told (Refuted reason) is = absurd is
  split_told (Split cut) is = refl
  split_told Point is = absurd is
  split_told Unfinished is = absurd is

  ordered_there : (k : ℕ) → k < suc (length rows) → Hangs more k (row_at more k).parent
  ordered_there k exists = ordered_more k (subst (λ n. k < n) (sym more_length) exists)

  free_last : (side : Side) → Decides (is_free (slots_at kept (length rows)) side) (Hangs more (suc (length rows)) (some_parent (length rows) side))
  free_last side = (
    λ free. side_hangs more (length rows) side ordered_there (subst (λ (r : Row). IsSplit r.end) (sym (row_last rows row [])) (split_tells row.end (sym (ap (λ h. is_free h side) last_slots ∙ new_free side) ∙ free))),
    λ there. ap (λ h. is_free h side) last_slots ∙ new_free side ∙ split_told row.end (subst (λ (r : Row). IsSplit r.end) (row_last rows row []) there.split),
  )

  free_more : (k : ℕ) (side : Side) → k < length more → Decides (is_free (slots_at kept k) side) (Hangs more (length more) (some_parent k side))
  free_more k side exists = subst (λ n. Decides (is_free (slots_at kept k) side) (Hangs more n (some_parent k side))) (sym more_length)
      (each_of (λ k. Decides (is_free (slots_at kept k) side) (Hangs more (suc (length rows)) (some_parent k side))) old (free_last side) k exists)
    where
      old : (k : ℕ) → k < length rows → Decides (is_free (slots_at kept k) side) (Hangs more (suc (length rows)) (some_parent k side))
      old k below =
          let kept_free = free_kept row.parent k side hangs below in (
            λ free. let before = kept_free.0 (ap (λ h. is_free h side) (sym (old_slots k below)) ∙ free) in hangs_after k side before.0 before.1,
            λ there. ap (λ h. is_free h side) (old_slots k below) ∙ kept_free.1 (hangs_before k side below there),
          )

  pub keeps_more : SlotsFit more kept
  keeps_more = record { ordered = ordered_more; each = each_more; depths = depths_more; shallow = shallow_more; free = free_more }

pub keeps_none : SlotsFit [] []
keeps_none = record {
  ordered = λ k exists. absurd (omega (arith, exists));
  each = refl;
  depths = λ k exists. absurd (omega (arith, exists));
  shallow = λ k exists. absurd (omega (arith, exists));
  free = λ k side exists. absurd (omega (arith, exists));
}
