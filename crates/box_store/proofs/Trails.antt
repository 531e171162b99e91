-- Changes of a box, and the trail that gives them back.
use Rattle.std.proofs.Common.{◌≡◌, refl, ℕ, ◌+◌, ◌-◌, ◌<◌, ◌≤◌, ℤ, pos, List, [], ◌∷◌, ◌++◌, length, get_or, set, take, drop, reverse, inl, inr, arith, sym, ap, subst, ◌∙◌}
use Rattle.std.proofs.Math.Seq.{take-append_seam, drop-append_seam}
use Rattle.std.proofs.lemmas.List.{length-set, length-append, length-drop, length-reverse, take_all, set-set, set-get_or, get_or-set_other, reverse-append, append_assoc}
use Rattle.std.proofs.lemmas.List.Elements.{Contains-append_cases, Contains-append_left, Contains-append_right}
use Rattle.std.specs.List.{Contains}
use Rattle.sopl_base.proofs.Lists.{contains_one}
use Rattle.sopl_base.specs.declared.reason.Side.{Side}
use Rattle.sopl_base.specs.declared.reason.Side.TheVariants.{Le, Ge}
use Rattle.box_problem.specs.Steps.{IsCut}
use Rattle.box_problem.proofs.Cuts.{cuts_make_parts}
use Rattle.box_problem.specs.Box.{Box, low, high, IsBox, with_low, with_high}
use Rattle.box_store.specs.declared.trail.Before.{Before}
use Rattle.box_store.specs.declared.trail.End.{End}
use Rattle.box_store.specs.declared.trail.Entry.{Entry}
use Rattle.box_store.specs.declared.trail.Entry.TheVariants.{Low, High, Marked}
use Rattle.box_store.specs.Store.{Mark, IsUndone, HoldsChanges}
use Rattle.box_store.specs.Trail.{marks_of, changed_of, changed_before, all_changed, AreSound, HadRoom, KeepsChanges}

-- an end that is put back where it was
put_back : (xs : List ℤ) (i : ℕ) (k old : ℤ) → old ≡ get_or xs i (pos 0) → set (set xs i k) i old ≡ xs
put_back xs i k old is = set-set xs i k old ∙ (ap (set xs i) is ∙ set-get_or xs i (pos 0))

abbrev with_lows : Box → List ℤ → Box
with_lows b xs = record { lows = xs; highs = b.highs }

abbrev with_highs : Box → List ℤ → Box
with_highs b xs = record { lows = b.lows; highs = xs }

low_put_back : (b : Box) (cell : ℕ) (k old : ℤ) → old ≡ low b cell → with_low (with_low b cell k) cell old ≡ b
low_put_back b cell k old is = ap (with_lows b) (put_back b.lows cell k old is)

high_put_back : (b : Box) (cell : ℕ) (k old : ℤ) → old ≡ high b cell → with_high (with_high b cell k) cell old ≡ b
high_put_back b cell k old is = ap (with_highs b) (put_back b.highs cell k old is)

-- the entry that was added last is the newest
pub newest : (items after : List Entry) (entry : Entry) → after ≡ items ++ entry ∷ [] → reverse after ≡ entry ∷ reverse items
newest items after entry is = ap reverse is ∙ reverse-append items (entry ∷ [])

-- the trail behind an end that was moved
pub sound_raised : (b : Box) (cell : ℕ) (k old : ℤ) (items after : List Entry) → old ≡ low b cell → after ≡ items ++ Low (record { cell = cell; k = old }) ∷ []
    → cell < length b.lows → IsBox b → AreSound b (reverse items) → AreSound (with_low b cell k) (reverse after)
sound_raised b cell k old items after is added exists is_box sound =
    let back = sym (low_put_back b cell k old is) in
    subst (AreSound (with_low b cell k)) (sym (newest items after (Low (record { cell = cell; k = old })) added))
    (omega (arith, length-set b.lows cell k), subst IsBox back is_box, subst (λ (box : Box). AreSound box (reverse items)) back sound)

pub sound_lowered : (b : Box) (cell : ℕ) (k old : ℤ) (items after : List Entry) → old ≡ high b cell → after ≡ items ++ High (record { cell = cell; k = old }) ∷ []
    → cell < length b.lows → IsBox b → AreSound b (reverse items) → AreSound (with_high b cell k) (reverse after)
sound_lowered b cell k old items after is added exists is_box sound =
    let back = sym (high_put_back b cell k old is) in
    subst (AreSound (with_high b cell k)) (sym (newest items after (High (record { cell = cell; k = old })) added))
    (exists, subst IsBox back is_box, subst (λ (box : Box). AreSound box (reverse items)) back sound)

pub marks_raised : (b : Box) (cell : ℕ) (k old : ℤ) (items after : List Entry) → old ≡ low b cell → after ≡ items ++ Low (record { cell = cell; k = old }) ∷ []
    → marks_of (with_low b cell k) (reverse after) ≡ marks_of b (reverse items)
marks_raised b cell k old items after is added =
    ap (marks_of (with_low b cell k)) (newest items after (Low (record { cell = cell; k = old })) added) ∙ ap (λ (box : Box). marks_of box (reverse items)) (low_put_back b cell k old is)

pub marks_lowered : (b : Box) (cell : ℕ) (k old : ℤ) (items after : List Entry) → old ≡ high b cell → after ≡ items ++ High (record { cell = cell; k = old }) ∷ []
    → marks_of (with_high b cell k) (reverse after) ≡ marks_of b (reverse items)
marks_lowered b cell k old items after is added =
    ap (marks_of (with_high b cell k)) (newest items after (High (record { cell = cell; k = old })) added) ∙ ap (λ (box : Box). marks_of box (reverse items)) (high_put_back b cell k old is)

-- the cells of the changes, and one change more
one_more : (changes more before now : List ℕ) (cell : ℕ) → more ≡ changes ++ cell ∷ [] → changes ≡ before ++ now → more ≡ before ++ (now ++ cell ∷ [])
one_more changes more before now cell added are = added ∙ (ap (λ (cells : List ℕ). cells ++ cell ∷ []) are ∙ append_assoc before now (cell ∷ []))

pub none_kept : (changes : List ℕ) (most : ℕ) (items : List Entry) → changes ≡ [] → items ≡ [] → KeepsChanges changes 0 most (reverse items)
none_kept changes most items none empty =
    subst (λ (list : List Entry). KeepsChanges changes 0 most (reverse list)) (sym empty) (record { all = none; older = refl; room = tt })

pub raised_kept : (changes more : List ℕ) (start most : ℕ) (end : End) (items after : List Entry) → more ≡ changes ++ end.cell ∷ [] → after ≡ items ++ Low end ∷ []
    → KeepsChanges changes start most (reverse items) → KeepsChanges more start most (reverse after)
raised_kept changes more start most end items after pushed added kept =
    subst (KeepsChanges more start most) (sym (newest items after (Low end) added)) (record {
      all = one_more changes more (changed_before (reverse items)) (changed_of (reverse items)) end.cell pushed kept.all;
      older = kept.older;
      room = kept.room;
    })

pub lowered_kept : (changes more : List ℕ) (start most : ℕ) (end : End) (items after : List Entry) → more ≡ changes ++ end.cell ∷ [] → after ≡ items ++ High end ∷ []
    → KeepsChanges changes start most (reverse items) → KeepsChanges more start most (reverse after)
lowered_kept changes more start most end items after pushed added kept =
    subst (KeepsChanges more start most) (sym (newest items after (High end) added)) (record {
      all = one_more changes more (changed_before (reverse items)) (changed_of (reverse items)) end.cell pushed kept.all;
      older = kept.older;
      room = kept.room;
    })

-- more room does no harm
room_more : (few many : ℕ) (entries : List Entry) → few ≤ many → HadRoom few entries → HadRoom many entries
room_more few many [] more room = tt
room_more few many (Low end ∷ older) more room = room_more few many older more room
room_more few many (High end ∷ older) more room = room_more few many older more room
room_more few many (Marked before ∷ older) more room = (omega (arith, more, room.0), room_more few many older more room.1)

pub more_kept : (changes : List ℕ) (start few many : ℕ) (entries : List Entry) → few ≤ many → KeepsChanges changes start few entries → KeepsChanges changes start many entries
more_kept changes start few many entries more kept = record {
  all = kept.all;
  older = kept.older;
  room = room_more few many entries more kept.room;
}

-- what is left of them where the newest changes are undone
pub left_kept : (changes less : List ℕ) (start most now : ℕ) (entries left : List Entry) → less ≡ take start changes → KeepsChanges changes start most entries
    → changed_before entries ≡ all_changed left → now ≡ length (changed_before left) → HadRoom most left → KeepsChanges less now most left
left_kept changes less start most now entries left taken kept are older room = record {
  all = taken ∙ (ap (λ (n : ℕ). take n changes) kept.older ∙ (ap (take (length (changed_before entries))) kept.all ∙ (take-append_seam (changed_before entries) (changed_of entries) ∙ are)));
  older = older;
  room = room;
}

-- the store behind the changes that were undone
pub back_at_mark : (b : Box) (before : Before) (most len : ℕ) (entries left : List Entry) (marks : List Mark) → entries ≡ Marked before ∷ left → marks_of b entries ≡ marks → len ≡ length left
    → HadRoom most entries → IsUndone marks (record { box = b; marks = marks_of b left; spare = most - len; changed = changed_of left })
back_at_mark b before most len entries left marks is are counted room =
    let had = subst (HadRoom most) is room in
    subst (λ (list : List Mark). IsUndone list (record { box = b; marks = marks_of b left; spare = most - len; changed = changed_of left })) (sym (ap (marks_of b) is) ∙ are)
    (record { box = refl; marks = refl; spare = omega (arith, had.0, counted) })

-- a vector whose items were lent and given back
pub given_back : (xs ws : List ℤ) (len : ℕ) → len ≡ length xs → length ws ≡ length xs → take len (ws ++ drop (length ws) xs) ≡ ws
given_back xs ws len is same = ap (λ (n : ℕ). take n (ws ++ drop (length ws) xs)) (is ∙ sym same) ∙ take-append_seam ws (drop (length ws) xs)

pub same_ends : (b : Box) (lows highs : List ℤ) → lows ≡ b.lows → highs ≡ b.highs → b ≡ record { lows = lows; highs = highs }
same_ends b lows highs low_is high_is = sym (ap (with_lows b) low_is) ∙ sym (ap (with_highs (with_lows b lows)) high_is)

-- there are no more changes than entries
fewer : (entries : List Entry) → length (changed_before entries) + length (changed_of entries) ≤ length entries
fewer [] = omega arith
fewer (Low end ∷ older) = omega (arith, fewer older, length-append (changed_of older) (end.cell ∷ []))
fewer (High end ∷ older) = omega (arith, fewer older, length-append (changed_of older) (end.cell ∷ []))
fewer (Marked before ∷ older) = omega (arith, fewer older, length-append (changed_before older) (changed_of older))

counted : (changes : List ℕ) (start most : ℕ) (entries : List Entry) → KeepsChanges changes start most entries → length changes ≡ start + length (changed_of entries)
counted changes start most entries kept =
    omega (arith, ap length kept.all, length-append (changed_before entries) (changed_of entries), kept.older)

pub fewer_changes : (changes : List ℕ) (start most : ℕ) (items : List Entry) → KeepsChanges changes start most (reverse items) → length changes ≤ length items
fewer_changes changes start most items kept =
    omega (arith, counted changes start most (reverse items) kept, kept.older, fewer (reverse items), length-reverse items)

pub newest_changes : (changes items : List ℕ) (start most : ℕ) (entries : List Entry) → items ≡ changes → KeepsChanges changes start most entries
    → take (length items - start) (drop start items) ≡ changed_of entries
newest_changes changes items start most entries is kept =
    take_all (length items - start) (drop start items) (omega (arith, length-drop start items))
    ∙ (ap (drop start) is ∙ (ap (λ (n : ℕ). drop n changes) kept.older ∙ (ap (drop (length (changed_before entries))) kept.all ∙ drop-append_seam (changed_before entries) (changed_of entries))))

-- outside what was changed, the box is that at the mark
last_contained : (cells : List ℕ) (cell : ℕ) → Contains (cells ++ cell ∷ []) cell
last_contained cells cell = Contains-append_right cells (cell ∷ []) cell (0, omega arith, refl)

exists_more : (cells : List ℕ) (cell many : ℕ) → cell < many → ((other : ℕ) → Contains cells other → other < many) → (other : ℕ) → Contains (cells ++ cell ∷ []) other → other < many
exists_more cells cell many exists all other here =
    elim (Contains-append_cases cells (cell ∷ []) other here) [
      | inl before ↦ all other before
      | inr last ↦ subst (λ (n : ℕ). n < many) (contains_one cell other last) exists
    ]

same_before : (cells : List ℕ) (cell other : ℕ) (k : ℤ) (now before : List ℤ) → ¬ Contains (cells ++ cell ∷ []) other
    → (¬ Contains cells other → get_or (set now cell k) other (pos 0) ≡ get_or before other (pos 0)) → get_or now other (pos 0) ≡ get_or before other (pos 0)
same_before cells cell other k now before out same =
    sym (get_or-set_other now cell other k (pos 0) (λ is. out (subst (λ (n : ℕ). Contains (cells ++ cell ∷ []) n) (sym is) (last_contained cells cell))))
    ∙ same (λ within. out (Contains-append_left cells (cell ∷ []) other within))

low_held : (b : Box) (cell : ℕ) (k : ℤ) (marks : List Mark) (cells : List ℕ) → cell < length b.lows → HoldsChanges marks (with_low b cell k) cells → HoldsChanges marks b (cells ++ cell ∷ [])
low_held b cell k [] cells exists held = held
low_held b cell k (mark ∷ older) cells exists held = record {
  same_lows = sym (length-set b.lows cell k) ∙ held.same_lows;
  same_highs = held.same_highs;
  exist = exists_more cells cell (length b.lows) exists (λ other here. omega (arith, held.exist other here, length-set b.lows cell k));
  same_low = λ other out. same_before cells cell other k b.lows mark.box.lows out (held.same_low other);
  same_high = λ other out. held.same_high other (λ within. out (Contains-append_left cells (cell ∷ []) other within));
}

high_held : (b : Box) (cell : ℕ) (k : ℤ) (marks : List Mark) (cells : List ℕ) → cell < length b.lows → HoldsChanges marks (with_high b cell k) cells → HoldsChanges marks b (cells ++ cell ∷ [])
high_held b cell k [] cells exists held = held
high_held b cell k (mark ∷ older) cells exists held = record {
  same_lows = held.same_lows;
  same_highs = sym (length-set b.highs cell k) ∙ held.same_highs;
  exist = exists_more cells cell (length b.lows) exists held.exist;
  same_low = λ other out. held.same_low other (λ within. out (Contains-append_left cells (cell ∷ []) other within));
  same_high = λ other out. same_before cells cell other k b.highs mark.box.highs out (held.same_high other);
}

pub changes_held : (b : Box) (entries : List Entry) → AreSound b entries → 0 < length (marks_of b entries) → HoldsChanges (marks_of b entries) b (changed_of entries)
changes_held b [] sound some = omega (arith, some)
changes_held b (Low end ∷ older) sound some =
    low_held b end.cell end.k (marks_of (with_low b end.cell end.k) older) (changed_of older) sound.0 (changes_held (with_low b end.cell end.k) older sound.2 some)
changes_held b (High end ∷ older) sound some =
    high_held b end.cell end.k (marks_of (with_high b end.cell end.k) older) (changed_of older) sound.0 (changes_held (with_high b end.cell end.k) older sound.2 some)
changes_held b (Marked before ∷ older) sound some = record {
  same_lows = refl;
  same_highs = refl;
  exist = λ cell here. absurd (omega (arith, here.1));
  same_low = λ cell out. refl;
  same_high = λ cell out. refl;
}

-- the part that a cut keeps is a box
pub raised_is_box : (b : Box) (cell : ℕ) (side : Side) (k z : ℤ) → IsBox b → IsCut b cell side k → side ≡ Ge → z ≡ k → IsBox (with_low b cell z)
raised_is_box b cell side k z is_box cut side_is is =
    subst (λ (y : ℤ). IsBox (with_low b cell y)) (sym is) (cuts_make_parts b cell Ge k is_box (subst (λ (s : Side). IsCut b cell s k) side_is cut)).0.is_box

pub lowered_is_box : (b : Box) (cell : ℕ) (side : Side) (k z : ℤ) → IsBox b → IsCut b cell side k → side ≡ Le → z ≡ k → IsBox (with_high b cell z)
lowered_is_box b cell side k z is_box cut side_is is =
    subst (λ (y : ℤ). IsBox (with_high b cell y)) (sym is) (cuts_make_parts b cell Le k is_box (subst (λ (s : Side). IsCut b cell s k) side_is cut)).0.is_box
