-- How many nodes and leaves a tree of right lines has.
use Rattle.std.proofs.Common.{◌≡◌, inl, inr, ℕ, zero, suc, ◌+◌, ◌<◌, ◌≤◌, ℤ, Bool, true, false, cond, List, [], ◌∷◌, ◌++◌, length, map, take, Option, Some, None, Contains}
use Rattle.std.proofs.Common.{arith, refl, sym, ap, subst, ◌∙◌}
use Rattle.std.proofs.lemmas.List.{map-append, take_all}
use Rattle.std.proofs.lemmas.List.Filters.{length-filter_more}
use Rattle.sopl_base.specs.declared.reason.Side.{Side}
use Rattle.sopl_base.specs.declared.reason.Side.TheVariants.{Le, Ge}
use Rattle.log_rows.specs.declared.rows.Row.{Row}
use Rattle.log_rows.specs.declared.rows.Cut.{Cut}
use Rattle.log_rows.specs.declared.rows.Parent.{Parent}
use Rattle.log_rows.specs.declared.rows.EndLine.{EndLine}
use Rattle.log_rows.specs.declared.rows.EndLine.TheVariants.{Refuted, Split, Point, Unfinished}
use Rattle.log_rows.specs.declared.rows.Footer.{Footer}
use Rattle.box_problem.specs.Box.{Box, IsBox, InBox, points}
use Rattle.box_problem.specs.BoxProblem.{BoxProblem, Lawful}
use Rattle.box_problem.specs.Covers.{nodes_for}
use Rattle.box_problem.proofs.Counts.{points_alive}
use Rattle.box_problem.proofs.Shared.{lows_inside}
use Rattle.log_rows.specs.Rows.{no_row, row_at, handed, final_of, start_of, box_at, is_leaf_end, leaves, IsSplit, Hangs}
use Rattle.log_rows.specs.Accepted.{claimed, AreRight}
use Rattle.log_rows.proofs.Places.{final_is}
use Rattle.log_rows.proofs.Lists.{cut_at, middle_or_others}
use Rattle.log_rows.proofs.Insides.{Cuts, AreSound, is_inside, begins_inside, right_sound}
use Rattle.log_rows.proofs.Room.{HasRoom, room_at_first, room_to_head, room_after_steps, room_after_end, room_after_split}
use Rattle.log_rows.proofs.Growing.{some_side, hung}

-- the boxes with which nodes of these parents begin
abbrev boxes_of : Box → List Row → List (Option Parent) → List Box
boxes_of root rows parents = map (box_at root rows) parents

-- how many of the first n rows are leaves
abbrev leaf_count : List Row → ℕ → ℕ
leaf_count rows n = length (leaves (take n rows))

one_leaf : (rows : List Row) (n : ℕ) → n < length rows → is_leaf_end (row_at rows n).end ≡ true → leaf_count rows (suc n) ≡ leaf_count rows n + 1
one_leaf rows n exists leaf =
    let next : suc n ≡ n + 1 = omega arith in
    ap (leaf_count rows) next
    ∙ (length-filter_more (λ (row : Row). is_leaf_end row.end) rows n no_row exists ∙ ap (λ (b : Bool). leaf_count rows n + cond b 1 0) leaf)

no_leaf : (rows : List Row) (n : ℕ) → n < length rows → is_leaf_end (row_at rows n).end ≡ false → leaf_count rows (suc n) ≡ leaf_count rows n
no_leaf rows n exists leaf =
    let next : suc n ≡ n + 1 = omega arith in
    ap (leaf_count rows) next
    ∙ (length-filter_more (λ (row : Row). is_leaf_end row.end) rows n no_row exists ∙ (ap (λ (b : Bool). leaf_count rows n + cond b 1 0) leaf ∙ omega arith))

-- behind the first n rows: a list that has each parent that hangs there, and whose boxes still have room for nodes
record IsGrown (problem : BoxProblem) (rows : List Row) (n : ℕ) : Type 0 where
  parents : List (Option Parent)
  listed : (parent : Option Parent) → Hangs rows n parent → Contains parents parent
  room : HasRoom problem n (leaf_count rows n) (boxes_of problem.root rows parents)

at_root : (problem : BoxProblem) (rows : List Row) (parent : Option Parent) → Hangs rows 0 parent → Contains {X = Option Parent} (None ∷ []) parent
at_root problem rows None hangs = (zero, omega arith, refl)
at_root problem rows (Some parent) hangs = absurd (omega (arith, hangs.earlier))

grown_first : (problem : BoxProblem) (rows : List Row) → IsGrown problem rows 0
grown_first problem rows = record { parents = None ∷ []; listed = at_root problem rows; room = room_at_first problem }

-- the row's parent is taken out of the list
taken_out : (rows : List Row) (n : ℕ) (prefix back : List (Option Parent)) (parent : Option Parent)
    → ((p : Option Parent) → Hangs rows n p → Contains (prefix ++ (row_at rows n).parent ∷ back) p)
    → Hangs rows n parent → ¬ (row_at rows n).parent ≡ parent → Contains (prefix ++ back) parent
taken_out rows n prefix back parent listed hangs differs =
    elim (middle_or_others prefix back (row_at rows n).parent parent (listed parent hangs)) [
      | inl same ↦ absurd (differs same)
      | inr other ↦ other
    ]

-- its sides, if it is split, are put into it
by_side : (n : ℕ) (side : Side) (others : List (Option Parent)) → Contains (some_side n Le ∷ some_side n Ge ∷ others) (some_side n side)
by_side n Le others = (zero, omega arith, refl)
by_side n Ge others = (suc zero, omega arith, refl)

later_two : {X : Type 0} (x y : X) (xs : List X) (z : X) → Contains xs z → Contains (x ∷ y ∷ xs) z
later_two x y xs z has = (suc (suc has.0), omega (arith, has.1), has.2)

-- the room when the row's box stands first
counted : (problem : BoxProblem) (rows : List Row) (n leaves : ℕ) (prefix back : List (Option Parent)) (p : Option Parent)
    → HasRoom problem n leaves (boxes_of problem.root rows (prefix ++ p ∷ back)) → HasRoom problem n leaves (box_at problem.root rows p ∷ boxes_of problem.root rows (prefix ++ back))
counted problem rows n leaves prefix back p room =
    let f = box_at problem.root rows in
    subst (λ (bs : List Box). HasRoom problem n leaves (f p ∷ bs)) (sym (map-append f prefix back))
    (room_to_head problem n leaves (f p) (map f prefix) (map f back)
    (subst (λ (bs : List Box). HasRoom problem n leaves bs) (map-append f prefix (p ∷ back)) room))

side_box : (root : Box) (rows : List Row) (n : ℕ) (side : Side) (end : EndLine) → (row_at rows n).end ≡ end → box_at root rows (some_side n side) ≡ handed (final_of root rows n) end side
side_box root rows n side end is = ap (λ (e : EndLine). handed (final_of root rows n) e side) is

leaf_unsplit : (end : EndLine) → is_leaf_end end ≡ true → ¬ IsSplit end
leaf_unsplit (Refuted reason) leaf split = split
leaf_unsplit (Split cut) leaf split = absurd (cc)
leaf_unsplit Point leaf split = split
leaf_unsplit Unfinished leaf split = split

grown_ended : (problem : BoxProblem) (rows : List Row) (n : ℕ) (prefix back : List (Option Parent)) → n < length rows → is_leaf_end (row_at rows n).end ≡ true
    → ((p : Option Parent) → Hangs rows n p → Contains (prefix ++ (row_at rows n).parent ∷ back) p)
    → HasRoom problem n (leaf_count rows n) (final_of problem.root rows n ∷ boxes_of problem.root rows (prefix ++ back)) → IsGrown problem rows (suc n)
grown_ended problem rows n prefix back exists leaf listed room = record {
  parents = prefix ++ back;
  listed = λ parent hangs. elim (hung rows n parent hangs) [
    | inl before ↦ taken_out rows n prefix back parent listed before.0 before.1
    | inr new ↦ absurd (leaf_unsplit (row_at rows n).end leaf new.split)
  ];
  room = subst (λ (m : ℕ). HasRoom problem (suc n) m (boxes_of problem.root rows (prefix ++ back))) (sym (one_leaf rows n exists leaf))
      (subst (λ (k : ℕ). HasRoom problem k (leaf_count rows n + 1) (boxes_of problem.root rows (prefix ++ back))) (omega arith)
      (room_after_end problem n (leaf_count rows n) (final_of problem.root rows n) (boxes_of problem.root rows (prefix ++ back)) room));
}

grown_split : (problem : BoxProblem) (rows : List Row) (n : ℕ) (prefix back : List (Option Parent)) (cut : Cut) (bs : List Box) → n < length rows → (row_at rows n).end ≡ Split cut
    → bs ≡ boxes_of problem.root rows (prefix ++ back)
    → ((p : Option Parent) → Hangs rows n p → Contains (prefix ++ (row_at rows n).parent ∷ back) p)
    → HasRoom problem (n + 1) (leaf_count rows n) (handed (final_of problem.root rows n) (Split cut) Le ∷ handed (final_of problem.root rows n) (Split cut) Ge ∷ bs)
    → IsGrown problem rows (suc n)
grown_split problem rows n prefix back cut bs exists is same listed room =
    let leaves = leaf_count rows n in
    record {
      parents = some_side n Le ∷ some_side n Ge ∷ (prefix ++ back);
      listed = λ parent hangs. elim (hung rows n parent hangs) [
        | inl before ↦ later_two (some_side n Le) (some_side n Ge) (prefix ++ back) parent (taken_out rows n prefix back parent listed before.0 before.1)
        | inr new ↦ subst (λ (p : Option Parent). Contains (some_side n Le ∷ some_side n Ge ∷ (prefix ++ back)) p) (sym new.is) (by_side n new.side (prefix ++ back))
      ];
      room = subst (λ (m : ℕ). HasRoom problem (suc n) m (boxes_of problem.root rows (some_side n Le ∷ some_side n Ge ∷ (prefix ++ back)))) (sym (no_leaf rows n exists (ap is_leaf_end is)))
          (subst (λ (k : ℕ). HasRoom problem k leaves (boxes_of problem.root rows (some_side n Le ∷ some_side n Ge ∷ (prefix ++ back)))) (omega arith)
          (subst (λ (zs : List Box). HasRoom problem (n + 1) leaves (box_at problem.root rows (some_side n Le) ∷ box_at problem.root rows (some_side n Ge) ∷ zs)) same
          (subst (λ (z : Box). HasRoom problem (n + 1) leaves (box_at problem.root rows (some_side n Le) ∷ z ∷ bs)) (sym (side_box problem.root rows n Ge (Split cut) is))
          (subst (λ (z : Box). HasRoom problem (n + 1) leaves (z ∷ handed (final_of problem.root rows n) (Split cut) Ge ∷ bs)) (sym (side_box problem.root rows n Le (Split cut) is)) room))));
    }

grown_by : (problem : BoxProblem) (rows : List Row) (n : ℕ) (prefix back : List (Option Parent)) (end : EndLine) → n < length rows → (row_at rows n).end ≡ end
    → Cuts (final_of problem.root rows n) end → IsBox (final_of problem.root rows n)
    → ((p : Option Parent) → Hangs rows n p → Contains (prefix ++ (row_at rows n).parent ∷ back) p)
    → HasRoom problem n (leaf_count rows n) (final_of problem.root rows n ∷ boxes_of problem.root rows (prefix ++ back)) → IsGrown problem rows (suc n)
grown_by problem rows n prefix back (Refuted reason) exists is cuts is_box listed room = grown_ended problem rows n prefix back exists (ap is_leaf_end is) listed room
grown_by problem rows n prefix back (Split cut) exists is cuts is_box listed room =
    grown_split problem rows n prefix back cut (boxes_of problem.root rows (prefix ++ back)) exists is refl listed
    (room_after_split problem n (leaf_count rows n) (final_of problem.root rows n) cut.cell Le cut.k (boxes_of problem.root rows (prefix ++ back)) is_box cuts room)
grown_by problem rows n prefix back Point exists is cuts is_box listed room = grown_ended problem rows n prefix back exists (ap is_leaf_end is) listed room
grown_by problem rows n prefix back Unfinished exists is cuts is_box listed room = grown_ended problem rows n prefix back exists (ap is_leaf_end is) listed room

-- one row more
grown_more : (problem : BoxProblem) (value_at : ℕ → Option ℤ) (rows : List Row) (n : ℕ) → AreSound problem value_at rows → n < length rows → IsGrown problem rows n → IsGrown problem rows (suc n)
grown_more problem value_at rows n sound exists grown =
    let parent = (row_at rows n).parent in
    let hangs = sound.ordered n exists in
    let leaves = leaf_count rows n in
    let cut = cut_at grown.parents parent (grown.listed parent hangs) in
    let begins = begins_inside problem value_at rows n parent sound hangs (omega arith) in
    let opens = boxes_of problem.root rows (cut.prefix ++ cut.back) in
    let before : HasRoom problem n leaves (boxes_of problem.root rows (cut.prefix ++ parent ∷ cut.back)) =
    subst (λ (ps : List (Option Parent)). HasRoom problem n leaves (boxes_of problem.root rows ps)) cut.is grown.room in
    grown_by problem rows n cut.prefix cut.back (row_at rows n).end exists refl (sound.cuts n exists) (is_inside problem value_at rows n sound exists).is_box
    (λ p there. subst (λ (ps : List (Option Parent)). Contains ps p) cut.is (grown.listed p there))
    (subst (λ (b : Box). HasRoom problem n leaves (b ∷ opens)) (sym (final_is problem.root rows n exists hangs))
    (room_after_steps problem (value_at n) n leaves (start_of problem.root rows n) (row_at rows n).steps opens begins.is_box (sound.steps n exists)
    (counted problem rows n leaves cut.prefix cut.back parent before)))

grown : (problem : BoxProblem) (value_at : ℕ → Option ℤ) (rows : List Row) (n : ℕ) → AreSound problem value_at rows → n ≤ length rows → IsGrown problem rows n
grown problem value_at rows zero sound fits = grown_first problem rows
grown problem value_at rows (suc n) sound fits = grown_more problem value_at rows n sound (omega arith) (grown problem value_at rows n sound (omega arith))

all_grown : (problem : BoxProblem) (rows : List Row) (footer : Footer) → Lawful problem → AreRight problem rows footer → IsGrown problem rows (length rows)
all_grown problem rows footer lawful right = grown problem (λ i. claimed footer) rows (length rows) (right_sound problem rows footer lawful right) (omega arith)

pub logs_are_small : (problem : BoxProblem) (rows : List Row) (footer : Footer) → Lawful problem → AreRight problem rows footer → length rows ≤ nodes_for (points problem.root)
logs_are_small problem rows footer lawful right = omega (arith, (all_grown problem rows footer lawful right).room.for_nodes.count)

pub leaves_are_few : (problem : BoxProblem) (rows : List Row) (footer : Footer) → Lawful problem → AreRight problem rows footer → length (leaves rows) ≤ points problem.root
leaves_are_few problem rows footer lawful right =
    omega (arith, (all_grown problem rows footer lawful right).room.for_leaves, ap (λ (xs : List Row). length (leaves xs)) (take_all (length rows) rows (omega arith)))

-- no box is without points
pub leaves_have_points : (problem : BoxProblem) (rows : List Row) (footer : Footer) (i : ℕ) → Lawful problem → AreRight problem rows footer → i < length rows
    → (0 < points (final_of problem.root rows i)) × ((point : List ℤ) × InBox (final_of problem.root rows i) point)
leaves_have_points problem rows footer i lawful right exists =
    let b = final_of problem.root rows i in
    let inside = is_inside problem (λ k. claimed footer) rows i (right_sound problem rows footer lawful right) exists in
    (points_alive b.lows b.highs, (b.lows, lows_inside b inside.is_box))
