-- The indices of an element, from the last one to the first.
use Rattle.std.proofs.Common.{◌≡◌, ℕ, suc, ◌<◌, ℤ, pos, Bool, true, ◌&&◌, List, [], ◌∷◌, ◌++◌, map, length, Some, None, Vec, Global, if◌then◌else◌, arith, refl, ap, sym, ◌∙◌}
use Rattle.std.specs.List.{filter}
use Rattle.std.proofs.lemmas.Bool.{and_from}
use Rattle.box_problem.specs.Box.{Box}
use Rattle.term_language.specs.declared.answers.Defined.{Defined}
use Rattle.term_language.specs.declared.answers.Defined.TheVariants.{Never, Always}
use Rattle.term_language.specs.Arrays.{Entry, indices, paired, is_covered, are_covered, lies_in}
use Rattle.term_language.specs.Ends as ends
use Rattle.term_language.specs.Marks.{both, all_marks}
use Rattle.term_language.specs.Rules.{Reading, interval, mark, marks, intervals, item_ends, if_any, reached_mark}
use Rattle.term_language.specs.Terms.{Item, Table}
use Rattle.term_language.proofs.FormValues.{and_first, and_second}
use Rattle.term_language.proofs.Marks.{both_always, both_grouped, both_never}
use Rattle.term_math.specs.Ascending.{all_ascend, ascends}
use Rattle.term_math.specs.Kept.{items_of, sets_of, table_of}
use Rattle.term_math.specs.declared.elements.Element.{Element}
use Rattle.term_math.specs.Within.{Known, is_one, has_one, none_known, known_of, with_dimension, with_dimensions}
use Rattle.term_math.specs.declared.ranges.Indices.{Indices}
use Rattle.term_math.specs.declared.tables.Table as own
use Rattle.term_math.proofs.Indexed.{indexed_ends, indexed_mark, last_known, sets_missing}
use Rattle.term_math.proofs.Reaching.{one_test}
use Rattle.term_nodes.specs.Seen.{Sight, element_sight, indexed_sight, known_sight}
use Rattle.term_nodes.specs.Things.{Thing, no_table, term_at, terms_at}
use Rattle.term_nodes.proofs.Ranges.{same_sight}

-- an array without elements
unpaired : (lists : List (List ℤ)) (items : List Item) → items ≡ [] → paired lists items ≡ []
unpaired [] items none = refl
unpaired (xs ∷ lists) items none = ap (paired (xs ∷ lists)) none

pub none_seen : (b : Box) (es : List ends.Ends) (m : Defined) (table : Table) → table.items ≡ [] → element_sight b table m es ≡ record { ends = ends.exactly (pos 0); mark = Never }
none_seen b es m table none =
    (ap (λ (ls : List Entry). record {
      ends = ends.hull_of (map (λ (entry : Entry). item_ends b entry.item) (if_any (filter (λ (entry : Entry). lies_in es entry.index) ls) ls));
      mark = both m (reached_mark (are_covered es table.sets) (filter (λ (entry : Entry). lies_in es entry.index) ls));
    }) (unpaired (indices table.sets) table.items none))
    ∙ ap (λ (n : Defined). record { ends = ends.exactly (pos 0); mark = n }) (both_never m)

pub no_table_there : (b : Box) (table : Table) (m : Defined) (es : List ends.Ends) (a : ends.Ends) (s : Sight) → no_table ≡ table → a ≡ ends.exactly (pos 0)
    → s ≡ record { ends = a; mark = Never } → s ≡ element_sight b table m es
no_table_there b table m es a s missing zero is =
    is ∙ ap (λ (e : ends.Ends). record { ends = e; mark = Never }) zero ∙ sym (none_seen b es m no_table refl) ∙ ap (λ (t : Table). element_sight b t m es) missing

pub no_items_there : (b : Box) (t : own.Table) (table : Table) (m : Defined) (es : List ends.Ends) (a : ends.Ends) (s : Sight) → table_of t ≡ table → length t.elements.items ≡ 0
    → a ≡ ends.exactly (pos 0) → s ≡ record { ends = a; mark = Never } → s ≡ element_sight b table m es
no_items_there b t table m es a s found none zero is =
    is ∙ ap (λ (e : ends.Ends). record { ends = e; mark = Never }) zero ∙ sym (none_seen b es m (table_of t) (unmapped t.elements.items none)) ∙ ap (λ (u : Table). element_sight b u m es) found
  where
    unmapped : (xs : List Element) → length xs ≡ 0 → items_of xs ≡ []
    unmapped [] none = refl
    unmapped (x ∷ xs) none = absurd (omega (arith, none))

-- one index after the other
sets_behind : (xs : List (Vec ℤ Global)) (x : Vec ℤ Global) → sets_of (xs ++ x ∷ []) ≡ sets_of xs ++ x.items ∷ []
sets_behind [] x = refl
sets_behind (y ∷ xs) x = ap (λ (ys : List (List ℤ)). y.items ∷ ys) (sets_behind xs x)

pub last_ascends : (sets ss : List (Vec ℤ Global)) (set : Vec ℤ Global) → sets ≡ ss ++ set ∷ [] → all_ascend sets ≡ true → (all_ascend ss ≡ true) × (ascends set.items ≡ true)
last_ascends sets ss set is up = parts ss (sym (ap all_ascend is) ∙ up)
  where
    parts : (xs : List (Vec ℤ Global)) → all_ascend (xs ++ set ∷ []) ≡ true → (all_ascend xs ≡ true) × (ascends set.items ≡ true)
    parts [] all = (refl, and_first (ascends set.items) true all)
    parts (x ∷ xs) all =
        let later = parts xs (and_second (ascends x.items) (all_ascend (xs ++ set ∷ [])) all) in
        (and_from (ascends x.items) (all_ascend xs) (and_first (ascends x.items) (all_ascend (xs ++ set ∷ [])) all) later.0, later.1)

intervals_behind : (reading : Reading) (root b : Box) (all : List Thing) (xs : List ℕ) (x : ℕ) → intervals reading root b (terms_at all (xs ++ x ∷ []))
    ≡ intervals reading root b (terms_at all xs) ++ interval reading root b (term_at all x) ∷ []
intervals_behind reading root b all [] x = refl
intervals_behind reading root b all (y ∷ xs) x = ap (λ (ds : List ends.Ends). interval reading root b (term_at all y) ∷ ds) (intervals_behind reading root b all xs x)

marks_behind : (reading : Reading) (root b : Box) (all : List Thing) (xs : List ℕ) (x : ℕ) (m : Defined) → both (all_marks (marks reading root b (terms_at all (xs ++ x ∷ [])))) m
    ≡ both (all_marks (marks reading root b (terms_at all xs))) (both (mark reading root b (term_at all x)) m)
marks_behind reading root b all [] x m = both_grouped (mark reading root b (term_at all x)) Always m
marks_behind reading root b all (y ∷ xs) x m =
    both_grouped (mark reading root b (term_at all y)) (all_marks (marks reading root b (terms_at all (xs ++ x ∷ [])))) m
    ∙ ap (both (mark reading root b (term_at all y))) (marks_behind reading root b all xs x m)
    ∙ sym (both_grouped (mark reading root b (term_at all y)) (all_marks (marks reading root b (terms_at all xs))) (both (mark reading root b (term_at all x)) m))

same_known : (a b c d : Bool) (rs qs : List ends.Ends) → a ≡ b → c ≡ d → rs ≡ qs
    → (◌≡◌ {A = Known}) (record { covered = a; allowed = c; ranges = rs }) (record { covered = b; allowed = d; ranges = qs })
same_known a b c d rs qs p q r = cc

module _ (reading : Reading) (root b : Box) (all : List Thing) (table : Table) (at xs : List ℕ) (x : ℕ) (sets ss : List (Vec ℤ Global)) (set : Vec ℤ Global) (known more : Indices)
    (rs : List ends.Ends) (r : ends.Ends) (m : Defined) (is : at ≡ xs ++ x ∷ []) (sets_are : sets ≡ ss ++ set ∷ []) (interval_is : r ≡ interval reading root b (term_at all x))
    (mark_is : m ≡ mark reading root b (term_at all x)) (marked : more.mark ≡ both m known.mark) (covered : more.covered ≡ (is_covered r set.items && known.covered))
    (allowed : more.allowed ≡ (has_one r set.items && known.allowed)) where
  step : (qs : List ends.Ends) → qs ≡ (if is_one set.items then rs else r ∷ rs) → indexed_sight reading root b table (terms_at all xs) (sets_of ss) more.mark (known_of more qs)
      ≡ indexed_sight reading root b table (terms_at all at) (sets_of sets) known.mark (known_of known rs)
  step qs qs_are =
      let known_is : known_of more qs ≡ with_dimension r set.items (known_of known rs) = same_known _ _ _ _ _ _ covered allowed qs_are in
      let dimensions : with_dimensions (intervals reading root b (terms_at all at)) (sets_of sets) (known_of known rs)
      ≡ with_dimensions (intervals reading root b (terms_at all xs)) (sets_of ss) (known_of more qs) =
      ap (λ (ys : List ℕ). with_dimensions (intervals reading root b (terms_at all ys)) (sets_of sets) (known_of known rs)) is
      ∙ ap (λ (es : List ends.Ends). with_dimensions es (sets_of sets) (known_of known rs)) (intervals_behind reading root b all xs x
      ∙ ap (λ (e : ends.Ends). intervals reading root b (terms_at all xs) ++ e ∷ []) (sym interval_is))
      ∙ ap (λ (ls : List (List ℤ)). with_dimensions (intervals reading root b (terms_at all xs) ++ r ∷ []) ls (known_of known rs)) (ap sets_of sets_are ∙ sets_behind ss set)
      ∙ last_known (intervals reading root b (terms_at all xs)) r (sets_of ss) set.items (known_of known rs)
      ∙ ap (with_dimensions (intervals reading root b (terms_at all xs)) (sets_of ss)) (sym known_is) in
      let marks_are : both (all_marks (marks reading root b (terms_at all at))) known.mark ≡ both (all_marks (marks reading root b (terms_at all xs))) more.mark =
      ap (λ (ys : List ℕ). both (all_marks (marks reading root b (terms_at all ys))) known.mark) is
      ∙ marks_behind reading root b all xs x known.mark
      ∙ ap (λ (n : Defined). both (all_marks (marks reading root b (terms_at all xs))) (both n known.mark)) (sym mark_is)
      ∙ ap (both (all_marks (marks reading root b (terms_at all xs)))) (sym marked) in
      sym (ap (λ (n : Defined). known_sight b table n (with_dimensions (intervals reading root b (terms_at all at)) (sets_of sets) (known_of known rs))) marks_are
      ∙ ap (known_sight b table (both (all_marks (marks reading root b (terms_at all xs))) more.mark)) dimensions)

  pub next_narrow : length set.items ≡ 1 → indexed_sight reading root b table (terms_at all xs) (sets_of ss) more.mark (known_of more rs)
      ≡ indexed_sight reading root b table (terms_at all at) (sets_of sets) known.mark (known_of known rs)
  next_narrow one = step rs (sym (ap (λ (c : Bool). if c then rs else r ∷ rs) ((one_test set.items).0 one)))

  pub next_wide : (length set.items ≡ 1 → ⊥) → indexed_sight reading root b table (terms_at all xs) (sets_of ss) more.mark (known_of more (r ∷ rs))
      ≡ indexed_sight reading root b table (terms_at all at) (sets_of sets) known.mark (known_of known rs)
  next_wide other = step (r ∷ rs) (sym (ap (λ (c : Bool). if c then rs else r ∷ rs) ((one_test set.items).1 other)))

-- an index has no dimension, or a dimension no index
pub no_set_left : (reading : Reading) (root b : Box) (all : List Thing) (table : Table) (at xs : List ℕ) (x : ℕ) (sets : List (Vec ℤ Global)) (m : Defined) (known : Known) (a : ends.Ends) (s : Sight)
    → at ≡ xs ++ x ∷ [] → length sets ≡ 0 → a ≡ ends.hull_of (map (item_ends b) table.items) → s ≡ record { ends = a; mark = Never }
    → s ≡ indexed_sight reading root b table (terms_at all at) (sets_of sets) m known
no_set_left reading root b all table at xs x sets m known a s is none hull s_is =
    let missing : with_dimensions (intervals reading root b (terms_at all at)) (sets_of sets) known ≡ None =
    ap (λ (ys : List ℕ). with_dimensions (intervals reading root b (terms_at all ys)) (sets_of sets) known) is
    ∙ ap (λ (es : List ends.Ends). with_dimensions es (sets_of sets) known) (intervals_behind reading root b all xs x)
    ∙ sets_missing (intervals reading root b (terms_at all xs)) (interval reading root b (term_at all x)) (sets_of sets) known (count sets ∙ none) in
    s_is ∙ ap (λ (e : ends.Ends). record { ends = e; mark = Never }) hull
    ∙ sym (ap (known_sight b table (both (all_marks (marks reading root b (terms_at all at))) m)) missing)
  where
    count : (ys : List (Vec ℤ Global)) → length (sets_of ys) ≡ length ys
    count [] = refl
    count (y ∷ ys) = ap suc (count ys)

pub no_index_left : (reading : Reading) (root b : Box) (all : List Thing) (table : Table) (at : List ℕ) (sets : List (List ℤ)) (m : Defined) (known : Known) (s : Sight) → length at ≡ 0
    → s ≡ known_sight b table m (with_dimensions [] sets known) → s ≡ indexed_sight reading root b table (terms_at all at) sets m known
no_index_left reading root b all table [] sets m known s none is = is
no_index_left reading root b all table (x ∷ at) sets m known s none is = absurd (omega (arith, none))

pub sets_left : (b : Box) (table : Table) (sets : List (Vec ℤ Global)) (m : Defined) (known : Known) (a : ends.Ends) (s : Sight) → 0 < length sets
    → a ≡ ends.hull_of (map (item_ends b) table.items) → s ≡ record { ends = a; mark = Never } → s ≡ known_sight b table m (with_dimensions [] (sets_of sets) known)
sets_left b table [] m known a s some hull is = absurd (omega (arith, some))
sets_left b table (set ∷ sets) m known a s some hull is = is ∙ ap (λ (e : ends.Ends). record { ends = e; mark = Never }) hull

pub no_sets_left : (b : Box) (table : Table) (sets : List (Vec ℤ Global)) (m : Defined) (known : Known) (s : Sight) → length sets ≡ 0
    → s ≡ known_sight b table m (Some known) → s ≡ known_sight b table m (with_dimensions [] (sets_of sets) known)
no_sets_left b table [] m known s none is = is
no_sets_left b table (set ∷ sets) m known s none is = absurd (omega (arith, none))

-- over all indices
pub indexed_is : (reading : Reading) (root b : Box) (all : List Thing) (table : Table) (at : List ℕ) → length table.items ≡ length (indices table.sets)
    → indexed_sight reading root b table (terms_at all at) table.sets Always none_known
    ≡ element_sight b table (all_marks (marks reading root b (terms_at all at))) (intervals reading root b (terms_at all at))
indexed_is reading root b all table at complete =
    let m : Defined = all_marks (marks reading root b (terms_at all at)) in
    let rs = intervals reading root b (terms_at all at) in
    ap (λ (n : Defined). known_sight b table n (with_dimensions rs table.sets none_known)) (both_always m)
    ∙ same_sight _ _ _ _ (indexed_ends b rs table complete) (indexed_mark b rs table complete m)

pub indexed_whole : (reading : Reading) (root b : Box) (all : List Thing) (t : own.Table) (table : Table) (at : List ℕ) (sets : List (Vec ℤ Global)) (known : Indices) (s : Sight) → table_of t ≡ table
    → length (table_of t).items ≡ length (indices (table_of t).sets) → sets ≡ t.sets.items → known.mark ≡ Always → known_of known [] ≡ none_known
    → s ≡ indexed_sight reading root b (table_of t) (terms_at all at) (sets_of sets) known.mark (known_of known [])
    → s ≡ element_sight b table (all_marks (marks reading root b (terms_at all at))) (intervals reading root b (terms_at all at))
indexed_whole reading root b all t table at sets known s found complete sets_are marked nothing is =
    is
    ∙ ap (λ (ss : List (Vec ℤ Global)). indexed_sight reading root b (table_of t) (terms_at all at) (sets_of ss) known.mark (known_of known [])) sets_are
    ∙ ap (λ (m : Defined). indexed_sight reading root b (table_of t) (terms_at all at) (table_of t).sets m (known_of known [])) marked
    ∙ ap (indexed_sight reading root b (table_of t) (terms_at all at) (table_of t).sets Always) nothing
    ∙ indexed_is reading root b all (table_of t) at complete
    ∙ ap (λ (u : Table). element_sight b u (all_marks (marks reading root b (terms_at all at))) (intervals reading root b (terms_at all at))) found
