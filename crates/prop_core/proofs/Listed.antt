-- How the places of the members that watch a cell are listed.
use Rattle.std.proofs.Common.{◌≡◌, ◌⊎◌, inl, inr, ℕ, ◌+◌, ◌<◌, ◌≤◌, List, [], ◌∷◌, ◌++◌, length, map, take, get_or, set, length-set, Contains, refl, sym, ap, subst, ◌∙◌, arith}
use Rattle.std.proofs.lemmas.Bool.{cases_eq}
use Rattle.std.proofs.lemmas.List.{get_or-map, get_or-set_same, get_or-set_other, get_or-take, length-map, length-take-le, map-set, take_all, take_more}
use Rattle.std.proofs.lemmas.List.Elements.{Contains-append_cases, Contains-append_left, Contains-append_right}
use Rattle.sopl_base.proofs.Lists.{contains_one}
use Rattle.prop_core.specs.declared.watch.WatchPlaces.{WatchPlaces}
use Rattle.prop_core.specs.declared.watch.Watch.{Watch}
use Rattle.prop_core.specs.Places.{AddsPlaces, HasEmptyLists}
use Rattle.prop_core.specs.Waking.{IsWatchOf, places_at}

abbrev pub list_of : WatchPlaces → List ℕ
list_of places = places.items.items

-- no list has a place
abbrev pub AreEmpty : List WatchPlaces → Type 0
AreEmpty lists = (cell : ℕ) → get_or (map list_of lists) cell [] ≡ []

-- nothing was added
pub none_added : (watch : Watch) (at : ℕ) → AddsPlaces watch watch [] at
none_added watch at = record {
  as_long = refl;
  kept = λ cell k has. has;
  added = λ cell exists has. absurd (omega (arith, has.1));
  only = λ cell k has. inl has;
}

pub nothing_added : (watch : Watch) (cell at : ℕ) → length watch.lists.items ≤ cell → AddsPlaces watch watch (cell ∷ []) at
nothing_added watch cell at past = record {
  as_long = refl;
  kept = λ k place has. has;
  added = λ k exists has. absurd (omega (arith, past, exists, contains_one cell k has));
  only = λ k place has. inl has;
}

-- a place was added to those of one cell
pub one_added : (old new : Watch) (cell at : ℕ) (d after : WatchPlaces) → cell < length old.lists.items → new.lists.items ≡ set old.lists.items cell after
    → after.items.items ≡ (get_or old.lists.items cell d).items.items ++ at ∷ [] → AddsPlaces old new (cell ∷ []) at
one_added old new cell at d after exists is pushed =
    let lists : map list_of new.lists.items ≡ set (map list_of old.lists.items) cell after.items.items = ap (map list_of) is ∙ map-set list_of old.lists.items cell after in
    let here : places_at new cell ≡ places_at old cell ++ at ∷ [] =
    ap (λ (ls : List (List ℕ)). get_or ls cell []) lists
    ∙ (get_or-set_same (map list_of old.lists.items) cell after.items.items [] (omega (arith, exists, length-map old.lists.items list_of))
    ∙ (pushed ∙ ap (λ (xs : List ℕ). xs ++ at ∷ []) (sym (get_or-map list_of old.lists.items cell d [] exists)))) in
    let there : (k : ℕ) → ¬ k ≡ cell → places_at new k ≡ places_at old k =
    λ k other. ap (λ (ls : List (List ℕ)). get_or ls k []) lists ∙ get_or-set_other (map list_of old.lists.items) cell k after.items.items [] other in
    record {
      as_long = ap length is ∙ length-set old.lists.items cell after;
      kept = λ k place has. kept_at k place here there (cases_eq k cell) has;
      added = λ k below has.
          subst (λ (i : ℕ). Contains (places_at new i) at) (contains_one cell k has)
          (subst (λ (xs : List ℕ). Contains xs at) (sym here) (Contains-append_right (places_at old cell) (at ∷ []) at (0, omega arith, refl)));
      only = λ k place has. only_at k place here there (cases_eq k cell) has;
    }
  where
    kept_at : (k place : ℕ) → places_at new cell ≡ places_at old cell ++ at ∷ [] → ((k : ℕ) → ¬ k ≡ cell → places_at new k ≡ places_at old k) → (k ≡ cell) ⊎ (¬ k ≡ cell)
        → Contains (places_at old k) place → Contains (places_at new k) place
    kept_at k place here there (inl same) has =
        subst (λ (i : ℕ). Contains (places_at new i) place) (sym same)
        (subst (λ (xs : List ℕ). Contains xs place) (sym here)
        (Contains-append_left (places_at old cell) (at ∷ []) place (subst (λ (i : ℕ). Contains (places_at old i) place) same has)))
    kept_at k place here there (inr other) has = subst (λ (xs : List ℕ). Contains xs place) (sym (there k other)) has

    only_at : (k place : ℕ) → places_at new cell ≡ places_at old cell ++ at ∷ [] → ((k : ℕ) → ¬ k ≡ cell → places_at new k ≡ places_at old k) → (k ≡ cell) ⊎ (¬ k ≡ cell)
        → Contains (places_at new k) place → Contains (places_at old k) place ⊎ ((place ≡ at) × Contains (cell ∷ []) k)
    only_at k place here there (inl same) has =
        elim (Contains-append_cases (places_at old cell) (at ∷ []) place (subst (λ (xs : List ℕ). Contains xs place) here (subst (λ (i : ℕ). Contains (places_at new i) place) same has))) [
          | inl before ↦ inl (subst (λ (i : ℕ). Contains (places_at old i) place) (sym same) before)
          | inr last ↦ inr (sym (contains_one at place last), subst (Contains (cell ∷ [])) (sym same) (0, omega arith, refl))
        ]
    only_at k place here there (inr other) has = inl (subst (λ (xs : List ℕ). Contains xs place) (there k other) has)

-- and to those of cells behind these
joined : (old mid new : Watch) (cells more : List ℕ) (at : ℕ) → AddsPlaces old mid cells at → AddsPlaces mid new more at → AddsPlaces old new (cells ++ more) at
joined old mid new cells more at first second = record {
  as_long = second.as_long ∙ first.as_long;
  kept = λ cell k has. second.kept cell k (first.kept cell k has);
  added = λ cell exists has. elim (Contains-append_cases cells more cell has) [
    | inl one ↦ second.kept cell at (first.added cell exists one)
    | inr other ↦ second.added cell (omega (arith, exists, first.as_long)) other
  ];
  only = λ cell k has. elim (second.only cell k has) [
    | inl before ↦ elim (first.only cell k before) [
      | inl earlier ↦ inl earlier
      | inr one ↦ inr (one.0, Contains-append_left cells more cell one.1)
    ]
    | inr other ↦ inr (other.0, Contains-append_right cells more cell other.1)
  ];
}

pub more_added : (old mid new : Watch) (cells : List ℕ) (i at : ℕ) → i < length cells → AddsPlaces old mid (take i cells) at → AddsPlaces mid new (get_or cells i 0 ∷ []) at
    → AddsPlaces old new (take (i + 1) cells) at
more_added old mid new cells i at exists first second =
    subst (λ (xs : List ℕ). AddsPlaces old new xs at) (sym (take_more cells i 0 exists)) (joined old mid new (take i cells) (get_or cells i 0 ∷ []) at first second)

-- the places of no member, of one member more, and of all
pub watch_of_none : (watches : List (List ℕ)) (watch : Watch) (cells : ℕ) → HasEmptyLists cells watch → IsWatchOf (take 0 watches) watch cells
watch_of_none watches watch cells empty = record {
  as_long = empty.as_long;
  each = λ cell k there. (
    λ has. absurd (no_place k (subst (λ (xs : List ℕ). Contains xs k) (empty.none cell) has)),
    λ watched. absurd (no_member k watched.0),
  );
}
  where
    no_place : (k : ℕ) → Contains [] k → ⊥
    no_place k has = omega (arith, has.1)

    no_member : (k : ℕ) → k < length (take 0 watches) → ⊥
    no_member k below = omega (arith, below, length-take-le 0 watches (omega arith))

pub watch_of_more : (watches : List (List ℕ)) (old new : Watch) (cells i : ℕ) (own : List ℕ) → i < length watches → own ≡ get_or watches i [] → IsWatchOf (take i watches) old cells
    → AddsPlaces old new own i → IsWatchOf (take (i + 1) watches) new cells
watch_of_more watches old new cells i own exists is before adds =
    let some : length (take i watches) ≡ i = length-take-le i watches (omega (arith, exists)) in
    let more : length (take (i + 1) watches) ≡ i + 1 = length-take-le (i + 1) watches (omega (arith, exists)) in
    record {
      as_long = adds.as_long ∙ before.as_long;
      each = λ cell k there. (
        λ has. elim (adds.only cell k has) [
          | inl earlier ↦ earlier_at cell k ((before.each cell k there).0 earlier) some more
          | inr last ↦ last_at cell k last more
        ],
        λ watched. watched_at cell k there (omega (arith, watched.0, more)) (cases_eq k i) watched.1 some,
      );
    }
  where
    earlier_at : (cell k : ℕ) → (k < length (take i watches)) × Contains (get_or (take i watches) k []) cell → length (take i watches) ≡ i → length (take (i + 1) watches) ≡ i + 1
        → (k < length (take (i + 1) watches)) × Contains (get_or (take (i + 1) watches) k []) cell
    earlier_at cell k watched some more =
        let below : k < i = omega (arith, watched.0, some) in
        let same : get_or (take i watches) k [] ≡ get_or (take (i + 1) watches) k [] = get_or-take i watches k [] below ∙ sym (get_or-take (i + 1) watches k [] (omega (arith, below))) in
        (omega (arith, below, more), subst (λ (xs : List ℕ). Contains xs cell) same watched.1)

    last_at : (cell k : ℕ) → (k ≡ i) × Contains own cell → length (take (i + 1) watches) ≡ i + 1 → (k < length (take (i + 1) watches)) × Contains (get_or (take (i + 1) watches) k []) cell
    last_at cell k last more =
        let here : own ≡ get_or (take (i + 1) watches) k [] =
        is ∙ (sym (ap (λ (n : ℕ). get_or watches n []) last.0) ∙ sym (get_or-take (i + 1) watches k [] (omega (arith, last.0)))) in
        (omega (arith, last.0, more), subst (λ (xs : List ℕ). Contains xs cell) here last.1)

    watched_at : (cell k : ℕ) → cell < cells → k < i + 1 → (k ≡ i) ⊎ (¬ k ≡ i) → Contains (get_or (take (i + 1) watches) k []) cell → length (take i watches) ≡ i → Contains (places_at new cell) k
    watched_at cell k there below (inl same) has some =
        let here : get_or (take (i + 1) watches) k [] ≡ own = get_or-take (i + 1) watches k [] below ∙ (ap (λ (n : ℕ). get_or watches n []) same ∙ sym is) in
        subst (λ (n : ℕ). Contains (places_at new cell) n) (sym same)
        (adds.added cell (omega (arith, there, before.as_long)) (subst (λ (xs : List ℕ). Contains xs cell) here has))
    watched_at cell k there below (inr other) has some =
        let earlier : k < i = omega (arith, below, other) in
        let same : get_or (take (i + 1) watches) k [] ≡ get_or (take i watches) k [] = get_or-take (i + 1) watches k [] below ∙ sym (get_or-take i watches k [] earlier) in
        adds.kept cell k ((before.each cell k there).1 (omega (arith, earlier, some), subst (λ (xs : List ℕ). Contains xs cell) same has))

pub watch_of_all : (watches : List (List ℕ)) (watch : Watch) (cells i : ℕ) → length watches ≤ i → IsWatchOf (take i watches) watch cells → IsWatchOf watches watch cells
watch_of_all watches watch cells i past is = subst (λ (lists : List (List ℕ)). IsWatchOf lists watch cells) (take_all i watches past) is
