-- What is out of date of several things that mention cells.
use Rattle.std.proofs.Common.{◌≡◌, inl, inr, ℕ, ◌+◌, ◌<◌, ◌≤◌, Bool, true, false, List, [], ◌∷◌, ◌++◌, Option, None, Some, IfNone, if◌then◌else◌, length, length-set, get_or, map, set, take, arith, refl, sym, ap, subst, ◌∙◌}
use Rattle.std.specs.List.{Contains, filter, range_with_len}
use Rattle.std.proofs.lemmas.Bool.{cases_eq, cases_lt}
use Rattle.std.proofs.lemmas.Grind.{get_or-set_at}
use Rattle.std.proofs.lemmas.List.{get_or_past, get_or-set_other, take_more}
use Rattle.std.proofs.lemmas.List.Elements.{Contains-append_cases, Contains-append_left, Contains-append_right}
use Rattle.std.proofs.lemmas.List.FromFn.{get_or-range_with_len, length-range_with_len}
use Rattle.sopl_base.proofs.Lists.{contains_one}
use Rattle.term_language.proofs.FormValues.{by_bool}
use Rattle.term_problem.specs.Search.{numbers_to}
use Rattle.prop_core.proofs.Told.{woken_more}
use Rattle.prop_core.specs.Waking.{AreWoken}
use Rattle.prop_core.specs.Watches.{waits_at}
use Rattle.prop_chance.specs.UpToDate.{AreListed, AreListedBut, AreMentioning, IsUpToDate}
use Rattle.prop_chance.specs.declared.outdated.Outdated.{Outdated}
use Rattle.prop_chance.proofs.Conditions.{list_at}

none_told : (n : ℕ) → ¬ Contains [] n
none_told n has = omega (arith, has.1)

-- the numbers that a test keeps
no_both : (t : Bool) → t ≡ false → t ≡ true → ⊥
no_both true unmet met = absurd (cc)
no_both false unmet met = absurd (cc)

filter_has : (test : ℕ → Bool) (xs : List ℕ) (k : ℕ) → Contains xs k → test k ≡ true → Contains (filter test xs) k
filter_has test [] k here is = absurd (none_told k here)
filter_has test (x ∷ xs) k here is =
    by_bool (λ t. test x ≡ t → Contains (if t then x ∷ filter test xs else filter test xs) k) (test x)
    (λ met is_met. elim (Contains-append_cases (x ∷ []) xs k here) [
      | inl first ↦ Contains-append_left (x ∷ []) (filter test xs) k first
      | inr later ↦ Contains-append_right (x ∷ []) (filter test xs) k (filter_has test xs k later is)
    ])
    (λ unmet other. elim (Contains-append_cases (x ∷ []) xs k here) [
      | inl first ↦ absurd (no_both (test k) (subst (λ (n : ℕ). test n ≡ false) (contains_one x k first) other) is)
      | inr later ↦ filter_has test xs k later is
    ]) refl

number_there : (n k : ℕ) → k < n → Contains (range_with_len 0 n) k
number_there n k below =
    let count = length-range_with_len 0 n in
    let at = get_or-range_with_len 0 n k k below in
    (k, omega (arith, below, count), omega (arith, at))

pub not_kept : (test : ℕ → Bool) (n k : ℕ) → k < n → (¬ Contains (filter test (numbers_to n)) k) → test k ≡ false
not_kept test n k below nowhere =
    by_bool (λ t. test k ≡ t → test k ≡ false) (test k) (λ met is. absurd (nowhere (filter_has test (numbers_to n) k (number_there n k below) is))) (λ unmet is. is) refl

-- a thing that does not wait is there; and where all things wait, none is up to date
is_there : (waits : List Bool) (k : ℕ) → waits_at waits k ≡ false → k < length waits
is_there waits k calm =
    elim (cases_lt k (length waits)) [
      | inl below ↦ below
      | inr past ↦ absurd (no_both (waits_at waits k) calm (get_or_past waits k true past))
    ]

pub never : {A : Type 0} (mentions : ℕ → ℕ → Bool) (o : Outdated) (number : ℕ) → ((k : ℕ) → waits_at o.waits.items k ≡ true) → IsUpToDate mentions o number → A
never mentions o number all fresh = absurd (no_both (waits_at o.waits.items number) fresh.calm (all number))

pub none_fresh : (mentions : ℕ → ℕ → Bool) (cell number : ℕ) (old new : Outdated) → ((k : ℕ) → waits_at new.waits.items k ≡ true) → IsUpToDate mentions new number
    → IsUpToDate mentions old number × (mentions cell number ≡ false)
none_fresh mentions cell number old new all fresh = never mentions new number all fresh

-- what was told is told still
pub told_alike : (mentions : ℕ → ℕ → Bool) (number : ℕ) (old new : Outdated) → new.waits ≡ old.waits → new.told.items ≡ old.told.items → IsUpToDate mentions new number
    → IsUpToDate mentions old number
told_alike mentions number old new waits told fresh = record {
  calm = ap (λ list. waits_at list.items number) (sym waits) ∙ fresh.calm;
  apart = λ n has. fresh.apart n (subst (λ (cells : List ℕ). Contains cells n) (sym told) has);
}

-- one cell more was told
pub told_one : (mentions : ℕ → ℕ → Bool) (cell number : ℕ) (old new : Outdated) → new.waits ≡ old.waits → new.told.items ≡ old.told.items ++ cell ∷ [] → IsUpToDate mentions new number
    → IsUpToDate mentions old number × (mentions cell number ≡ false)
told_one mentions cell number old new waits told fresh = (
  record {
    calm = ap (λ list. waits_at list.items number) (sym waits) ∙ fresh.calm;
    apart = λ n has. fresh.apart n (subst (λ (cells : List ℕ). Contains cells n) (sym told) (Contains-append_left old.told.items (cell ∷ []) n has));
  },
  fresh.apart cell (subst (λ (cells : List ℕ). Contains cells cell) (sym told) (Contains-append_right old.told.items (cell ∷ []) cell (0, omega arith, refl))),
)

-- the numbers that are listed for a cell at its place
pub listed_at : {A : Type 0} (numbers : A → List ℕ) (mentions : ℕ → ℕ → Bool) (count : ℕ) (cells : List ℕ) (lists : List A) (place cell d : ℕ) (found : A)
    → AreMentioning mentions count cells (map numbers lists) → place < length cells → get_or cells place d ≡ cell → found ≡ get_or lists place found
    → numbers found ≡ filter (mentions cell) (numbers_to count)
listed_at numbers mentions count cells lists place cell d found listed below at there =
    ap numbers there
    ∙ (list_at numbers (λ c. filter (mentions c) (numbers_to count)) lists cells place d found listed below
    ∙ ap (λ (c : ℕ). filter (mentions c) (numbers_to count)) at)

-- the things wait that mention a cell, and it is told no more
pub cell_waits : (mentions : ℕ → ℕ → Bool) (cell count number : ℕ) (list : List ℕ) (before old new : Outdated) → list ≡ filter (mentions cell) (numbers_to count)
    → AreWoken list old.waits.items new.waits.items → length new.waits.items ≡ count → before.waits ≡ old.waits → before.told.items ≡ old.told.items ++ cell ∷ [] → new.told ≡ old.told
    → IsUpToDate mentions new number → IsUpToDate mentions before number
cell_waits mentions cell count number list before old new own woken long waits told kept fresh =
    let was = woken number fresh.calm in
    let there = is_there new.waits.items number fresh.calm in
    let apart : mentions cell number ≡ false =
    not_kept (mentions cell) count number (omega (arith, there, long)) (λ has. was.1 (subst (λ (ks : List ℕ). Contains ks number) (sym own) has)) in
    record {
      calm = ap (λ flags. waits_at flags.items number) waits ∙ was.0;
      apart = λ n has. elim (Contains-append_cases old.told.items (cell ∷ []) n (subst (λ (ns : List ℕ). Contains ns n) told has)) [
        | inl earlier ↦ fresh.apart n (subst (λ ns. Contains ns.items n) (sym kept) earlier)
        | inr last ↦ subst (λ (c : ℕ). mentions c number ≡ false) (contains_one cell n last) apart
      ];
    }

-- nothing was told
pub fresh_alone : (mentions : ℕ → ℕ → Bool) (o : Outdated) (number : ℕ) → o.told.items ≡ [] → waits_at o.waits.items number ≡ false → IsUpToDate mentions o number
fresh_alone mentions o number clean calm = record { calm = calm; apart = λ n has. absurd (none_told n (subst (λ (ns : List ℕ). Contains ns n) clean has)) }

-- a thing is let wait, or waits already
pub woken_already : (waits : List Bool) (n : ℕ) → n < length waits → waits_at waits n ≡ true → AreWoken (n ∷ []) waits waits
woken_already waits n below waiting = λ k calm. (calm, λ has. no_both (waits_at waits k) calm (ap (waits_at waits) (sym (contains_one n k has)) ∙ waiting))

pub woken_now : (old new : List Bool) (n : ℕ) → n < length old → new ≡ set old n true → AreWoken (n ∷ []) old new
woken_now old new n below put =
    subst (λ (ws : List Bool). AreWoken (n ∷ []) old ws) (sym put) (woken_more [] old old n below (λ k calm. (calm, none_told k)))

-- those of a list, one after the other
pub woken_on : (numbers : List ℕ) (before now after : List Bool) (i number : ℕ) → i < length numbers → number ≡ get_or numbers i 0 → AreWoken (take i numbers) before now
    → AreWoken (number ∷ []) now after → AreWoken (take (i + 1) numbers) before after
woken_on numbers before now after i number below is earlier last = λ k calm.
    let now_calm = last k calm in
    let was = earlier k now_calm.0 in (
      was.0,
      λ has. elim (Contains-append_cases (take i numbers) (get_or numbers i 0 ∷ []) k (subst (λ (xs : List ℕ). Contains xs k) (take_more numbers i 0 below) has)) [
        | inl before_has ↦ was.1 before_has
        | inr here ↦ now_calm.1 (subst (λ (n : ℕ). Contains (n ∷ []) k) (sym is) here)
      ],
    )

-- none is listed, and none needs to be where none waits
pub all_unlisted : (o : Outdated) → length o.waits.items ≤ o.unlisted → AreListed o
all_unlisted o many = record { each = λ k below from nowhere. absurd (omega (arith, below, from, many)) }

pub none_waits : (o : Outdated) → ((k : ℕ) → k < length o.waits.items → waits_at o.waits.items k ≡ false) → AreListed o
none_waits o calm = record { each = λ k below from nowhere. calm k below }

pub listed_alike : (old new : Outdated) → new.waits ≡ old.waits → new.listed ≡ old.listed → new.unlisted ≡ old.unlisted → AreListed old → AreListed new
listed_alike old new waits listed first are = record {
  each = λ k below from nowhere.
      ap (λ flags. waits_at flags.items k) waits
      ∙ are.each k (subst (λ flags. k < length flags.items) waits below) (omega (arith, from, first)) (subst (λ list. ¬ Contains list.items k) listed nowhere);
}

-- where a thing does not wait that may not be listed, all are
pub listed_calm : (o : Outdated) (n : ℕ) → (n < length o.waits.items → waits_at o.waits.items n ≡ false) → AreListedBut n o → AreListed o
listed_calm o n calm but = record {
  each = λ k below from nowhere. elim (cases_eq k n) [
    | inl same ↦ subst (λ (i : ℕ). waits_at o.waits.items i ≡ false) (sym same) (calm (subst (λ (i : ℕ). i < length o.waits.items) same below))
    | inr other ↦ but.each k below from nowhere other
  ];
}

-- a thing waits that did not
pub listed_woken : (old new : Outdated) (n : ℕ) → new.waits.items ≡ set old.waits.items n true → new.listed ≡ old.listed → new.unlisted ≡ old.unlisted → AreListed old → AreListedBut n new
listed_woken old new n put listed first are = record {
  each = λ k below from nowhere other.
      ap (λ (flags : List Bool). waits_at flags k) put
      ∙ (get_or-set_other old.waits.items n k true true other
      ∙ are.each k (let long = ap (λ (flags : List Bool). length flags) put ∙ length-set old.waits.items n true in omega (arith, below, long)) (omega (arith, from, first))
      (subst (λ list. ¬ Contains list.items k) listed nowhere));
}

-- a thing waits no more
pub listed_on : (old new : Outdated) (n : ℕ) → n < length old.waits.items → new.waits.items ≡ set old.waits.items n false → new.listed ≡ old.listed → new.unlisted ≡ old.unlisted
    → AreListedBut n old → AreListed new
listed_on old new n exists put listed first but = record {
  each = λ k below from nowhere.
      ap (λ (flags : List Bool). waits_at flags k) put
      ∙ elim (cases_eq k n) [
        | inl same ↦ get_or-set_at old.waits.items n k false true same exists
        | inr other ↦ get_or-set_other old.waits.items n k false true other
            ∙ but.each k (let long = ap (λ (flags : List Bool). length flags) put ∙ length-set old.waits.items n false in omega (arith, below, long)) (omega (arith, from, first))
            (subst (λ list. ¬ Contains list.items k) listed nowhere) other
      ];
}

-- a thing more is listed, or taken off the list, or from those that are not listed
pub listed_more : (old new : Outdated) (n : ℕ) → new.waits ≡ old.waits → new.listed.items ≡ old.listed.items ++ n ∷ [] → new.unlisted ≡ old.unlisted → AreListedBut n old → AreListed new
listed_more old new n waits listed first but = record {
  each = λ k below from nowhere.
      let apart = subst (λ (ns : List ℕ). ¬ Contains ns k) listed nowhere in
      ap (λ flags. waits_at flags.items k) waits
      ∙ but.each k (subst (λ flags. k < length flags.items) waits below) (omega (arith, from, first)) (λ has. apart (Contains-append_left old.listed.items (n ∷ []) k has))
      (λ same. apart (subst (λ (i : ℕ). Contains (old.listed.items ++ n ∷ []) i) (sym same) (Contains-append_right old.listed.items (n ∷ []) n (0, omega arith, refl))));
}

pub listed_less : (old new : Outdated) (n : ℕ) → new.waits ≡ old.waits → old.listed.items ≡ new.listed.items ++ n ∷ [] → new.unlisted ≡ old.unlisted → AreListed old → AreListedBut n new
listed_less old new n waits listed first are = record {
  each = λ k below from nowhere other.
      ap (λ flags. waits_at flags.items k) waits
      ∙ are.each k (subst (λ flags. k < length flags.items) waits below) (omega (arith, from, first))
      (λ has. elim (Contains-append_cases new.listed.items (n ∷ []) k (subst (λ (ns : List ℕ). Contains ns k) listed has)) [
        | inl still ↦ nowhere still
        | inr last ↦ other (sym (contains_one n k last))
      ]);
}

pub first_less : (old new : Outdated) (n : ℕ) → new.waits ≡ old.waits → new.listed.items ≡ old.listed.items → (n + 1 ≡ old.unlisted) × (new.unlisted ≡ n) → AreListed old → AreListedBut n new
first_less old new n waits listed taken are = record {
  each = λ k below from nowhere other.
      let before = taken.0 in
      let after = taken.1 in
      ap (λ flags. waits_at flags.items k) waits
      ∙ are.each k (subst (λ flags. k < length flags.items) waits below) (omega (arith, from, other, before, after)) (subst (λ (ns : List ℕ). ¬ Contains ns k) listed nowhere);
}

-- no number is left
pub none_left : (o : Outdated) → o.listed.items ≡ [] → o.unlisted ≡ 0 → AreListed o → (k : ℕ) → k < length o.waits.items → waits_at o.waits.items k ≡ false
none_left o none first are k below = are.each k below (omega (arith, first)) (subst (λ (ns : List ℕ). ¬ Contains ns k) (sym none) (none_told k))

pub if_none_map : {A : Type 0} (o : Option A) (P Q : Type 0) → (P → Q) → IfNone o P → IfNone o Q
if_none_map None P Q on is = on is
if_none_map (Some x) P Q on is = tt
