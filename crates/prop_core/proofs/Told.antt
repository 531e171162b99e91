-- Members that are told of a cell that has changed.
use Rattle.std.proofs.Common.{◌≡◌, inl, inr, ℕ, ◌+◌, ◌<◌, ◌≤◌, Bool, true, false, List, [], ◌∷◌, ◌++◌, length, map, take, get_or, set, length-set, Contains, refl, sym, ap, subst, ◌∙◌, arith}
use Rattle.std.proofs.lemmas.Bool.{cases_eq}
use Rattle.std.proofs.lemmas.List.{get_or-map, get_or_default, take_all, take_more}
use Rattle.std.proofs.lemmas.List.Elements.{All-set, Contains-append_cases}
use Rattle.std.proofs.Math.Seq.{get_or-set_same, get_or-set_other}
use Rattle.box_problem.specs.Box.{Box}
use Rattle.sopl_base.specs.declared.reason.Reason.{Reason}
use Rattle.sopl_base.proofs.Lists.{contains_one}
use Rattle.prop_core.proofs.Members.{same_count}
use Rattle.prop_core.specs.declared.watch.WatchPlaces.{WatchPlaces}
use Rattle.prop_core.specs.declared.watch.Watch.{Watch}
use Rattle.prop_core.specs.Watches.{AgreeElsewhere}
use Rattle.prop_core.specs.Waking.{AreTouched, AreWoken, StillInStep, places_at}

pub places_there : (watch : Watch) (cell : ℕ) (d : WatchPlaces) → cell < length watch.lists.items → (get_or watch.lists.items cell d).items.items ≡ places_at watch cell
places_there watch cell d exists = sym (get_or-map (λ (p : WatchPlaces). p.items.items) watch.lists.items cell d [] exists)

pub same_box : (cell : ℕ) (b : Box) → AgreeElsewhere cell b b
same_box cell b = record { as_long = record { lows = refl; highs = refl }; lows = λ k other. refl; highs = λ k other. refl }

-- one member more is told
abbrev pub TellsOne : {P Program : Type 0} → (P → Program → Box → Type 0) → ℕ → P → P → Type 0
TellsOne {P} {Program} in_step cell old new = (program : Program) (b c : Box) → AgreeElsewhere cell b c → in_step old program b → in_step new program c

pub still_more : {P Program : Type 0} (in_step : P → Program → Box → Type 0) (cell : ℕ) (before now : List P) (at : ℕ) (d new : P) → at < length now
    → StillInStep in_step before now → TellsOne in_step cell (get_or now at d) new → StillInStep in_step before (set now at new)
still_more in_step cell before now at d new exists still tells program b all =
    let here = still program b all in
    All-set (λ member. in_step member program b) now at new (tells program b b (same_box cell b) (here at d exists)) here

pub touched_more : {P Program : Type 0} (in_step : P → Program → Box → Type 0) (cell : ℕ) (places : List ℕ) (before now : List P) (at : ℕ) (d new : P) → at < length now
    → StillInStep in_step before now → AreTouched in_step cell places before now → TellsOne in_step cell (get_or now at d) new
    → AreTouched in_step cell (places ++ at ∷ []) before (set now at new)
touched_more in_step cell places before now at d new exists still touched tells program b c agree all k e below has =
    elim (cases_eq k at) [
      | inl is ↦ subst (λ (i : ℕ). in_step (get_or (set now at new) i e) program c) (sym is)
          (subst (λ member. in_step member program c) (sym (get_or-set_same now at new e exists)) (tells program b c agree (still program b all at d exists)))
      | inr other ↦ elim (Contains-append_cases places (at ∷ []) k has) [
        | inl before_has ↦ subst (λ member. in_step member program c) (sym (get_or-set_other now at k new e other))
            (touched program b c agree all k e (omega (arith, below, length-set now at new)) before_has)
        | inr last ↦ absurd (other (sym (contains_one at k last)))
      ]
    ]

pub woken_more : (places : List ℕ) (before now : List Bool) (at : ℕ) → at < length now → AreWoken places before now → AreWoken (places ++ at ∷ []) before (set now at true)
woken_more places before now at exists woken k rests =
    elim (cases_eq k at) [
      | inl is ↦ absurd (true_false (sym (ap (λ (i : ℕ). get_or (set now at true) i true) is ∙ get_or-set_same now at true true exists) ∙ rests))
      | inr other ↦
          let old = woken k (sym (get_or-set_other now at k true true other) ∙ rests) in (
            old.0,
            λ has. elim (Contains-append_cases places (at ∷ []) k has) [
              | inl before_has ↦ old.1 before_has
              | inr last ↦ other (sym (contains_one at k last))
            ],
          )
    ]
  where
    true_false : true ≡ false → ⊥
    true_false is = cc

pub placed : (places : List ℕ) (i : ℕ) → i < length places → Contains places (get_or places i 0)
placed places i exists = (i, exists, get_or_default places i (get_or places i 0) 0 exists)

pub place_exists : {P : Type 0} (f : P → List Reason) (places : List ℕ) (before now : List P) (i : ℕ) → i < length places → ((k : ℕ) → Contains places k → k < length before)
    → map f now ≡ map f before → get_or places i 0 < length now
place_exists f places before now i exists below same = omega (arith, below (get_or places i 0) (placed places i exists), same_count f now before same)

pub touched_next : {P Program : Type 0} (in_step : P → Program → Box → Type 0) (cell : ℕ) (places : List ℕ) (before now : List P) (i : ℕ) (d new : P) → i < length places
    → get_or places i 0 < length now → StillInStep in_step before now → AreTouched in_step cell (take i places) before now → TellsOne in_step cell (get_or now (get_or places i 0) d) new
    → AreTouched in_step cell (take (i + 1) places) before (set now (get_or places i 0) new)
touched_next in_step cell places before now i d new there exists still touched tells =
    subst (λ (xs : List ℕ). AreTouched in_step cell xs before (set now (get_or places i 0) new)) (sym (take_more places i 0 there))
    (touched_more in_step cell (take i places) before now (get_or places i 0) d new exists still touched tells)

pub woken_next : (places : List ℕ) (before now : List Bool) (i : ℕ) → i < length places → get_or places i 0 < length now → AreWoken (take i places) before now
    → AreWoken (take (i + 1) places) before (set now (get_or places i 0) true)
woken_next places before now i there exists woken =
    subst (λ (xs : List ℕ). AreWoken xs before (set now (get_or places i 0) true)) (sym (take_more places i 0 there)) (woken_more (take i places) before now (get_or places i 0) exists woken)

pub touched_all : {P Program : Type 0} (in_step : P → Program → Box → Type 0) (cell : ℕ) (places : List ℕ) (before now : List P) (i : ℕ) → length places ≤ i
    → AreTouched in_step cell (take i places) before now → AreTouched in_step cell places before now
touched_all in_step cell places before now i all touched = subst (λ (xs : List ℕ). AreTouched in_step cell xs before now) (take_all i places all) touched

pub woken_all : (places : List ℕ) (before now : List Bool) (i : ℕ) → length places ≤ i → AreWoken (take i places) before now → AreWoken places before now
woken_all places before now i all woken = subst (λ (xs : List ℕ). AreWoken xs before now) (take_all i places all) woken
