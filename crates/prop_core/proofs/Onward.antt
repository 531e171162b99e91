-- Members behind a step.
use Rattle.std.proofs.Common.{◌≡◌, ◌⊎◌, inl, inr, ℕ, zero, suc, ◌<◌, ℤ, pos, Bool, List, [], ◌∷◌, length, map, get_or, length-set, Contains, Option, refl, sym, ap, subst, ◌∙◌, arith}
use Rattle.std.proofs.lemmas.Bool.{cases_eq}
use Rattle.std.proofs.lemmas.List.{get_or-map, length-map}
use Rattle.std.proofs.Math.Seq.{get_or-set_other}
use Rattle.sopl_base.specs.declared.reason.Reason.{Reason}
use Rattle.sopl_base.specs.declared.reason.Side.{Side}
use Rattle.sopl_base.specs.declared.reason.Side.TheVariants.{Le, Ge}
use Rattle.sopl_base.specs.declared.reason.Step.{Step}
use Rattle.box_problem.specs.Box.{Box, Inside}
use Rattle.box_problem.specs.BoxProblem.{BoxProblem}
use Rattle.box_problem.specs.Steps.{after_step, narrowed}
use Rattle.prop_core.specs.Members.{AllFit}
use Rattle.prop_core.specs.declared.watch.Watch.{Watch}
use Rattle.prop_core.specs.Watches.{AgreeElsewhere, AgreeOnCells, AllInStep, AreCalm, LooksAt}
use Rattle.prop_core.specs.Waking.{AreTouched, AreWoken, IsWatchOf, StillInStep, places_at}
use Rattle.prop_core.specs.Alike.{stays_quiet}

narrowed_agrees : (b : Box) (cell : ℕ) (side : Side) (k : ℤ) → AgreeElsewhere cell b (narrowed b cell side k)
narrowed_agrees b cell Le k = record {
  as_long = record { lows = refl; highs = sym (length-set b.highs cell k) };
  lows = λ i other. refl;
  highs = λ i other. sym (get_or-set_other b.highs cell i k (pos 0) other);
}
narrowed_agrees b cell Ge k = record {
  as_long = record { lows = sym (length-set b.lows cell k); highs = refl };
  lows = λ i other. sym (get_or-set_other b.lows cell i k (pos 0) other);
  highs = λ i other. refl;
}

pub step_agrees : (b c : Box) (s : Step) → c ≡ after_step b s → AgreeElsewhere s.cell b c
step_agrees b c s is = subst (AgreeElsewhere s.cell b) (sym is) (narrowed_agrees b s.cell s.side s.k)

agree_on : (cells : List ℕ) (cell : ℕ) (b c : Box) → AgreeElsewhere cell b c → ¬ Contains cells cell → AgreeOnCells cells b c
agree_on cells cell b c agree without = record {
  as_long = agree.as_long;
  lows = λ k has. agree.lows k (λ same. without (subst (Contains cells) same has));
  highs = λ k has. agree.highs k (λ same. without (subst (Contains cells) same has));
}

-- whether a list has a number
pub has_or_not : (xs : List ℕ) (k : ℕ) → Contains xs k ⊎ (¬ Contains xs k)
has_or_not [] k = inr (λ has. absurd (omega (arith, has.1)))
has_or_not (x ∷ xs) k =
    elim (cases_eq x k) [
      | inl is ↦ inl (zero, omega arith, is)
      | inr other ↦ elim (has_or_not xs k) [
        | inl has ↦ inl (suc has.0, omega (arith, has.1), has.2)
        | inr none ↦ inr (λ has. not_later x xs k other none has)
      ]
    ]
  where
    not_later : (x : ℕ) (xs : List ℕ) (k : ℕ) → ¬ x ≡ k → ¬ Contains xs k → Contains (x ∷ xs) k → ⊥
    not_later x xs k other none (zero, below, is) = other is
    not_later x xs k other none (suc at, below, is) = none (at, omega (arith, below), is)

own_list : {P A : Type 0} (f : P → List A) (xs ys : List P) (at : ℕ) (d : P) → map f xs ≡ map f ys → at < length xs → f (get_or xs at d) ≡ get_or (map f ys) at []
own_list f xs ys at d same exists = sym (get_or-map f xs at d [] exists) ∙ ap (λ lists. get_or lists at []) same

as_many : {P A : Type 0} (f : P → List A) (xs ys : List P) → map f xs ≡ map f ys → length (map f ys) ≡ length xs
as_many f xs ys same = sym (ap length same) ∙ length-map xs f

does_not_watch : {P : Type 0} (watches : P → List ℕ) (watch : Watch) (cells cell : ℕ) (before now : List P) (k : ℕ) (d : P) → cell < cells → IsWatchOf (map watches before) watch cells
    → map watches now ≡ map watches before → k < length now → ¬ Contains (places_at watch cell) k → ¬ Contains (watches (get_or now k d)) cell
does_not_watch watches watch cells cell before now k d there is same below without has =
    without ((is.each cell k there).1 (omega (arith, below, as_many watches now before same), subst (λ (cs : List ℕ). Contains cs cell) (own_list watches now before k d same below) has))

pub in_step_on : {P Program : Type 0} (in_step : P → Program → Box → Type 0) (fits : P → Program → Type 0) (watches : P → List ℕ) (program : Program) (b c : Box) (watch : Watch) (cells cell : ℕ)
    (before now : List P) → ((m : P) → fits m program → AgreeOnCells (watches m) b c → in_step m program b → in_step m program c)
    → AllFit fits program now → cell < cells → IsWatchOf (map watches before) watch cells → map watches now ≡ map watches before → AgreeElsewhere cell b c
    → AllInStep in_step program b before → StillInStep in_step before now → AreTouched in_step cell (places_at watch cell) before now → AllInStep in_step program c now
in_step_on in_step fits watches program b c watch cells cell before now law fit there is same agree all still touched = λ k d below.
    elim (has_or_not (places_at watch cell) k) [
      | inl has ↦ touched program b c agree all k d below has
      | inr without ↦ law (get_or now k d) (fit k d below)
          (agree_on (watches (get_or now k d)) cell b c agree (does_not_watch watches watch cells cell before now k d there is same below without)) (still program b all k d below)
    ]

any_of : {P : Type 0} (xs : List P) (k : ℕ) → k < length xs → P
any_of [] k below = absurd (omega (arith, below))
any_of (x ∷ xs) k below = x

pub calm_on : {P Program : Type 0} (problem : BoxProblem) (reasons : P → List Reason) (fits : P → Program → Type 0) (watches : P → List ℕ) (program : Program) (v : Option ℤ) (b c : Box)
    (watch : Watch) (cells cell : ℕ) (lists : List (List Reason)) (before now : List P) (old new : List Bool) → ((m : P) → fits m program → LooksAt problem (reasons m) (watches m))
    → AllFit fits program now → cell < cells → IsWatchOf (map watches before) watch cells → map watches now ≡ map watches before → map reasons now ≡ lists → AgreeElsewhere cell b c
    → Inside b problem.root → Inside c problem.root → AreWoken (places_at watch cell) old new → AreCalm problem lists v b old → AreCalm problem lists v c new
calm_on problem reasons fits watches program v b c watch cells cell lists before now old new looks fit exists is same same_reasons agree b_in c_in woken calm = λ k below rests.
    let there : k < length now = omega (arith, below, sym (length-map now reasons) ∙ ap length same_reasons) in
    let d = any_of now k there in
    let told = woken k rests in
    let own : reasons (get_or now k d) ≡ get_or lists k [] = sym (get_or-map reasons now k d [] there) ∙ ap (λ ls. get_or ls k []) same_reasons in
    stays_quiet problem (get_or lists k []) (watches (get_or now k d)) v b c
    (subst (λ (rs : List Reason). LooksAt problem rs (watches (get_or now k d))) own (looks (get_or now k d) (fit k d there)))
    b_in c_in (agree_on (watches (get_or now k d)) cell b c agree (does_not_watch watches watch cells cell before now k d exists is same there told.1)) (calm k below told.0)
