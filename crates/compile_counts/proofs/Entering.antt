-- Binders whose places are entered one after the other.
use Rattle.std.proofs.Common.{◌≡◌, refl, sym, ap, ap₂, subst, ◌∙◌, ℕ, ◌<◌, arith, Bool, true, false, if◌then◌else◌, ℤ, List, [], ◌∷◌, ◌++◌, length, drop, map}
use Rattle.std.proofs.Common.{zero, suc, Option, Some, None, is_some, T}
use Rattle.std.proofs.lemmas.Grind.{flat_map-append}
use Rattle.std.proofs.lemmas.List.{append_assoc, append-nil}
use Rattle.std.proofs.lemmas.List.Folds.{flat_map-map}
use Rattle.std.specs.List.{flat_map, AllByRecursion, slice_get}
use Rattle.std.specs.Option.{unwrap_or}
use Rattle.sopl_base.proofs.Lists.{all_append}
use Rattle.sopl_ast.specs.Tree.{Binders, no_binder, binder}
use Rattle.sopl_ast.specs.Lists.{BinderTree, binders}
use Rattle.sopl_ast.specs.Known.{Known, with_bound}
use Rattle.sopl_ast.specs.Constants.{all_bindings, numbers_in}
use Rattle.sopl_ast.specs.UnfoldEvents.{range_events}
use Rattle.unfold_laws.specs.Passing.{NothingFails}
use Rattle.unfold_constants.specs.Choosing.{OpenChoice, Among, advanced, left, give_name, leave_name}
use Rattle.unfold_constants.proofs.Choosing.{name_left}
use Rattle.compile_counts.specs.Walked.{AreMet}
use Rattle.compile_counts.specs.Entering.{Place, inside, ended, waiting}
use Rattle.compile_counts.proofs.Binding.{places_step}

-- all places that are entered inside binders, with those that are entered on the way
abbrev pub places_entered : Known → Binders → List Known
places_entered here no_binder = here ∷ []
places_entered here (binder name at range more) = here ∷ flat_map (λ n. places_entered (with_bound name n here) more) (numbers_in here range)

-- how many places are still entered
abbrev pub work : List Place → ℕ
work places = length (flat_map (λ (p : Place). places_entered p.0 p.1) places)

-- what is known at the places that are still to be entered, where all binders have values
abbrev pub still_found : List Place → List Known
still_found places = flat_map (λ (p : Place). all_bindings p.0 p.1) places

-- the binders that have no value yet pass
abbrev pub IsMet : Option ℕ → Place → Type 0
IsMet whole p = AreMet p.0 whole p.1

-- what is left to be entered, where these places are found: binders that pass, whose places are the others
pub record IsLeft (whole : Option ℕ) (places : List Place) (found all : List Known) : Type 0 where
  pub met : AllByRecursion (IsMet whole) places
  pub rest : found ++ still_found places ≡ all

-- what holds at what some things stand for
all_mapped : {A B : Type 0} (P : B → Type 0) (f : A → B) (xs : List A) → AllByRecursion (λ x. P (f x)) xs → AllByRecursion P (map f xs)
all_mapped P f [] all = tt
all_mapped P f (x ∷ xs) all = (all.0, all_mapped P f xs all.1)

-- what is joined of places where a binder has taken its numbers, and of others
joined_inside : {A : Type 0} (f : Place → List A) (g : ℤ → Place) (ns : List ℤ) (places : List Place)
    → flat_map f (map g ns ++ places) ≡ flat_map (λ n. f (g n)) ns ++ flat_map f places
joined_inside f g ns places = flat_map-append f (map g ns) places ∙ ap (λ list. list ++ flat_map f places) (flat_map-map f g ns)

-- a place that is entered is one less
pub one_less : (here : Known) (bs : Binders) (places : List Place) → work (inside here bs ++ places) < work ((here, bs) ∷ places)
one_less here no_binder places = omega arith
one_less here (binder name at range more) places =
    let same : length (flat_map (λ (p : Place). places_entered p.0 p.1) (inside here (binder name at range more) ++ places))
    ≡ length (flat_map (λ n. places_entered (with_bound name n here) more) (numbers_in here range) ++ flat_map (λ (p : Place). places_entered p.0 p.1) places)
    = ap length (joined_inside (λ (p : Place). places_entered p.0 p.1) (λ n. (with_bound name n here, more)) (numbers_in here range) places) in
    omega (arith, same)

module _ (whole : Option ℕ) where
  -- the binders that follow pass
  met_inside : (here : Known) (bs : Binders) (places : List Place) → AreMet here whole bs → AllByRecursion (IsMet whole) places
      → AllByRecursion (IsMet whole) (inside here bs ++ places)
  met_inside here no_binder places met all = all
  met_inside here (binder name at range more) places met all =
      all_append (IsMet whole) (map (λ n. (with_bound name n here, more)) (numbers_in here range)) places
      (all_mapped (IsMet whole) (λ n. (with_bound name n here, more)) (numbers_in here range) met.1) all

  -- the places that are found where one is entered
  found_inside : (here : Known) (bs : Binders) (places : List Place) (found : List Known) → AreMet here whole bs
      → (found ++ ended here bs) ++ still_found (inside here bs ++ places) ≡ found ++ still_found ((here, bs) ∷ places)
  found_inside here no_binder places found met = append_assoc found (here ∷ []) (still_found places)
  found_inside here (binder name at range more) places found met =
      ap₂ (λ before rest. before ++ rest) (append-nil found)
      (joined_inside (λ (p : Place). all_bindings p.0 p.1) (λ n. (with_bound name n here, more)) (numbers_in here range) places
      ∙ ap (λ list. list ++ still_found places) (sym (places_step here whole name at range more met)))

  -- a place is entered
  pub place_entered : (here : Known) (bs : Binders) (before places behind : List Place) (found later all : List Known) → before ≡ (here, bs) ∷ places
      → later ≡ found ++ ended here bs → behind ≡ inside here bs ++ places → IsLeft whole before found all → IsLeft whole behind later all
  place_entered here bs before places behind found later all first added opened l =
      let met : AllByRecursion (IsMet whole) ((here, bs) ∷ places) = subst (AllByRecursion (IsMet whole)) first l.met in
      record {
        met = subst (AllByRecursion (IsMet whole)) (sym opened) (met_inside here bs places met.0 met.1);
        rest = ap₂ (λ list rest. list ++ still_found rest) added opened ∙ found_inside here bs places found met.0
            ∙ ap (λ list. found ++ still_found list) (sym first) ∙ l.rest;
      }

-- the next number of a name is taken: its place comes first
next_place : (over : List BinderTree) (here : Known) (names : List (OpenChoice (List ℕ))) (next : Known) (names_next : List (OpenChoice (List ℕ)))
    → ◌≡◌ {A = Option (Known × List (OpenChoice (List ℕ)))} (Some (next, names_next)) (advanced give_name leave_name here names)
    → waiting over here names ≡ (next, binders (drop (length names_next) over)) ∷ waiting over (left leave_name next names_next) names_next
next_place over here [] next names_next is = absurd (subst (λ o. T (is_some o)) is tt)
next_place over here (Among name [] ∷ outer) next names_next is = next_place over (left leave_name here outer) outer next names_next is
next_place over here (Among name (n ∷ ns) ∷ outer) next names_next is =
    ap (λ before. (with_bound name n here, binders (drop (length (Among name ns ∷ outer)) over)) ∷ waiting over before (Among name ns ∷ outer)) (sym (name_left name n here))
    ∙ ap (λ (o : Option (Known × List (OpenChoice (List ℕ)))).
    let taken = unwrap_or o (next, names_next) in
    (taken.0, binders (drop (length taken.1) over)) ∷ waiting over (left leave_name taken.0 taken.1) taken.1) (sym is)

-- no name has a number left
no_place : (over : List BinderTree) (here : Known) (names : List (OpenChoice (List ℕ)))
    → ◌≡◌ {A = Option (Known × List (OpenChoice (List ℕ)))} None (advanced give_name leave_name here names) → waiting over here names ≡ []
no_place over here [] is = refl
no_place over here (Among name [] ∷ outer) is = no_place over (left leave_name here outer) outer is
no_place over here (Among name (n ∷ ns) ∷ outer) is = absurd (subst (λ o. T (is_some o)) (sym is) tt)

-- what `advance` says
abbrev pub Advances : Bool → Known → List (OpenChoice (List ℕ)) → Known → List (OpenChoice (List ℕ)) → Type 0
Advances more here names next names_next = (if more then Some (next, names_next) else None) ≡ advanced give_name leave_name here names

module _ (over : List BinderTree) (whole : Option ℕ) (more : Bool) (here : Known) (names : List (OpenChoice (List ℕ))) (next : Known) (names_next : List (OpenChoice (List ℕ))) where
  taken : more ≡ true → Advances more here names next names_next
      → waiting over here names ≡ (next, binders (drop (length names_next) over)) ∷ waiting over (left leave_name next names_next) names_next
  taken test is = next_place over here names next names_next (subst (λ b. Advances b here names next names_next) test is)

  -- the binders that follow pass
  pub next_met : (found all : List Known) → more ≡ true → Advances more here names next names_next → IsLeft whole (waiting over here names) found all
      → AreMet next whole (binders (drop (length names_next) over))
  next_met found all test is l = (subst (AllByRecursion (IsMet whole)) (taken test is) l.met).0

  -- the next place is entered
  pub next_entered : (behind : List Place) (found later all : List Known) → more ≡ true → Advances more here names next names_next
      → later ≡ found ++ ended next (binders (drop (length names_next) over))
      → behind ≡ inside next (binders (drop (length names_next) over)) ++ waiting over (left leave_name next names_next) names_next
      → IsLeft whole (waiting over here names) found all → IsLeft whole behind later all
  next_entered behind found later all test is added opened l =
      place_entered whole next (binders (drop (length names_next) over)) (waiting over here names) (waiting over (left leave_name next names_next) names_next) behind found later all
      (taken test is) added opened l

  -- fewer places are left to be entered
  pub next_less : (behind : List Place) → more ≡ true → Advances more here names next names_next
      → behind ≡ inside next (binders (drop (length names_next) over)) ++ waiting over (left leave_name next names_next) names_next
      → work behind < work (waiting over here names)
  next_less behind test is opened =
      subst (λ list. work behind < work list) (sym (taken test is))
      (subst (λ list. work list < work ((next, binders (drop (length names_next) over)) ∷ waiting over (left leave_name next names_next) names_next)) (sym opened)
      (one_less next (binders (drop (length names_next) over)) (waiting over (left leave_name next names_next) names_next)))

  -- no place is left
  pub none_left : (found all : List Known) → more ≡ false → Advances more here names next names_next → IsLeft whole (waiting over here names) found all → found ≡ all
  none_left found all test is l =
      sym (append-nil found)
      ∙ ap (λ list. found ++ still_found list) (sym (no_place over here names (subst (λ b. Advances b here names next names_next) test is)))
      ∙ l.rest

module _ (over : List BinderTree) (whole : Option ℕ) (known here : Known) (names : List (OpenChoice (List ℕ))) (same : here ≡ known) (none : names ≡ []) where
  -- at first all binders pass
  pub first_met : AreMet known whole (binders over) → AreMet here whole (binders (drop (length names) over))
  first_met met = subst (λ o. AreMet here whole (binders (drop (length o) over))) (sym none) (subst (λ k. AreMet k whole (binders over)) (sym same) met)

  -- the first place is entered
  pub first_entered : (behind : List Place) (found later : List Known) → found ≡ [] → AreMet known whole (binders over)
      → later ≡ found ++ ended here (binders (drop (length names) over))
      → behind ≡ inside here (binders (drop (length names) over)) ++ waiting over (left leave_name here names) names
      → IsLeft whole behind later (all_bindings known (binders over))
  first_entered behind found later empty met added opened =
      place_entered whole known (binders over) ((known, binders over) ∷ []) [] behind [] later (all_bindings known (binders over)) refl
      (added ∙ (λ i. empty i ++ ended (same i) (binders (drop (length (none i)) over))))
      (opened ∙ (λ i. inside (same i) (binders (drop (length (none i)) over)) ++ waiting over (left leave_name (same i) (none i)) (none i)))
      (record { met = (met, tt); rest = append-nil (all_bindings known (binders over)) })

module _ (over : List BinderTree) (here : Known) (names : List (OpenChoice (List ℕ))) where
  -- a binder that has no value yet
  next_binder : (bs : List BinderTree) (depth : ℕ) (b : BinderTree) → slice_get bs depth ≡ Some b
      → binders (drop depth bs) ≡ binder b.name b.at b.range (binders (drop (suc depth) bs))
  next_binder [] depth b is = absurd (subst (λ o. T (is_some o)) (sym is) tt)
  next_binder (first ∷ later) zero b is =
      ap (λ (o : Option BinderTree). let x : BinderTree = unwrap_or o first in binder x.name x.at x.range (binders later)) is
  next_binder (first ∷ later) (suc depth) b is = next_binder later depth b is

  -- its range passes
  pub next_range : (whole : Option ℕ) (b : BinderTree) → slice_get over (length names) ≡ Some b → AreMet here whole (binders (drop (length names) over))
      → NothingFails (range_events here whole b.range)
  next_range whole b is met = (subst (AreMet here whole) (next_binder over (length names) b is) met).0

  -- its name is opened
  pub name_opened : (b : BinderTree) (next : Known) (ns : List ℤ) (names_next : List (OpenChoice (List ℕ))) → slice_get over (length names) ≡ Some b
      → next ≡ here → names_next ≡ Among b.name ns ∷ names → ns ≡ numbers_in here b.range
      → waiting over next names_next ≡ inside here (binders (drop (length names) over)) ++ waiting over (left leave_name here names) names
  name_opened b next ns names_next is same opened numbers =
      (λ i. waiting over (same i) (opened i))
      ∙ ap (λ list. map (λ n. (with_bound b.name n here, binders (drop (suc (length names)) over))) list ++ waiting over (left leave_name here names) names) numbers
      ∙ ap (λ bs. inside here bs ++ waiting over (left leave_name here names) names) (sym (next_binder over (length names) b is))

  -- nothing is found yet
  pub none_found : (b : BinderTree) (found : List Known) → slice_get over (length names) ≡ Some b → found ≡ found ++ ended here (binders (drop (length names) over))
  none_found b found is = sym (append-nil found) ∙ ap (λ bs. found ++ ended here bs) (sym (next_binder over (length names) b is))

  -- all binders have values
  no_binder_left : slice_get over (length names) ≡ None → binders (drop (length names) over) ≡ no_binder
  no_binder_left is = by over (length names) is
    where
      by : (bs : List BinderTree) (depth : ℕ) → slice_get bs depth ≡ None → binders (drop depth bs) ≡ no_binder
      by [] zero none = refl
      by [] (suc depth) none = refl
      by (first ∷ later) zero none = absurd (subst (λ o. T (is_some o)) none tt)
      by (first ∷ later) (suc depth) none = by later depth none

  pub place_left : (next : Known) (names_next : List (OpenChoice (List ℕ))) → slice_get over (length names) ≡ None → next ≡ left leave_name here names → names_next ≡ names
      → waiting over next names_next ≡ inside here (binders (drop (length names) over)) ++ waiting over (left leave_name here names) names
  place_left next names_next none leaves same =
      (λ i. waiting over (leaves i) (same i)) ∙ ap (λ bs. inside here bs ++ waiting over (left leave_name here names) names) (sym (no_binder_left none))

  pub place_found : (found later : List Known) (place : Known) → slice_get over (length names) ≡ None → place ≡ here → later ≡ found ++ place ∷ []
      → later ≡ found ++ ended here (binders (drop (length names) over))
  place_found found later place none same added =
      added ∙ ap (λ k. found ++ k ∷ []) same ∙ ap (λ bs. found ++ ended here bs) (sym (no_binder_left none))

pub ruleset entering = (next_met, next_entered, next_less, none_left, first_met, first_entered, next_range, name_opened, none_found, place_left, place_found)
