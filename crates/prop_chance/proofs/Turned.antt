-- What is kept of turns, and how it is forgotten.
use Rattle.std.proofs.Common.{◌≡◌, inl, inr, ℕ, ◌+◌, ◌<◌, ◌≤◌, ℤ, Bool, true, false, List, [], ◌∷◌, Option, Some, None, IfSome, length, length-set, get_or, set, take, arith, refl, sym, ap, subst, ◌∙◌}
use Rattle.std.specs.List.{Contains}
use Rattle.std.specs.List.Sorted.{IsStrictlySortedBy}
use Rattle.std.specs.Ordering.{nat_cmp}
use Rattle.std.proofs.lemmas.Bool.{cases_eq, cases_lt}
use Rattle.std.proofs.lemmas.Grind.{get_or-set_at}
use Rattle.std.proofs.lemmas.List.{get_or_default, get_or_past, get_or-set_other, take_all, take_more}
use Rattle.std.proofs.lemmas.List.Elements.{Contains-append_cases}
use Rattle.std.proofs.lemmas.Map.Keys.{below_from_sorted}
use Rattle.sopl_base.proofs.Lists.{contains_one}
use Rattle.box_problem.specs.Box.{Box}
use Rattle.term_language.specs.Mentions.{cond_mentions}
use Rattle.term_language.specs.Terms.{Cond}
use Rattle.term_language.proofs.FormValues.{by_bool}
use Rattle.term_problem.specs.Problems.{ProblemTerms}
use Rattle.term_program.specs.Mentions.{IsListOf}
use Rattle.prop_core.specs.Watches.{AgreeElsewhere, waits_at}
use Rattle.prop_shave.proofs.ChanceMentioned.{touched_is}
use Rattle.prop_shave.proofs.Mentioned.{found, untouched}
use Rattle.prop_shave.specs.ChanceSums.{condition_in, is_touched}
use Rattle.prop_shave.specs.Sums.{has_cell}
use Rattle.prop_shave.specs.Turns.{AreEndTurns}
use Rattle.prop_shave.specs.declared.end_turns.EndTurns.{EndTurns}
use Rattle.prop_chance.specs.Deciding.{AreDecided, ends_elsewhere, if_some_map}
use Rattle.prop_chance.specs.KeptTurns.{AreFewer, AreForgottenIn, AreForgottenTo, KeepsTurns, KnowsTurns, turns_of}
use Rattle.prop_chance.specs.UpToDate.{AreListed, IsUpToDate}
use Rattle.prop_chance.specs.declared.kept_turns.KeptTurns.{KeptTurns}
use Rattle.prop_chance.specs.declared.outdated.Outdated.{Outdated}
use Rattle.prop_chance.proofs.Outdating.{fresh_alone}

-- some are forgotten
is_itself : (o : Option EndTurns) → IfSome o (λ turns. o ≡ Some turns)
is_itself None = tt
is_itself (Some turns) = refl

pub fewer_same : (k : KeptTurns) → AreFewer k k
fewer_same k = record { each = λ place. is_itself (turns_of k place) }

pub none_fewer : (old new : KeptTurns) → ((place : ℕ) → turns_of new place ≡ None) → AreFewer old new
none_fewer old new none = record { each = λ place. subst (λ (o : Option EndTurns). IfSome o (λ turns. turns_of old place ≡ Some turns)) (sym (none place)) tt }

pub fewer_on : (a b c : KeptTurns) → AreFewer a b → AreFewer b c → AreFewer a c
fewer_on a b c first then = record { each = λ place. by_turns place (turns_of c place) (then.each place) }
  where
    by_turns : (place : ℕ) (o : Option EndTurns) → IfSome o (λ turns. turns_of b place ≡ Some turns) → IfSome o (λ turns. turns_of a place ≡ Some turns)
    by_turns place None is = tt
    by_turns place (Some turns) is = subst (λ (o : Option EndTurns). IfSome o (λ x. turns_of a place ≡ Some x)) is (first.each place)

pub fewer_none : (old new : KeptTurns) (place : ℕ) → AreFewer old new → turns_of old place ≡ None → turns_of new place ≡ None
fewer_none old new place fewer none = by_turns (turns_of new place) (fewer.each place)
  where
    by_turns : (o : Option EndTurns) → IfSome o (λ turns. turns_of old place ≡ Some turns) → o ≡ None
    by_turns None is = refl
    by_turns (Some turns) is = absurd (cc)

-- those of one cell
set_here : (xs : List (Option EndTurns)) (place k : ℕ) → k ≡ place → get_or (set xs place None) k None ≡ None
set_here xs place k same =
    elim (cases_lt place (length xs)) [
      | inl there ↦ get_or-set_at xs place k None None same there
      | inr past ↦ get_or_past (set xs place None) k None (let long = length-set xs place None in omega (arith, past, same, long))
    ]

same_place : (cells : List ℕ) (place other : ℕ) → IsStrictlySortedBy nat_cmp cells → place < length cells → other < length cells → get_or cells other 0 ≡ get_or cells place 0 → other ≡ place
same_place cells place other ascend below exists is =
    elim (cases_lt other place) [
      | inl less ↦ let up = below_from_sorted cells other place 0 ascend less below in absurd (omega (arith, up, is))
      | inr more ↦ elim (cases_lt place other) [
        | inl less ↦ let up = below_from_sorted cells place other 0 ascend less exists in absurd (omega (arith, up, is))
        | inr same ↦ omega (arith, more, same)
      ]
    ]

pub cell_forgotten : (cells : List ℕ) (old new : List (Option EndTurns)) (place cell d : ℕ) → IsStrictlySortedBy nat_cmp cells → place < length cells → get_or cells place d ≡ cell → new
    ≡ set old place None → (other : ℕ) → other < length cells → get_or cells other 0 ≡ cell → get_or new other None ≡ None
cell_forgotten cells old new place cell d ascend below at put other exists is =
    ap (λ (xs : List (Option EndTurns)). get_or xs other None) put
    ∙ set_here old place other (same_place cells place other ascend below exists (is ∙ sym at ∙ get_or_default cells place d 0 below))

pub cell_fewer : (old new : KeptTurns) (place : ℕ) → new.known.items ≡ set old.known.items place None → AreFewer old new
cell_fewer old new place put = record {
  each = λ other.
      let now : turns_of new other ≡ get_or (set old.known.items place None) other None = ap (λ (xs : List (Option EndTurns)). get_or xs other None) put in
      elim (cases_eq other place) [
        | inl same ↦ subst (λ (o : Option EndTurns). IfSome o (λ turns. turns_of old other ≡ Some turns)) (sym (now ∙ set_here old.known.items place other same)) tt
        | inr apart ↦ subst (λ (o : Option EndTurns). IfSome o (λ turns. turns_of old other ≡ Some turns)) (sym (now ∙ get_or-set_other old.known.items place other None None apart))
            (is_itself (turns_of old other))
      ];
}

-- those of one cell more of a list, and of all
pub cells_more : (cells list : List ℕ) (i d : ℕ) (old new : KeptTurns) → i < length list → AreFewer old new
    → ((place : ℕ) → place < length cells → Contains (take i list) (get_or cells place 0) → turns_of old place ≡ None)
    → ((place : ℕ) → place < length cells → get_or cells place 0 ≡ get_or list i d → turns_of new place ≡ None)
    → (place : ℕ) → place < length cells → Contains (take (i + 1) list) (get_or cells place 0) → turns_of new place ≡ None
cells_more cells list i d old new below fewer before here = λ place exists there.
    elim (Contains-append_cases (take i list) (get_or list i d ∷ []) (get_or cells place 0) (subst (λ (xs : List ℕ). Contains xs (get_or cells place 0)) (take_more list i d below) there)) [
      | inl earlier ↦ fewer_none old new place fewer (before place exists earlier)
      | inr last ↦ here place exists (sym (contains_one (get_or list i d) (get_or cells place 0) last))
    ]

pub cells_all : (cells list : List ℕ) (i : ℕ) (k : KeptTurns) → length list ≤ i
    → ((place : ℕ) → place < length cells → Contains (take i list) (get_or cells place 0) → turns_of k place ≡ None)
    → (place : ℕ) → place < length cells → Contains list (get_or cells place 0) → turns_of k place ≡ None
cells_all cells list i k past before = λ place exists there.
    before place exists (subst (λ (xs : List ℕ). Contains xs (get_or cells place 0)) (sym (take_all i list past)) there)

-- a thing that does not wait forgets nothing
pub not_waiting : {A : Type 0} (waits : List Bool) (n : ℕ) → waits_at waits n ≡ false → waits_at waits n ≡ true → A
not_waiting waits n calm waiting = absurd (cc)

-- those of the cells that one thing more of a list mentions, and all of the list do; then all do that wait, by the list of these
pub forgotten_on : (mentions : ℕ → ℕ → Bool) (cells : List ℕ) (waits : List Bool) (count : ℕ) (things : List ℕ) (i d : ℕ) (old new : KeptTurns) → i < length things → AreFewer old new
    → AreForgottenIn mentions cells waits count (take i things) old
    → (get_or things i d < count → waits_at waits (get_or things i d) ≡ true → (place : ℕ) → place < length cells → mentions (get_or cells place 0) (get_or things i d) ≡ true
    → turns_of new place ≡ None)
    → AreForgottenIn mentions cells waits count (take (i + 1) things) new
forgotten_on mentions cells waits count things i d old new exists fewer before here = λ number place has below there waiting touched.
    elim (Contains-append_cases (take i things) (get_or things i d ∷ []) number (subst (λ (xs : List ℕ). Contains xs number) (take_more things i d exists) has)) [
      | inl earlier ↦ fewer_none old new place fewer (before number place earlier below there waiting touched)
      | inr last ↦
          let is = contains_one (get_or things i d) number last in
          here (subst (λ (n : ℕ). n < count) (sym is) below) (ap (waits_at waits) is ∙ waiting) place there (ap (mentions (get_or cells place 0)) is ∙ touched)
    ]

pub forgotten_all : (mentions : ℕ → ℕ → Bool) (cells : List ℕ) (waits : List Bool) (count : ℕ) (things : List ℕ) (i : ℕ) (k : KeptTurns) → length things ≤ i
    → AreForgottenIn mentions cells waits count (take i things) k → AreForgottenIn mentions cells waits count things k
forgotten_all mentions cells waits count things i k past before = λ number place has.
    before number place (subst (λ (xs : List ℕ). Contains xs number) (sym (take_all i things past)) has)

pub forgotten_listed : (mentions : ℕ → ℕ → Bool) (cells : List ℕ) (o : Outdated) (count : ℕ) (k : KeptTurns) → AreListed o → length o.waits.items ≡ count → o.unlisted ≡ 0
    → AreForgottenIn mentions cells o.waits.items count o.listed.items k → AreForgottenTo mentions cells o.waits.items count k
forgotten_listed mentions cells o count k listed long first forgotten = λ number place below there waiting touched.
    by_bool (λ t. has_cell number o.listed.items ≡ t → turns_of k place ≡ None) (has_cell number o.listed.items)
    (λ met is. forgotten number place (found number o.listed.items is) below there waiting touched)
    (λ unmet is. let calm = listed.each number (omega (arith, below, long)) (omega (arith, first)) (untouched number o.listed.items is) in absurd (cc)) refl

-- a scenario's condition mentions the cells that are listed for it
pub touched_listed : (root : Box) (terms : ProblemTerms) (instance scenario cell : ℕ) (cond : Cond) (list : List ℕ) → condition_in terms instance scenario ≡ Some cond
    → IsListOf (cond_mentions root cond) list → is_touched root terms instance cell scenario ≡ true → Contains list cell
touched_listed root terms instance scenario cell cond list at listed touched =
    found cell list (touched_is root terms instance scenario cell cond list (has_cell cell list) at listed refl ∙ touched)

-- what is left is right for the box
pub turns_known : (number : Box → ℤ) (mentions : ℕ → ℕ → Bool) (count : ℕ) (b : Box) (before after : Outdated) (cells : List ℕ) (old new : KeptTurns)
    → ((thing : ℕ) → IsUpToDate mentions after thing → IsUpToDate mentions before thing) → after.told.items ≡ [] → AreForgottenTo mentions cells after.waits.items count new → AreFewer old new
    → KeepsTurns number mentions count b before cells old → KnowsTurns number b cells new
turns_known number mentions count b before after cells old new wait clean forgotten fewer keeps = record {
  each = λ place below. by_turns place below (turns_of new place) refl (fewer.each place);
}
  where
    by_turns : (place : ℕ) → place < length cells → (o : Option EndTurns) → turns_of new place ≡ o → IfSome o (λ turns. turns_of old place ≡ Some turns)
        → IfSome o (AreEndTurns number b (get_or cells place 0))
    by_turns place below None is was = tt
    by_turns place below (Some turns) is was =
        subst (λ (o : Option EndTurns). IfSome o (AreEndTurns number b (get_or cells place 0))) was
        (keeps.each place below
        (λ thing there touched.
        wait thing
        (by_bool (λ t. IsUpToDate mentions after thing) (waits_at after.waits.items thing)
        (λ waiting. let none = forgotten thing place there below waiting touched in absurd (cc))
        (λ calm. fresh_alone mentions after thing clean calm))))

pub turns_kept : (number : Box → ℤ) (mentions : ℕ → ℕ → Bool) (count : ℕ) (b : Box) (o : Outdated) (cells : List ℕ) (k : KeptTurns) → KnowsTurns number b cells k
    → KeepsTurns number mentions count b o cells k
turns_kept number mentions count b o cells k knows = record { each = λ place below fresh. knows.each place below }

pub none_kept : (number : Box → ℤ) (mentions : ℕ → ℕ → Bool) (count : ℕ) (b : Box) (o : Outdated) (cells : List ℕ) (k : KeptTurns) → ((place : ℕ) → turns_of k place ≡ None)
    → KeepsTurns number mentions count b o cells k
none_kept number mentions count b o cells k none = record {
  each = λ place below fresh. subst (λ (turns : Option EndTurns). IfSome turns (AreEndTurns number b (get_or cells place 0))) (sym (none place)) tt;
}

-- those that are known at a place, and those that are put there
pub known_at : (number : Box → ℤ) (b : Box) (cells : List ℕ) (k : KeptTurns) (at : ℕ) (kept : Option EndTurns) → at < length cells → length k.known.items ≡ length cells → kept
    ≡ get_or k.known.items at kept → KnowsTurns number b cells k → IfSome kept (AreEndTurns number b (get_or cells at 0))
known_at number b cells k at kept below room is knows =
    subst (λ (o : Option EndTurns). IfSome o (AreEndTurns number b (get_or cells at 0))) (sym (is ∙ get_or_default k.known.items at kept None (omega (arith, below, room)))) (knows.each at below)

pub known_set : (number : Box → ℤ) (b : Box) (cells : List ℕ) (old new : KeptTurns) (at : ℕ) (seen : Option EndTurns) → at < length cells → length old.known.items ≡ length cells → new.known.items
    ≡ set old.known.items at seen → IfSome seen (AreEndTurns number b (get_or cells at 0)) → KnowsTurns number b cells old → KnowsTurns number b cells new
known_set number b cells old new at seen below room put right knows = record {
  each = λ place exists.
      let now : turns_of new place ≡ get_or (set old.known.items at seen) place None = ap (λ (xs : List (Option EndTurns)). get_or xs place None) put in
      elim (cases_eq place at) [
        | inl same ↦ subst (λ (o : Option EndTurns). IfSome o (AreEndTurns number b (get_or cells place 0)))
            (sym (now ∙ get_or-set_at old.known.items at place seen None same (omega (arith, below, room))))
            (subst (λ (p : ℕ). IfSome seen (AreEndTurns number b (get_or cells p 0))) (sym same) right)
        | inr other ↦ subst (λ (o : Option EndTurns). IfSome o (AreEndTurns number b (get_or cells place 0)))
            (sym (now ∙ get_or-set_other old.known.items at place seen None other)) (knows.each place exists)
      ];
}

-- one cell more was told
pub turns_told : (number : Box → ℤ) (mentions : ℕ → ℕ → Bool) (within : ℕ → List ℕ) (count cell : ℕ) (b c : Box) (before after : Outdated) (cells : List ℕ) (k : KeptTurns)
    → AreDecided number mentions within count → ((thing : ℕ) → mentions cell thing ≡ false → ¬ Contains (within thing) cell)
    → ((thing : ℕ) → IsUpToDate mentions after thing → IsUpToDate mentions before thing × (mentions cell thing ≡ false)) → AgreeElsewhere cell b c
    → KeepsTurns number mentions count b before cells k → KeepsTurns number mentions count c after cells k
turns_told number mentions within count cell b c before after cells k decided apart told agree keeps = record {
  each = λ place below fresh.
      if_some_map (turns_of k place) (AreEndTurns number b (get_or cells place 0)) (AreEndTurns number c (get_or cells place 0))
      (λ turns.
      decided b c (get_or cells place 0) turns agree.as_long
      (λ thing there touched n mentioned.
      ends_elsewhere cell b c agree n (λ same. apart thing (told thing (fresh thing there touched)).1 (subst (Contains (within thing)) same mentioned))))
      (keeps.each place below (λ thing there touched. (told thing (fresh thing there touched)).0));
}
