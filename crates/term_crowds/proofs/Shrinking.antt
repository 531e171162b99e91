-- `allDifferent` over a box in which one of its terms has shrunk.
use Rattle.std.proofs.Common.{◌≡◌, inr, ℤ, Bool, true, false, List, ◌∷◌, refl, ap, sym, subst, ◌∙◌}
use Rattle.box_problem.specs.Box.{Box, IsBox, Inside}
use Rattle.term_language.specs.Ends.{Ends}
use Rattle.term_language.specs.Globals.{is_inside, never_differ, always_differ}
use Rattle.term_language.specs.Laws.{AreProper}
use Rattle.term_language.specs.Marks.{both, all_marks, judged}
use Rattle.term_language.specs.Rules.{Near, interval, intervals, mark, marks, truth}
use Rattle.term_language.specs.Terms.{Term, Terms, no_term, term, AllDifferent}
use Rattle.term_language.specs.declared.answers.Defined.{Defined}
use Rattle.term_language.specs.declared.answers.Defined.TheVariants.{Never, Maybe, Always}
use Rattle.term_language.specs.declared.answers.Truth.TheVariants.{False}
use Rattle.term_language.proofs.Agreement.{intervals_agree, marks_agree}
use Rattle.term_crowds.specs.Crowds.{AllOrdered, among, at_low, at_high, IsTight, IsClear, AreWhole}
use Rattle.term_crowds.proofs.Truths.{judged_false, ordered_intervals}
use Rattle.term_crowds.proofs.Tight as crowd
use Rattle.term_crowds.proofs.Tight.{stays_open, low_stays, high_stays}
use Rattle.term_crowds.specs.Shrinking.{term_among, AgreeEach, ShrinksAlone}

same_intervals : (root b c : Box) (ts : Terms) → AgreeEach root b c ts → intervals Near root b ts ≡ intervals Near root c ts
same_intervals root b c no_term agree = refl
same_intervals root b c (term t later) agree =
    ap (λ (e : Ends). e ∷ intervals Near root b later) (intervals_agree Near root b c t agree.0)
    ∙ ap (λ (es : List Ends). interval Near root c t ∷ es) (same_intervals root b c later agree.1)

same_marks : (root b c : Box) (ts : Terms) → AgreeEach root b c ts → all_marks (marks Near root b ts) ≡ all_marks (marks Near root c ts)
same_marks root b c no_term agree = refl
same_marks root b c (term t later) agree =
    ap (λ (m : Defined). both m (all_marks (marks Near root b later))) (marks_agree Near root b c t agree.0)
    ∙ ap (both (mark Near root c t)) (same_marks root b c later agree.1)

-- the intervals and the marks with one term in the midst
intervals_among : (root b : Box) (before : Terms) (t : Term) (after : Terms) → intervals Near root b (term_among before t after)
    ≡ among (intervals Near root b before) (interval Near root b t) (intervals Near root b after)
intervals_among root b no_term t after = refl
intervals_among root b (term s before) t after = ap (λ (es : List Ends). interval Near root b s ∷ es) (intervals_among root b before t after)

among_same : (root b c : Box) (before : Terms) (t : Term) (after : Terms) (e : Ends) → AgreeEach root b c before → AgreeEach root b c after → interval Near root c t ≡ e
    → intervals Near root c (term_among before t after) ≡ among (intervals Near root b before) e (intervals Near root b after)
among_same root b c before t after e first last is =
    intervals_among root c before t after
    ∙ ap (λ (es : List Ends). among es (interval Near root c t) (intervals Near root c after)) (sym (same_intervals root b c before first))
    ∙ ap (λ (es : List Ends). among (intervals Near root b before) (interval Near root c t) es) (sym (same_intervals root b c after last))
    ∙ ap (λ (d : Ends). among (intervals Near root b before) d (intervals Near root b after)) is

marks_among : (root b c : Box) (before : Terms) (t : Term) (after : Terms) → AgreeEach root b c before → AgreeEach root b c after → mark Near root c t ≡ mark Near root b t
    → all_marks (marks Near root c (term_among before t after)) ≡ all_marks (marks Near root b (term_among before t after))
marks_among root b c no_term t after first last is =
    ap (λ (m : Defined). both m (all_marks (marks Near root c after))) is ∙ ap (both (mark Near root b t)) (sym (same_marks root b c after last))
marks_among root b c (term s before) t after first last is =
    ap (λ (m : Defined). both m (all_marks (marks Near root c (term_among before t after)))) (sym (marks_agree Near root b c s first.0))
    ∙ ap (both (mark Near root b s)) (marks_among root b c before t after first.1 last is)

-- what is not False may change
not_never : (never always : Bool) (m : Defined) → (judged m never always ≡ False → ⊥) → never ≡ false
not_never true always Never may = absurd (may refl)
not_never true always Maybe may = absurd (may refl)
not_never true always Always may = absurd (may refl)
not_never false always m may = refl

still_open : (never also : Bool) (m : Defined) → (judged m never also ≡ False → ⊥) → (always : Bool) → judged m false always ≡ False → ⊥
still_open never also Never may always is = may refl
still_open never also Maybe may always is = absurd (cc)
still_open never also Always may true is = absurd (cc)
still_open never also Always may false is = absurd (cc)

-- where the intervals have no crowd in the other box, the condition is no more False there than before
still_apart : (root b c : Box) (before : Terms) (t : Term) (after : Terms) (smaller : Ends) → ShrinksAlone root b c before t after smaller
    → never_differ (among (intervals Near root b before) smaller (intervals Near root b after)) ≡ false
    → ¬ truth Near root b (AllDifferent (term_among before t after)) ≡ False → ¬ truth Near root c (AllDifferent (term_among before t after)) ≡ False
still_apart root b c before t after smaller shrinks never may closed =
    let all = term_among before t after in
    let same_m = marks_among root b c before t after shrinks.others_before shrinks.others_after shrinks.same_mark in
    let no : never_differ (intervals Near root c all) ≡ false =
    ap never_differ (among_same root b c before t after smaller shrinks.others_before shrinks.others_after shrinks.shrunk) ∙ never in
    still_open (never_differ (intervals Near root b all)) (always_differ (intervals Near root b all)) (all_marks (marks Near root b all)) may (always_differ (intervals Near root c all))
    (ap (λ (p : Bool). judged (all_marks (marks Near root b all)) p (always_differ (intervals Near root c all))) (sym no)
    ∙ ap (λ (m : Defined). judged m (never_differ (intervals Near root c all)) (always_differ (intervals Near root c all))) (sym same_m) ∙ closed)

-- what is known of the intervals with one in the midst
record Known (root b : Box) (before : Terms) (t : Term) (after : Terms) : Type 0 where
  ordered : AllOrdered (among (intervals Near root b before) (interval Near root b t) (intervals Near root b after))
  never : never_differ (among (intervals Near root b before) (interval Near root b t) (intervals Near root b after)) ≡ false

known : (root b : Box) (before : Terms) (t : Term) (after : Terms) → IsBox root → Inside b root → AreProper (term_among before t after)
    → ¬ truth Near root b (AllDifferent (term_among before t after)) ≡ False → Known root b before t after
known root b before t after is_box inside proper may =
    let all = term_among before t after in
    let made = intervals_among root b before t after in
    record {
      ordered = subst AllOrdered made (ordered_intervals Near root b all is_box inside proper);
      never = sym (ap never_differ made) ∙ not_never (never_differ (intervals Near root b all)) (always_differ (intervals Near root b all)) (all_marks (marks Near root b all)) may;
    }

pub tight_alone : (root b c : Box) (before : Terms) (t : Term) (after : Terms) (smaller : Ends) → IsBox root → Inside b root → AreProper (term_among before t after)
    → ShrinksAlone root b c before t after smaller → IsClear (intervals Near root b (term_among before t after)) (interval Near root b t) smaller
    → ¬ truth Near root b (AllDifferent (term_among before t after)) ≡ False → ¬ truth Near root c (AllDifferent (term_among before t after)) ≡ False
tight_alone root b c before t after smaller is_box inside proper shrinks clear may =
    let is = known root b before t after is_box inside proper may in
    still_apart root b c before t after smaller shrinks
    (stays_open (intervals Near root b before) (interval Near root b t) smaller (intervals Near root b after) is.ordered is.never
    (subst (λ (es : List Ends). IsClear es (interval Near root b t) smaller) (intervals_among root b before t after) clear)) may

pub low_open : (root b c : Box) (before : Terms) (t : Term) (after : Terms) → IsBox root → Inside b root → AreProper (term_among before t after)
    → ShrinksAlone root b c before t after (at_low (interval Near root b t)) → AreWhole (intervals Near root b (term_among before t after))
    → ¬ truth Near root b (AllDifferent (term_among before t after)) ≡ False → ¬ truth Near root c (AllDifferent (term_among before t after)) ≡ False
low_open root b c before t after is_box inside proper shrinks whole may =
    let is = known root b before t after is_box inside proper may in
    still_apart root b c before t after (at_low (interval Near root b t)) shrinks
    (low_stays (intervals Near root b before) (interval Near root b t) (intervals Near root b after) is.ordered is.never (subst AreWhole (intervals_among root b before t after) whole)) may

pub high_open : (root b c : Box) (before : Terms) (t : Term) (after : Terms) → IsBox root → Inside b root → AreProper (term_among before t after)
    → ShrinksAlone root b c before t after (at_high (interval Near root b t)) → AreWhole (intervals Near root b (term_among before t after))
    → ¬ truth Near root b (AllDifferent (term_among before t after)) ≡ False → ¬ truth Near root c (AllDifferent (term_among before t after)) ≡ False
high_open root b c before t after is_box inside proper shrinks whole may =
    let is = known root b before t after is_box inside proper may in
    still_apart root b c before t after (at_high (interval Near root b t)) shrinks
    (high_stays (intervals Near root b before) (interval Near root b t) (intervals Near root b after) is.ordered is.never (subst AreWhole (intervals_among root b before t after) whole)) may

pub tight_closes : (root b c : Box) (before : Terms) (t : Term) (after : Terms) (smaller : Ends) (low high : ℤ) → IsBox root → Inside c root → AreProper (term_among before t after)
    → ShrinksAlone root b c before t after smaller → IsTight (intervals Near root b (term_among before t after)) low high
    → is_inside low high smaller ≡ true → is_inside low high (interval Near root b t) ≡ false → truth Near root c (AllDifferent (term_among before t after)) ≡ False
tight_closes root b c before t after smaller low high is_box inside proper shrinks tight there out =
    let all = term_among before t after in
    let es = intervals Near root b before in
    let fs = intervals Near root b after in
    let same = among_same root b c before t after smaller shrinks.others_before shrinks.others_after shrinks.shrunk in
    let full : never_differ (among es smaller fs) ≡ true =
    crowd.tight_closes es (interval Near root b t) smaller fs low high (subst AllOrdered same (ordered_intervals Near root c all is_box inside proper))
    (subst (λ (ds : List Ends). IsTight ds low high) (intervals_among root b before t after) tight) there out in
    judged_false (all_marks (marks Near root c all)) (never_differ (intervals Near root c all)) (always_differ (intervals Near root c all)) (inr (ap never_differ same ∙ full))
