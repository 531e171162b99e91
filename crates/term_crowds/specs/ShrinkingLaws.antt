-- What makes `allDifferent` False as one of its terms shrinks.
use Rattle.std.specs.Prelude.{◌≡◌, ℤ, true, false}
use Rattle.box_problem.specs.Box.{Box, IsBox, Inside}
use Rattle.term_language.specs.Ends.{Ends}
use Rattle.term_language.specs.Globals.{is_inside}
use Rattle.term_language.specs.Laws.{AreProper}
use Rattle.term_language.specs.Rules.{Near, interval, intervals, truth}
use Rattle.term_language.specs.Terms.{Term, Terms, AllDifferent}
use Rattle.term_language.specs.declared.answers.Truth.TheVariants.{False}
use Rattle.term_crowds.specs.Crowds.{at_low, at_high, IsTight, IsClear, AreWhole}
use Rattle.term_crowds.specs.Shrinking.{term_among, ShrinksAlone}

-- a term that shrinks makes it False only through a tight window that has the smaller interval in it and had not the whole one
abbrev pub TightAloneCloses : Type 0
TightAloneCloses =
    (root b c : Box) (before : Terms) (t : Term) (after : Terms) (smaller : Ends) → IsBox root → Inside b root → AreProper (term_among before t after)
    → ShrinksAlone root b c before t after smaller
    → IsClear (intervals Near root b (term_among before t after)) (interval Near root b t) smaller
    → ¬ truth Near root b (AllDifferent (term_among before t after)) ≡ False
    → ¬ truth Near root c (AllDifferent (term_among before t after)) ≡ False

-- and through such a window it always does
abbrev pub TightAlwaysCloses : Type 0
TightAlwaysCloses =
    (root b c : Box) (before : Terms) (t : Term) (after : Terms) (smaller : Ends) (low high : ℤ) → IsBox root → Inside c root
    → AreProper (term_among before t after) → ShrinksAlone root b c before t after smaller
    → IsTight (intervals Near root b (term_among before t after)) low high
    → is_inside low high smaller ≡ true → is_inside low high (interval Near root b t) ≡ false
    → truth Near root c (AllDifferent (term_among before t after)) ≡ False

-- so where tight windows have the whole of each term that has an end in them, no term makes it False by shrinking to its lower end
abbrev pub LowEndStaysOpen : Type 0
LowEndStaysOpen =
    (root b c : Box) (before : Terms) (t : Term) (after : Terms) → IsBox root → Inside b root → AreProper (term_among before t after)
    → ShrinksAlone root b c before t after (at_low (interval Near root b t))
    → AreWhole (intervals Near root b (term_among before t after))
    → ¬ truth Near root b (AllDifferent (term_among before t after)) ≡ False
    → ¬ truth Near root c (AllDifferent (term_among before t after)) ≡ False

-- nor to its upper end
abbrev pub HighEndStaysOpen : Type 0
HighEndStaysOpen =
    (root b c : Box) (before : Terms) (t : Term) (after : Terms) → IsBox root → Inside b root → AreProper (term_among before t after)
    → ShrinksAlone root b c before t after (at_high (interval Near root b t))
    → AreWhole (intervals Near root b (term_among before t after))
    → ¬ truth Near root b (AllDifferent (term_among before t after)) ≡ False
    → ¬ truth Near root c (AllDifferent (term_among before t after)) ≡ False
