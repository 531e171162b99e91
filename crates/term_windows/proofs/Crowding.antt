-- Windows that get narrower in the search for a crowd.
use Rattle.std.proofs.Common.{◌≡◌, ℕ, ◌-◌, ◌<◌, ◌≤◌, ℤ, pos, ◌+ℤ◌, Bool, true, false, List, length, arith, ap, sym, subst, ◌∙◌}
use Rattle.std.specs.List.{list_any}
use Rattle.std.proofs.lemmas.Int.{ints}
use Rattle.term_language.specs.Ends.{Ends}
use Rattle.term_language.specs.Globals.{are_crowded}
use Rattle.term_crowds.specs.Crowds.{AllOrdered, NoneCrowded, inside_count}
use Rattle.term_crowds.proofs.Crowding.{none_at_first, none_narrower, none_crowded, some_crowded}
use Rattle.term_windows.specs.declared.windows.Window.{Window}
use Rattle.term_windows.specs.Windows.{last_in, inside_in}

pub last_of : (w : Window) → last_in w +ℤ pos 1 ≡ w.low +ℤ pos w.width
last_of w = omega (arith, ints)

-- from the window's width on none that begins at the same number is crowded
pub record IsSearched (es : List Ends) (a : ℤ) (w : Window) : Type 0 where
  pub low : w.low ≡ a
  pub none : NoneCrowded es a w.width

counted_at : (es : List Ends) (a : ℤ) (w : Window) (count : ℕ) → w.low ≡ a → count ≡ inside_in w es → count ≡ inside_count a (last_in w) es
counted_at es a w count low counted = counted ∙ ap (λ (z : ℤ). inside_count z (last_in w) es) low

pub first_window : (es : List Ends) (a : ℤ) (w : Window) → w.low ≡ a → length es ≤ w.width → IsSearched es a w
first_window es a w low wide = record { low = low; none = none_at_first es a w.width wide }

pub next_window : (es : List Ends) (a : ℤ) (w next : Window) (count : ℕ) → IsSearched es a w → count ≡ inside_in w es → count ≤ w.width → next.low ≡ w.low → next.width ≡ count - 1
    → IsSearched es a next
next_window es a w next count searched counted few low width = record {
  low = low ∙ searched.low;
  none =
      let lasts : last_in w +ℤ pos 1 ≡ a +ℤ pos w.width = omega (arith, ints, last_of w, searched.low) in
      subst (NoneCrowded es a) (sym width) (none_narrower es a (last_in w) w.width count lasts (counted_at es a w count searched.low counted) few searched.none);
}

pub last_window : (es : List Ends) (a : ℤ) (w : Window) → IsSearched es a w → w.width ≤ 0 → list_any (λ (y : Ends). are_crowded es a y.high) es ≡ false
last_window es a w searched none =
    let no_width : w.width ≡ 0 = omega (arith, none) in
    none_crowded es a (subst (NoneCrowded es a) no_width searched.none)

pub full_window : (es : List Ends) (a : ℤ) (w : Window) (count : ℕ) → AllOrdered es → IsSearched es a w → count ≡ inside_in w es → 0 < w.width → w.width < count
    → list_any (λ (y : Ends). are_crowded es a y.high) es ≡ true
full_window es a w count ordered searched counted some more =
    let lasts : last_in w +ℤ pos 1 ≡ a +ℤ pos w.width = omega (arith, ints, last_of w, searched.low) in
    some_crowded es a (last_in w) w.width count ordered some lasts (counted_at es a w count searched.low counted) more

-- one lower end after the other
abbrev pub crowd_of : List Ends → List Ends → Bool
crowd_of all es = list_any (λ (x : Ends). list_any (λ (y : Ends). are_crowded all x.low y.high) all) es
