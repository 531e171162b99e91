-- Intervals that have an end in a tight window and do not lie in it.
use Rattle.std.specs.Prelude.{◌≡◌, ℕ, ◌<◌, ℤ, pos, Bool, true, not, ◌&&◌, ◌||◌, List, length, get_or, take}
use Rattle.term_language.specs.Ends.{Ends, exactly}
use Rattle.term_language.specs.Globals.{is_inside}
use Rattle.term_crowds.specs.Crowds.{at_low, at_high, IsTight, HoldWhole, AreWholeFrom, LowsWhole}
use Rattle.term_windows.specs.declared.overlaps.Overlap.{Overlap}
use Rattle.term_windows.specs.Windows.{last_in}

-- an interval has an end between two numbers, and does not lie there
abbrev pub overlaps : ℤ → ℤ → Ends → Bool
overlaps a b e = (is_inside a b (at_low e) || is_inside a b (at_high e)) && not (is_inside a b e)

-- the interval at a place
abbrev pub interval_at : List Ends → ℕ → Ends
interval_at es place = get_or es place (exactly (pos 0))

-- it is the first that does so
pub record IsFirstIn (es : List Ends) (a b : ℤ) (place : ℕ) : Type 0 where
  pub exists : place < length es
  pub overlaps : overlaps a b (interval_at es place) ≡ true
  pub before : HoldWhole a b (take place es)

-- of the windows that begin at a number, the widest tight one that some interval overlaps, and the first such interval
pub record IsWidest (es : List Ends) (a : ℤ) (found : Overlap) : Type 0 where
  pub low : found.window.low ≡ a
  pub wider : AreWholeFrom es found.window.low found.window.width
  pub tight : IsTight es found.window.low (last_in found.window)
  pub first : IsFirstIn es found.window.low (last_in found.window) found.place

-- and the first lower end at which such a window begins
pub record IsFirstOverlap (es : List Ends) (found : Overlap) : Type 0 where
  pub from : ℕ
  pub exists : from < length es
  pub before : LowsWhole es (take from es)
  pub widest : IsWidest es (interval_at es from).low found
