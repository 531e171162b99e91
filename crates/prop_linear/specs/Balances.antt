-- A linear comparison over a box.
use Rattle.std.specs.Prelude.{◌≡◌, ℕ, ◌+◌, ◌<◌, ◌≤◌, ◌^◌, min, ℤ, ◌+ℤ◌, ◌-ℤ◌, unsigned_abs, Bool, List, [], ◌∷◌, length, slice_index_or}
use Rattle.sopl_base.specs.declared.comparison.CmpOp.{CmpOp}
use Rattle.sopl_base.specs.declared.comparison.CmpOp.TheVariants.{Eq, Ne, Lt, Le, Gt, Ge}
use Rattle.box_problem.specs.Box.{Box, IsBox, high, low}
use Rattle.term_language.specs.Ends as rule
use Rattle.term_language.specs.Forms.{cells_ends}
use Rattle.term_language.specs.Marks.{all_compare, none_compares}
use Rattle.term_language.specs.Sizes.{cells_weight}
use Rattle.term_program.specs.Programs.{with_interval}
use Rattle.term_math.specs.declared.ends.Ends.{Ends}
use Rattle.term_math.specs.declared.forms.Coefficient.{Coefficient}
use Rattle.term_math.specs.Shown.{box_in, cells_of, ends_of}
use Rattle.prop_linear.specs.declared.balances.Balance.{Balance}
use Rattle.prop_linear.specs.declared.balances.Difference.{Difference}
use Rattle.prop_linear.specs.declared.turns.Turn.{Turn}
use Rattle.prop_linear.specs.Turns.{HasRoom}

-- the box itself
abbrev pub box_of : Difference → Box
box_of d = box_in d.view

-- the interval over a box of what is compared with 0
abbrev pub sum_over : Difference → Box → rule.Ends
sum_over d b = rule.plus (rule.exactly d.constant) (cells_ends b (cells_of d.parts.now))

-- whether the comparison is false all over a box
abbrev pub closes : Difference → Box → Bool
closes d b = none_compares d.op (sum_over d b)

-- whether it is true all over a box
abbrev pub meets : Difference → Box → Bool
meets d b = all_compare d.op (sum_over d b)

-- the interval of one part of a sum, and how wide an interval is
abbrev pub multiple_over : Box → Coefficient → rule.Ends
multiple_over b c = rule.scaled c.k (rule.cell_ends b c.cell)

abbrev pub ends_width : rule.Ends → ℕ
ends_width a = unsigned_abs (a.high -ℤ a.low)

-- this is the interval of the part at a place
abbrev pub IsPartAt : Difference → ℕ → rule.Ends → Type 0
IsPartAt d place a = (c : Coefficient) → a ≡ multiple_over (box_of d) (slice_index_or d.parts.now place c)

-- the part at a place is that of a cell
pub record IsPlaceOf (d : Difference) (place cell : ℕ) : Type 0 where
  pub exists : place < length d.parts.now
  pub own : (c : Coefficient) → (slice_index_or d.parts.now place c).cell ≡ cell

-- how wide a part of a sum has to be for the comparison to be false with some value of the part, where it is not false with all of them
abbrev pub least_width : CmpOp → rule.Ends → ℕ
least_width Eq a = min (unsigned_abs a.low) (unsigned_abs a.high) + 1
least_width Ne a = unsigned_abs (a.high -ℤ a.low)
least_width Lt a = unsigned_abs a.low
least_width Le a = unsigned_abs a.low + 1
least_width Gt a = unsigned_abs a.high
least_width Ge a = unsigned_abs a.high + 1

-- the cells ascend, so each stands there once
abbrev pub AreAbove : ℕ → List Coefficient → Type 0
AreAbove cell [] = Unit {0}
AreAbove cell (c ∷ later) = (cell < c.cell) × AreAbove cell later

abbrev pub Ascend : List Coefficient → Type 0
Ascend [] = Unit {0}
Ascend (c ∷ later) = AreAbove c.cell later × Ascend later

-- all that is computed over the box has room
pub record IsLight (d : Difference) : Type 0 where
  pub is_box : IsBox (box_of d)
  pub light : unsigned_abs d.constant + cells_weight (box_of d) (cells_of d.parts.now) ≤ 2 ^ 42
  pub ascend : Ascend d.parts.now

-- and it is summed up
pub record IsSummed (x : Balance) : Type 0 where
  pub light : IsLight x.difference
  pub whole : ends_of x.whole ≡ sum_over x.difference (box_of x.difference)

-- the whole sum without a part
pub record IsOthers (x : Balance) (part : Coefficient) (others : Ends) : Type 0 where
  pub low : others.low +ℤ (rule.scaled part.k (rule.cell_ends (box_of x.difference) part.cell)).low ≡ x.whole.low
  pub high : others.high +ℤ (rule.scaled part.k (rule.cell_ends (box_of x.difference) part.cell)).high ≡ x.whole.high

-- an end of a cell of the box, and what the comparison is with other intervals for this cell
pub record IsTurnIn (d : Difference) (t : Turn) : Type 0 where
  pub exists : t.end.cell < length (box_of d).lows
  pub low : t.end.lo ≡ low (box_of d) t.end.cell
  pub high : t.end.hi ≡ high (box_of d) t.end.cell
  pub room : HasRoom t
  pub tells : (lo hi : ℤ) → none_compares t.op (rule.plus (ends_of t.others) (rule.scaled t.k (rule.ends lo hi)))
      ≡ closes d (with_interval (box_of d) t.end.cell lo hi)
