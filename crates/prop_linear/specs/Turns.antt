-- One cell of a comparison's sum.
use Rattle.std.specs.Prelude.{◌≡◌, ◌≤◌, ◌^◌, ℤ, pos, ◌*ℤ◌, ◌-ℤ◌, ◌≤ℤ◌, unsigned_abs, Bool, true}
use Rattle.term_language.specs.Ends as rule
use Rattle.term_language.specs.Marks.{none_compares}
use Rattle.prop_shave.specs.declared.shave_steps.CellEnd.{CellEnd}
use Rattle.prop_shave.specs.declared.shave_steps.Shave.{Shave}
use Rattle.prop_shave.specs.Ends.{IsWide, highest, lowest}
use Rattle.term_math.specs.Shown.{ends_of}
use Rattle.prop_linear.specs.declared.turns.Turn.{Turn}

-- a turn at another end
abbrev pub with_end : Turn → CellEnd → Turn
with_end t end = record { op = t.op; k = t.k; others = t.others; end = end }

-- the interval of a multiple of the cell, where it has one of so many values at the end
abbrev pub part_of : Turn → ℤ → rule.Ends
part_of t count = rule.scaled t.k (rule.ends (lowest t.end count) (highest t.end count))

-- whether the comparison is false there
abbrev pub turn_closes : Turn → ℤ → Bool
turn_closes t count = none_compares t.op (rule.plus (ends_of t.others) (part_of t count))

-- there is more than one value, and all that is computed has room
pub record HasRoom (t : Turn) : Type 0 where
  pub wide : IsWide t.end
  pub each : (x : ℤ) → t.end.lo ≤ℤ x → x ≤ℤ t.end.hi → unsigned_abs (t.k *ℤ x) ≤ 2 ^ 42
  pub low : unsigned_abs t.others.low ≤ 2 ^ 43
  pub high : unsigned_abs t.others.high ≤ 2 ^ 43

-- so many values at the end may go
pub record IsRemoval (t : Turn) (removal : Shave) : Type 0 where
  pub some : pos 1 ≤ℤ removal.count
  pub fewer : removal.count ≤ℤ (t.end.hi -ℤ t.end.lo)
  pub closed : turn_closes t removal.count ≡ true
