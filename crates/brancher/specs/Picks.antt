-- Where the box of a node is cut, by a brancher or without one.
use Rattle.std.specs.Prelude.{◌≡◌, ℕ, ◌<◌, ◌≤◌, ℤ, ◌≤ℤ◌, ◌<ℤ◌, true, List, length, find, slice_get, option_map, Option, None, Some, IfSome}
use Rattle.std.specs.Borrow.{Bor}
use Rattle.std.specs.Str.{bytes_eq}
use Rattle.brancher.specs.declared.choice.Choice.{Choice}
use Rattle.brancher.specs.Rules.{Rule}
use Rattle.brancher.specs.Choices.{Chooses, ChoosesBy, IsFirst, IsHalf, cell_end}

-- a choice cuts a cell into two halves that are not empty
pub record IsProperChoice (lows highs : List ℤ) (choice : Choice) : Type 0 where
  pub exists : choice.cell < length lows
  pub from_low : cell_end lows choice.cell ≤ℤ choice.cut
  pub below_high : choice.cut <ℤ cell_end highs choice.cell

-- the first cell that has more than one value, cut in the middle, the low half first
pub record IsFirstHalved (lows highs : List ℤ) (choice : Choice) : Type 0 where
  pub cell : IsFirst lows highs (length lows) choice.cell
  pub cut : IsHalf lows highs choice
  pub low_first : choice.low_first ≡ true

-- at this depth, where a brancher of this rule is asked, or none is
pub record IsPicked (asked : Option Rule) (depth : ℕ) (lows highs : List ℤ) (answer : Option Choice) : Type 0 where
  pub proper : Chooses (IsProperChoice lows highs) lows highs answer
  pub without : asked ≡ None → Chooses (IsFirstHalved lows highs) lows highs answer
  pub deep : 512 ≤ depth → Chooses (IsFirstHalved lows highs) lows highs answer
  pub by_rule : depth < 512 → IfSome asked (λ rule. ChoosesBy rule lows highs answer)

abbrev pub text_now : Bor (List ℕ) → List ℕ
text_now text = text.now

-- the rule of the brancher that a search asks, of some with these names and rules: the first of a name, or the first where none is given
abbrev pub chosen_rule : List (List ℕ × Rule) → Option (List ℕ) → Option Rule
chosen_rule kinds None = option_map (λ (k : List ℕ × Rule). k.1) (slice_get kinds 0)
chosen_rule kinds (Some name) = option_map (λ (k : List ℕ × Rule). k.1) (find (λ (k : List ℕ × Rule). bytes_eq k.0 name) kinds)
