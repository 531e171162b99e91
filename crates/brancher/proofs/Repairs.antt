-- The repair of a choice.
use Rattle.std.proofs.Common.{◌≡◌, ℕ, ◌<◌, ◌≤◌, ℤ, List, length, Option, None, Some, IfSome, arith, refl, subst, sym}
use Rattle.std.proofs.lemmas.Int.{ints}
use Rattle.brancher.specs.declared.choice.Choice.{Choice}
use Rattle.brancher.specs.Rules.{Rule, lower, widest, free}
use Rattle.brancher.specs.Choices.{AreFixed, Chooses, ChoosesBy, IsLower, IsMostHalved, cell_width}
use Rattle.brancher.specs.Picks.{IsPicked, IsProperChoice, IsFirstHalved}

proper_of_halved : (lows highs : List ℤ) (choice : Choice) → IsFirstHalved lows highs choice → IsProperChoice lows highs choice
proper_of_halved lows highs choice halved = record { exists = halved.cell.exists; from_low = halved.cut.from_low; below_high = halved.cut.below_high }

proper_of_lower : (lows highs : List ℤ) (choice : Choice) → IsLower lows highs choice → IsProperChoice lows highs choice
proper_of_lower lows highs choice least = record {
  exists = least.cell.exists;
  from_low = omega (arith, ints, least.cut);
  below_high = omega (arith, ints, least.cut, least.cell.unfixed);
}

proper_of_most : (weight : ℕ → ℤ) (lows highs : List ℤ) (choice : Choice) → IsMostHalved weight lows highs choice → IsProperChoice lows highs choice
proper_of_most weight lows highs choice most = record { exists = most.cell.exists; from_low = most.cut.from_low; below_high = most.cut.below_high }

pub halved_proper : (lows highs : List ℤ) (answer : Option Choice) → Chooses (IsFirstHalved lows highs) lows highs answer → Chooses (IsProperChoice lows highs) lows highs answer
halved_proper lows highs None fixed = fixed
halved_proper lows highs (Some choice) halved = proper_of_halved lows highs choice halved

-- where no cell has more than one value none is chosen
pub halved_none : (lows highs : List ℤ) (answer : Option Choice) → AreFixed lows highs (length lows) → Chooses (IsFirstHalved lows highs) lows highs answer → answer ≡ None
halved_none lows highs None fixed none = refl
halved_none lows highs (Some choice) fixed halved = absurd (omega (arith, ints, halved.cell.unfixed, fixed choice.cell halved.cell.exists))

lower_proper : (lows highs : List ℤ) (answer : Option Choice) → ChoosesBy lower lows highs answer → Chooses (IsProperChoice lows highs) lows highs answer
lower_proper lows highs None fixed = fixed
lower_proper lows highs (Some choice) chosen = proper_of_lower lows highs choice chosen

widest_proper : (lows highs : List ℤ) (answer : Option Choice) → ChoosesBy widest lows highs answer → Chooses (IsProperChoice lows highs) lows highs answer
widest_proper lows highs None fixed = fixed
widest_proper lows highs (Some choice) chosen = proper_of_most (cell_width lows highs) lows highs choice chosen

-- a choice by a rule is not replaced
by_rule : (rule : Rule) (lows highs : List ℤ) (answer result : Option Choice) → ChoosesBy rule lows highs answer
    → (Chooses (IsProperChoice lows highs) lows highs answer → result ≡ answer) → ChoosesBy rule lows highs result
by_rule lower lows highs answer result chosen kept = subst (λ x. ChoosesBy lower lows highs x) (sym (kept (lower_proper lows highs answer chosen))) chosen
by_rule widest lows highs answer result chosen kept = subst (λ x. ChoosesBy widest lows highs x) (sym (kept (widest_proper lows highs answer chosen))) chosen
by_rule free lows highs answer result chosen kept = tt

-- where no cell has more than one value
none_by : (rule : Rule) (lows highs : List ℤ) → AreFixed lows highs (length lows) → ChoosesBy rule lows highs None
none_by lower lows highs fixed = fixed
none_by widest lows highs fixed = fixed
none_by free lows highs fixed = tt

none_asked : (asked : Option Rule) (lows highs : List ℤ) → AreFixed lows highs (length lows) → IfSome asked (λ rule. ChoosesBy rule lows highs None)
none_asked None lows highs fixed = tt
none_asked (Some rule) lows highs fixed = none_by rule lows highs fixed

pub picked_none : (asked : Option Rule) (depth : ℕ) (lows highs : List ℤ) → AreFixed lows highs (length lows) → IsPicked asked depth lows highs None
picked_none asked depth lows highs fixed = record {
  proper = fixed;
  without = λ none. fixed;
  deep = λ deep. fixed;
  by_rule = λ less. none_asked asked lows highs fixed;
}

pub picked_deep : (asked : Option Rule) (depth : ℕ) (lows highs : List ℤ) (answer : Option Choice) → 512 ≤ depth
    → Chooses (IsFirstHalved lows highs) lows highs answer → IsPicked asked depth lows highs answer
picked_deep asked depth lows highs answer deep halved = record {
  proper = halved_proper lows highs answer halved;
  without = λ none. halved;
  deep = λ deep. halved;
  by_rule = λ less. absurd (omega (arith, deep, less));
}

pub picked_without : (depth : ℕ) (lows highs : List ℤ) (answer : Option Choice)
    → Chooses (IsFirstHalved lows highs) lows highs answer → IsPicked None depth lows highs answer
picked_without depth lows highs answer halved = record {
  proper = halved_proper lows highs answer halved;
  without = λ none. halved;
  deep = λ deep. halved;
  by_rule = λ less. tt;
}

pub picked_by : (rule : Rule) (depth : ℕ) (lows highs : List ℤ) (answer result : Option Choice) → depth < 512 → ChoosesBy rule lows highs answer
    → Chooses (IsProperChoice lows highs) lows highs result
    → (Chooses (IsProperChoice lows highs) lows highs answer → result ≡ answer) → IsPicked (Some rule) depth lows highs result
picked_by rule depth lows highs answer result less chosen proper kept = record {
  proper = proper;
  without = λ none. absurd (cc);
  deep = λ deep. absurd (omega (arith, deep, less));
  by_rule = λ less. by_rule rule lows highs answer result chosen kept;
}
