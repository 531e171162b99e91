-- The places where elements of an array are evaluated, and the dimensions that are open there, the innermost listed first, each among the numbers that it has
-- not had yet. Only contracts of code that walks through the indices of arrays cite this, and none that speaks of texts alone.
use Rattle.std.specs.Prelude.{ℕ, suc, ◌+◌, ◌-◌, nat_eq, Bool, false, ◌||◌, ℤ, List, [], ◌∷◌, ◌++◌, length, take, drop, Option, Some, None}
use Rattle.std.specs.List.{sum_by}
use Rattle.sopl_ast.specs.Known.{Known}
use Rattle.sopl_ast.specs.Arrays.{Dimension, taking}
use Rattle.unfold_constants.specs.Choosing.{OpenChoice, Among, left}
use Rattle.unfold_constants.specs.Evaluation.{Step, ◌>>=◌, done}
use Rattle.unfold_constants.specs.Here.{without_last}

-- a place: what is known there, and the prefix of the index
pub record Place : Type 0 where
  pub known : Known
  pub index : List ℤ

-- a dimension takes a number, for which its name stands, if it has one
abbrev pub give_dimension : Option (List ℕ) → ℤ → Place → Place
give_dimension name n place = record { known = taking name n place.known; index = place.index ++ n ∷ [] }

-- what is known without the number that a name stands for, if there is one
abbrev pub losing : Option (List ℕ) → Known → Known
losing None known = known
losing (Some name) known = without_last known

-- a dimension gives its number up, which is the last one
abbrev pub leave_dimension : Option (List ℕ) → Place → Place
leave_dimension name place = record { known = losing name place.known; index = take (length place.index - 1) place.index }

-- a dimension that is open, and has had no number yet
abbrev pub untouched : Dimension → OpenChoice (Option (List ℕ))
untouched d = Among d.name d.numbers

-- what is found for each of some numbers, behind what was found
abbrev pub each_number : {A : Type 0} → (ℤ → A → Step A) → List ℤ → A → Step A
each_number next [] found = done found
each_number next (n ∷ ns) found = next n found >>= (λ more. each_number next ns more)

-- what is left to do for the dimensions that are open: what is done inside each, at its depth, for each number that it has not had yet
abbrev pub remaining : {S F A : Type 0} → (F → ℤ → S → S) → (F → S → S) → (ℕ → S → A → Step A) → S → List (OpenChoice F) → A → Step A
remaining give leave inside here [] found = done found
remaining give leave inside here (Among f ns ∷ outer) found =
    each_number (λ n more. inside (length (Among f ns ∷ outer)) (give f n here) more) ns found >>= (λ more. remaining give leave inside (left leave here outer) outer more)

-- what is left to do where the innermost dimension has just taken a number: what is done inside it, and the rest
abbrev pub entered : {S F A : Type 0} → (F → ℤ → S → S) → (F → S → S) → (ℕ → S → A → Step A) → S → List (OpenChoice F) → A → Step A
entered give leave inside here among found = inside (length among) here found >>= (λ more. remaining give leave inside (left leave here among) among more)

-- whether one of the dimensions has no numbers
abbrev pub any_empty : List Dimension → Bool
any_empty [] = false
any_empty (d ∷ ds) = nat_eq 0 (length d.numbers) || any_empty ds

-- how many numbers are taken in a walk through all dimensions
abbrev pub turns : List Dimension → ℕ
turns [] = 0
turns (d ∷ ds) = sum_by (λ n. suc (turns ds)) d.numbers

-- how many numbers are still taken where these dimensions are open
abbrev pub turns_left : {F : Type 0} → List Dimension → List (OpenChoice F) → ℕ
turns_left ds [] = 0
turns_left ds (Among f ns ∷ outer) = sum_by (λ n. suc (turns (drop (length (Among f ns ∷ outer)) ds))) ns + turns_left ds outer
