-- The JSON of an answer has no float.
use Rattle.std.proofs.Common.{◌≡◌, ◌∙◌, ◌||◌, ℕ, ℤ, false, List, [], ◌∷◌, map, refl, ap}
use Rattle.serde_json.specs.Data.{Data}
use Rattle.serde_json.specs.Written.{has_float}
use Rattle.policy_json.specs.Entries.{list_of}
use Rattle.answer_eval.specs.EvalData.{satisfied_object, sum_data}

sums_plain : (total : ℤ) (sums : List ℤ) → has_float (list_of (map (sum_data total) sums)) ≡ false
sums_plain total [] = refl
sums_plain total (s ∷ sums) = sums_plain total sums

-- where its sums are printed, an answer that a policy satisfies has none
pub satisfied_plain : (total : ℤ) (sums : List ℤ) (chances answer : Data) (value : List ℕ) → chances ≡ list_of (map (sum_data total) sums)
    → answer ≡ satisfied_object chances value → has_float answer ≡ false
satisfied_plain total sums chances answer value are is =
    ap has_float is ∙ ap (λ d. has_float (satisfied_object d value)) are ∙ whole (list_of (map (sum_data total) sums)) (sums_plain total sums)
  where
    whole : (d : Data) → has_float d ≡ false → has_float (satisfied_object d value) ≡ false
    whole d plain = ap (λ b. false || (b || (false || false))) plain
