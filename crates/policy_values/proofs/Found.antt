-- The number of a variable by its name and index.
use Rattle.std.proofs.Common.{arith, ◌≡◌, refl, sym, ap, subst, ◌∙◌, ℕ, suc, ◌+◌, ◌<◌, ◌≤◌, ◌^◌, ℤ, pos, ◌≤ℤ◌, Bool, true, false, List, [], ◌∷◌, length, map, slice_get, Option, Some, None, IfSome, option_map, unsigned_abs, if◌then◌else◌}
use Rattle.std.proofs.lemmas.Int.{ints}
use Rattle.std.proofs.lemmas.List.{length-map}
use Rattle.std.proofs.lemmas.Option.{none-some, same_Some}
use Rattle.sopl_ast.specs.Known.{Constant, constant_value, is_at}
use Rattle.sopl_ast.specs.Instances.{Decision, Stochastic}
use Rattle.sopl_ast.specs.Meanings.{decision_at}
use Rattle.policy_values.specs.Labels.{Label, number_at, numbered_from, decided_label, drawn_label}

-- by a table of their numbers
pub value_is : (name : List ℕ) (index : List ℤ) (n : ℕ) (labels : List Label) → constant_value name index (numbered_from n labels) ≡ option_map pos (number_at name index n labels)
value_is name index n [] = refl
value_is name index n (l ∷ labels) = by_test (is_at name index l.0 l.1) (value_is name index (n + 1) labels) where
  by_test : (b : Bool) → constant_value name index (numbered_from (n + 1) labels) ≡ option_map pos (number_at name index (n + 1) labels)
      → (if b then Some (pos n) else constant_value name index (numbered_from (n + 1) labels)) ≡ option_map pos (if b then Some n else number_at name index (n + 1) labels)
  by_test true later = refl
  by_test false later = later

-- it is one of theirs
pub number_exists : (name : List ℕ) (index : List ℤ) (n : ℕ) (labels : List Label) (j : ℕ) → number_at name index n labels ≡ Some j → j < n + length labels
number_exists name index n [] j found = absurd (none-some j found)
number_exists name index n (l ∷ labels) j found = by_test (is_at name index l.0 l.1) (number_exists name index (n + 1) labels j) found where
  by_test : (b : Bool) → (number_at name index (n + 1) labels ≡ Some j → j < (n + 1) + length labels) → (if b then Some n else number_at name index (n + 1) labels) ≡ Some j
      → j < n + suc (length labels)
  by_test true later here = omega (arith, same_Some n j here)
  by_test false later there = omega (arith, later there)

same_pos : (m n : ℕ) → pos m ≡ pos n → m ≡ n
same_pos m n is = ap unsigned_abs is

-- a number is told by the whole number that it is
pub same_number : (a b : Option ℕ) → option_map pos a ≡ option_map pos b → a ≡ b
same_number None None same = refl
same_number None (Some n) same = absurd (none-some (pos n) same)
same_number (Some m) None same = absurd (none-some (pos m) (sym same))
same_number (Some m) (Some n) same = ap Some (same_pos m n (same_Some (pos m) (pos n) same))

-- numbers of so few variables have 32 bits
pub number_fits : (name : List ℕ) (index : List ℤ) (labels : List Label) (found : Option ℤ) → length labels ≤ 2 ^ 32 → found ≡ constant_value name index (numbered_from 0 labels)
    → IfSome found (λ z. (pos 0 ≤ℤ z) × (z ≤ℤ pos 4294967295))
number_fits name index labels found few is =
    subst (λ o. IfSome o (λ z. (pos 0 ≤ℤ z) × (z ≤ℤ pos 4294967295))) (sym (is ∙ value_is name index 0 labels)) (by_number (number_at name index 0 labels) (number_exists name index 0 labels)) where
      by_number : (o : Option ℕ) → ((j : ℕ) → o ≡ Some j → j < 0 + length labels) → IfSome (option_map pos o) (λ z. (pos 0 ≤ℤ z) × (z ≤ℤ pos 4294967295))
      by_number None exists = tt
      by_number (Some j) exists = (omega (arith, ints), omega (arith, ints, exists j refl, few))

pub number_is : (name : List ℕ) (index : List ℤ) (labels : List Label) (found : Option ℤ) (result : Option ℕ) → found ≡ constant_value name index (numbered_from 0 labels)
    → option_map pos result ≡ found → result ≡ number_at name index 0 labels
number_is name index labels found result is same = same_number result (number_at name index 0 labels) (same ∙ is ∙ value_is name index 0 labels)

-- a number that is found is one of them
pub drawn_exists : (name : List ℕ) (index : List ℤ) (ss : List Stochastic) (found : Option ℕ) (j : ℕ) → found ≡ number_at name index 0 (map drawn_label ss) → found ≡ Some j → j < length ss
drawn_exists name index ss found j is some = omega (arith, number_exists name index 0 (map drawn_label ss) j (sym is ∙ some), length-map ss drawn_label)

pub decided_exists : (name : List ℕ) (index : List ℤ) (ds : List Decision) (found : Option ℕ) (j : ℕ) → found ≡ number_at name index 0 (map decided_label ds) → found ≡ Some j → j < length ds
decided_exists name index ds found j is some = omega (arith, number_exists name index 0 (map decided_label ds) j (sym is ∙ some), length-map ds decided_label)

-- The decision of a number.
pub record IsDecided (name : List ℕ) (index : List ℤ) (n : ℕ) (ds : List Decision) (j : ℕ) : Type 0 where
  pub decision : Decision
  pub before : ℕ
  pub number : j ≡ n + before
  pub stands : slice_get ds before ≡ Some decision
  pub found : decision_at name index n ds ≡ Some (j, decision.stage)

pub decision_found : (name : List ℕ) (index : List ℤ) (n : ℕ) (ds : List Decision) (j : ℕ) → number_at name index n (map decided_label ds) ≡ Some j → IsDecided name index n ds j
decision_found name index n [] j found = absurd (none-some j found)
decision_found name index n (d ∷ ds) j found = by_test (is_at name index d.name d.index) refl (decision_found name index (n + 1) ds j) found where
  by_test : (b : Bool) → is_at name index d.name d.index ≡ b → (number_at name index (n + 1) (map decided_label ds) ≡ Some j → IsDecided name index (n + 1) ds j)
      → (if b then Some n else number_at name index (n + 1) (map decided_label ds)) ≡ Some j → IsDecided name index n (d ∷ ds) j
  by_test true is later here =
      record {
        decision = d;
        before = 0;
        number = omega (arith, same_Some n j here);
        stands = refl;
        found = ap (λ b. if b then Some (n, d.stage) else decision_at name index (n + 1) ds) is ∙ ap (λ k. Some (k, d.stage)) (same_Some n j here);
      }
  by_test false is later there =
      let found : IsDecided name index (n + 1) ds j = later there in
      record {
        decision = found.decision;
        before = suc found.before;
        number = omega (arith, found.number);
        stands = found.stands;
        found = ap (λ b. if b then Some (n, d.stage) else decision_at name index (n + 1) ds) is ∙ found.found;
      }

-- no number, no decision
pub decision_none : (name : List ℕ) (index : List ℤ) (n : ℕ) (ds : List Decision) → number_at name index n (map decided_label ds) ≡ None → decision_at name index n ds ≡ None
decision_none name index n [] none = refl
decision_none name index n (d ∷ ds) none = by_test (is_at name index d.name d.index) (decision_none name index (n + 1) ds) none where
  by_test : (b : Bool) → (number_at name index (n + 1) (map decided_label ds) ≡ None → decision_at name index (n + 1) ds ≡ None)
      → (if b then Some n else number_at name index (n + 1) (map decided_label ds)) ≡ None → (if b then Some (n, d.stage) else decision_at name index (n + 1) ds) ≡ None
  by_test true later here = absurd (none-some n (sym here))
  by_test false later there = later there

-- in a table that has them under their names and indices
module _ (name : List ℕ) (index : List ℤ) (labels : List Label) (constants : List Constant) (found : Option ℤ) where
  pub named_fits : length labels ≤ 2 ^ 32 → constants ≡ numbered_from 0 labels → found ≡ constant_value name index constants → IfSome found (λ z. (pos 0 ≤ℤ z) × (z ≤ℤ pos 4294967295))
  named_fits few entered is = number_fits name index labels found few (is ∙ ap (constant_value name index) entered)

  pub named_number : (result : Option ℕ) → constants ≡ numbered_from 0 labels → found ≡ constant_value name index constants → option_map pos result ≡ found
      → result ≡ number_at name index 0 labels
  named_number result entered is same = number_is name index labels found result (is ∙ ap (constant_value name index) entered) same
