-- The numbers that are printed are read back, and the form shows the number of a cell where a policy shows its value.
use native.Mathlib.Omega.{arith}
use Rattle.std.proofs.Common.{◌≡◌, ◌∙◌, ◌+◌, ◌<◌, ◌^◌, ℕ, zero, suc, ℤ, pos, negsuc, List, [], ◌∷◌, map, length, get_or, true, Option, Some, None, if◌then◌else◌, unwrap_or, nat_eq, nat_lt, ◌-◌, ◌⊎◌, inl, inr, refl, sym, ap, subst}
use Rattle.std.proofs.lemmas.Int.{ints}
use Rattle.std.proofs.lemmas.List.{length-map}
use Rattle.std.specs.List.{AllByRecursion, range_with_len, zip}
use Rattle.std.specs.FinMap.{find, get}
use Rattle.sopl_base.proofs.Lists.{all_at, all_filter, each_of}
use Rattle.sopl_ast.specs.Cells.{Cell, cells, policy_at}
use Rattle.sopl_ast.specs.Instances.{Decision, Outcome, Problem, Stochastic, distribution}
use Rattle.sopl_ast.specs.Policies.{Key, Policy, key_cmp}
use Rattle.policy_tree.proofs.Bijection.{value_at}
use Rattle.policy_tree.proofs.CellsOf.{keys_of}
use Rattle.policy_tree.proofs.Found.{at_head, key_cases, past_head}
use Rattle.policy_tree.proofs.Members.{In}
use Rattle.policy_json.specs.Nodes.{decided_at, seen_after}
use Rattle.policy_json.specs.LastStage.{last_stage}
use Rattle.policy_json.proofs.Chosen.{AreChosen, outcome_chosen}
use Rattle.policy_read.specs.Policies.{numbers_below}
use Rattle.policy_read.specs.Printed.{AreReadable, IsReadable, PrintsInForm}
use Rattle.policy_read.proofs.Printing.{AreReadBack, IsReadBack, none_different}

read_back : (z : ℤ) → IsReadable z → IsReadBack z
read_back (pos n) small =
    let below : nat_lt n (2 ^ 63) ≡ true = search (arith, ints) in
    ap (λ b. if b then Some (pos n) else None) below
read_back (negsuc n) small = refl

all_read_back : (zs : List ℤ) → AllByRecursion IsReadable zs → AllByRecursion IsReadBack zs
all_read_back [] all = tt
all_read_back (z ∷ zs) all = (read_back z all.0, all_read_back zs all.1)

-- what the form and a policy show at a key
abbrev pub Shown : ℕ → List ℤ → Option ℤ → Option ℤ → Type 0
Shown n vs a b = ((a ≡ None) × (b ≡ None)) ⊎ ((i : ℕ) × (i < length vs) × (a ≡ Some (pos (n + i))) × (b ≡ Some (get_or vs i (pos 0))))

shown_at : (q : Key) (ks : List Key) (vs : List ℤ) (n : ℕ) → length vs ≡ length ks
    → Shown n vs (find key_cmp q (zip ks (map pos (range_with_len n (length ks))))) (find key_cmp q (zip ks vs))
shown_at q [] vs n long = inl (refl, refl)
shown_at q (k ∷ ks) [] n long = absurd (omega (arith, long))
shown_at q (k ∷ ks) (v ∷ vs) n long =
    elim (key_cases k q) [
      | inl is ↦ inr (zero, omega arith, at_head q k (pos n) _ is ∙ ap (λ m. Some (pos m)) (omega arith), at_head q k v _ is)
      | inr isnt ↦
          elim (shown_at q ks vs (n + 1) (omega (arith, long))) [
            | inl none ↦ inl (past_head q k (pos n) _ isnt ∙ none.0, past_head q k v _ isnt ∙ none.1)
            | inr some ↦
                inr (suc some.0, omega (arith, some.1), past_head q k (pos n) _ isnt ∙ some.2 ∙ ap (λ m. Some (pos m)) (omega arith), past_head q k v _ isnt ∙ some.3)
          ]
    ]

-- at a key of the cells, what stands in the form and in a policy
module _ (problem : Problem) (values : List ℤ) (long : length values ≡ length (cells problem)) where
  abbrev pub form : Policy
  form = policy_at (cells problem) (numbers_below (length (cells problem)))

  abbrev pub policy : Policy
  policy = policy_at (cells problem) values

  pub shown : (q : Key) → Shown 0 values (get form q) (get policy q)
  unfolding numbers_below
  shown q =
      let ks : List Key = keys_of (cells problem) in
      let many : length ks ≡ length (cells problem) = length-map (cells problem) (λ (c : Cell). c.key) in
      subst (λ a. Shown 0 values a (get policy q)) (sym (value_at (cells problem) (map pos (range_with_len 0 (length (cells problem)))) q))
      (subst (λ b. Shown 0 values (find key_cmp q (zip ks (map pos (range_with_len 0 (length (cells problem)))))) b) (sym (value_at (cells problem) values q))
      (subst (λ m. Shown 0 values (find key_cmp q (zip ks (map pos (range_with_len 0 m)))) (find key_cmp q (zip ks values))) many (shown_at q ks values 0 (long ∙ sym many))))

  numbers : (place : ℕ) (seen : List ℤ) → (c : ℕ) × (decided_at form place seen ≡ pos c)
  numbers place seen =
      elim (shown (place, seen)) [
        | inl none ↦ (0, ap (λ o. unwrap_or o (pos 0)) none.0)
        | inr some ↦ (0 + some.0, ap (λ o. unwrap_or o (pos 0)) some.2)
      ]

  read_values : AllByRecursion IsReadBack values → (place : ℕ) (seen : List ℤ) → IsReadBack (decided_at policy place seen)
  read_values all place seen =
      elim (shown (place, seen)) [
        | inl none ↦ subst IsReadBack (sym (ap (λ o. unwrap_or o (pos 0)) none.1)) (read_back (pos 0) (omega (arith, ints)))
        | inr some ↦ subst IsReadBack (sym (ap (λ o. unwrap_or o (pos 0)) some.3)) (each_of IsReadBack values some.0 (pos 0) all some.1)
      ]

in_of : {A : Type 0} (P : A → Type 0) (xs : List A) (x : A) → AllByRecursion P xs → In x xs → P x
in_of P [] x all within = absurd within
in_of P (y ∷ ys) x all (inl is) = subst P is all.0
in_of P (y ∷ ys) x all (inr within) = in_of P ys x all.1 within

-- a stochastic variable whose indices and values are small
abbrev pub IsDrawnSmall : Stochastic → Type 0
IsDrawnSmall s = AllByRecursion IsReadable s.index × AllByRecursion (λ (o : Outcome). IsReadable o.value) (distribution s)

chosen_back : (ss : List Stochastic) (vs : List ℤ) → AllByRecursion IsDrawnSmall ss → AreChosen ss vs
    → AllByRecursion (λ (s : Stochastic × ℤ). AllByRecursion IsReadBack s.0.index × IsReadBack s.1) (zip ss vs)
chosen_back [] vs all chosen = tt
chosen_back (s ∷ ss) [] all chosen = tt
chosen_back (s ∷ ss) (v ∷ vs) all chosen =
    let value : IsReadBack v = read_back v (subst IsReadable chosen.0.2 (in_of (λ (o : Outcome). IsReadable o.value) (distribution s) chosen.0.0 all.0.1 chosen.0.1)) in
    ((all_read_back s.index all.0.0, value), chosen_back ss vs all.1 chosen.1)

pub are_read_back : (problem : Problem) (values : List ℤ) (long : length values ≡ length (cells problem)) → AreReadable problem values
    → AreReadBack problem.decisions problem.stochastics (form problem values long) (policy problem values long)
are_read_back problem values long small =
    record {
      numbers = numbers problem values long;
      values = read_values problem values long (all_read_back values small.valued);
      decided = λ i (d : Decision) is. all_read_back d.index (all_at (λ (e : Decision). AllByRecursion IsReadable e.index) problem.decisions i d small.decided is);
      seen = λ stage vs within.
          chosen_back (seen_after stage problem.stochastics) vs (all_filter IsDrawnSmall (λ (s : Stochastic). nat_eq s.stage stage) problem.stochastics small.drawn)
          (outcome_chosen stage problem.stochastics vs within);
    }

pub prints_in_form : PrintsInForm
prints_in_form problem values long small =
    none_different problem.decisions problem.stochastics (form problem values long) (policy problem values long) (are_read_back problem values long small)
    (last_stage problem.decisions - 1) 1 []
