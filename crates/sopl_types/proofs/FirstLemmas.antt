-- The earliest of some mistakes is the first of them.
use Rattle.std.proofs.Common.{◌≡◌, refl, sym, ap, ◌∙◌, subst, Bool, true, false, cond, ℕ, zero, suc, ◌<◌, nat_lt, List, [], ◌∷◌, length, slice_index_or, Option, None, Some}
use Rattle.std.proofs.Common.{Contains, unwrap_or, rules, arith}
use Rattle.std.proofs.lemmas.Grind.{common_steps}
use Rattle.sopl_base.specs.declared.fault.Refusal.{Refusal}
use Rattle.sopl_ast.specs.Mistakes.{IsNoLater, earlier, same_place}
use Rattle.sopl_types.specs.Earliest.{comes_first, earlier_of, earliest}

-- where there is no first mistake there is none
pub earliest_none : (ms : List Refusal) → earliest ms ≡ None → ms ≡ []
earliest_none [] h = refl
earliest_none (m ∷ ms) h = absurd (by (earliest ms) h)
  where
    by : (o : Option Refusal) → earlier_of (Some m) o ≡ None → ⊥
    by None k = search rules
    by (Some q) k = search rules

before : (a b : Refusal) → comes_first a b ≡ true → IsNoLater a b
before a b h = by (nat_lt a.at b.at) refl
  where
    by : (t : Bool) → nat_lt a.at b.at ≡ t → IsNoLater a b
    by true p = earlier (grind (arith, common_steps))
    by false p = same_place (grind (arith, common_steps)) (grind (arith, common_steps))

behind : (a b : Refusal) → comes_first a b ≡ false → IsNoLater b a
behind a b h = by (nat_lt b.at a.at) refl
  where
    by : (t : Bool) → nat_lt b.at a.at ≡ t → IsNoLater b a
    by true p = earlier (grind (arith, common_steps))
    by false p = same_place (grind (arith, common_steps)) (grind (arith, common_steps))

no_later : (a b c : Refusal) → IsNoLater a b → IsNoLater b c → IsNoLater a c
no_later a b c (earlier h) (earlier k) = earlier (omega arith)
no_later a b c (earlier h) (same_place k l) = earlier (omega arith)
no_later a b c (same_place h g) (earlier k) = earlier (omega arith)
no_later a b c (same_place h g) (same_place k l) = same_place (omega arith) (omega arith)

-- one of the mistakes, and no later than any
pub record First (ms : List Refusal) (r : Refusal) : Type 0 where
  pub among : Contains ms r
  pub least : (k : ℕ) (d : Refusal) → k < length ms → IsNoLater r (slice_index_or ms k d)

alone : (m : Refusal) → First (m ∷ []) m
alone m = record { among = (0, omega arith, refl); least = by }
  where
    by : (k : ℕ) (d : Refusal) → k < length (m ∷ []) → IsNoLater m (slice_index_or (m ∷ []) k d)
    by zero d h = same_place refl (omega arith)
    by (suc k) d h = absurd (omega arith)

in_front : (m q : Refusal) (ms : List Refusal) → First ms q → comes_first m q ≡ true → First (m ∷ ms) m
in_front m q ms f h = record { among = (0, omega arith, refl); least = by }
  where
    by : (k : ℕ) (d : Refusal) → k < length (m ∷ ms) → IsNoLater m (slice_index_or (m ∷ ms) k d)
    by zero d g = same_place refl (omega arith)
    by (suc k) d g = no_later m q (slice_index_or ms k d) (before m q h) (f.least k d (omega arith))

in_rest : (m q : Refusal) (ms : List Refusal) → First ms q → comes_first m q ≡ false → First (m ∷ ms) q
in_rest m q ms f h = record { among = (suc f.among.0, omega (arith, f.among.1), f.among.2); least = by }
  where
    by : (k : ℕ) (d : Refusal) → k < length (m ∷ ms) → IsNoLater q (slice_index_or (m ∷ ms) k d)
    by zero d g = behind m q h
    by (suc k) d g = f.least k d (omega arith)

step : (m r : Refusal) (ms : List Refusal) → ((q : Refusal) → earliest ms ≡ Some q → First ms q) → (o : Option Refusal) → earliest ms ≡ o →
    earlier_of (Some m) o ≡ Some r → First (m ∷ ms) r
step m r ms more None p h =
    subst (λ x. First (m ∷ ms) x) (ap (λ o. unwrap_or o m) h) (subst (λ xs. First (m ∷ xs) m) (sym (earliest_none ms p)) (alone m))
step m r ms more (Some q) p h = by (comes_first m q) refl
  where
    by : (t : Bool) → comes_first m q ≡ t → First (m ∷ ms) r
    by true e = subst (λ x. First (m ∷ ms) x) (sym (ap (λ t. cond t m q) e) ∙ ap (λ o. unwrap_or o m) h) (in_front m q ms (more q p) e)
    by false e = subst (λ x. First (m ∷ ms) x) (sym (ap (λ t. cond t m q) e) ∙ ap (λ o. unwrap_or o m) h) (in_rest m q ms (more q p) e)

pub earliest_some : (ms : List Refusal) (r : Refusal) → earliest ms ≡ Some r → First ms r
earliest_some [] r h = absurd (search rules)
earliest_some (m ∷ ms) r h = step m r ms (λ q. earliest_some ms q) (earliest ms) refl h
