-- The greatest of several numbers, as they change.
use Rattle.std.proofs.Common.{◌≡◌, inl, inr, ℕ, zero, suc, ◌+◌, ◌*◌, ◌/◌, ◌<◌, ◌≤◌, max, List, [], ◌∷◌, ◌++◌, length, get_or, set, length-set, arith, refl, sym, ap, subst, ◌∙◌}
use Rattle.std.proofs.lemmas.Bool.{cases_eq}
use Rattle.std.proofs.lemmas.List.{get_or-set_other, get_or-set_same}
use Rattle.std.proofs.Math.Nat.{lt-div-mul-add, mul-div-le}
use Rattle.prop_linear.specs.declared.maxima.Maxima.{Maxima}
use Rattle.prop_linear.specs.Maxima.{IsTopped, IsZero, kept_node, kept_number}

-- 0 alone
pub zero_more : (xs new : List ℕ) → new ≡ xs ++ 0 ∷ [] → ((k : ℕ) → get_or xs k 0 ≡ 0) → (k : ℕ) → get_or new k 0 ≡ 0
zero_more xs new is zeros k = ap (λ (list : List ℕ). get_or list k 0) is ∙ behind xs zeros k
  where
    behind : (xs : List ℕ) → ((k : ℕ) → get_or xs k 0 ≡ 0) → (k : ℕ) → get_or (xs ++ 0 ∷ []) k 0 ≡ 0
    behind [] zeros zero = refl
    behind [] zeros (suc k) = refl
    behind (x ∷ xs) zeros zero = zeros 0
    behind (x ∷ xs) zeros (suc k) = behind xs (λ i. zeros (suc i)) k

pub topped_zero : (m : Maxima) → IsZero m → IsTopped m
topped_zero m is = record {
  as_many = is.as_many;
  some = is.some;
  low = λ node from inner. omega (arith, is.zero (2 * node));
  high = λ node from inner. omega (arith, is.zero (2 * node + 1));
}

-- one half of a number
pub half_from : (n : ℕ) → 2 * (n / 2) ≤ n
half_from n = mul-div-le n 2

pub half_to : (n : ℕ) → n ≤ 2 * (n / 2) + 1
half_to n =
    let below : n < n / 2 * 2 + 2 = lt-div-mul-add {a = n} {b = 2} (omega arith) in
    omega (arith, below)

-- node 1 is at least each of the others
pub under_all : (m : Maxima) → IsTopped m → (fuel node : ℕ) → node ≤ fuel → 1 ≤ node → node < 2 * m.first → kept_node m node ≤ kept_node m 1
under_all m topped zero node within from below = absurd (omega (arith, within, from))
under_all m topped (suc fuel) node within from below =
    elim (cases_eq node 1) [
      | inl one ↦ subst (λ (n : ℕ). kept_node m n ≤ kept_node m 1) (sym one) (omega arith)
      | inr other ↦
          let half = node / 2 in
          let under = half_from node in
          let over = half_to node in
          let inner : half < m.first = omega (arith, below, under) in
          let some : 1 ≤ half = omega (arith, from, other, over) in
          let rest = under_all m topped fuel half (omega (arith, within, from, other, under)) some (omega (arith, inner)) in
          elim (cases_eq node (2 * half)) [
            | inl even ↦
                let here = subst (λ (n : ℕ). kept_node m n ≤ kept_node m half) (sym even) (topped.low half some inner) in
                omega (arith, here, rest)
            | inr odd ↦
                let is : 2 * half + 1 ≡ node = omega (arith, odd, under, over) in
                let here = subst (λ (n : ℕ). kept_node m n ≤ kept_node m half) is (topped.high half some inner) in
                omega (arith, here, rest)
          ]
    ]

pub under_top : (m : Maxima) (greatest place : ℕ) → IsTopped m → greatest ≡ get_or m.nodes.items 1 0 → place < m.first → kept_number m place ≤ greatest
under_top m greatest place topped is exists =
    let all = under_all m topped (m.first + place) (m.first + place) (omega arith) (omega (arith, topped.some)) (omega (arith, exists)) in
    omega (arith, all, is)

-- a number was set, and above it all but the nodes over one node are mended
pub record IsMended (old : Maxima) (place number : ℕ) (m : Maxima) (node : ℕ) : Type 0 where
  pub as_many : length m.nodes.items ≡ 2 * m.first
  pub first : m.first ≡ old.first
  pub from : 1 ≤ node
  pub below : node < 2 * m.first
  pub low : (n : ℕ) → 1 ≤ n → n < m.first → ¬ 2 * n ≡ node → ¬ 2 * n + 1 ≡ node → kept_node m (2 * n) ≤ kept_node m n
  pub high : (n : ℕ) → 1 ≤ n → n < m.first → ¬ 2 * n ≡ node → ¬ 2 * n + 1 ≡ node → kept_node m (2 * n + 1) ≤ kept_node m n
  pub own : kept_node m (old.first + place) ≡ number
  pub others : (n : ℕ) → old.first ≤ n → ¬ n ≡ old.first + place → kept_node m n ≡ kept_node old n

-- one node is set
same_node : (old new : Maxima) (at value n : ℕ) → new.nodes.items ≡ set old.nodes.items at value → ¬ n ≡ at → kept_node new n ≡ kept_node old n
same_node old new at value n is other =
    ap (λ (list : List ℕ). get_or list n 0) is ∙ get_or-set_other old.nodes.items at n value 0 other

set_node : (old new : Maxima) (at value : ℕ) → new.nodes.items ≡ set old.nodes.items at value → at < length old.nodes.items → kept_node new at ≡ value
set_node old new at value is exists =
    ap (λ (list : List ℕ). get_or list at 0) is ∙ get_or-set_same old.nodes.items at value 0 exists

length_node : (old new : Maxima) (at value : ℕ) → new.nodes.items ≡ set old.nodes.items at value → length new.nodes.items ≡ length old.nodes.items
length_node old new at value is = ap length is ∙ length-set old.nodes.items at value

pub mended_first : (old new : Maxima) (place number : ℕ) → IsTopped old → place < old.first → new.nodes.items ≡ set old.nodes.items (old.first + place) number → new.first ≡ old.first
    → IsMended old place number new (old.first + place)
mended_first old new place number topped exists is first =
    let at = old.first + place in
    let same : (n : ℕ) → ¬ n ≡ at → kept_node new n ≡ kept_node old n = λ n other. same_node old new at number n is other in
    let long = length_node old new at number is in
    record {
      as_many = omega (arith, long, topped.as_many, first);
      first = first;
      from = omega (arith, topped.some);
      below = omega (arith, exists, first);
      low = λ n from inner not_low not_high.
          let child = same (2 * n) not_low in
          let here = same n (λ (wrong : n ≡ at). absurd (omega (arith, wrong, inner, first))) in
          omega (arith, child, here, topped.low n from (omega (arith, inner, first)));
      high = λ n from inner not_low not_high.
          let child = same (2 * n + 1) not_high in
          let here = same n (λ (wrong : n ≡ at). absurd (omega (arith, wrong, inner, first))) in
          omega (arith, child, here, topped.high n from (omega (arith, inner, first)));
      own = set_node old new at number is (omega (arith, topped.as_many, exists));
      others = λ n from other. same n other;
    }

pub mended_more : (old m new : Maxima) (place number node : ℕ) → 1 < node → IsMended old place number m node
    → new.nodes.items ≡ set m.nodes.items (node / 2) (max (kept_node m (2 * (node / 2))) (kept_node m (2 * (node / 2) + 1))) → new.first ≡ m.first → IsMended old place number new (node / 2)
mended_more old m new place number node more is set first =
    let half = node / 2 in
    let under = half_from node in
    let over = half_to node in
    let value = max (kept_node m (2 * half)) (kept_node m (2 * half + 1)) in
    let below_first : half < m.first = omega (arith, is.below, under) in
    let some : 1 ≤ half = omega (arith, more, over) in
    let same : (n : ℕ) → ¬ n ≡ half → kept_node new n ≡ kept_node m n = λ n other. same_node m new half value n set other in
    let top : kept_node new half ≡ value = set_node m new half value set (omega (arith, is.as_many, below_first)) in
    let long = length_node m new half value set in
    record {
      as_many = omega (arith, long, is.as_many, first);
      first = first ∙ is.first;
      from = some;
      below = omega (arith, below_first, first);
      low = λ n from inner not_low not_high.
          let child = same (2 * n) not_low in
          elim (cases_eq n half) [
            | inl at ↦
                let up = ap (kept_node new) at ∙ top in
                let down = ap (λ (k : ℕ). kept_node m (2 * k)) at in
                omega (arith, child, up, down)
            | inr other ↦
                let here = same n other in
                omega (
                  arith,
                  child,
                  here,
                  is.low n from (omega (arith, inner, first)) (λ (wrong : 2 * n ≡ node). absurd (omega (arith, wrong, other, under, over)))
                      (λ (wrong : 2 * n + 1 ≡ node). absurd (omega (arith, wrong, other, under, over))),
                )
          ];
      high = λ n from inner not_low not_high.
          let child = same (2 * n + 1) not_high in
          elim (cases_eq n half) [
            | inl at ↦
                let up = ap (kept_node new) at ∙ top in
                let down = ap (λ (k : ℕ). kept_node m (2 * k + 1)) at in
                omega (arith, child, up, down)
            | inr other ↦
                let here = same n other in
                omega (
                  arith,
                  child,
                  here,
                  is.high n from (omega (arith, inner, first)) (λ (wrong : 2 * n ≡ node). absurd (omega (arith, wrong, other, under, over)))
                      (λ (wrong : 2 * n + 1 ≡ node). absurd (omega (arith, wrong, other, under, over))),
                )
          ];
      own = same (old.first + place) (λ (wrong : old.first + place ≡ half). absurd (omega (arith, wrong, below_first, is.first))) ∙ is.own;
      others = λ n from other. same n (λ (wrong : n ≡ half). absurd (omega (arith, wrong, below_first, is.first, from))) ∙ is.others n from other;
    }

pub mended_all : (old m : Maxima) (place number node : ℕ) → ¬ 1 < node → IsMended old place number m node → IsTopped m
mended_all old m place number node last is = record {
  as_many = is.as_many;
  some = omega (arith, is.below, is.from);
  low = λ n from inner.
      is.low n from inner (λ (wrong : 2 * n ≡ node). absurd (omega (arith, wrong, last, from))) (λ (wrong : 2 * n + 1 ≡ node). absurd (omega (arith, wrong, last, from)));
  high = λ n from inner.
      is.high n from inner (λ (wrong : 2 * n ≡ node). absurd (omega (arith, wrong, last, from))) (λ (wrong : 2 * n + 1 ≡ node). absurd (omega (arith, wrong, last, from)));
}

pub number_set : (old m : Maxima) (place number node : ℕ) → IsMended old place number m node → kept_number m place ≡ number
number_set old m place number node is = ap (λ (first : ℕ). kept_node m (first + place)) is.first ∙ is.own

pub others_same : (old m : Maxima) (place number node : ℕ) → IsMended old place number m node → (other : ℕ) → ¬ other ≡ place → kept_number m other ≡ kept_number old other
others_same old m place number node is other differs =
    ap (λ (first : ℕ). kept_node m (first + other)) is.first
    ∙ is.others (old.first + other) (omega arith) (λ (wrong : old.first + other ≡ old.first + place). absurd (omega (arith, wrong, differs)))
