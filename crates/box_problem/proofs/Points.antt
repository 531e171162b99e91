-- All points of a box, in a list.
use Rattle.std.proofs.Common.{◌≡◌, ◌↔◌, inl, inr, ℕ, zero, suc, ◌+◌, ◌*◌, ◌<◌, ℤ, pos, ◌+ℤ◌, ◌≤ℤ◌, List, [], ◌∷◌, ◌++◌, length, get_or, map, Contains, AllPairs, All, arith, refl, sym, ap, subst, ◌∙◌}
use Rattle.std.specs.Int.{int_gap}
use Rattle.std.proofs.lemmas.Int.{ints, by_lt_z}
use Rattle.std.proofs.lemmas.List.{length-map, length-append}
use Rattle.std.proofs.lemmas.List.Elements.{Contains-append_cases, Contains-append_left, Contains-append_right, Contains-get_or, All-append, All-map, All-weaker}
use Rattle.std.proofs.lemmas.List.Kept.{AllPairs-cons}
use Rattle.sopl_base.proofs.Lists.{contains_later}
use Rattle.box_problem.specs.Box.{Box, low, high, IsBox, InBox, points, points_between}
use Rattle.box_problem.proofs.Counts.{gap_leads}

-- the first cell's values from lo on, n more than one, each before each of these lists
abbrev begun : ℤ → ℕ → List (List ℤ) → List (List ℤ)
begun lo zero rests = map (λ rest. lo ∷ rest) rests
begun lo (suc n) rests = map (λ rest. lo ∷ rest) rests ++ begun (lo +ℤ pos 1) n rests

abbrev listed : List ℤ → List ℤ → List (List ℤ)
listed [] highs = [] ∷ []
listed (lo ∷ lows) [] = [] ∷ []
listed (lo ∷ lows) (hi ∷ highs) = begun lo (int_gap lo hi) (listed lows highs)

length_begun : (lo : ℤ) (n : ℕ) (rests : List (List ℤ)) → length (begun lo n rests) ≡ (n + 1) * length rests
length_begun lo zero rests = omega (arith, length-map rests (λ rest. lo ∷ rest))
length_begun lo (suc n) rests =
    omega (arith, length-append (map (λ rest. lo ∷ rest) rests) (begun (lo +ℤ pos 1) n rests), length-map rests (λ rest. lo ∷ rest), length_begun (lo +ℤ pos 1) n rests)

length_listed : (lows highs : List ℤ) → length (listed lows highs) ≡ points_between lows highs
length_listed [] highs = refl
length_listed (lo ∷ lows) [] = refl
length_listed (lo ∷ lows) (hi ∷ highs) =
    length_begun lo (int_gap lo hi) (listed lows highs) ∙ ap (λ n. (int_gap lo hi + 1) * n) (length_listed lows highs)

-- a list that begins with a value from the one to the other, and goes on as one of the lists
abbrev IsBegun : ℤ → ℤ → List (List ℤ) → List ℤ → Type 0
IsBegun from to rests [] = ⊥
IsBegun from to rests (x ∷ rest) = (from ≤ℤ x) × (x ≤ℤ to) × Contains rests rest

wider : (from to least most : ℤ) (rests more : List (List ℤ)) (p : List ℤ) → least ≤ℤ from → to ≤ℤ most → ((q : List ℤ) → Contains rests q → Contains more q) → IsBegun from to rests p
    → IsBegun least most more p
wider from to least most rests more [] low high grows is = is
wider from to least most rests more (x ∷ rest) low high grows is =
    (omega (arith, ints, is.0), omega (arith, ints, is.1), grows rest is.2)

map_at : (lo : ℤ) (rests : List (List ℤ)) (k : ℕ) (p : List ℤ) → k < length (map (λ rest. lo ∷ rest) rests) → get_or (map (λ rest. lo ∷ rest) rests) k p ≡ p → IsBegun lo lo rests p
map_at lo [] k p exists is = absurd (omega arith)
map_at lo (rest ∷ rests) zero p exists is =
    subst (IsBegun lo lo (rest ∷ rests)) is (omega (arith, ints), omega (arith, ints), (zero, omega arith, refl))
map_at lo (rest ∷ rests) (suc k) p exists is =
    wider lo lo lo lo rests (rest ∷ rests) p (omega (arith, ints)) (omega (arith, ints)) (λ q. contains_later rest rests q) (map_at lo rests k p (omega arith) is)

is_begun : (lo : ℤ) (n : ℕ) (rests : List (List ℤ)) (p : List ℤ) → Contains (begun lo n rests) p → IsBegun lo (lo +ℤ pos n) rests p
is_begun lo zero rests p some =
    wider lo lo lo (lo +ℤ pos zero) rests rests p (omega (arith, ints)) (omega (arith, ints)) (λ q has. has) (map_at lo rests some.0 p some.1 some.2)
is_begun lo (suc n) rests p some =
    elim (Contains-append_cases (map (λ rest. lo ∷ rest) rests) (begun (lo +ℤ pos 1) n rests) p some) [
      | inl first ↦ wider lo lo lo (lo +ℤ pos (suc n)) rests rests p (omega (arith, ints)) (omega (arith, ints)) (λ q has. has) (map_at lo rests first.0 p first.1 first.2)
      | inr later ↦ wider (lo +ℤ pos 1) ((lo +ℤ pos 1) +ℤ pos n) lo (lo +ℤ pos (suc n)) rests rests p (omega (arith, ints)) (omega (arith, ints)) (λ q has. has)
          (is_begun (lo +ℤ pos 1) n rests p later)
    ]

map_contains : (lo : ℤ) (rests : List (List ℤ)) (k : ℕ) (rest : List ℤ) → k < length rests → get_or rests k rest ≡ rest → Contains (map (λ r. lo ∷ r) rests) (lo ∷ rest)
map_contains lo [] k rest exists is = absurd (omega arith)
map_contains lo (r ∷ rests) zero rest exists is = (zero, omega arith, ap (λ q. lo ∷ q) is)
map_contains lo (r ∷ rests) (suc k) rest exists is =
    contains_later (lo ∷ r) (map (λ q. lo ∷ q) rests) (lo ∷ rest) (map_contains lo rests k rest (omega arith) is)

begun_has : (lo : ℤ) (n : ℕ) (rests : List (List ℤ)) (x : ℤ) (rest : List ℤ) → lo ≤ℤ x → x ≤ℤ (lo +ℤ pos n) → Contains rests rest → Contains (begun lo n rests) (x ∷ rest)
begun_has lo zero rests x rest low high has =
    let same : lo ≡ x = omega (arith, ints) in
    subst (λ (y : ℤ). Contains (map (λ r. lo ∷ r) rests) (y ∷ rest)) same (map_contains lo rests has.0 rest has.1 has.2)
begun_has lo (suc n) rests x rest low high has =
    by_lt_z lo x
    (λ above. Contains-append_right (map (λ r. lo ∷ r) rests) (begun (lo +ℤ pos 1) n rests) (x ∷ rest) (begun_has (lo +ℤ pos 1) n rests x rest (omega (arith, ints)) (omega (arith, ints)) has))
    (λ below.
    let same : lo ≡ x = omega (arith, ints) in
    subst (λ (y : ℤ). Contains (begun lo (suc n) rests) (y ∷ rest)) same
    (Contains-append_left (map (λ r. lo ∷ r) rests) (begun (lo +ℤ pos 1) n rests) (lo ∷ rest) (map_contains lo rests has.0 rest has.1 has.2)))

-- a point with one cell more
abbrev between : List ℤ → List ℤ → Box
between lows highs = record { lows = lows; highs = highs }

in_longer : (lo hi x : ℤ) (lows highs rest : List ℤ) → lo ≤ℤ x → x ≤ℤ hi → InBox (between lows highs) rest → InBox (between (lo ∷ lows) (hi ∷ highs)) (x ∷ rest)
in_longer lo hi x lows highs rest low high q = record {
  same_cells = omega (arith, q.same_cells);
  from_low = λ cell exists. longer_low cell exists;
  to_high = λ cell exists. longer_high cell exists;
} where
  longer_low : (cell : ℕ) → cell < length (x ∷ rest) → get_or (lo ∷ lows) cell (pos 0) ≤ℤ get_or (x ∷ rest) cell (pos 0)
  longer_low zero exists = low
  longer_low (suc cell) exists = q.from_low cell (omega arith)

  longer_high : (cell : ℕ) → cell < length (x ∷ rest) → get_or (x ∷ rest) cell (pos 0) ≤ℤ get_or (hi ∷ highs) cell (pos 0)
  longer_high zero exists = high
  longer_high (suc cell) exists = q.to_high cell (omega arith)

in_shorter : (lo hi x : ℤ) (lows highs rest : List ℤ) → InBox (between (lo ∷ lows) (hi ∷ highs)) (x ∷ rest) → InBox (between lows highs) rest
in_shorter lo hi x lows highs rest q = record {
  same_cells = omega (arith, q.same_cells);
  from_low = λ cell exists. q.from_low (suc cell) (omega arith);
  to_high = λ cell exists. q.to_high (suc cell) (omega arith);
}

no_cells : (highs : List ℤ) → InBox (between [] highs) []
no_cells highs = record {
  same_cells = refl;
  from_low = λ cell exists. absurd (omega arith);
  to_high = λ cell exists. absurd (omega arith);
}

only_empty : (highs : List ℤ) (k : ℕ) (point : List ℤ) → k < length {A = List ℤ} ([] ∷ []) → get_or ([] ∷ []) k point ≡ point → InBox (between [] highs) point
only_empty highs zero point exists is = subst (InBox (between [] highs)) is (no_cells highs)
only_empty highs (suc k) point exists is = absurd (omega arith)

listed_in : (lows highs point : List ℤ) → length highs ≡ length lows → ((cell : ℕ) → cell < length lows → get_or lows cell (pos 0) ≤ℤ get_or highs cell (pos 0)) → Contains (listed lows highs) point
    → InBox (between lows highs) point
listed_in [] highs point paired ordered some = only_empty highs some.0 point some.1 some.2
listed_in (lo ∷ lows) [] point paired ordered some = absurd (omega arith)
listed_in (lo ∷ lows) (hi ∷ highs) [] paired ordered some =
    absurd (is_begun lo (int_gap lo hi) (listed lows highs) [] some)
listed_in (lo ∷ lows) (hi ∷ highs) (x ∷ rest) paired ordered some =
    let is = is_begun lo (int_gap lo hi) (listed lows highs) (x ∷ rest) some in
    in_longer lo hi x lows highs rest is.0 (subst (λ (z : ℤ). x ≤ℤ z) (gap_leads lo hi (ordered zero (omega arith))) is.1)
    (listed_in lows highs rest (omega arith) (λ cell exists. ordered (suc cell) (omega arith)) is.2)

in_listed : (lows highs point : List ℤ) → length highs ≡ length lows → ((cell : ℕ) → cell < length lows → get_or lows cell (pos 0) ≤ℤ get_or highs cell (pos 0)) → InBox (between lows highs) point
    → Contains (listed lows highs) point
in_listed [] highs [] paired ordered q = (zero, omega arith, refl)
in_listed [] highs (x ∷ rest) paired ordered q = absurd (omega (arith, q.same_cells))
in_listed (lo ∷ lows) [] point paired ordered q = absurd (omega arith)
in_listed (lo ∷ lows) (hi ∷ highs) [] paired ordered q = absurd (omega (arith, q.same_cells))
in_listed (lo ∷ lows) (hi ∷ highs) (x ∷ rest) paired ordered q =
    begun_has lo (int_gap lo hi) (listed lows highs) x rest (q.from_low zero (omega arith))
    (subst (λ (z : ℤ). x ≤ℤ z) (sym (gap_leads lo hi (ordered zero (omega arith)))) (q.to_high zero (omega arith)))
    (in_listed lows highs rest (omega arith) (λ cell exists. ordered (suc cell) (omega arith)) (in_shorter lo hi x lows highs rest q))

-- no two are equal
all_of_pairs : {X : Type 0} (R : X → X → Type 0) (x : X) (xs : List X) → AllPairs R (x ∷ xs) → All (R x) xs
all_of_pairs R x xs pairs = λ k d exists. pairs zero (suc k) d (omega arith) (omega arith)

pairs_of_pairs : {X : Type 0} (R : X → X → Type 0) (x : X) (xs : List X) → AllPairs R (x ∷ xs) → AllPairs R xs
pairs_of_pairs R x xs pairs = λ i j d before exists. pairs (suc i) (suc j) d (omega arith) (omega arith)

pairs_append : {X : Type 0} (R : X → X → Type 0) (xs ys : List X) → AllPairs R xs → AllPairs R ys → ((x y : X) → Contains xs x → Contains ys y → R x y) → AllPairs R (xs ++ ys)
pairs_append R [] ys first second across = second
pairs_append R (x ∷ xs) ys first second across =
    AllPairs-cons R x (xs ++ ys)
    (All-append (R x) xs ys (all_of_pairs R x xs first) (λ k d exists. across x (get_or ys k d) (zero, omega arith, refl) (Contains-get_or ys k d exists)))
    (pairs_append R xs ys (pairs_of_pairs R x xs first) second (λ a b has. across a b (contains_later x xs a has)))

map_apart : (lo : ℤ) (rests : List (List ℤ)) → AllPairs (λ p q. ¬ p ≡ q) rests → AllPairs (λ p q. ¬ p ≡ q) (map (λ rest. lo ∷ rest) rests)
map_apart lo [] apart = λ i j d before exists. absurd (omega arith)
map_apart lo (rest ∷ rests) apart =
    AllPairs-cons (λ p q. ¬ p ≡ q) (lo ∷ rest) (map (λ r. lo ∷ r) rests)
    (All-map (λ q. ¬ (lo ∷ rest) ≡ q) (λ r. lo ∷ r) rests (All-weaker (λ q. ¬ rest ≡ q) (λ q. ¬ (lo ∷ rest) ≡ (lo ∷ q)) (λ q differs same. differs (cc)) rests
    (all_of_pairs (λ p q. ¬ p ≡ q) rest rests apart)))
    (map_apart lo rests (pairs_of_pairs (λ p q. ¬ p ≡ q) rest rests apart))

-- lists that begin with values of which the one is below the other
begun_apart : (lo most : ℤ) (rests : List (List ℤ)) (p : List ℤ) → IsBegun lo lo rests p → IsBegun (lo +ℤ pos 1) most rests p → ⊥
begun_apart lo most rests [] first later = first
begun_apart lo most rests (x ∷ rest) first later = absurd (omega (arith, ints, first.1, later.0))

apart : (lo : ℤ) (n : ℕ) (rests : List (List ℤ)) → AllPairs (λ p q. ¬ p ≡ q) rests → AllPairs (λ p q. ¬ p ≡ q) (begun lo n rests)
apart lo zero rests differ = map_apart lo rests differ
apart lo (suc n) rests differ =
    pairs_append (λ p q. ¬ p ≡ q) (map (λ rest. lo ∷ rest) rests) (begun (lo +ℤ pos 1) n rests) (map_apart lo rests differ) (apart (lo +ℤ pos 1) n rests differ)
    (λ p q first later same.
    begun_apart lo ((lo +ℤ pos 1) +ℤ pos n) rests q (subst (IsBegun lo lo rests) same (map_at lo rests first.0 p first.1 first.2)) (is_begun (lo +ℤ pos 1) n rests q later))

one_apart : AllPairs (λ (p q : List ℤ). ¬ p ≡ q) ([] ∷ [])
one_apart = λ i j d before exists. absurd (omega arith)

listed_apart : (lows highs : List ℤ) → AllPairs (λ p q. ¬ p ≡ q) (listed lows highs)
listed_apart [] highs = one_apart
listed_apart (lo ∷ lows) [] = one_apart
listed_apart (lo ∷ lows) (hi ∷ highs) = apart lo (int_gap lo hi) (listed lows highs) (listed_apart lows highs)

pub points_are_counted : (b : Box) → IsBox b → (list : List (List ℤ)) × (length list ≡ points b) × ((point : List ℤ) → Contains list point ↔ InBox b point) × AllPairs (λ p q. ¬ p ≡ q) list
points_are_counted b is_box = (
  listed b.lows b.highs,
  length_listed b.lows b.highs,
  λ point. (listed_in b.lows b.highs point is_box.paired is_box.ordered, in_listed b.lows b.highs point is_box.paired is_box.ordered),
  listed_apart b.lows b.highs,
)
