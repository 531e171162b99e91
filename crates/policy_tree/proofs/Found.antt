-- What is found at a key, in the entries of a point.
use Rattle.std.proofs.Common.{◌≡◌, refl, sym, ap, subst, ◌∙◌, ℕ, zero, suc, ℤ, ◌≤ℤ◌, true, false, cond, List, [], ◌∷◌, map, slice_get, Some, ◌⊎◌, inl, inr}
use Rattle.std.specs.List.{zip}
use Rattle.std.specs.Ordering.{eq_by_cmp}
use Rattle.std.specs.FinMap.{find}
use Rattle.sopl_ast.specs.Policies.{Key, key_cmp}
use Rattle.sopl_ast.specs.Cells.{Cell, IsPoint}
use Rattle.policy_tree.proofs.Members.{In}
use Rattle.policy_tree.proofs.Once.{Once}
use Rattle.policy_tree.proofs.KeyOrder.{same_key, not_so}
use Rattle.policy_tree.proofs.CellsOf.{keys_of}

pub at_head : (q k : Key) (v : ℤ) (es : List (Key × ℤ)) → k ≡ q → find key_cmp q ((k, v) ∷ es) ≡ Some v
at_head q k v es e = ap (λ b. cond b (Some v) (find key_cmp q es)) ((same_key q k).1 (sym e))

pub past_head : (q k : Key) (v : ℤ) (es : List (Key × ℤ)) → (k ≡ q → ⊥) → find key_cmp q ((k, v) ∷ es) ≡ find key_cmp q es
past_head q k v es n = ap (λ b. cond b (Some v) (find key_cmp q es)) (not_so (eq_by_cmp key_cmp q k) (same_key q k) (λ e. n (sym e)))

-- a key is the first one or not
pub key_cases : (a b : Key) → (a ≡ b) ⊎ (a ≡ b → ⊥)
key_cases a b =
    elim (eq_by_cmp key_cmp a b) as (λ t. eq_by_cmp key_cmp a b ≡ t → (a ≡ b) ⊎ (a ≡ b → ⊥)) [
      | true ↦ λ t. inl ((same_key a b).0 t)
      | false ↦ λ t. inr (λ e. absurd (let yes : eq_by_cmp key_cmp a b ≡ true = (same_key a b).1 e in cc))
    ] refl

-- a point has a value at each key of its cells
pub found : (cs : List Cell) (vs : List ℤ) (q : Key) → IsPoint cs vs → In q (keys_of cs) → (v : ℤ) × (find key_cmp q (zip (keys_of cs) vs) ≡ Some v)
found [] vs q p h = absurd h
found (c ∷ cs) [] q p h = absurd p
found (c ∷ cs) (v ∷ vs) q p (inl e) = (v, at_head q c.key v (zip (keys_of cs) vs) e)
found (c ∷ cs) (v ∷ vs) q p (inr h) =
    let rest : (w : ℤ) × (find key_cmp q (zip (keys_of cs) vs) ≡ Some w) = found cs vs q p.2 h in
    elim (key_cases c.key q) [
      | inl e ↦ (v, at_head q c.key v (zip (keys_of cs) vs) e)
      | inr n ↦ (rest.0, past_head q c.key v (zip (keys_of cs) vs) n ∙ rest.1)
    ]

-- what is found at a key lies in the domain of a cell of that key
pub found_from : (cs : List Cell) (vs : List ℤ) (q : Key) (w : ℤ) → IsPoint cs vs → find key_cmp q (zip (keys_of cs) vs) ≡ Some w
    → (c : Cell) × In c cs × (c.key ≡ q) × (c.lo ≤ℤ w) × (w ≤ℤ c.hi)
found_from [] [] q w p h = cc
found_from [] (v ∷ vs) q w p h = absurd p
found_from (c ∷ cs) [] q w p h = absurd p
found_from (c ∷ cs) (v ∷ vs) q w p h =
    elim (key_cases c.key q) [
      | inl e ↦
          let same : v ≡ w = let at : find key_cmp q ((c.key, v) ∷ zip (keys_of cs) vs) ≡ Some v = at_head q c.key v (zip (keys_of cs) vs) e in cc in
          let Low : ℤ → Type 0 = λ z. c.lo ≤ℤ z in
          let High : ℤ → Type 0 = λ z. z ≤ℤ c.hi in
          (c, inl refl, e, subst Low same p.0, subst High same p.1)
      | inr n ↦
          let r : (d : Cell) × In d cs × (d.key ≡ q) × (d.lo ≤ℤ w) × (w ≤ℤ d.hi) =
          found_from cs vs q w p.2 (sym (past_head q c.key v (zip (keys_of cs) vs) n) ∙ h) in
          (r.0, inr r.1, r.2, r.3, r.4)
    ]

-- values that a function gives the keys are found again
pub found_given : (give : Key → ℤ) (cs : List Cell) (q : Key) → In q (keys_of cs)
    → find key_cmp q (zip (keys_of cs) (map (λ (c : Cell). give c.key) cs)) ≡ Some (give q)
found_given give [] q h = absurd h
found_given give (c ∷ cs) q h =
    let later = zip (keys_of cs) (map (λ (c : Cell). give c.key) cs) in
    elim (key_cases c.key q) [
      | inl e ↦ at_head q c.key (give c.key) later e ∙ ap (λ k. Some (give k)) e
      | inr n ↦ elim h [
        | inl e ↦ absurd (n e)
        | inr there ↦ past_head q c.key (give c.key) later n ∙ found_given give cs q there
      ]
    ]

pub In-keys : (cs : List Cell) (i : ℕ) (c : Cell) → slice_get cs i ≡ Some c → In c.key (keys_of cs)
In-keys [] i c h = cc
In-keys (d ∷ cs) zero c h = let same : d ≡ c = cc in inl (ap (λ (c : Cell). c.key) same)
In-keys (d ∷ cs) (suc i) c h = inr (In-keys cs i c h)

-- another key than one that stands once
pub apart : (k q : Key) (ks : List Key) → (In k ks → ⊥) → In q ks → k ≡ q → ⊥
apart k q ks once h e = once (let P : Key → Type 0 = λ x. In x ks in subst P (sym e) h)

-- where each key stands once, the value at the key of a cell is the cell's
pub found_at : (cs : List Cell) (vs : List ℤ) (i : ℕ) (c : Cell) (v : ℤ) → Once (keys_of cs) → slice_get cs i ≡ Some c → slice_get vs i ≡ Some v
    → find key_cmp c.key (zip (keys_of cs) vs) ≡ Some v
found_at [] vs i c v once h g = cc
found_at (d ∷ cs) [] i c v once h g = cc
found_at (d ∷ cs) (w ∷ vs) zero c v once h g =
    let same : d ≡ c = cc in
    let value : w ≡ v = cc in
    at_head c.key d.key w (zip (keys_of cs) vs) (ap (λ (c : Cell). c.key) same) ∙ ap Some value
found_at (d ∷ cs) (w ∷ vs) (suc i) c v once h g =
    past_head c.key d.key w (zip (keys_of cs) vs) (apart d.key c.key (keys_of cs) once.0 (In-keys cs i c h)) ∙ found_at cs vs i c v once.1 h g

-- points that answer alike at each key are one
pub alike_same : (cs : List Cell) (xs ys : List ℤ) → Once (keys_of cs) → IsPoint cs xs → IsPoint cs ys
    → ((q : Key) → In q (keys_of cs) → find key_cmp q (zip (keys_of cs) xs) ≡ find key_cmp q (zip (keys_of cs) ys)) → xs ≡ ys
alike_same [] [] [] once p r alike = refl
alike_same [] [] (y ∷ ys) once p r alike = absurd r
alike_same [] (x ∷ xs) ys once p r alike = absurd p
alike_same (c ∷ cs) [] ys once p r alike = absurd p
alike_same (c ∷ cs) (x ∷ xs) [] once p r alike = absurd r
alike_same (c ∷ cs) (x ∷ xs) (y ∷ ys) once p r alike =
    let later_x = zip (keys_of cs) xs in
    let later_y = zip (keys_of cs) ys in
    let first : Some x ≡ Some y = sym (at_head c.key c.key x later_x refl) ∙ alike c.key (inl refl) ∙ at_head c.key c.key y later_y refl in
    let head : x ≡ y = cc in
    let tail : xs ≡ ys = alike_same cs xs ys once.1 p.2 r.2 (λ q h.
    let n : c.key ≡ q → ⊥ = apart c.key q (keys_of cs) once.0 h in
    sym (past_head q c.key x later_x n) ∙ alike q (inr h) ∙ past_head q c.key y later_y n) in
    λ i. head i ∷ tail i
