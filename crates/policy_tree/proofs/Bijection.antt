-- Points of the cells and policies are one to one.
use Rattle.std.proofs.Common.{◌≡◌, refl, sym, ap, subst, ◌∙◌, ℕ, ℤ, pos, ◌≤ℤ◌, true, List, [], ◌∷◌, map, slice_get, Option, Some, None, IfSome, IsTrue, is_some, unwrap_or, inl, inr, true≢false}
use Rattle.std.specs.List.{zip}
use Rattle.std.specs.FinMap.{find, get, contains_key, get-from_entries, same_map}
use Rattle.sopl_ast.specs.Instances.{Decision, Problem}
use Rattle.sopl_ast.specs.Policies.{Key, key_cmp, Policy, IsKey, IsInDomain, IsPolicy}
use Rattle.sopl_ast.specs.Cells.{Cell, cells, IsPoint, policy_at}
use Rattle.policy_tree.proofs.Members.{In}
use Rattle.policy_tree.proofs.KeyOrder.{key_total, key_antisymmetric}
use Rattle.policy_tree.proofs.CellsOf.{keys_of, IsCell, cell_is, cell_key, key_cell, Once-cells}
use Rattle.policy_tree.proofs.Found.{found, found_from, found_given, found_at, alike_same}

-- what the policy of a point gives a key
pub value_at : (cs : List Cell) (vs : List ℤ) (q : Key) → get (policy_at cs vs) q ≡ find key_cmp q (zip (keys_of cs) vs)
value_at cs vs q = get-from_entries key_total (zip (keys_of cs) vs) q

some_of : {X : Type 0} (o : Option X) → is_some o ≡ true → (x : X) × (o ≡ Some x)
some_of None h = cc
some_of (Some x) h = (x, refl)

-- the domain of a cell is that of its decision
pub in_domain : (problem : Problem) (c : Cell) (v : ℤ) → In c (cells problem) → (c.lo ≤ℤ v) × (v ≤ℤ c.hi) → IsInDomain problem c.key.0 v
in_domain problem c v h within =
    let is : IsCell problem c = cell_is problem c h in
    let Low : ℤ → Type 0 = λ z. z ≤ℤ v in
    let High : ℤ → Type 0 = λ z. v ≤ℤ z in
    let P : Option Decision → Type 0 = λ o. IfSome o (λ (d : Decision). (d.lo ≤ℤ v) × (v ≤ℤ d.hi)) in
    subst P (sym is.decided) (subst Low is.lo within.0, subst High is.hi within.1)

pub from_domain : (problem : Problem) (c : Cell) (v : ℤ) → In c (cells problem) → IsInDomain problem c.key.0 v → (c.lo ≤ℤ v) × (v ≤ℤ c.hi)
from_domain problem c v h within =
    let is : IsCell problem c = cell_is problem c h in
    let Low : ℤ → Type 0 = λ z. z ≤ℤ v in
    let High : ℤ → Type 0 = λ z. v ≤ℤ z in
    let P : Option Decision → Type 0 = λ o. IfSome o (λ (d : Decision). (d.lo ≤ℤ v) × (v ≤ℤ d.hi)) in
    let at : (is.decision.lo ≤ℤ v) × (v ≤ℤ is.decision.hi) = subst P is.decided within in
    (subst Low (sym is.lo) at.0, subst High (sym is.hi) at.1)

pub points_are_policies : (problem : Problem) (values : List ℤ) → IsPoint (cells problem) values → IsPolicy problem (policy_at (cells problem) values)
points_are_policies problem values p = record {
  keys = λ key. (has key, is key);
  values = λ key. each key (get (policy_at (cells problem) values) key) refl;
}
  where
    look : (key : Key) → get (policy_at (cells problem) values) key ≡ find key_cmp key (zip (keys_of (cells problem)) values)
    look key = value_at (cells problem) values key

    has : (key : Key) → IsTrue (contains_key (policy_at (cells problem) values) key) → IsKey problem key
    has key t =
        let at : (v : ℤ) × (get (policy_at (cells problem) values) key ≡ Some v) = some_of (get (policy_at (cells problem) values) key) t in
        let from : (c : Cell) × In c (cells problem) × (c.key ≡ key) × (c.lo ≤ℤ at.0) × (at.0 ≤ℤ c.hi) =
        found_from (cells problem) values key at.0 p (sym (look key) ∙ at.1) in
        let P : Key → Type 0 = λ k. IsKey problem k in
        subst P from.2 (cell_key problem from.0 from.1)

    is : (key : Key) → IsKey problem key → IsTrue (contains_key (policy_at (cells problem) values) key)
    is key k =
        let at : (v : ℤ) × (find key_cmp key (zip (keys_of (cells problem)) values) ≡ Some v) = found (cells problem) values key p (key_cell problem key k) in
        ap is_some (look key ∙ at.1)

    each : (key : Key) (o : Option ℤ) → get (policy_at (cells problem) values) key ≡ o → IfSome o (λ value. IsInDomain problem key.0 value)
    each key None e = tt
    each key (Some v) e =
        let from : (c : Cell) × In c (cells problem) × (c.key ≡ key) × (c.lo ≤ℤ v) × (v ≤ℤ c.hi) =
        found_from (cells problem) values key v p (sym (look key) ∙ e) in
        let P : Key → Type 0 = λ k. IsInDomain problem k.0 v in
        subst P from.2 (in_domain problem from.0 v from.1 (from.3, from.4))

-- the value that a policy gives a key
abbrev given : Policy → Key → ℤ
given policy key = unwrap_or (get policy key) (pos 0)

in_order : (give : Cell → ℤ) (cs : List Cell) → ((c : Cell) → In c cs → (c.lo ≤ℤ give c) × (give c ≤ℤ c.hi)) → IsPoint cs (map give cs)
in_order give [] h = tt
in_order give (c ∷ cs) h =
    let here : (c.lo ≤ℤ give c) × (give c ≤ℤ c.hi) = h c (inl refl) in
    (here.0, here.1, in_order give cs (λ d there. h d (inr there)))

pub policies_are_points : (problem : Problem) (policy : Policy) → IsPolicy problem policy
    → (values : List ℤ) × IsPoint (cells problem) values × (policy ≡ policy_at (cells problem) values)
policies_are_points problem policy p = (values, in_order give (cells problem) domain, same_map key_total key_antisymmetric policy (policy_at (cells problem) values) alike)
  where
    give : Cell → ℤ
    give c = given policy c.key

    values : List ℤ
    values = map give (cells problem)

    domain : (c : Cell) → In c (cells problem) → (c.lo ≤ℤ give c) × (give c ≤ℤ c.hi)
    domain c h =
        let held : (v : ℤ) × (get policy c.key ≡ Some v) = some_of (get policy c.key) ((p.keys c.key).1 (cell_key problem c h)) in
        let same : held.0 ≡ given policy c.key = sym (ap (λ o. unwrap_or o (pos 0)) held.1) in
        let P : Option ℤ → Type 0 = λ o. IfSome o (λ value. IsInDomain problem c.key.0 value) in
        let W : ℤ → Type 0 = λ v. (c.lo ≤ℤ v) × (v ≤ℤ c.hi) in
        subst W same (from_domain problem c held.0 h (subst P held.1 (p.values c.key)))

    look : (q : Key) → get (policy_at (cells problem) values) q ≡ find key_cmp q (zip (keys_of (cells problem)) values)
    look q = value_at (cells problem) values q

    -- where the policy has no value, its point has none
    none_at : (q : Key) → get policy q ≡ None → (o : Option ℤ) → get (policy_at (cells problem) values) q ≡ o → None ≡ o
    none_at q e None g = refl
    none_at q e (Some w) g =
        let from : (c : Cell) × In c (cells problem) × (c.key ≡ q) × (c.lo ≤ℤ w) × (w ≤ℤ c.hi) =
        found_from (cells problem) values q w (in_order give (cells problem) domain) (sym (look q) ∙ g) in
        let P : Key → Type 0 = λ k. IsKey problem k in
        let has : is_some (get policy q) ≡ true = (p.keys q).1 (subst P from.2 (cell_key problem from.0 from.1)) in
        absurd (true≢false (sym has ∙ ap is_some e))

    alike_at : (q : Key) (o : Option ℤ) → get policy q ≡ o → o ≡ get (policy_at (cells problem) values) q
    alike_at q None e = none_at q e (get (policy_at (cells problem) values) q) refl
    alike_at q (Some v) e =
        let same : given policy q ≡ v = ap (λ o. unwrap_or o (pos 0)) e in
        sym (look q ∙ found_given (given policy) (cells problem) q (key_cell problem q ((p.keys q).0 (ap is_some e))) ∙ ap Some same)

    alike : (q : Key) → get policy q ≡ get (policy_at (cells problem) values) q
    alike q = alike_at q (get policy q) refl

pub points_differ : (problem : Problem) (xs ys : List ℤ) → IsPoint (cells problem) xs → IsPoint (cells problem) ys
    → policy_at (cells problem) xs ≡ policy_at (cells problem) ys → xs ≡ ys
points_differ problem xs ys p r e =
    alike_same (cells problem) xs ys (Once-cells problem) p r
    (λ q h. sym (value_at (cells problem) xs q) ∙ ap (λ (m : Policy). get m q) e ∙ value_at (cells problem) ys q)

pub cell_value : (problem : Problem) (values : List ℤ) (i : ℕ) (cell : Cell) (v : ℤ) → slice_get (cells problem) i ≡ Some cell → slice_get values i ≡ Some v
    → get (policy_at (cells problem) values) cell.key ≡ Some v
cell_value problem values i cell v at is =
    value_at (cells problem) values cell.key ∙ found_at (cells problem) values i cell v (Once-cells problem) at is
