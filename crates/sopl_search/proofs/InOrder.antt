-- Open nodes by their parents.
use Rattle.std.proofs.Common.{◌≡◌, ◌≢◌, ◌⊎◌, inl, inr, ℕ, ◌+◌, ◌*◌, ◌<◌, ◌≤◌, ℤ, List, length, get_or, swap, Option, Some, None, AllPairs, IsPermutation, arith, refl, sym, ap, ◌∙◌}
use Rattle.std.specs.List.Sorted.{IsNonDecreasingBy}
use Rattle.std.proofs.lemmas.Bool.{cases_eq}
use Rattle.std.proofs.lemmas.List.{get_or-map, length-map}
use Rattle.std.proofs.lemmas.List.Edits.{Swapped, swapped_from_swap, length-swap}
use Rattle.std.proofs.lemmas.List.Elements.{Contains-get_or}
use Rattle.std.proofs.lemmas.List.Sorted.{IsPermutation-keeps}
use Rattle.sopl_base.specs.declared.reason.Side.{Side}
use Rattle.sopl_base.specs.declared.reason.Side.TheVariants.{Le, Ge}
use Rattle.box_problem.specs.BoxProblem.{BoxProblem}
use Rattle.log_rows.specs.declared.rows.Parent.{Parent}
use Rattle.log_rows.specs.declared.rows.Row.{Row}
use Rattle.log_rows.specs.Made.{Logs, Pending, pending_at}
use Rattle.log_rows.specs.Rows.{Hangs}
use Rattle.log_rows.proofs.Lists.{AreApart}
use Rattle.open_nodes.specs.declared.seats.OpenNode.{OpenNode}
use Rattle.open_nodes.specs.declared.split.SplitNode.{SplitNode}
use Rattle.open_nodes.specs.Ways.{given_parent}
use Rattle.sopl_search.specs.Frontiers.{pendings, root_open}
use Rattle.sopl_search.specs.Lines.{order_key, pending_of, side_key, split_above, split_key}
use Rattle.sopl_search.specs.Logged.{StandsBefore}

-- no two are equal, in any order
either_way : {X : Type 0} (xs : List X) → AreApart xs → (i j : ℕ) (d : X) → i < length xs → j < length xs → get_or xs i d ≡ get_or xs j d → i ≡ j
either_way xs apart i j d here there same =
    let not_below : ¬ i < j = λ less. apart i j d less there same in
    let not_above : ¬ j < i = λ less. apart j i d less here (sym same) in
    omega (arith, not_below, not_above)

abbrev From : ℕ → ℕ → ℕ → ℕ → Type 0
From a b m k = ((m ≡ a) × (k ≡ b)) ⊎ (((m ≡ b) × (k ≡ a)) ⊎ ((m ≢ a) × (m ≢ b) × (k ≡ m)))

origin : {X : Type 0} (f g : ℕ → X) (a b m : ℕ) → Swapped f g a b → (m ≡ a) ⊎ (m ≢ a) → (m ≡ b) ⊎ (m ≢ b) → (k : ℕ) × From a b m k × (g m ≡ f k)
origin f g a b m s (inl e) y = (b, inl (e, refl), ap g e ∙ s.0)
origin f g a b m s (inr n) (inl e) = (a, inr (inl (e, refl)), ap g e ∙ s.1)
origin f g a b m s (inr n) (inr o) = (m, inr (inr (n, o, refl)), s.2 m n o)

apart_swapped : {X : Type 0} (xs : List X) (a b : ℕ) → a < length xs → b < length xs → AreApart xs → AreApart (swap xs a b)
apart_swapped xs a b p q apart i j d less within same =
    let long = length-swap xs a b in
    let s = swapped_from_swap xs (swap xs a b) a b d p q refl in
    let x = origin _ _ a b i s (cases_eq i a) (cases_eq i b) in
    let y = origin _ _ a b j s (cases_eq j a) (cases_eq j b) in
    let is = either_way xs apart x.0 y.0 d (omega (arith, x.1)) (omega (arith, y.1)) (sym x.2 ∙ same ∙ y.2) in
    omega (arith, x.1, y.1)

pub apart_shuffled : {X : Type 0} (xs ys : List X) → IsPermutation xs ys → AreApart xs → AreApart ys
apart_shuffled xs ys moved apart = IsPermutation-keeps xs AreApart apart apart_swapped ys moved

-- the number of a parent by which nodes are sorted
abbrev parent_key : Option Parent → ℕ
parent_key None = 0
parent_key (Some p) = 2 * p.node + side_key p.side

key_is : (side : Side) (above : Option SplitNode) → parent_key (given_parent side above) ≡ split_key side above
key_is side None = refl
key_is side (Some split) = refl

same_parent : (p q : Parent) → p.node ≡ q.node → p.side ≡ q.side → Some p ≡ Some q
same_parent p q same side = ap (λ (n : ℕ). Some (record { node = n; side = p.side })) same ∙ ap (λ (s : Side). Some (record { node = q.node; side = s })) side

-- of two sides that are not the same the one with the lower number stands before
sides_before : (p q : Parent) (s t : Side) → p.side ≡ s → q.side ≡ t → ¬ Some p ≡ Some q → 2 * p.node + side_key s ≤ 2 * q.node + side_key t
    → (p.node < q.node) ⊎ ((p.node ≡ q.node) × (p.side ≡ Le) × (q.side ≡ Ge))
sides_before p q Le Le first second differs below =
    elim (cases_eq p.node q.node) [
      | inl same ↦ absurd (differs (same_parent p q same (first ∙ sym second)))
      | inr other ↦ inl (omega (arith, below, other))
    ]
sides_before p q Le Ge first second differs below =
    elim (cases_eq p.node q.node) [
      | inl same ↦ inr (same, first, second)
      | inr other ↦ inl (omega (arith, below, other))
    ]
sides_before p q Ge Le first second differs below = inl (omega (arith, below))
sides_before p q Ge Ge first second differs below =
    elim (cases_eq p.node q.node) [
      | inl same ↦ absurd (differs (same_parent p q same (first ∙ sym second)))
      | inr other ↦ inl (omega (arith, below, other))
    ]

stands_before : (rows : List Row) (p q : Option Parent) → Hangs rows (length rows) p → Hangs rows (length rows) q → ¬ p ≡ q → parent_key p ≤ parent_key q → StandsBefore p q
stands_before rows None None first second differs below = absurd (differs refl)
stands_before rows None (Some q) first second differs below = tt
stands_before rows (Some p) None first second differs below = absurd (omega (arith, first.earlier, second))
stands_before rows (Some p) (Some q) first second differs below = sides_before p q p.side q.side refl refl differs below

-- open nodes that are sorted stand by their parents
pub in_order : (problem : BoxProblem) (rows : List Row) (best : Option ℤ) (nodes : List OpenNode) → Logs problem rows (pendings problem.root nodes) best → IsNonDecreasingBy order_key nodes
    → AllPairs (λ (x y : Pending). StandsBefore x.parent y.parent) (pendings problem.root nodes)
in_order problem rows best nodes logs sorted i j d before exists =
    let see = pending_of problem.root in
    let opens = pendings problem.root nodes in
    let there : j < length nodes = omega (arith, exists, length-map nodes see) in
    let here : i < length nodes = omega (arith, before, there) in
    let x = get_or opens i d in
    let y = get_or opens j d in
    let a = get_or nodes i root_open in
    let b = get_or nodes j root_open in
    let x_placed = logs.placed x (Contains-get_or opens i d (omega (arith, before, exists))) in
    let y_placed = logs.placed y (Contains-get_or opens j d exists) in
    let differs : ¬ x.parent ≡ y.parent = λ same. logs.distinct i j d before exists (x_placed.1 ∙ (ap (pending_at problem.root rows) same ∙ sym y_placed.1)) in
    let x_key : parent_key x.parent ≡ order_key a = ap (λ (z : Pending). parent_key z.parent) (get_or-map see nodes i root_open d here) ∙ key_is a.side (split_above a) in
    let y_key : parent_key y.parent ≡ order_key b = ap (λ (z : Pending). parent_key z.parent) (get_or-map see nodes j root_open d there) ∙ key_is b.side (split_above b) in
    let sorted_so : order_key a ≤ order_key b = sorted i j root_open (omega (arith, before)) there in
    stands_before rows x.parent y.parent x_placed.0 y_placed.0 differs (omega (arith, x_key, y_key, sorted_so))
