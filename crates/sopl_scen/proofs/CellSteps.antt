-- The cells and the bits of decisions, one decision after the other.
use Rattle.std.proofs.Common.{◌≡◌, ◌+◌, ◌*◌, ◌≤◌, ◌<◌, ◌^◌, ◌++◌, ℕ, ℤ, pos, ◌+ℤ◌, List, [], ◌∷◌, length, drop, get_or, unsigned_abs, append_assoc, arith, sym, ap, subst, ◌∙◌}
use Rattle.std.proofs.Math.Nat.{mul-le-mul_right}
use Rattle.std.proofs.lemmas.Int.{ints}
use Rattle.std.proofs.lemmas.List.Sums.{sum_by-cons}
use Rattle.std.specs.List.{AllByRecursion, sum_by}
use Rattle.sopl_base.proofs.Lists.{drop_next}
use Rattle.sopl_ast.specs.Limits.{usual_limits}
use Rattle.sopl_ast.specs.Instances.{Decision}
use Rattle.unfold_laws.specs.Bounds.{IsBoundedDecision}
use Rattle.sopl_scen.specs.declared.stages.Stage.{Stage}
use Rattle.sopl_scen.specs.declared.cells.Place.{Place}
use Rattle.sopl_scen.specs.Stages.{cell_count, bit_count, places_from}

-- the cells that are placed, and the decisions that are left
pub record IsPlaced (stages : List Stage) (most : ℕ) (ds : List Decision) (places : List Place) (total i : ℕ) (left : List Decision) : Type 0 where
  pub placed : places ++ places_from total stages left ≡ places_from 0 stages ds
  pub sum : total + sum_by (cell_count stages) left ≡ sum_by (cell_count stages) ds
  pub few : total ≤ i * most
  pub bounded : AllByRecursion IsBoundedDecision left

next_few : (total i most count : ℕ) → total ≤ i * most → count ≤ most → total + count ≤ (i + 1) * most
next_few total i most count few one = omega (arith, few, one)

placed_more : (stages : List Stage) (most : ℕ) (ds : List Decision) (places : List Place) (total i : ℕ) (d : Decision) (later : List Decision)
    → cell_count stages d ≤ most → IsPlaced stages most ds places total i (d ∷ later)
    → IsPlaced stages most ds (places ++ (record { first = total; stage = d.stage }) ∷ []) (total + cell_count stages d) (i + 1) later
placed_more stages most ds places total i d later one p =
    record {
      placed = append_assoc places ((record { first = total; stage = d.stage }) ∷ []) (places_from (total + cell_count stages d) stages later) ∙ p.placed;
      sum = omega (arith, p.sum, sum_by-cons (cell_count stages) d later);
      few = next_few total i most (cell_count stages d) p.few one;
      bounded = p.bounded.1;
    }

pub placed_next : (stages : List Stage) (most : ℕ) (ds : List Decision) (places now : List Place) (total next i : ℕ) (d : Decision) → i < length ds → d ≡ get_or ds i d
    → cell_count stages d ≤ most → now ≡ places ++ (record { first = total; stage = d.stage }) ∷ [] → next ≡ total + cell_count stages d
    → IsPlaced stages most ds places total i (drop i ds) → IsPlaced stages most ds now next (i + 1) (drop (i + 1) ds)
placed_next stages most ds places now total next i d within is one by up p =
    subst (λ list. IsPlaced stages most ds list next (i + 1) (drop (i + 1) ds)) (sym by)
    (subst (λ n. IsPlaced stages most ds (places ++ (record { first = total; stage = d.stage }) ∷ []) n (i + 1) (drop (i + 1) ds)) (sym up)
    (placed_more stages most ds places total i d (drop (i + 1) ds) one
    (subst (IsPlaced stages most ds places total i) (drop_next ds i d within is) p)))

-- one more decision's cells are few
pub cells_few : (stages : List Stage) (most : ℕ) (ds : List Decision) (places : List Place) (total i : ℕ) (d : Decision) → i < length ds
    → cell_count stages d ≤ most → length ds * most ≤ usual_limits.copies → IsPlaced stages most ds places total i (drop i ds)
    → total + cell_count stages d < 2 ^ 32
cells_few stages most ds places total i d within one few p =
    let more : total + cell_count stages d ≤ (i + 1) * most = next_few total i most (cell_count stages d) p.few one in
    let below : i + 1 ≤ length ds = omega (arith, within) in
    let all : (i + 1) * most ≤ length ds * most = mul-le-mul_right most below in
    omega (arith, more, all, few)

-- the bits that are summed, and the decisions that are left
pub record IsSummed (stages : List Stage) (ds : List Decision) (total : ℤ) (i : ℕ) (left : List Decision) : Type 0 where
  pub sum : total +ℤ pos (sum_by (bit_count stages) left) ≡ pos (sum_by (bit_count stages) ds)
  pub few : unsigned_abs total ≤ 2 ^ 40 * i
  pub bounded : AllByRecursion IsBoundedDecision left

added : (total : ℤ) (b rest whole : ℕ) → total +ℤ pos (b + rest) ≡ pos whole → (total +ℤ pos b) +ℤ pos rest ≡ pos whole
added total b rest whole is = omega (arith, ints, is)

added_few : (total : ℤ) (b i : ℕ) → unsigned_abs total ≤ 2 ^ 40 * i → b ≤ 2 ^ 40 → unsigned_abs (total +ℤ pos b) ≤ 2 ^ 40 * (i + 1)
added_few total b i few one = omega (arith, ints, few, one)

summed_more : (stages : List Stage) (ds : List Decision) (total : ℤ) (i : ℕ) (d : Decision) (later : List Decision) → bit_count stages d ≤ 2 ^ 40
    → IsSummed stages ds total i (d ∷ later) → IsSummed stages ds (total +ℤ pos (bit_count stages d)) (i + 1) later
summed_more stages ds total i d later one s =
    record {
      sum = added total (bit_count stages d) (sum_by (bit_count stages) later) (sum_by (bit_count stages) ds)
          (subst (λ k. total +ℤ pos k ≡ pos (sum_by (bit_count stages) ds)) (sum_by-cons (bit_count stages) d later) s.sum);
      few = added_few total (bit_count stages d) i s.few one;
      bounded = s.bounded.1;
    }

pub summed_next : (stages : List Stage) (ds : List Decision) (total part now : ℤ) (i : ℕ) (d : Decision) → i < length ds → d ≡ get_or ds i d
    → bit_count stages d ≤ 2 ^ 40 → part ≡ pos (bit_count stages d) → now ≡ total +ℤ part
    → IsSummed stages ds total i (drop i ds) → IsSummed stages ds now (i + 1) (drop (i + 1) ds)
summed_next stages ds total part now i d within is one by up s =
    subst (λ z. IsSummed stages ds z (i + 1) (drop (i + 1) ds)) (sym (up ∙ ap (λ z. total +ℤ z) by))
    (summed_more stages ds total i d (drop (i + 1) ds) one (subst (IsSummed stages ds total i) (drop_next ds i d within is) s))

-- the next decision is bounded
pub next_bounded : (ds : List Decision) (i : ℕ) (d : Decision) → i < length ds → d ≡ get_or ds i d → AllByRecursion IsBoundedDecision (drop i ds) → IsBoundedDecision d
next_bounded ds i d within is all = (subst (AllByRecursion IsBoundedDecision) (drop_next ds i d within is) all).0

-- what is summed is small
pub summed_small : (total : ℤ) (i n : ℕ) → unsigned_abs total ≤ 2 ^ 40 * i → i < n → n < 2 ^ 32 → unsigned_abs total ≤ 2 ^ 100
summed_small total i n few within all = omega (arith, few, within, all)
