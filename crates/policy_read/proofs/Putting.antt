-- Values that are put at the numbers of their cells, where all are those of a point.
use native.Mathlib.Omega.{arith}
use Rattle.std.proofs.Common.{◌≡◌, ◌∙◌, ◌<◌, ℕ, zero, suc, ℤ, pos, ◌≤ℤ◌, List, [], ◌∷◌, map, set, length, get_or, false, ◌||◌, if◌then◌else◌, int_lt, Some, None, refl, sym, ap, subst, slice_get}
use Rattle.std.proofs.lemmas.Int.{ints}
use Rattle.std.specs.List.{AllByRecursion}
use Rattle.std.specs.Option.{option_map_or}
use Rattle.sopl_ast.specs.Cells.{Cell, IsPoint}
use Rattle.policy_read.specs.declared.entry.Told.{Told}
use Rattle.sopl_scen.specs.Domains.{cell_ends}
use Rattle.policy_read.specs.Domains.{first_outside, low_in}
use Rattle.policy_read.specs.Policies.{put_all_at, put_at}
use Rattle.policy_read.proofs.Apart.{put_long}

-- a value is put where another list has it: what was the same stays so, and it is the same there
put_same : (xs vs : List ℤ) (c i : ℕ) → get_or xs i (pos 0) ≡ get_or vs i (pos 0) → get_or (set xs c (get_or vs c (pos 0))) i (pos 0) ≡ get_or vs i (pos 0)
put_same [] vs c i is = is
put_same (x ∷ xs) [] zero zero is = refl
put_same (x ∷ xs) [] zero (suc i) is = is
put_same (x ∷ xs) [] (suc c) zero is = is
put_same (x ∷ xs) [] (suc c) (suc i) is = put_same xs [] c i is
put_same (x ∷ xs) (v ∷ vs) zero zero is = refl
put_same (x ∷ xs) (v ∷ vs) zero (suc i) is = is
put_same (x ∷ xs) (v ∷ vs) (suc c) zero is = is
put_same (x ∷ xs) (v ∷ vs) (suc c) (suc i) is = put_same xs vs c i is

put_there : (xs vs : List ℤ) (c : ℕ) → c < length xs → get_or (set xs c (get_or vs c (pos 0))) c (pos 0) ≡ get_or vs c (pos 0)
put_there [] vs c below = absurd (omega (arith, below))
put_there (x ∷ xs) vs zero below = refl
put_there (x ∷ xs) [] (suc c) below = put_there xs [] c (omega (arith, below))
put_there (x ∷ xs) (v ∷ vs) (suc c) below = put_there xs vs c (omega (arith, below))

put_point : (cs : List Cell) (xs vs : List ℤ) (c : ℕ) → IsPoint cs xs → IsPoint cs vs → IsPoint cs (set xs c (get_or vs c (pos 0)))
put_point [] [] vs c one two = tt
put_point [] (x ∷ xs) vs c one two = absurd one
put_point (d ∷ cs) [] vs c one two = absurd one
put_point (d ∷ cs) (x ∷ xs) [] c one two = absurd two
put_point (d ∷ cs) (x ∷ xs) (v ∷ vs) zero one two = (two.0, two.1, one.2)
put_point (d ∷ cs) (x ∷ xs) (v ∷ vs) (suc c) one two = (one.0, one.1, put_point cs xs vs c one.2 two.2)

within : (lo hi v : ℤ) → lo ≤ℤ v → v ≤ℤ hi → (int_lt v lo || int_lt hi v) ≡ false
within lo hi v low high = search (arith, ints)

inside : (cs : List Cell) (vs : List ℤ) (c : ℕ) → IsPoint cs vs
    → option_map_or (λ (d : ℤ × ℤ). int_lt (get_or vs c (pos 0)) d.0 || int_lt d.1 (get_or vs c (pos 0))) (slice_get (map cell_ends cs) c) false ≡ false
inside [] vs c point = refl
inside (d ∷ cs) [] c point = absurd point
inside (d ∷ cs) (v ∷ vs) zero point = within d.lo d.hi v point.0 point.1
inside (d ∷ cs) (v ∷ vs) (suc c) point = inside cs vs c point.2

module _ (vs : List ℤ) where
  -- a value that is told is that of the point
  abbrev pub IsOf : Told → Type 0
  IsOf t = (t.cell < length vs) × (t.value ≡ get_or vs t.cell (pos 0))

  pub all_same : (ts : List Told) (xs : List ℤ) (i : ℕ) → AllByRecursion IsOf ts → get_or xs i (pos 0) ≡ get_or vs i (pos 0)
      → get_or (put_all_at ts xs) i (pos 0) ≡ get_or vs i (pos 0)
  all_same [] xs i all is = is
  all_same (t ∷ ts) xs i all is =
      let Keeps : ℤ → Type 0 = λ v. get_or (set xs t.cell v) i (pos 0) ≡ get_or vs i (pos 0) in
      all_same ts (put_at t xs) i all.1 (subst Keeps (sym all.0.1) (put_same xs vs t.cell i is))

  pub all_there : (ts : List Told) (xs : List ℤ) → length xs ≡ length vs → AllByRecursion IsOf ts
      → AllByRecursion (λ (t : Told). get_or (put_all_at ts xs) t.cell (pos 0) ≡ get_or vs t.cell (pos 0)) ts
  all_there [] xs long all = tt
  all_there (t ∷ ts) xs long all =
      let Keeps : ℤ → Type 0 = λ v. get_or (set xs t.cell v) t.cell (pos 0) ≡ get_or vs t.cell (pos 0) in (
        all_same ts (put_at t xs) t.cell all.1 (subst Keeps (sym all.0.1) (put_there xs vs t.cell (subst (λ n. t.cell < n) (sym long) all.0.0))),
        all_there ts (put_at t xs) (put_long xs t.cell t.value ∙ long) all.1,
      )

  module _ (cs : List Cell) (point : IsPoint cs vs) where
    pub all_point : (ts : List Told) (xs : List ℤ) → AllByRecursion IsOf ts → IsPoint cs xs → IsPoint cs (put_all_at ts xs)
    all_point [] xs all is = is
    all_point (t ∷ ts) xs all is =
        let Lies : ℤ → Type 0 = λ v. IsPoint cs (set xs t.cell v) in
        all_point ts (put_at t xs) all.1 (subst Lies (sym all.0.1) (put_point cs xs vs t.cell is point))

    pub none_outside : (ts : List Told) → AllByRecursion IsOf ts → first_outside (map cell_ends cs) ts ≡ None
    none_outside [] all = refl
    none_outside (t ∷ ts) all =
        let Inside : ℤ → Type 0 = λ v. option_map_or (λ (d : ℤ × ℤ). int_lt v d.0 || int_lt d.1 v) (slice_get (map cell_ends cs) t.cell) false ≡ false in
        ap (λ b. if b then Some t.cell else first_outside (map cell_ends cs) ts) (subst Inside (sym all.0.1) (inside cs vs t.cell point)) ∙ none_outside ts all.1

-- the least values make a point
pub lows_lie : (cs : List Cell) (vs : List ℤ) → IsPoint cs vs → IsPoint cs (map low_in (map cell_ends cs))
lows_lie [] vs point = tt
lows_lie (c ∷ cs) [] point = absurd point
lows_lie (c ∷ cs) (v ∷ vs) point = (omega (arith, ints), omega (arith, ints, point.0, point.1), lows_lie cs vs point.2)
