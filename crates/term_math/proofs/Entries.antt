-- Entries of a tree as the cells of a form.
use Rattle.std.proofs.Common.{◌≡◌, ℕ, ◌+◌, ◌<◌, ◌≤◌, nat_lt, nat_eq, ℤ, pos, ◌+ℤ◌, unsigned_abs, true, false, not, List, [], ◌∷◌, map, Some, None, arith, refl, ap, subst, sym, ◌∙◌, if◌then◌else◌}
use Rattle.std.proofs.lemmas.Bool.Decides.{nat_tests}
use Rattle.std.specs.Option.{unwrap_or}
use Rattle.std.specs.List.{AllByRecursion, filter}
use Rattle.std.specs.List.Sorted.{IsStrictlySortedBy}
use Rattle.std.specs.Ordering.{int_eq, nat_cmp, is_eq, match_ordering}
use Rattle.std.specs.declared.cmp.Ordering.{Ordering}
use Rattle.std.specs.declared.cmp.Ordering.TheVariants.{Less, Equal, Greater}
use Rattle.std.specs.Map.{keys_of, lookup}
use Rattle.std.specs.BTreeMap.{insert_entry, is_at}
use Rattle.sopl_base.proofs.Integers.{zero_plus}
use Rattle.term_language.specs.Forms.{Coefficient, unless_zero, put}
use Rattle.term_language.proofs.FormValues.{by_if, by_bool, equal_numbers}
use Rattle.term_math.specs.Sums.{coefficient_at, is_there, mass, nonzero, wide_cells}

by_ordering : (P : Ordering → Type 0) (o : Ordering) → (o ≡ Less → P Less) → (o ≡ Equal → P Equal) → (o ≡ Greater → P Greater) → P o
by_ordering P Less less equal greater = less refl
by_ordering P Equal less equal greater = equal refl
by_ordering P Greater less equal greater = greater refl

-- all keys are above a cell; keys ascend
abbrev Above : ℕ → List (ℕ × ℤ) → Type 0
Above cell [] = Unit {0}
Above cell (e ∷ es) = (cell < e.0) × Above cell es

abbrev Ascends : List (ℕ × ℤ) → Type 0
Ascends [] = Unit {0}
Ascends (e ∷ es) = Above e.0 es × Ascends es

is_less : (a b : ℕ) → nat_cmp a b ≡ Less → a < b
is_less a b less = grind (arith, nat_tests)

is_equal : (a b : ℕ) → nat_cmp a b ≡ Equal → a ≡ b
is_equal a b equal = grind (arith, nat_tests)

is_greater : (a b : ℕ) → nat_cmp a b ≡ Greater → b < a
is_greater a b greater = grind (arith, nat_tests)

above_from : (cell : ℕ) (es : List (ℕ × ℤ)) → AllByRecursion (λ y. nat_cmp cell y ≡ Less) (keys_of es) → Above cell es
above_from cell [] all = tt
above_from cell (e ∷ es) all = (is_less cell e.0 all.0, above_from cell es all.1)

ascends : (es : List (ℕ × ℤ)) → IsStrictlySortedBy nat_cmp (keys_of es) → Ascends es
unfolding IsStrictlySortedBy
ascends [] sorted = tt
ascends (e ∷ es) sorted = (above_from e.0 es sorted.0, ascends es sorted.1)

above_less : (a b : ℕ) (es : List (ℕ × ℤ)) → a < b → Above b es → Above a es
above_less a b [] less above = tt
above_less a b (e ∷ es) less above = (omega (arith, less, above.0), above_less a b es less above.1)

lookup_above : (cell : ℕ) (es : List (ℕ × ℤ)) → Above cell es → lookup (is_at (nat_cmp cell)) es ≡ None
lookup_above cell [] above = refl
lookup_above cell (e ∷ es) above =
    let less : nat_cmp cell e.0 ≡ Less = grind (arith, nat_tests, above.0) in
    rw less (lookup_above cell es above.1)

put_before : (cell : ℕ) (k : ℤ) (c : Coefficient) (later : List Coefficient) → cell < c.cell → put cell k (c ∷ later) ≡ unless_zero cell k (c ∷ later)
put_before cell k c later less =
    let not_less : nat_lt c.cell cell ≡ false = grind (arith, nat_tests) in
    let not_same : nat_eq c.cell cell ≡ false = grind (arith, nat_tests) in
    rw (not_less, not_same) refl

put_front : (cell : ℕ) (k : ℤ) (es : List (ℕ × ℤ)) → Above cell es → put cell k (nonzero es) ≡ unless_zero cell k (nonzero es)
put_front cell k [] above = refl
put_front cell k (e ∷ es) above =
    by_if (λ cells. put cell k cells ≡ unless_zero cell k cells) (int_eq e.1 (pos 0)) (nonzero es) (record { cell = e.0; k = e.1 } ∷ nonzero es)
    (λ zero. put_front cell k es above.1)
    (λ other. put_before cell k (record { cell = e.0; k = e.1 }) (nonzero es) above.0)

put_behind : (cell : ℕ) (k : ℤ) (d : ℕ) (v : ℤ) (later : List Coefficient) → d < cell → put cell k (unless_zero d v later) ≡ unless_zero d v (put cell k later)
put_behind cell k d v later less =
    let before : nat_lt d cell ≡ true = grind (arith, nat_tests) in
    by_bool (λ zero. put cell k (if zero then later else record { cell = d; k = v } ∷ later) ≡ (if zero then put cell k later else record { cell = d; k = v } ∷ put cell k later)) (int_eq v (pos 0))
    (λ zero. refl) (λ other. rw before refl)

put_here : (cell : ℕ) (k : ℤ) (v : ℤ) (es : List (ℕ × ℤ)) → Above cell es → unless_zero cell (v +ℤ k) (nonzero es) ≡ put cell k (unless_zero cell v (nonzero es))
put_here cell k v es above =
    let not_less : nat_lt cell cell ≡ false = grind (arith, nat_tests) in
    let same : nat_eq cell cell ≡ true = grind (arith, nat_tests) in
    by_if (λ cells. unless_zero cell (v +ℤ k) (nonzero es) ≡ put cell k cells) (int_eq v (pos 0)) (nonzero es) (record { cell = cell; k = v } ∷ nonzero es)
    (λ zero.
    let none : v +ℤ k ≡ k = ap (λ z. z +ℤ k) (equal_numbers v zero) ∙ zero_plus k in
    ap (λ z. unless_zero cell z (nonzero es)) none ∙ sym (put_front cell k es above))
    (λ other. rw (not_less, same) refl)

-- a cell more in the tree is a cell more in the form
put_entry_by : (cell : ℕ) (k : ℤ) (es : List (ℕ × ℤ)) → Ascends es → nonzero (insert_entry nat_cmp es cell (unwrap_or (lookup (is_at (nat_cmp cell)) es) (pos 0) +ℤ k)) ≡ put cell k (nonzero es)
put_entry_by cell k [] asc = ap (λ z. unless_zero cell z []) (zero_plus k)
put_entry_by cell k (e ∷ es) asc =
    by_ordering (λ o. nonzero (match_ordering o ((cell, unwrap_or (if is_eq o then Some e.1 else lookup (is_at (nat_cmp cell)) es) (pos 0) +ℤ k) ∷ e ∷ es)
    ((e.0, unwrap_or (if is_eq o then Some e.1 else lookup (is_at (nat_cmp cell)) es) (pos 0) +ℤ k) ∷ es)
    (e ∷ insert_entry nat_cmp es cell (unwrap_or (if is_eq o then Some e.1 else lookup (is_at (nat_cmp cell)) es) (pos 0) +ℤ k))) ≡ put cell k (nonzero (e ∷ es)))
    (nat_cmp cell e.0)
    (λ less.
    let before = is_less cell e.0 less in
    let above = above_less cell e.0 es before asc.0 in
    let none = ap (λ o. unwrap_or o (pos 0) +ℤ k) (lookup_above cell es above) ∙ zero_plus k in
    ap (λ z. unless_zero cell z (nonzero (e ∷ es))) none ∙ sym (put_front cell k (e ∷ es) (before, above)))
    (λ equal.
    let same : cell ≡ e.0 = is_equal cell e.0 equal in
    subst (λ (n : ℕ). unless_zero e.0 (e.1 +ℤ k) (nonzero es) ≡ put n k (unless_zero e.0 e.1 (nonzero es))) (sym same) (put_here e.0 k e.1 es asc.0))
    (λ greater. ap (unless_zero e.0 e.1) (put_entry_by cell k es asc.1) ∙ sym (put_behind cell k e.0 e.1 (nonzero es) (is_greater cell e.0 greater)))

pub put_entry : (cell : ℕ) (k : ℤ) (es : List (ℕ × ℤ)) → IsStrictlySortedBy nat_cmp (keys_of es) → nonzero (insert_entry nat_cmp es cell (unwrap_or (lookup (is_at (nat_cmp cell)) es) (pos 0) +ℤ k))
    ≡ put cell k (nonzero es)
put_entry cell k es sorted = put_entry_by cell k es (ascends es sorted)

-- no number in the tree is larger than all of them
unless_zero_mass : (cell : ℕ) (k : ℤ) (later : List Coefficient) → mass (unless_zero cell k later) ≡ unsigned_abs k + mass later
unless_zero_mass cell k later =
    by_if (λ cells. mass cells ≡ unsigned_abs k + mass later) (int_eq k (pos 0)) later (record { cell = cell; k = k } ∷ later)
    (λ zero. let none = ap (λ (z : ℤ). unsigned_abs z) (equal_numbers k zero) in omega (arith, none))
    (λ other. omega arith)

pub value_mass : (cell : ℕ) (es : List (ℕ × ℤ)) → unsigned_abs (unwrap_or (lookup (is_at (nat_cmp cell)) es) (pos 0)) ≤ mass (nonzero es)
value_mass cell [] = omega arith
value_mass cell (e ∷ es) =
    by_bool (λ here. unsigned_abs (unwrap_or (if here then Some e.1 else lookup (is_at (nat_cmp cell)) es) (pos 0)) ≤ mass (nonzero (e ∷ es))) (is_at (nat_cmp cell) e.0)
    (λ here. omega (arith, unless_zero_mass e.0 e.1 (nonzero es)))
    (λ other. omega (arith, unless_zero_mass e.0 e.1 (nonzero es), value_mass cell es))

pub nonzero_entries : (es : List (ℕ × ℤ)) → wide_cells (map coefficient_at (filter is_there es)) ≡ nonzero es
nonzero_entries [] = refl
nonzero_entries (e ∷ es) =
    by_bool (λ zero. wide_cells (map coefficient_at (if not zero then e ∷ filter is_there es else filter is_there es)) ≡ (if zero then nonzero es else record { cell = e.0; k = e.1 } ∷ nonzero es))
    (int_eq e.1 (pos 0))
    (λ zero. nonzero_entries es) (λ other. ap (λ cells. record { cell = e.0; k = e.1 } ∷ cells) (nonzero_entries es))
