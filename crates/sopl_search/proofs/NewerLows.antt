-- Under one seat the low side of a split is searched before the high one.
use Rattle.std.proofs.Common.{◌≡◌, ◌⊎◌, inl, inr, ℕ, zero, suc, ◌<◌, ◌≤◌, ℤ, true, List, [], ◌∷◌, ◌++◌, length, Option, Some, None, arith, refl, sym, ap, subst, ◌∙◌}
use Rattle.std.proofs.lemmas.Bool.{cases_eq, cases_lt}
use Rattle.std.proofs.lemmas.List.{append-nil, length-append}
use Rattle.sopl_base.specs.declared.reason.Side.TheVariants.{Le, Ge}
use Rattle.brancher.specs.declared.choice.Choice.{Choice}
use Rattle.brancher.specs.Picks.{IsPicked}
use Rattle.brancher.specs.Rules.{Rule, lower, widest, free}
use Rattle.log_rows.specs.declared.rows.Parent.{Parent}
use Rattle.log_rows.specs.declared.rows.Row.{Row}
use Rattle.log_rows.specs.Made.{Pending}
use Rattle.log_rows.specs.Rows.{row_at}
use Rattle.log_rows.proofs.Growing.{not_both_sides, side_in, some_side}
use Rattle.log_rows.proofs.Places.{row_last, row_stays}
use Rattle.open_nodes.specs.declared.seats.OpenNode.{OpenNode}
use Rattle.open_nodes.specs.Takes.{Gives, Takes, all_nodes, seat_nodes}
use Rattle.sopl_search.specs.Frontiers.{HasLowNode, HasLowRow, LowsAreNewer}
use Rattle.sopl_search.specs.Logged.{HasLowBefore, IsLowFirst, LowStandsFirst}

-- what is picked has the low half searched first, where that is so by the rule
pub picked_low_first : (asked : Option Rule) (depth : ℕ) (lows highs : List ℤ) (choice : Choice) → IsLowFirst asked → IsPicked asked depth lows highs (Some choice) → choice.low_first ≡ true
picked_low_first None depth lows highs choice first picked = (picked.without refl).low_first
picked_low_first (Some lower) depth lows highs choice first picked =
    elim (cases_lt depth 512) [
      | inl less ↦ (picked.by_rule less).low_first
      | inr more ↦ (picked.deep more).low_first
    ]
picked_low_first (Some widest) depth lows highs choice first picked =
    elim (cases_lt depth 512) [
      | inl less ↦ (picked.by_rule less).low_first
      | inr more ↦ (picked.deep more).low_first
    ]
picked_low_first (Some free) depth lows highs choice first picked = absurd first

-- the newest node of the one seat is taken
pub last_taken : (old new : List (List OpenNode)) (seat : ℕ) (x : OpenNode) → length old ≡ 1 → seat < length old → Takes old new seat x → all_nodes old ≡ all_nodes new ++ x ∷ []
last_taken [] new seat x one exists takes = absurd (omega (arith, one))
last_taken (xs ∷ ys ∷ lists) new seat x one exists takes = absurd (omega (arith, one))
last_taken (xs ∷ []) new (suc seat) x one exists takes = absurd (omega (arith, exists))
last_taken (xs ∷ []) new zero x one exists takes = elim takes [
  | inl own ↦ append-nil xs
      ∙ (own.before
      ∙ sym (ap (λ (lists : List (List OpenNode)). all_nodes lists ++ x ∷ []) own.after ∙ ap (λ (l : List OpenNode). l ++ x ∷ []) (append-nil own.others)))
  | inr stolen ↦ absurd (none_stolen stolen.1.from stolen.1.others stolen.1.exists stolen.0 stolen.1.before)
]
  where
    none_stolen : (from : ℕ) (others : List OpenNode) → from < 1 → xs ≡ [] → seat_nodes (xs ∷ []) from ≡ x ∷ others → ⊥
    none_stolen zero others less none is = omega (arith, ap length none, ap length is)
    none_stolen (suc from) others less none is = absurd (omega (arith, less))

-- and the two sides become its newest ones
pub last_given : (old new : List (List OpenNode)) (seat : ℕ) (x y : OpenNode) → length old ≡ 1 → Gives old new seat x y → all_nodes new ≡ all_nodes old ++ x ∷ y ∷ []
last_given [] new seat x y one gives = absurd (omega (arith, one))
last_given (xs ∷ ys ∷ lists) new seat x y one gives = absurd (omega (arith, one))
last_given (xs ∷ []) new (suc seat) x y one gives = absurd (omega (arith, gives.exists))
last_given (xs ∷ []) new zero x y one gives =
    ap all_nodes gives.after ∙ (append-nil (xs ++ x ∷ y ∷ []) ∙ sym (ap (λ (l : List OpenNode). l ++ x ∷ y ∷ []) (append-nil xs)))

-- where the newest node is a high side, the low one is a row
newest_high : (rows : List Row) (nodes : List Pending) (x : Pending) (n : ℕ) → LowsAreNewer rows (nodes ++ x ∷ []) → x.parent ≡ some_side n Ge → HasLowRow rows n
newest_high rows [] x n are is = elim (are.0 n is) [
  | inl row ↦ row
  | inr none ↦ absurd none
]
newest_high rows (y ∷ nodes) x n are is = newest_high rows nodes x n are.1 is

low_before : (xs ys : List Row) (i n : ℕ) → i ≤ length xs → HasLowBefore xs i n → HasLowBefore (xs ++ ys) i n
low_before xs ys i n fits low = record {
  row = low.row;
  before = low.before;
  parent = ap (λ (r : Row). r.parent) (row_stays xs ys low.row (omega (arith, low.before, fits))) ∙ low.parent;
}

low_behind : (xs ys : List Row) (i n : ℕ) → i ≡ length xs → HasLowRow xs n → HasLowBefore (xs ++ ys) i n
low_behind xs ys i n is low = record {
  row = low.row;
  before = omega (arith, is, low.exists);
  parent = ap (λ (r : Row). r.parent) (row_stays xs ys low.row low.exists) ∙ low.parent;
}

-- so the low side stands first, too, with the row of that node
pub low_stands_first : (rows : List Row) (row : Row) (nodes : List Pending) (x : Pending) → row.parent ≡ x.parent → LowsAreNewer rows (nodes ++ x ∷ []) → LowStandsFirst rows
    → LowStandsFirst (rows ++ row ∷ [])
low_stands_first rows row nodes x same newer first i n exists is =
    elim (cases_eq i (length rows)) [
      | inl last ↦ low_behind rows (row ∷ []) i n last
          (newest_high rows nodes x n newer
          (sym same ∙ (sym (ap (λ (r : Row). r.parent) (row_last rows row [])) ∙ subst (λ (k : ℕ). (row_at (rows ++ row ∷ []) k).parent ≡ some_side n Ge) last is)))
      | inr other ↦
          let old : i < length rows = omega (arith, length-append rows (row ∷ []), exists, other) in
          low_before rows (row ∷ []) i n (omega (arith, old))
          (first i n old (sym (ap (λ (r : Row). r.parent) (row_stays rows (row ∷ []) i old)) ∙ is))
    ]

-- the others, one row later
row_more : (xs ys : List Row) (n : ℕ) → HasLowRow xs n → HasLowRow (xs ++ ys) n
row_more xs ys n low = record {
  row = low.row;
  exists = omega (arith, low.exists, length-append xs ys);
  parent = ap (λ (r : Row). r.parent) (row_stays xs ys low.row low.exists) ∙ low.parent;
}

low_still : (rows : List Row) (row : Row) (nodes : List Pending) (x : Pending) (n : ℕ) → row.parent ≡ x.parent → HasLowNode (nodes ++ x ∷ []) n
    → HasLowRow (rows ++ row ∷ []) n ⊎ HasLowNode nodes n
low_still rows row [] x n same has = elim has [
  | inl is ↦ inl (record {
    row = length rows;
    exists = omega (arith, length-append rows (row ∷ []));
    parent = ap (λ (r : Row). r.parent) (row_last rows row []) ∙ (same ∙ is);
  })
  | inr none ↦ absurd none
]
low_still rows row (y ∷ nodes) x n same has = elim has [
  | inl is ↦ inr (inl is)
  | inr later ↦ elim (low_still rows row nodes x n same later) [
    | inl low ↦ inl low
    | inr waits ↦ inr (inr waits)
  ]
]

pub lows_after_row : (rows : List Row) (row : Row) (nodes : List Pending) (x : Pending) → row.parent ≡ x.parent → LowsAreNewer rows (nodes ++ x ∷ []) → LowsAreNewer (rows ++ row ∷ []) nodes
lows_after_row rows row [] x same are = tt
lows_after_row rows row (y ∷ nodes) x same are = (
  λ n is. elim (are.0 n is) [
    | inl low ↦ inl (row_more rows (row ∷ []) n low)
    | inr waits ↦ low_still rows row nodes x n same waits
  ],
  lows_after_row rows row nodes x same are.1,
)

-- and with the two sides of that row
low_among : (nodes more : List Pending) (n : ℕ) → HasLowNode nodes n → HasLowNode (nodes ++ more) n
low_among [] more n has = absurd has
low_among (y ∷ nodes) more n has = elim has [
  | inl is ↦ inl is
  | inr later ↦ inr (low_among nodes more n later)
]

abbrev number_in : Option Parent → ℕ
number_in None = 0
number_in (Some parent) = parent.node

pub lows_with_sides : (rows : List Row) (nodes : List Pending) (m : ℕ) (high low : Pending) → high.parent ≡ some_side m Ge → low.parent ≡ some_side m Le → LowsAreNewer rows nodes
    → LowsAreNewer rows (nodes ++ high ∷ low ∷ [])
lows_with_sides rows [] m high low high_is low_is are = (
  λ n is. inr (inl (low_is ∙ ap (λ (k : ℕ). some_side k Le) (ap number_in (sym high_is ∙ is)))),
  (λ n is. absurd (not_both_sides (ap side_in (sym is ∙ low_is))), tt),
)
lows_with_sides rows (y ∷ nodes) m high low high_is low_is are = (
  λ n is. elim (are.0 n is) [
    | inl row ↦ inl row
    | inr waits ↦ inr (low_among nodes (high ∷ low ∷ []) n waits)
  ],
  lows_with_sides rows nodes m high low high_is low_is are.1,
)
