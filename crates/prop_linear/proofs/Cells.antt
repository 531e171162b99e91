-- The sum over the cells of a form, where one cell has another interval.
use Rattle.std.proofs.Common.{◌≡◌, ◌⊎◌, inl, inr, ℕ, zero, suc, ◌*◌, ◌<◌, ◌≤◌, ℤ, pos, ◌+ℤ◌, unsigned_abs, List, [], ◌∷◌, length, get_or, arith, ap, refl, sym, subst, ◌∙◌}
use Rattle.std.specs.List.{Contains}
use Rattle.std.proofs.lemmas.Bool.{cases_eq}
use Rattle.std.proofs.lemmas.Int.{ints}
use Rattle.std.proofs.lemmas.List.{get_or-set_other, get_or-set_same}
use Rattle.box_problem.specs.Box.{Box, IsBox, high, low}
use Rattle.term_language.specs.Ends as rule
use Rattle.term_language.specs.Forms.{cells_ends}
use Rattle.term_language.specs.Sizes.{cells_weight, weight_of}
use Rattle.term_program.specs.Programs.{with_interval}
use Rattle.term_math.specs.declared.forms.Coefficient.{Coefficient}
use Rattle.term_math.specs.Shown.{cells_of}
use Rattle.prop_linear.specs.Balances.{AreAbove, Ascend}

-- an element is the first one or a later one
pub record IsFirst (x y : Coefficient) : Type 0 where
  pub same : x ≡ y

pub first_or_later : (x : Coefficient) (later : List Coefficient) (c : Coefficient) → Contains (x ∷ later) c → (x ≡ c) ⊎ Contains later c
first_or_later x later c own =
    by_place own.0 own.1 own.2
  where
    by_place : (k : ℕ) → k < length (x ∷ later) → get_or (x ∷ later) k c ≡ c → (x ≡ c) ⊎ Contains later c
    by_place zero exists is = inl is
    by_place (suc k) exists is = inr (k, omega (arith, exists), is)

pub later_too : (x : Coefficient) (later : List Coefficient) (c : Coefficient) → Contains later c → Contains (x ∷ later) c
later_too x later c own = (suc own.0, omega (arith, own.1), own.2)

pub none_there : (c : Coefficient) → Contains [] c → ⊥
none_there c own = absurd (omega (arith, own.1))

-- a later cell is above the first one
pub above_all : (cell : ℕ) (parts : List Coefficient) (c : Coefficient) → AreAbove cell parts → Contains parts c → cell < c.cell
above_all cell [] c above own = absurd (none_there c own)
above_all cell (x ∷ later) c above own =
    elim (first_or_later x later c own) [
      | inl same ↦ subst (λ (y : Coefficient). cell < y.cell) same above.0
      | inr there ↦ above_all cell later c above.1 there
    ]

-- boxes that give the cells the same intervals give the same sum
pub same_cells : (b d : Box) (parts : List Coefficient) → ((c : Coefficient) → Contains parts c → rule.cell_ends d c.cell ≡ rule.cell_ends b c.cell) → cells_ends d (cells_of parts)
    ≡ cells_ends b (cells_of parts)
same_cells b d [] each = refl
same_cells b d (x ∷ later) each =
    ap (λ (a : rule.Ends). rule.plus (rule.scaled x.k a) (cells_ends d (cells_of later))) (each x (0, omega arith, refl))
    ∙ ap (λ (a : rule.Ends). rule.plus (rule.scaled x.k (rule.cell_ends b x.cell)) a) (same_cells b d later (λ c own. each c (later_too x later c own)))

-- the interval of another cell, and of this one
pub other_ends : (b : Box) (cell n : ℕ) (lo hi : ℤ) → ¬ n ≡ cell → rule.cell_ends (with_interval b cell lo hi) n ≡ rule.cell_ends b n
other_ends b cell n lo hi other =
    ap (λ (z : ℤ). rule.ends z (high (with_interval b cell lo hi) n)) (get_or-set_other b.lows cell n lo (pos 0) other)
    ∙ ap (λ (z : ℤ). rule.ends (low b n) z) (get_or-set_other b.highs cell n hi (pos 0) other)

pub own_ends : (b : Box) (cell : ℕ) (lo hi : ℤ) → IsBox b → cell < length b.lows → rule.cell_ends (with_interval b cell lo hi) cell ≡ rule.ends lo hi
own_ends b cell lo hi is_box exists =
    ap (λ (z : ℤ). rule.ends z (high (with_interval b cell lo hi) cell)) (get_or-set_same b.lows cell lo (pos 0) exists)
    ∙ ap (λ (z : ℤ). rule.ends lo z) (get_or-set_same b.highs cell hi (pos 0) (omega (arith, exists, is_box.paired)))

-- with another interval for one cell, the sum is the sum without that cell's part and with the new part
pub record IsMoved (before after old new : rule.Ends) : Type 0 where
  pub low : after.low +ℤ old.low ≡ before.low +ℤ new.low
  pub high : after.high +ℤ old.high ≡ before.high +ℤ new.high

moved_first : (old new rest others : rule.Ends) → others ≡ rest → IsMoved (rule.plus old rest) (rule.plus new others) old new
moved_first old new rest others same =
    let low = ap (λ (a : rule.Ends). a.low) same in
    let high = ap (λ (a : rule.Ends). a.high) same in
    record { low = omega (arith, ints, low); high = omega (arith, ints, high) }

moved_later : (first again before after old new : rule.Ends) → again ≡ first → IsMoved before after old new → IsMoved (rule.plus first before) (rule.plus again after) old new
moved_later first again before after old new same moved =
    let low = ap (λ (a : rule.Ends). a.low) same in
    let high = ap (λ (a : rule.Ends). a.high) same in
    record { low = omega (arith, ints, low, moved.low); high = omega (arith, ints, high, moved.high) }

pub one_cell : (b : Box) (parts : List Coefficient) (c : Coefficient) (lo hi : ℤ) → IsBox b → Ascend parts → Contains parts c → c.cell < length b.lows
    → IsMoved (cells_ends b (cells_of parts)) (cells_ends (with_interval b c.cell lo hi) (cells_of parts)) (rule.scaled c.k (rule.cell_ends b c.cell)) (rule.scaled c.k (rule.ends lo hi))
one_cell b [] c lo hi is_box ascend own exists = absurd (none_there c own)
one_cell b (x ∷ later) c lo hi is_box ascend own exists =
    let d = with_interval b c.cell lo hi in
    elim (first_or_later x later c own) [
      | inl same ↦
          let rest : cells_ends d (cells_of later) ≡ cells_ends b (cells_of later) =
          same_cells b d later (λ y there. other_ends b c.cell y.cell lo hi
          (let above = above_all x.cell later y ascend.0 there in let here = ap (λ (z : Coefficient). z.cell) same in λ (wrong : y.cell ≡ c.cell). absurd (omega (arith, above, here, wrong))))
          in
          let old : rule.scaled x.k (rule.cell_ends b x.cell) ≡ rule.scaled c.k (rule.cell_ends b c.cell) = ap (λ (z : Coefficient). rule.scaled z.k (rule.cell_ends b z.cell)) same in
          let new : rule.scaled x.k (rule.cell_ends d x.cell) ≡ rule.scaled c.k (rule.ends lo hi) =
          ap (λ (z : Coefficient). rule.scaled z.k (rule.cell_ends d z.cell)) same ∙ ap (rule.scaled c.k) (own_ends b c.cell lo hi is_box exists) in
          subst (λ (a : rule.Ends). IsMoved (rule.plus a (cells_ends b (cells_of later))) (rule.plus (rule.scaled x.k (rule.cell_ends d x.cell)) (cells_ends d (cells_of later)))
          (rule.scaled c.k (rule.cell_ends b c.cell)) (rule.scaled c.k (rule.ends lo hi))) (sym old)
          (subst (λ (a : rule.Ends). IsMoved (rule.plus (rule.scaled c.k (rule.cell_ends b c.cell)) (cells_ends b (cells_of later))) (rule.plus a (cells_ends d (cells_of later)))
          (rule.scaled c.k (rule.cell_ends b c.cell)) (rule.scaled c.k (rule.ends lo hi))) (sym new)
          (moved_first (rule.scaled c.k (rule.cell_ends b c.cell)) (rule.scaled c.k (rule.ends lo hi)) (cells_ends b (cells_of later)) (cells_ends d (cells_of later)) rest))
      | inr there ↦
          let above = above_all x.cell later c ascend.0 there in
          let again : rule.scaled x.k (rule.cell_ends d x.cell) ≡ rule.scaled x.k (rule.cell_ends b x.cell) =
          ap (rule.scaled x.k) (other_ends b c.cell x.cell lo hi (λ (wrong : x.cell ≡ c.cell). absurd (omega (arith, above, wrong)))) in
          moved_later (rule.scaled x.k (rule.cell_ends b x.cell)) (rule.scaled x.k (rule.cell_ends d x.cell)) (cells_ends b (cells_of later)) (cells_ends d (cells_of later))
          (rule.scaled c.k (rule.cell_ends b c.cell)) (rule.scaled c.k (rule.ends lo hi)) again
          (one_cell b later c lo hi is_box ascend.1 there exists)
    ]

-- a part weighs no more than all of them
pub part_lighter : (b : Box) (parts : List Coefficient) (c : Coefficient) → Contains parts c → unsigned_abs c.k * weight_of (rule.cell_ends b c.cell) ≤ cells_weight b (cells_of parts)
part_lighter b [] c own = absurd (none_there c own)
part_lighter b (x ∷ later) c own =
    elim (first_or_later x later c own) [
      | inl same ↦
          subst (λ (y : Coefficient). unsigned_abs y.k * weight_of (rule.cell_ends b y.cell) ≤ cells_weight b (cells_of (x ∷ later))) same (omega arith)
      | inr there ↦ let less = part_lighter b later c there in omega (arith, less)
    ]

-- whether a cell is one of the comparison's
pub record IsCellOf (parts : List Coefficient) (cell : ℕ) : Type 0 where
  pub part : Coefficient
  pub own : Contains parts part
  pub same : part.cell ≡ cell

pub cell_or_not : (parts : List Coefficient) (cell : ℕ) → IsCellOf parts cell ⊎ ((c : Coefficient) → Contains parts c → ¬ c.cell ≡ cell)
cell_or_not [] cell = inr (λ c own. absurd (none_there c own))
cell_or_not (x ∷ later) cell =
    elim (cases_eq x.cell cell) [
      | inl same ↦ inl (record { part = x; own = (0, omega arith, refl); same = same })
      | inr other ↦
          elim (cell_or_not later cell) [
            | inl there ↦ inl (record { part = there.part; own = later_too x later there.part there.own; same = there.same })
            | inr nowhere ↦
                inr
                (λ c own. elim (first_or_later x later c own) [
                  | inl is ↦ subst (λ (y : Coefficient). ¬ y.cell ≡ cell) is other
                  | inr later_one ↦ nowhere c later_one
                ])
          ]
    ]
