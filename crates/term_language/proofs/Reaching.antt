-- What holds of each cell of a list.
use Rattle.std.proofs.Common.{ℕ, List, [], ◌∷◌, ◌++◌, All, Contains, arith, refl}
use Rattle.std.proofs.lemmas.List.Elements.{All-contains, Contains-append_left, Contains-append_right}

abbrev pub Reach : (ℕ → Type 0) → List ℕ → Type 0
Reach P cells = (cell : ℕ) → Contains cells cell → P cell

pub reach_all : (P : ℕ → Type 0) (cells : List ℕ) → All P cells → Reach P cells
reach_all P cells all = λ cell there. All-contains P cells cell all there

pub first : (P : ℕ → Type 0) (xs ys : List ℕ) → Reach P (xs ++ ys) → Reach P xs
first P xs ys reach = λ cell there. reach cell (Contains-append_left xs ys cell there)

pub second : (P : ℕ → Type 0) (xs ys : List ℕ) → Reach P (xs ++ ys) → Reach P ys
second P xs ys reach = λ cell there. reach cell (Contains-append_right xs ys cell there)

pub alone : (P : ℕ → Type 0) (cell : ℕ) → Reach P (cell ∷ []) → P cell
alone P cell reach = reach cell (0, omega arith, refl)
