-- Sums over several parts, and lists of cells.
use Rattle.std.specs.Prelude.{ℕ, ℤ, pos, ◌+ℤ◌, ◌-ℤ◌, nat_eq, Bool, List, [], ◌∷◌}
use Rattle.std.specs.List.{list_any}

-- the sum of a number for each of several parts
abbrev pub sum_over : {A : Type 0} → (A → ℤ) → List A → ℤ
sum_over f [] = pos 0
sum_over f (x ∷ later) = f x +ℤ sum_over f later

-- by how much one of two numbers of a part is more than the other one
abbrev pub turn_of : {A : Type 0} → (A → ℤ) → (A → ℤ) → A → ℤ
turn_of f g x = g x -ℤ f x

-- whether a list has a cell
abbrev pub has_cell : ℕ → List ℕ → Bool
has_cell cell cells = list_any (λ n. nat_eq n cell) cells
