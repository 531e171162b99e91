-- Numbers at several places, and the greatest of them.
use Rattle.std.specs.Prelude.{◌≡◌, ℕ, ◌+◌, ◌*◌, ◌<◌, ◌≤◌, length, slice_index_or}
use Rattle.prop_linear.specs.declared.maxima.Maxima.{Maxima}

-- the number at a node, and that at a place
abbrev pub kept_node : Maxima → ℕ → ℕ
kept_node m node = slice_index_or m.nodes.items node 0

abbrev pub kept_number : Maxima → ℕ → ℕ
kept_number m place = kept_node m (m.first + place)

-- as many nodes stand above the places, and each is at least each of the two below it
pub record IsTopped (m : Maxima) : Type 0 where
  pub as_many : length m.nodes.items ≡ 2 * m.first
  pub some : 1 ≤ m.first
  pub low : (node : ℕ) → 1 ≤ node → node < m.first → kept_node m (2 * node) ≤ kept_node m node
  pub high : (node : ℕ) → 1 ≤ node → node < m.first → kept_node m (2 * node + 1) ≤ kept_node m node

-- all of them are 0
pub record IsZero (m : Maxima) : Type 0 where
  pub as_many : length m.nodes.items ≡ 2 * m.first
  pub some : 1 ≤ m.first
  pub zero : (node : ℕ) → kept_node m node ≡ 0
