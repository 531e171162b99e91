-- How the places of the members that watch a cell are listed.
use Rattle.std.specs.Prelude.{◌≡◌, ◌⊎◌, ℕ, ◌<◌, List, [], length, Contains}
use Rattle.prop_core.specs.declared.watch.Watch.{Watch}
use Rattle.prop_core.specs.Waking.{places_at}

-- no member watches one of so many cells
pub record HasEmptyLists (cells : ℕ) (watch : Watch) : Type 0 where
  pub as_long : length watch.lists.items ≡ cells
  pub none : (cell : ℕ) → places_at watch cell ≡ []

-- a place came to those of each of these cells, if there is such a cell, and nothing else has changed
pub record AddsPlaces (old new : Watch) (cells : List ℕ) (at : ℕ) : Type 0 where
  pub as_long : length new.lists.items ≡ length old.lists.items
  pub kept : (cell k : ℕ) → Contains (places_at old cell) k → Contains (places_at new cell) k
  pub added : (cell : ℕ) → cell < length old.lists.items → Contains cells cell → Contains (places_at new cell) at
  pub only : (cell k : ℕ) → Contains (places_at new cell) k → Contains (places_at old cell) k ⊎ ((k ≡ at) × Contains cells cell)
