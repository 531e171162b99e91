-- The term of a cell of a program that is being built.
use Rattle.std.proofs.Common.{◌≡◌, ap, sym, subst, ℕ, ◌<◌, ◌≤◌, ◌^◌, pos, List, length, get_or}
use Rattle.term_language.specs.Sizes.{size}
use Rattle.term_language.specs.Terms.{Cell, Constant, Term}
use Rattle.term_nodes.specs.Things.{Thing, a_cond, a_table, a_term, term_at, term_in, thing_at}
use Rattle.term_nodes.proofs.Ready.{small_term}
use Rattle.sopl_term.specs.declared.builder.Builder.{Builder}
use Rattle.sopl_term.specs.Built.{IsBuilding, built, root_built}
use Rattle.sopl_term.proofs.Keeping.{node_exists}

-- the numbers of these terms
abbrev nodes_of : Builder → List ℕ
nodes_of b = b.draft.nodes.items

pub cell_there : (b : Builder) (cell : ℕ) → IsBuilding b → cell < length (root_built b).lows → cell < length (nodes_of b)
cell_there b cell building below = subst (λ (n : ℕ). cell < n) (sym building.nodes.each_cell) below

is_cell : (thing : Thing) (cell : ℕ) → term_in thing ≡ Cell cell → thing ≡ a_term (Cell cell)
is_cell (a_term t) cell is = ap a_term is
is_cell (a_cond c) cell is = absurd (no_cell is)
  where
    no_cell : ¬ Constant (pos 0) ≡ Cell cell
    no_cell e = cc
is_cell (a_table t) cell is = absurd (no_cell is)
  where
    no_cell : ¬ Constant (pos 0) ≡ Cell cell
    no_cell e = cc

module _ (b : Builder) (cell : ℕ) (building : IsBuilding b) (below : cell < length (root_built b).lows) where
  abbrev node : ℕ
  node = get_or (nodes_of b) cell 0

  is_term : term_at (built b) node ≡ Cell cell
  is_term = building.nodes.is_cell cell (cell_there b cell building below)

  pub cell_exists : node < length (built b)
  cell_exists = node_exists (built b) node cell is_term

  pub cell_stands : thing_at (built b) node ≡ a_term (Cell cell)
  cell_stands = is_cell (thing_at (built b) node) cell is_term

  pub cell_small : size (root_built b) (Cell cell) ≤ 2 ^ 40
  cell_small = subst (λ (t : Term). size (root_built b) t ≤ 2 ^ 40) is_term (small_term (root_built b) b.draft.store.items.items node building.store.built).small
