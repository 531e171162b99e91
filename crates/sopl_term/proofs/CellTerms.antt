-- A term for each cell.
use Rattle.std.proofs.Common.{◌≡◌, ◌∙◌, refl, ap, sym, arith, ℕ, ◌+◌, ◌<◌, ◌≤◌, List, [], ◌∷◌, ◌++◌, map, length, get_or, subst, Ok, inl, inr}
use Rattle.std.proofs.lemmas.List.FromFn.{get_or-map-range_with_len, length-map-range_with_len, map-range_with_len_more}
use Rattle.std.specs.List.{range_with_len}
use Rattle.sopl_base.proofs.Naturals.{from_zero}
use Rattle.box_problem.specs.Box.{Box}
use Rattle.term_language.specs.Terms.{Cell}
use Rattle.term_nodes.specs.Things.{Thing, a_term, nothing, term_at, term_in}
use Rattle.term_goals.specs.Goals.{AreCells}
use Rattle.term_store.specs.Additions.{AddsTerm, Stands}
use Rattle.term_store.specs.Stores.{IsSoundStore, all, root_of}
use Rattle.term_store.specs.declared.ids.TermId.{TermId}
use Rattle.term_store.specs.declared.store.TermStore.{TermStore}
use Rattle.sopl_term.specs.Built.{HasCells, cell_terms}

abbrev as_term : ℕ → Thing
as_term cell = a_term (Cell cell)

abbrev itself : ℕ → ℕ
itself cell = cell

pub no_cell : (s : TermStore) → IsSoundStore s → all s ≡ [] → HasCells s s [] 0
no_cell s sound empty = record { sound = sound; root = refl; things = empty; nodes = refl }

-- the number of a cell's term is the cell
cell_number : (count id cell : ℕ) → Stands (cell_terms count) id (a_term (Cell cell)) → id ≡ cell
cell_number count id cell stands =
    let there : id < count = omega (arith, stands.exists, length-map-range_with_len as_term 0 count) in
    let same : as_term id ≡ as_term cell = sym (get_or-map-range_with_len as_term 0 count id id nothing there (from_zero id)) ∙ stands.is in
    cc

pub next_cell : (a b c : TermStore) (nodes next : List ℕ) (i : ℕ) (id : TermId) → HasCells a b nodes i → IsSoundStore c → root_of c ≡ root_of b
    → AddsTerm (root_of b) (all b) (all c) (Cell i) (Ok id) → next ≡ nodes ++ id.0 ∷ [] → HasCells a c next (i + 1)
next_cell a b c nodes next i id has sound root adds next_is =
    elim adds.most [
      | inl same ↦
          let stands : Stands (cell_terms i) id.0 (a_term (Cell i)) = subst (λ (ts : List Thing). Stands ts id.0 (a_term (Cell i))) (same ∙ has.things) adds.stands in
          let none : i < i = omega (arith, stands.exists, length-map-range_with_len as_term 0 i, cell_number i id.0 i stands) in
          absurd (omega (arith, none))
      | inr added ↦
          let things : all c ≡ cell_terms (i + 1) =
          added ∙ ap (λ (ts : List Thing). ts ++ as_term i ∷ []) has.things ∙ sym (map-range_with_len_more as_term 0 i i (from_zero i)) in
          let number : id.0 ≡ i = cell_number (i + 1) id.0 i (subst (λ (ts : List Thing). Stands ts id.0 (a_term (Cell i))) things adds.stands) in
          record {
            sound = sound;
            root = root ∙ has.root;
            things = things;
            nodes = next_is ∙ ap (λ (n : ℕ). nodes ++ n ∷ []) number ∙ ap (λ (ns : List ℕ). ns ++ i ∷ []) has.nodes ∙ sym (map-range_with_len_more itself 0 i i (from_zero i));
          }
    ]

numbered : (root : Box) (ts : List Thing) (nodes : List ℕ) (count : ℕ) → ts ≡ cell_terms count → nodes ≡ map itself (range_with_len 0 count) → count ≡ length root.lows → AreCells root ts nodes
numbered root ts nodes count things_are nodes_are is =
    let many : length nodes ≡ count = ap length nodes_are ∙ length-map-range_with_len itself 0 count in
    record {
      each_cell = many ∙ is;
      is_cell = λ cell there.
          let below : cell < count = subst (λ (n : ℕ). cell < n) many there in
          let node : get_or nodes cell 0 ≡ cell = ap (λ (ns : List ℕ). get_or ns cell 0) nodes_are ∙ get_or-map-range_with_len itself 0 count cell cell 0 below (from_zero cell) in
          ap (term_at ts) node ∙ ap (λ (us : List Thing). term_at us cell) things_are
          ∙ ap term_in (get_or-map-range_with_len as_term 0 count cell cell nothing below (from_zero cell));
    }

module _ (a b : TermStore) (nodes : List ℕ) (i count : ℕ) (has : HasCells a b nodes i) (most : i ≤ count) (past : count ≤ i) where
  same : i ≡ count
  same = omega (arith, most, past)

  pub all_terms : all b ≡ cell_terms count
  all_terms = has.things ∙ ap cell_terms same

  pub all_cells : count ≡ length (root_of a).lows → AreCells (root_of b) (all b) nodes
  all_cells is = numbered (root_of b) (all b) nodes count all_terms (has.nodes ∙ ap (λ (n : ℕ). map itself (range_with_len 0 n)) same) (is ∙ sym (ap (λ (r : Box). length r.lows) has.root))
