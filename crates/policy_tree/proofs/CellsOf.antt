-- The cells of a problem are exactly its keys with their domains, each once.
use Rattle.std.proofs.Common.{◌≡◌, refl, sym, ap, subst, ◌∙◌, ℕ, ◌+◌, ◌≤◌, ℤ, List, [], ◌∷◌, map, flat_map, slice_get, Some, Contains, arith, zero-add}
use Rattle.std.specs.List.{enumerate_from}
use Rattle.std.proofs.lemmas.List.{map-append}
use Rattle.sopl_ast.specs.Instances.{Decision, Stochastic, Problem}
use Rattle.sopl_ast.specs.Scenarios.{Scenario, scenarios}
use Rattle.sopl_ast.specs.Histories.{history, histories}
use Rattle.sopl_ast.specs.Policies.{Key, IsKey}
use Rattle.sopl_ast.specs.Cells.{Cell, cells_of, cells}
use Rattle.policy_tree.proofs.Members.{In, In-Contains, Contains-In, In-map, from_map, In-flat_map, from_flat_map, In-enumerate, from_enumerate}
use Rattle.policy_tree.proofs.Once.{Once, In-distinct, from_distinct, Once-distinct, Once-append}

-- the keys of cells, in order
abbrev pub keys_of : List Cell → List Key
keys_of cs = map (λ (cell : Cell). cell.key) cs

-- the cell has the domain of a decision, and a history of its stage
pub record IsCell (problem : Problem) (cell : Cell) : Type 0 where
  pub decision : Decision
  pub decided : slice_get problem.decisions cell.key.0 ≡ Some decision
  pub lo : cell.lo ≡ decision.lo
  pub hi : cell.hi ≡ decision.hi
  pub seen : In cell.key.1 (histories decision.stage problem.stochastics)

abbrev pub made : ℕ → Decision → List ℤ → Cell
made number d seen = record { key = (number, seen); lo = d.lo; hi = d.hi }

pub cell_is : (problem : Problem) (cell : Cell) → In cell (cells problem) → IsCell problem cell
cell_is problem cell h =
    let of_decision : (nd : ℕ × Decision) × In nd (enumerate_from 0 problem.decisions) × In cell (cells_of problem.stochastics nd) =
    from_flat_map (cells_of problem.stochastics) (enumerate_from 0 problem.decisions) cell h in
    let number = of_decision.0.0 in
    let d = of_decision.0.1 in
    let placed : (i : ℕ) × (number ≡ 0 + i) × (slice_get problem.decisions i ≡ Some d) = from_enumerate 0 problem.decisions number d of_decision.1 in
    let of_history : (seen : List ℤ) × In seen (histories d.stage problem.stochastics) × (made number d seen ≡ cell) =
    from_map (made number d) (histories d.stage problem.stochastics) cell of_decision.2 in
    let at : number ≡ placed.0 = placed.1 ∙ zero-add placed.0 in
    let P : ℕ → Type 0 = λ n. slice_get problem.decisions n ≡ Some d in
    let C : Cell → Type 0 = λ c. IsCell problem c in
    subst C of_history.2 (record { decision = d; decided = subst P (sym at) placed.2; lo = refl; hi = refl; seen = of_history.1 })

pub is_cell : (problem : Problem) (number : ℕ) (d : Decision) (seen : List ℤ) → slice_get problem.decisions number ≡ Some d
    → In seen (histories d.stage problem.stochastics) → In (made number d seen) (cells problem)
is_cell problem number d seen decided h =
    let P : ℕ → Type 0 = λ n. In (n, d) (enumerate_from 0 problem.decisions) in
    In-flat_map (cells_of problem.stochastics) (enumerate_from 0 problem.decisions) (number, d) (made number d seen)
    (subst P (zero-add number) (In-enumerate 0 problem.decisions number d decided))
    (In-map (made number d) (histories d.stage problem.stochastics) seen h)

-- a history of a stage is one that some scenario has
pub history_in : (stage : ℕ) (stochastics : List Stochastic) (s : Scenario) → Contains (scenarios stochastics) s
    → In (history stage stochastics s.values) (histories stage stochastics)
history_in stage stochastics s h =
    In-distinct (map (λ (s : Scenario). history stage stochastics s.values) (scenarios stochastics)) (history stage stochastics s.values)
    (In-map (λ (s : Scenario). history stage stochastics s.values) (scenarios stochastics) s (In-Contains (scenarios stochastics) s h))

pub cell_key : (problem : Problem) (cell : Cell) → In cell (cells problem) → IsKey problem cell.key
cell_key problem cell h =
    let is : IsCell problem cell = cell_is problem cell h in
    let stage = is.decision.stage in
    let stochastics = problem.stochastics in
    let from : (s : Scenario) × In s (scenarios stochastics) × (history stage stochastics s.values ≡ cell.key.1) =
    from_map (λ (s : Scenario). history stage stochastics s.values) (scenarios stochastics) cell.key.1
    (from_distinct (map (λ (s : Scenario). history stage stochastics s.values) (scenarios stochastics)) cell.key.1 is.seen) in
    record {
      decision = is.decision;
      decided = is.decided;
      scenario = from.0;
      possible = Contains-In (scenarios stochastics) from.0 from.1;
      seen = sym from.2;
    }

pub key_cell : (problem : Problem) (key : Key) → IsKey problem key → In key (keys_of (cells problem))
key_cell problem key k =
    let H : List ℤ → Type 0 = λ seen. In seen (histories k.decision.stage problem.stochastics) in
    let seen : In key.1 (histories k.decision.stage problem.stochastics) =
    subst H (sym k.seen) (history_in k.decision.stage problem.stochastics k.scenario k.possible) in
    In-map (λ (cell : Cell). cell.key) (cells problem) (made key.0 k.decision key.1) (is_cell problem key.0 k.decision key.1 k.decided seen)

-- the keys of one decision
one_decision : (stochastics : List Stochastic) (number : ℕ) (d : Decision) → Once (keys_of (cells_of stochastics (number, d)))
one_decision stochastics number d = keyed (histories d.stage stochastics) (Once-distinct (map (λ (s : Scenario). history d.stage stochastics s.values) (scenarios stochastics)))
  where
    keyed : (hs : List (List ℤ)) → Once hs → Once (keys_of (map (made number d) hs))
    keyed [] h = tt
    keyed (x ∷ xs) h = (
      λ again.
          let from : (c : Cell) × In c (map (made number d) xs) × (c.key ≡ (number, x)) = from_map (λ (cell : Cell). cell.key) (map (made number d) xs) (number, x) again in
          let of_history : (seen : List ℤ) × In seen xs × (made number d seen ≡ from.0) = from_map (made number d) xs from.0 from.1 in
          let P : List ℤ → Type 0 = λ seen. In seen xs in
          h.0 (subst P (ap (λ (c : Cell). c.key.1) of_history.2 ∙ ap (λ (k : Key). k.1) from.2) of_history.1),
      keyed xs h.1,
    )

number_is : (stochastics : List Stochastic) (number : ℕ) (d : Decision) (key : Key) → In key (keys_of (cells_of stochastics (number, d))) → number ≡ key.0
number_is stochastics number d key h =
    let from : (c : Cell) × In c (cells_of stochastics (number, d)) × (c.key ≡ key) = from_map (λ (cell : Cell). cell.key) (cells_of stochastics (number, d)) key h in
    let of_history : (seen : List ℤ) × In seen (histories d.stage stochastics) × (made number d seen ≡ from.0) = from_map (made number d) (histories d.stage stochastics) from.0 from.1 in
    ap (λ (c : Cell). c.key.0) of_history.2 ∙ ap (λ (k : Key). k.0) from.2

number_above : (stochastics : List Stochastic) (n : ℕ) (ds : List Decision) (key : Key)
    → In key (keys_of (flat_map (cells_of stochastics) (enumerate_from n ds))) → n ≤ key.0
number_above stochastics n ds key h =
    let from : (c : Cell) × In c (flat_map (cells_of stochastics) (enumerate_from n ds)) × (c.key ≡ key) =
    from_map (λ (cell : Cell). cell.key) (flat_map (cells_of stochastics) (enumerate_from n ds)) key h in
    let of_decision : (nd : ℕ × Decision) × In nd (enumerate_from n ds) × In from.0 (cells_of stochastics nd) =
    from_flat_map (cells_of stochastics) (enumerate_from n ds) from.0 from.1 in
    let placed : (i : ℕ) × (of_decision.0.0 ≡ n + i) × (slice_get ds i ≡ Some of_decision.0.1) = from_enumerate n ds of_decision.0.0 of_decision.0.1 of_decision.1 in
    let of_key : of_decision.0.0 ≡ from.0.key.0 =
    number_is stochastics of_decision.0.0 of_decision.0.1 from.0.key (In-map (λ (cell : Cell). cell.key) (cells_of stochastics of_decision.0) from.0 of_decision.2) in
    let same : from.0.key.0 ≡ key.0 = ap (λ (k : Key). k.0) from.2 in
    omega arith

pub Once-numbered : (stochastics : List Stochastic) (n : ℕ) (ds : List Decision) → Once (keys_of (flat_map (cells_of stochastics) (enumerate_from n ds)))
Once-numbered stochastics n [] = tt
Once-numbered stochastics n (d ∷ ds) =
    let first = cells_of stochastics (n, d) in
    let later = flat_map (cells_of stochastics) (enumerate_from (n + 1) ds) in
    let P : List Key → Type 0 = λ ks. Once ks in
    subst P (sym (map-append (λ (cell : Cell). cell.key) first later))
    (Once-append (keys_of first) (keys_of later) (one_decision stochastics n d) (Once-numbered stochastics (n + 1) ds)
    (λ key here there.
    let low : n ≡ key.0 = number_is stochastics n d key here in
    let high : n + 1 ≤ key.0 = number_above stochastics (n + 1) ds key there in
    absurd (omega arith)))

pub Once-cells : (problem : Problem) → Once (keys_of (cells problem))
Once-cells problem = Once-numbered problem.stochastics 0 problem.decisions
