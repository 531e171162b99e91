-- The nodes that the program makes are those of the policy.
use Rattle.std.proofs.Common.{◌≡◌, ◌+◌, ◌-◌, ◌*◌, ◌≤◌, ◌<◌, ◌++◌, ℕ, zero, suc, ℤ, pos, nat_lt, false, cond, List, [], ◌∷◌, length, map, get_or, slice_get, Some, unwrap_or, inl}
use Rattle.std.proofs.Common.{inr, arith, refl, sym, ap, subst, ◌∙◌}
use Rattle.std.specs.List.{AllByRecursion, enumerate_from, range_with_len}
use Rattle.std.specs.FinMap.{get}
use Rattle.std.proofs.lemmas.Bool.{eqb-true}
use Rattle.std.proofs.lemmas.Bool.Decides.{nat_tests}
use Rattle.std.proofs.lemmas.List.{nil_from_length}
use Rattle.std.proofs.lemmas.Option.{get_or_from_slice_get, slice_get-get_or, slice_get_within}
use Rattle.serde_json.specs.Data.{Data}
use Rattle.sopl_base.proofs.Lists.{map-map}
use Rattle.sopl_ast.specs.Instances.{Decision, Stochastic}
use Rattle.sopl_ast.specs.Scenarios.{Scenario, scenarios}
use Rattle.sopl_ast.specs.Histories.{history, histories}
use Rattle.sopl_ast.specs.Cells.{Cell, policy_at}
use Rattle.sopl_ast.specs.Policies.{Policy}
use Rattle.policy_tree.proofs.Members.{In}
use Rattle.policy_tree.proofs.CellsOf.{Once-numbered}
use Rattle.policy_tree.proofs.Found.{found_at}
use Rattle.policy_tree.proofs.Bijection.{value_at}
use Rattle.unfold_laws.specs.Bounds.{IsBoundedStochastic}
use Rattle.scen_laws.specs.Laws.{rows, seen_before}
use Rattle.sopl_scen.specs.Layout.{IsTreeOf, cell_at, cell_in, cells_for, value_in}
use Rattle.scen_laws.specs.BlockLaws.{AreOrderly, FillsBlocks, block_of, next_number, of_stage}
use Rattle.scen_laws.proofs.BlockRows.{row_long}
use Rattle.scen_laws.proofs.Prefixes.{of_stage_at, seen_next, seen_within}
use Rattle.scen_laws.proofs.Blocks.{block_history, block_values, block_within, blocks_divide, blocks_fill, history_long, history_next, next_within, rows_long, some_histories}
use Rattle.scen_laws.proofs.Histories.{row_is}
use Rattle.policy_json.specs.Entries.{entry_of, seen_entries}
use Rattle.policy_json.specs.Nodes.{branch_of, decide_of, decided_at, decision_entry, node_at, node_of, numbered_in_stage, seen_after, stage_outcomes}
use Rattle.policy_json.specs.Stages.{number_in, numbers_of}
use Rattle.policy_json.specs.Steps.{Begins, Parts, IsReady, block_in, branch_in, branches_in, decide_in, decided_in, drawn_in, first_in, no_decision, no_variable, node_in, seen_in, shown_in}
use Rattle.policy_json.proofs.LastStages.{last_stage_few}
use Rattle.policy_json.specs.LastStage.{last_stage}
use Rattle.policy_json.proofs.Branches.{branch_after}
use Rattle.policy_json.proofs.Numbers.{IsNumbered, from_numbered}
use Rattle.policy_json.proofs.Ready.{block_same, bounded, branches_same, no_scenario, orderly, tree_of, values_many}

-- Lists that are made in two ways.

same_where_in : {X Y : Type 0} (f g : X → Y) (xs : List X) → ((x : X) → In x xs → f x ≡ g x) → map f xs ≡ map g xs
same_where_in f g [] each = refl
same_where_in f g (x ∷ xs) each = λ i. each x (inl refl) i ∷ same_where_in f g xs (λ y later. each y (inr later)) i

-- a number and those behind it
behind : (from k : ℕ) → (from + 1) + k ≡ from + suc k
behind from k = omega arith

-- things by number, and the elements of a list
numbered_same : {X Y : Type 0} (f : ℕ → Y) (g : X → Y) (d : X) (from : ℕ) (xs : List X) → ((k : ℕ) → k < length xs → f (from + k) ≡ g (get_or xs k d))
    → map f (range_with_len from (length xs)) ≡ map g xs
numbered_same f g d from [] each = refl
numbered_same f g d from (x ∷ xs) each =
    λ i. (ap f (nothing_more from) ∙ each 0 (omega arith)) i
    ∷ numbered_same f g d (from + 1) xs (λ k below. ap f (behind from k) ∙ each (suc k) (omega (arith, below))) i
  where
    nothing_more : (n : ℕ) → n ≡ n + 0
    nothing_more n = omega arith

-- things by number, and the elements of two lists
paired_same : (f : ℕ → Data) (from : ℕ) (ss : List Stochastic) (vs : List ℤ) → length vs ≡ length ss
    → ((k : ℕ) → k < length ss → f (from + k) ≡ entry_of (get_or ss k no_variable).name (get_or ss k no_variable).index (get_or vs k (pos 0)))
    → map f (range_with_len from (length ss)) ≡ seen_entries ss vs
paired_same f from [] [] long each = refl
paired_same f from [] (v ∷ vs) long each = absurd (omega (arith, long))
paired_same f from (s ∷ ss) [] long each = absurd (omega (arith, long))
paired_same f from (s ∷ ss) (v ∷ vs) long each =
    λ i. (ap f (nothing_more from) ∙ each 0 (omega arith)) i
    ∷ paired_same f (from + 1) ss vs (omega (arith, long)) (λ k below. ap f (behind from k) ∙ each (suc k) (omega (arith, below))) i
  where
    nothing_more : (n : ℕ) → n ≡ n + 0
    nothing_more n = omega arith

-- The first scenario of a block.

begins_within : (ss : List Stochastic) (stage scenario number : ℕ) → AreOrderly ss → Begins ss stage scenario number → scenario < length (scenarios ss)
begins_within ss stage scenario number is b =
    let fills : FillsBlocks stage ss = blocks_fill stage ss is in
    omega (arith, b.at, rows_long ss, block_within stage number 0 ss is b.exists fills.filled)

-- its history
begins_history : (ss : List Stochastic) (stage scenario number : ℕ) (s : Scenario) → AreOrderly ss → Begins ss stage scenario number → slice_get (scenarios ss) scenario ≡ Some s
    → history stage ss s.values ≡ get_or (histories stage ss) number []
begins_history ss stage scenario number s is b at =
    let fills : FillsBlocks stage ss = blocks_fill stage ss is in
    ap (history stage ss) (sym (row_is ss scenario s at) ∙ ap (λ k. get_or (rows ss) k []) b.at) ∙ block_history stage number 0 ss is b.exists fills.filled

-- The decisions of a stage.

-- the policy of a point
abbrev pub policy_of : Parts → Policy
policy_of parts = policy_at (cells_for parts.decisions parts.stochastics) parts.values

-- what a point decides in a scenario is what its policy decides at the scenario's history
decided_same : (parts : Parts) → IsReady parts → (stage scenario number : ℕ) → Begins parts.stochastics stage scenario number
    → (nd : ℕ × Decision) → IsNumbered stage parts.decisions nd
    → decided_in parts scenario (number_in nd) ≡ decision_entry (policy_of parts) (get_or (histories stage parts.stochastics) number []) nd
unfolding decided_in
decided_same parts are stage scenario number b (j, d) numbered =
    let ss : List Stochastic = parts.stochastics in
    let cs : List Cell = cells_for parts.decisions ss in
    let is : IsTreeOf parts.decisions ss parts.tree = tree_of parts are in
    let s : Scenario = get_or (scenarios ss) scenario no_scenario in
    let at : slice_get (scenarios ss) scenario ≡ Some s = slice_get-get_or (scenarios ss) scenario no_scenario (begins_within ss stage scenario number (orderly parts are) b) in
    let seen : List ℤ = history d.stage ss s.values in
    let cell : slice_get cs (cell_in parts.tree j scenario) ≡ Some (cell_at j d seen) = is.placed j scenario d s numbered.decided at in
    let within : cell_in parts.tree j scenario < length cs = slice_get_within cs (cell_in parts.tree j scenario) (cell_at j d seen) cell in
    let value : ℤ = get_or parts.values (cell_in parts.tree j scenario) (pos 0) in
    let held : slice_get parts.values (cell_in parts.tree j scenario) ≡ Some value =
    slice_get-get_or parts.values (cell_in parts.tree j scenario) (pos 0) (subst (λ n. cell_in parts.tree j scenario < n) (sym (values_many parts are)) within) in
    let found : get (policy_of parts) (j, seen) ≡ Some value =
    value_at cs parts.values (j, seen) ∙ found_at cs parts.values (cell_in parts.tree j scenario) (cell_at j d seen) value (Once-numbered ss 0 parts.decisions) cell held in
    let same : seen ≡ get_or (histories stage ss) number [] =
    ap (λ k. history k ss s.values) (eqb-true d.stage stage numbered.staged) ∙ begins_history ss stage scenario number s (orderly parts are) b at in
    let decided : decided_at (policy_of parts) j (get_or (histories stage ss) number []) ≡ value =
    ap (decided_at (policy_of parts) j) (sym same) ∙ ap (λ o. unwrap_or o (pos 0)) found in
    ap (λ (e : Decision). entry_of e.name e.index value) (get_or_from_slice_get parts.decisions j d no_decision numbered.decided) ∙ ap (entry_of d.name d.index) (sym decided)

decide_same : (parts : Parts) → IsReady parts → (stage scenario number : ℕ) → Begins parts.stochastics stage scenario number
    → decide_in parts stage scenario ≡ decide_of parts.decisions (policy_of parts) stage (get_or (histories stage parts.stochastics) number [])
unfolding numbers_of
decide_same parts are stage scenario number b =
    map-map (decided_in parts scenario) number_in (numbered_in_stage stage (enumerate_from 0 parts.decisions))
    ∙ same_where_in (λ (nd : ℕ × Decision). decided_in parts scenario (number_in nd))
    (decision_entry (policy_of parts) (get_or (histories stage parts.stochastics) number []))
    (numbered_in_stage stage (enumerate_from 0 parts.decisions))
    (λ nd within. decided_same parts are stage scenario number b nd (from_numbered stage parts.decisions nd within))

-- What is seen after a stage.

-- the row of the stage's variables with this number
abbrev row_of : ℕ → List Stochastic → ℕ → List ℤ
row_of stage ss row = get_or (rows (of_stage stage ss)) row []

drawn_same : (parts : Parts) → IsReady parts → (stage scenario number row : ℕ) → number < length (histories stage parts.stochastics)
    → row < length (rows (of_stage stage parts.stochastics)) → Begins parts.stochastics (stage + 1) scenario (next_number stage parts.stochastics number row)
    → (k : ℕ) → k < length (of_stage stage parts.stochastics)
    → drawn_in parts scenario (seen_before stage parts.stochastics + k)
    ≡ entry_of (get_or (of_stage stage parts.stochastics) k no_variable).name (get_or (of_stage stage parts.stochastics) k no_variable).index
    (get_or (row_of stage parts.stochastics row) k (pos 0))
unfolding drawn_in
drawn_same parts are stage scenario number row within inside b k below =
    let ss : List Stochastic = parts.stochastics in
    let o : AreOrderly ss = orderly parts are in
    let v : ℕ = seen_before stage ss + k in
    let is : IsTreeOf parts.decisions ss parts.tree = tree_of parts are in
    let s : Scenario = get_or (scenarios ss) scenario no_scenario in
    let at : slice_get (scenarios ss) scenario ≡ Some s =
    slice_get-get_or (scenarios ss) scenario no_scenario (begins_within ss (stage + 1) scenario (next_number stage ss number row) o b) in
    let exists : v < length ss = omega (arith, below, seen_next stage ss o.ordered, seen_within (stage + 1) ss) in
    let fills : FillsBlocks (stage + 1) ss = blocks_fill (stage + 1) ss o in
    let drawn : get_or s.values v (pos 0) ≡ value_in parts.tree v scenario =
    get_or_from_slice_get s.values v (value_in parts.tree v scenario) (pos 0) (is.drawn v scenario s exists at) in
    let value : value_in parts.tree v scenario ≡ get_or (row_of stage ss row) k (pos 0) =
    sym drawn
    ∙ (ap (λ list. get_or list v (pos 0)) (sym (row_is ss scenario s at) ∙ ap (λ n. get_or (rows ss) n []) b.at)
    ∙ block_values stage number row 0 k ss (pos 0) o within inside fills.filled below) in
    ap (entry_of (get_or ss v no_variable).name (get_or ss v no_variable).index) value
    ∙ ap (λ (t : Stochastic). entry_of t.name t.index (get_or (row_of stage ss row) k (pos 0))) (of_stage_at stage k ss no_variable o.ordered below)

seen_same : (parts : Parts) → IsReady parts → (stage scenario number row : ℕ) → number < length (histories stage parts.stochastics)
    → row < length (rows (of_stage stage parts.stochastics)) → Begins parts.stochastics (stage + 1) scenario (next_number stage parts.stochastics number row)
    → seen_in parts stage scenario ≡ seen_entries (seen_after stage parts.stochastics) (row_of stage parts.stochastics row)
seen_same parts are stage scenario number row within inside b =
    let ss : List Stochastic = parts.stochastics in
    let o : AreOrderly ss = orderly parts are in
    let many : seen_before (stage + 1) ss - seen_before stage ss ≡ length (of_stage stage ss) = omega (arith, seen_next stage ss o.ordered) in
    ap (λ n. map (drawn_in parts scenario) (range_with_len (seen_before stage ss) n)) many
    ∙ paired_same (drawn_in parts scenario) (seen_before stage ss) (of_stage stage ss) (row_of stage ss row) (row_long (of_stage stage ss) row inside)
    (drawn_same parts are stage scenario number row within inside b)

-- Nodes.

-- the first scenario of a block of the next stage
pub next_begins : (parts : Parts) → IsReady parts → (stage scenario number i : ℕ) → 1 ≤ stage → stage < 24 → Begins parts.stochastics stage scenario number
    → i < length (rows (of_stage stage parts.stochastics))
    → Begins parts.stochastics (stage + 1) (first_in parts.tree stage scenario i) (next_number stage parts.stochastics number i)
next_begins parts are stage scenario number i from to b below =
    let ss : List Stochastic = parts.stochastics in
    let o : AreOrderly ss = orderly parts are in
    record {
      exists = next_within stage number i ss o b.exists below;
      at =
          placed scenario number i (length (rows (of_stage stage ss))) (block_of stage ss) (block_of (stage + 1) ss) (block_in parts.tree (stage + 1)) b.at
          (blocks_divide stage ss o) (block_same parts are (stage + 1) (omega arith) (omega (arith, to)));
    }
  where
    joined : (p c i n : ℕ) → (p * (c * n) + 0) + i * n ≡ (p * c + i) * n + 0
    joined p c i n = omega arith

    placed : (s p i c b next long : ℕ) → s ≡ p * b + 0 → b ≡ c * next → long ≡ next → s + i * long ≡ (p * c + i) * next + 0
    placed s p i c b next long at divided is =
        (λ k. (at ∙ ap (λ n. p * n + 0) divided) k + i * is k) ∙ joined p c i next

-- the nodes behind a stage are those of the policy
abbrev AreSame : Parts → ℕ → ℕ → Type 0
AreSame parts later stage =
    (scenario number : ℕ) → Begins parts.stochastics stage scenario number
    → node_in parts later stage scenario ≡ node_at parts.decisions parts.stochastics (policy_of parts) later stage (get_or (histories stage parts.stochastics) number [])

branch_same : (parts : Parts) → IsReady parts → (later stage scenario number i : ℕ) → 1 ≤ stage → stage < 24 → Begins parts.stochastics stage scenario number
    → AreSame parts later (stage + 1) → i < length (rows (of_stage stage parts.stochastics))
    → branch_in parts later stage scenario i
    ≡ branch_after parts.decisions parts.stochastics (policy_of parts) later stage (get_or (histories stage parts.stochastics) number []) (row_of stage parts.stochastics i)
branch_same parts are later stage scenario number i from to b next below =
    let ss : List Stochastic = parts.stochastics in
    let first : ℕ = first_in parts.tree stage scenario i in
    let begins : Begins ss (stage + 1) first (next_number stage ss number i) = next_begins parts are stage scenario number i from to b below in
    let seen : seen_in parts stage first ≡ seen_entries (seen_after stage ss) (row_of stage ss i) = seen_same parts are stage first number i b.exists below begins in
    let node : node_in parts later (stage + 1) first
    ≡ node_at parts.decisions ss (policy_of parts) later (stage + 1) (get_or (histories stage ss) number [] ++ row_of stage ss i) =
    next first (next_number stage ss number i) begins
    ∙ ap (node_at parts.decisions ss (policy_of parts) later (stage + 1)) (history_next stage number i ss (orderly parts are) b.exists below) in
    λ k. branch_of (seen k) (node k)

node_step : (parts : Parts) → IsReady parts → (later stage : ℕ) → 1 ≤ stage → stage < 24 → AreSame parts later (stage + 1) → AreSame parts (suc later) stage
node_step parts are later stage from to next scenario number b =
    let ss : List Stochastic = parts.stochastics in
    let seen : List ℤ = get_or (histories stage ss) number [] in
    let decided : decide_in parts stage scenario ≡ decide_of parts.decisions (policy_of parts) stage seen = decide_same parts are stage scenario number b in
    let branches : map (branch_in parts later stage scenario) (range_with_len 0 (branches_in parts.tree stage))
    ≡ map (branch_after parts.decisions ss (policy_of parts) later stage seen) (stage_outcomes stage ss) =
    ap (λ n. map (branch_in parts later stage scenario) (range_with_len 0 n)) (branches_same parts are stage from to)
    ∙ numbered_same (branch_in parts later stage scenario) (branch_after parts.decisions ss (policy_of parts) later stage seen) [] 0 (rows (of_stage stage ss))
    (λ k below. ap (branch_in parts later stage scenario) (from_none k) ∙ branch_same parts are later stage scenario number k from to b next below) in
    λ k. node_of (decided k) (branches k)
  where
    from_none : (k : ℕ) → 0 + k ≡ k
    from_none k = omega arith

node_same : (parts : Parts) → IsReady parts → (later stage : ℕ) → 1 ≤ stage → stage + later ≤ 24 → AreSame parts later stage
node_same parts are zero stage from to scenario number b = ap (λ decide. node_of decide []) (decide_same parts are stage scenario number b)
node_same parts are (suc later) stage from to scenario number b =
    node_step parts are later stage from (omega (arith, to)) (node_same parts are later (stage + 1) (omega arith) (omega (arith, to))) scenario number b

-- The outermost node.

-- no value is seen before the first stage
none_before : (ss : List Stochastic) → AllByRecursion IsBoundedStochastic ss → seen_before 1 ss ≡ 0
none_before [] all = refl
none_before (s ∷ ss) all = λ i. cond (not_below s.stage all.0.stage.0 i) (suc (seen_before 1 ss)) 0
  where
    not_below : (n : ℕ) → 1 ≤ n → nat_lt n 1 ≡ false
    not_below n h = grind (arith, nat_tests)

first_history : (ss : List Stochastic) → AreOrderly ss → get_or (histories 1 ss) 0 [] ≡ []
first_history ss o =
    nil_from_length (get_or (histories 1 ss) 0 [])
    (history_long 1 0 ss o (omega (arith, some_histories 1 ss o)) ∙ none_before ss o.bounded)

pub first_begins : (ss : List Stochastic) → AreOrderly ss → Begins ss 1 0 0
first_begins ss o = record { exists = omega (arith, some_histories 1 ss o); at = none (block_of 1 ss) }
  where
    none : (n : ℕ) → 0 ≡ 0 * n + 0
    none n = omega arith

-- the last stage of a decision is one of the 24 stages
pub last_few : (parts : Parts) → IsReady parts → (last : ℕ) → last ≡ last_stage parts.decisions → last ≤ 24
last_few parts are last is = omega (arith, is, last_stage_few parts.decisions (bounded parts are))

pub outermost_same : (parts : Parts) → IsReady parts → (last : ℕ) → last ≡ last_stage parts.decisions → 1 ≤ last → node_in parts (last - 1) 1 0 ≡ shown_in parts
outermost_same parts are last is from =
    node_same parts are (last - 1) 1 (omega arith) (omega (arith, from, last_few parts are last is)) 0 0 (first_begins parts.stochastics (orderly parts are))
    ∙ (λ i. node_at parts.decisions parts.stochastics (policy_of parts) (is i - 1) 1 (first_history parts.stochastics (orderly parts are) i))
