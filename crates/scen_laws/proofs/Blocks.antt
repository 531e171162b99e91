-- How many scenarios and histories there are, and which scenarios are of one history.
use Rattle.std.proofs.Common.{◌≡◌, ◌+◌, ◌*◌, ◌/◌, ◌≤◌, ◌<◌, ◌++◌, ℕ, ℤ, List, [], length, get_or, take, arith, sym, ap, subst, ◌∙◌, length-append}
use Rattle.std.proofs.lemmas.Nat.{div-mul-add, mul-add-lt}
use Rattle.std.proofs.lemmas.List.{length-map, take-append-drop, take_at, get_or_append_left, get_or-append-add}
use Rattle.std.specs.List.{flat_map}
use Rattle.sopl_ast.specs.Instances.{Stochastic}
use Rattle.sopl_ast.specs.Scenarios.{scenarios}
use Rattle.sopl_ast.specs.Histories.{history, histories}
use Rattle.scen_laws.specs.Laws.{HasOutcome, rows, seen_before, values_of}
use Rattle.scen_laws.proofs.Counts.{scenarios_are_counted, some_scenario, first_part, last_part}
use Rattle.scen_laws.proofs.Seen.{histories_are_prefixes, histories_are_rows}
use Rattle.scen_laws.specs.BlockLaws.{AreOrderly, of_stage, block_of, next_number, rows_behind, HistoriesGoOn, FillsBlocks, BlocksFill, BlocksDivide}
use Rattle.scen_laws.proofs.BlockRows.{rows_split, row_long, behind_at, pieces_long, behind_long}
use Rattle.scen_laws.proofs.Prefixes.{prefix_of, back_of, prefix_next, back_next, prefix_long}

-- how many rows there are
pub rows_long : (ss : List Stochastic) → length (rows ss) ≡ length (scenarios ss)
rows_long ss = length-map (scenarios ss) values_of

counted : (xs ys : List Stochastic) → length (rows (xs ++ ys)) ≡ length (rows xs) * length (rows ys)
counted xs ys =
    rows_long (xs ++ ys) ∙ (scenarios_are_counted xs ys ∙ (λ i. sym (rows_long xs) i * sym (rows_long ys) i))

-- the histories of a stage are the rows of the variables before it
pub histories_are : (stage : ℕ) (ss : List Stochastic) → AreOrderly ss → histories stage ss ≡ rows (prefix_of stage ss)
histories_are stage ss is = histories_are_rows stage ss is.ordered is.outcomes is.bounded

pub histories_go_on : HistoriesGoOn
histories_go_on stage ss is =
    histories_are (stage + 1) ss is
    ∙ (ap rows (prefix_next stage ss is.ordered)
    ∙ (rows_split (prefix_of stage ss) (of_stage stage ss)
    ∙ ap (flat_map (rows_behind (of_stage stage ss))) (sym (histories_are stage ss is))))

-- how many histories the next stage has
pub histories_next : (stage : ℕ) (ss : List Stochastic) → AreOrderly ss
    → length (histories (stage + 1) ss) ≡ length (histories stage ss) * length (rows (of_stage stage ss))
histories_next stage ss is =
    ap length (histories_go_on stage ss is)
    ∙ pieces_long (rows_behind (of_stage stage ss)) (length (rows (of_stage stage ss))) (behind_long (of_stage stage ss)) (histories stage ss)

-- a history of the next stage, by its number
pub history_next : (stage p i : ℕ) (ss : List Stochastic) → AreOrderly ss → p < length (histories stage ss) → i < length (rows (of_stage stage ss))
    → get_or (histories (stage + 1) ss) (next_number stage ss p i) [] ≡ get_or (histories stage ss) p [] ++ get_or (rows (of_stage stage ss)) i []
history_next stage p i ss is within inside =
    ap (λ list. get_or list (next_number stage ss p i) []) (histories_go_on stage ss is)
    ∙ behind_at (of_stage stage ss) (histories stage ss) p i within inside

-- its number is one of those of the next stage
pub next_within : (stage p i : ℕ) (ss : List Stochastic) → AreOrderly ss → p < length (histories stage ss) → i < length (rows (of_stage stage ss))
    → next_number stage ss p i < length (histories (stage + 1) ss)
next_within stage p i ss is within inside =
    omega (arith, histories_next stage ss is, mul-add-lt p (length (rows (of_stage stage ss))) i (length (histories stage ss)) within inside)

-- The size of blocks.

swap : (a b : ℕ) → a * b ≡ b * a
swap a b = omega arith

pub some_histories : (stage : ℕ) (ss : List Stochastic) → AreOrderly ss → 1 ≤ length (histories stage ss)
some_histories stage ss is =
    let long : length (histories stage ss) ≡ length (rows (prefix_of stage ss)) = ap length (histories_are stage ss is) in
    omega (arith, long, rows_long (prefix_of stage ss), some_scenario (prefix_of stage ss) (first_part HasOutcome (seen_before stage ss) ss is.outcomes))

some_behind : (stage : ℕ) (ss : List Stochastic) → AreOrderly ss → 1 ≤ length (rows (back_of stage ss))
some_behind stage ss is =
    omega (arith, rows_long (back_of stage ss), some_scenario (back_of stage ss) (last_part HasOutcome (seen_before stage ss) ss is.outcomes))

-- all scenarios, by histories and what is behind them
all_counted : (stage : ℕ) (ss : List Stochastic) → AreOrderly ss → length (scenarios ss) ≡ length (rows (back_of stage ss)) * length (histories stage ss)
all_counted stage ss is =
    let long : length (histories stage ss) ≡ length (rows (prefix_of stage ss)) = ap length (histories_are stage ss is) in
    sym (rows_long ss)
    ∙ (ap (λ list. length (rows list)) (sym (take-append-drop (seen_before stage ss) ss))
    ∙ (counted (prefix_of stage ss) (back_of stage ss) ∙ turned (length (rows (prefix_of stage ss))) (length (rows (back_of stage ss))) (length (histories stage ss)) long))
  where
    turned : (a b n : ℕ) → n ≡ a → a * b ≡ b * n
    turned a b n is = swap a b ∙ ap (λ k. b * k) (sym is)

-- a quotient of a product
exactly : (n a w : ℕ) → n ≡ a * w → 1 ≤ w → n / w ≡ a
exactly n a w is some =
    let rest : n ≡ a * w + 0 = omega (arith, is) in
    ap (λ k. k / w) rest ∙ div-mul-add a w 0 (omega (arith, some))

-- a block has a scenario for each row of the variables behind it
pub block_is : (stage : ℕ) (ss : List Stochastic) → AreOrderly ss → block_of stage ss ≡ length (rows (back_of stage ss))
block_is stage ss is =
    exactly (length (scenarios ss)) (length (rows (back_of stage ss))) (length (histories stage ss)) (all_counted stage ss is) (some_histories stage ss is)

pub blocks_fill : BlocksFill
blocks_fill stage ss is =
    record {
      whole =
          ap (λ b. length (histories stage ss) * b) (block_is stage ss is)
          ∙ (swap (length (histories stage ss)) (length (rows (back_of stage ss))) ∙ sym (all_counted stage ss is));
      some = some_histories stage ss is;
      filled = subst (λ b. 1 ≤ b) (sym (block_is stage ss is)) (some_behind stage ss is);
    }

pub blocks_divide : BlocksDivide
blocks_divide stage ss is =
    block_is stage ss is
    ∙ (ap (λ list. length (rows list)) (back_next stage ss is.ordered)
    ∙ (counted (of_stage stage ss) (back_of (stage + 1) ss) ∙ ap (λ b. length (rows (of_stage stage ss)) * b) (sym (block_is (stage + 1) ss is))))

-- a stage has as many histories as rows of its variables for each of the stage before
pub branches_are : (stage : ℕ) (ss : List Stochastic) → AreOrderly ss
    → length (histories (stage + 1) ss) / length (histories stage ss) ≡ length (rows (of_stage stage ss))
branches_are stage ss is =
    exactly (length (histories (stage + 1) ss)) (length (rows (of_stage stage ss))) (length (histories stage ss))
    (histories_next stage ss is ∙ swap (length (histories stage ss)) (length (rows (of_stage stage ss)))) (some_histories stage ss is)

-- The scenarios of a block.

-- the values of a scenario of a block: its history, and values of the variables behind it
pub block_row : (stage p r : ℕ) (ss : List Stochastic) → AreOrderly ss → p < length (histories stage ss) → r < block_of stage ss
    → get_or (rows ss) (p * block_of stage ss + r) [] ≡ get_or (histories stage ss) p [] ++ get_or (rows (back_of stage ss)) r []
block_row stage p r ss is within inside =
    let block : block_of stage ss ≡ length (rows (back_of stage ss)) = block_is stage ss is in
    let list : histories stage ss ≡ rows (prefix_of stage ss) = histories_are stage ss is in
    (λ i. get_or (rows (sym (take-append-drop (seen_before stage ss) ss) i)) (p * block i + r) [])
    ∙ (ap (λ all. get_or all (p * length (rows (back_of stage ss)) + r) []) (rows_split (prefix_of stage ss) (back_of stage ss))
    ∙ (behind_at (back_of stage ss) (rows (prefix_of stage ss)) p r (subst (λ all. p < length all) list within) (subst (λ b. r < b) block inside)
    ∙ ap (λ all. get_or all p [] ++ get_or (rows (back_of stage ss)) r []) (sym list)))

-- a history has a value for each variable before its stage
pub history_long : (stage p : ℕ) (ss : List Stochastic) → AreOrderly ss → p < length (histories stage ss)
    → length (get_or (histories stage ss) p []) ≡ seen_before stage ss
history_long stage p ss is within =
    let list : histories stage ss ≡ rows (prefix_of stage ss) = histories_are stage ss is in
    ap (λ all. length (get_or all p [])) list
    ∙ (row_long (prefix_of stage ss) p (subst (λ all. p < length all) list within) ∙ prefix_long stage ss)

-- there is such a scenario
pub block_within : (stage p r : ℕ) (ss : List Stochastic) → AreOrderly ss → p < length (histories stage ss) → r < block_of stage ss
    → p * block_of stage ss + r < length (rows ss)
block_within stage p r ss is within inside =
    let fills : FillsBlocks stage ss = blocks_fill stage ss is in
    omega (arith, fills.whole, rows_long ss, mul-add-lt p (block_of stage ss) r (length (histories stage ss)) within inside)

-- the history of a scenario of a block
pub block_history : (stage p r : ℕ) (ss : List Stochastic) → AreOrderly ss → p < length (histories stage ss) → r < block_of stage ss
    → history stage ss (get_or (rows ss) (p * block_of stage ss + r) []) ≡ get_or (histories stage ss) p []
block_history stage p r ss is within inside =
    histories_are_prefixes stage ss (get_or (rows ss) (p * block_of stage ss + r) []) is.ordered
    (row_long ss (p * block_of stage ss + r) (block_within stage p r ss is within inside))
    ∙ (ap (take (seen_before stage ss)) (block_row stage p r ss is within inside)
    ∙ take_at (get_or (histories stage ss) p []) (get_or (rows (back_of stage ss)) r []) (seen_before stage ss) (history_long stage p ss is within))

-- the values of the stage's variables in a scenario of a block of the next stage
pub block_values : (stage p i r j : ℕ) (ss : List Stochastic) (d : ℤ) → AreOrderly ss → p < length (histories stage ss) → i < length (rows (of_stage stage ss))
    → r < block_of (stage + 1) ss → j < length (of_stage stage ss)
    → get_or (get_or (rows ss) (next_number stage ss p i * block_of (stage + 1) ss + r) []) (seen_before stage ss + j) d
    ≡ get_or (get_or (rows (of_stage stage ss)) i []) j d
block_values stage p i r j ss d is within inside placed below =
    let seen : List ℤ = get_or (histories stage ss) p [] in
    let row : List ℤ = get_or (rows (of_stage stage ss)) i [] in
    let rest : List ℤ = get_or (rows (back_of (stage + 1) ss)) r [] in
    let long : length seen ≡ seen_before stage ss = history_long stage p ss is within in
    let wide : length row ≡ length (of_stage stage ss) = row_long (of_stage stage ss) i inside in
    ap (λ list. get_or list (seen_before stage ss + j) d)
    (block_row (stage + 1) (next_number stage ss p i) r ss is (next_within stage p i ss is within inside) placed
    ∙ ap (λ list. list ++ rest) (history_next stage p i ss is within inside))
    ∙ (get_or_append_left (seen ++ row) rest d (seen_before stage ss + j) (omega (arith, length-append seen row, long, wide, below))
    ∙ (ap (λ k. get_or (seen ++ row) (k + j) d) (sym long) ∙ get_or-append-add seen row j d))
