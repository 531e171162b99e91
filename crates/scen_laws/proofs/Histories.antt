-- Histories of scenarios that agree, and the numbers that they have.
use Rattle.std.proofs.Common.{◌≡◌, ◌+◌, ◌*◌, ◌<◌, ℕ, ℤ, pos, List, [], length, get_or, slice_get, Some, arith, sym, ap, ◌∙◌}
use Rattle.std.proofs.lemmas.List.{get_or-map}
use Rattle.std.proofs.lemmas.Option.{get_or_from_slice_get, slice_get-get_or, slice_get_within}
use Rattle.sopl_ast.specs.Instances.{Stochastic}
use Rattle.sopl_ast.specs.Scenarios.{Scenario, scenarios}
use Rattle.sopl_ast.specs.Histories.{history, histories}
use Rattle.scen_laws.specs.Laws.{rows, seen_before, values_of}
use Rattle.scen_laws.specs.BlockLaws.{block_of, next_number, of_stage, HistoriesAreBlocks, ValuesOfStages}
use Rattle.scen_laws.proofs.BlockRows.{row_long}
use Rattle.scen_laws.proofs.Prefixes.{seen_next, seen_within}
use Rattle.scen_laws.proofs.Blocks.{block_history, block_values, rows_long}

-- the row of a scenario
pub row_is : (ss : List Stochastic) (i : ℕ) (s : Scenario) → slice_get (scenarios ss) i ≡ Some s → get_or (rows ss) i [] ≡ s.values
row_is ss i s at =
    get_or-map values_of (scenarios ss) i s [] (slice_get_within (scenarios ss) i s at)
    ∙ ap values_of (get_or_from_slice_get (scenarios ss) i s s at)

-- a scenario has a value for each variable
pub values_long : (ss : List Stochastic) (i : ℕ) (s : Scenario) → slice_get (scenarios ss) i ≡ Some s → length s.values ≡ length ss
values_long ss i s at =
    let within : i < length (scenarios ss) = slice_get_within (scenarios ss) i s at in
    ap length (sym (row_is ss i s at)) ∙ row_long ss i (omega (arith, rows_long ss, within))

pub histories_are_blocks : HistoriesAreBlocks
histories_are_blocks stage number place ss s is within inside at =
    slice_get-get_or (histories stage ss) number [] within
    ∙ ap Some (sym (block_history stage number place ss is within inside) ∙ ap (history stage ss) (row_is ss (number * block_of stage ss + place) s at))

pub values_of_stages : ValuesOfStages
values_of_stages stage number row place j ss s is within inside placed below at =
    let i : ℕ = next_number stage ss number row * block_of (stage + 1) ss + place in
    let values : List ℤ = get_or (rows (of_stage stage ss)) row [] in
    let long : length s.values ≡ length ss = values_long ss i s at in
    let wide : length values ≡ length (of_stage stage ss) = row_long (of_stage stage ss) row inside in
    slice_get-get_or s.values (seen_before stage ss + j) (pos 0) (omega (arith, long, seen_next stage ss is.ordered, seen_within (stage + 1) ss, below))
    ∙ (ap Some (ap (λ list. get_or list (seen_before stage ss + j) (pos 0)) (sym (row_is ss i s at)) ∙ block_values stage number row place j ss (pos 0) is within inside placed below)
    ∙ sym (slice_get-get_or values j (pos 0) (omega (arith, wide, below))))
