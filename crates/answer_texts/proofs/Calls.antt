-- What came of the calls of the sink of the log: where there is no answer since the sink failed, the last one failed.
use Rattle.std.proofs.Common.{◌≡◌, true, false, Result, Ok, Err, is_err}
use Rattle.sopl_io.specs.Calls.{Outcomes, outcome_of, with_call, AllSucceeded, no_call, LastFailed, StopsWhere}
use Rattle.sopl_io.proofs.Calling.{call_failed, call_made, where_all, where_last}
use Rattle.sopl_base.specs.declared.stop.SearchStop.{SearchStop}
use Rattle.sopl_base.specs.declared.stop.SearchStop.TheVariants as search

-- a `begin`
pub begun_fails : {T E : Type 0} (before now : Outcomes) (result : Result T E) → is_err result ≡ true → now ≡ with_call before (outcome_of result) → LastFailed before now
begun_fails before now (Ok value) failed is = absurd (cc)
begun_fails before now (Err error) failed is = call_failed before before now no_call is

pub begun : {T E : Type 0} (before now : Outcomes) (result : Result T E) → is_err result ≡ false → now ≡ with_call before (outcome_of result) → AllSucceeded before now
begun before now (Ok value) failed is = call_made before before now no_call is
begun before now (Err error) failed is = absurd (cc)

-- a stop that is handed on
pub handed_on : {T U : Type 0} (before now : Outcomes) (found : Result T SearchStop) (result : Result U SearchStop) (stop : SearchStop) → found ≡ Err stop → result ≡ Err stop
    → StopsWhere (found ≡ Err search.Write) before now → StopsWhere (result ≡ Err search.Write) before now
handed_on before now found result search.Write is same stops = where_last before now same (stops.last is)
handed_on before now found result search.NoMemory is same stops = where_all before now (λ e. cc) (stops.all (λ e. cc))

-- an answer that is there
pub found_calls : {T : Type 0} (before now : Outcomes) (found : Result T SearchStop) (value : T) → found ≡ Ok value → StopsWhere (found ≡ Err search.Write) before now → AllSucceeded before now
found_calls before now found value is stops = stops.all (λ e. cc)
