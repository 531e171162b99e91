-- What came of the calls of a source or a sink: none follows one that failed.
use Rattle.std.specs.Prelude.{◌≡◌, ℕ, ◌+◌, ◌≤◌, List, ◌∷◌, length, Option, None, option_map, IfSome, Result, Ok, Err, OnOk, OnErr}
use Rattle.sopl_io.specs.Causes.{one_more}

-- what came of a call
pub data CallOutcome : Type 0 where
  succeeded : CallOutcome
  failed : CallOutcome

abbrev pub outcome_of : {T E : Type 0} → Result T E → CallOutcome
outcome_of (Ok value) = succeeded
outcome_of (Err error) = failed

-- what came of all calls: how many failed, up to the greatest number of 64 bits, and, where that is told, what came of each, the last one first
pub record Outcomes : Type 0 where
  pub failures : ℕ
  pub each : Option (List CallOutcome)

-- one call more
abbrev pub failures_with : ℕ → CallOutcome → ℕ
failures_with failures succeeded = failures
failures_with failures failed = one_more failures

abbrev pub with_call : Outcomes → CallOutcome → Outcomes
with_call before outcome = record { failures = failures_with before.failures outcome; each = option_map (λ all. outcome ∷ all) before.each }

-- outcomes of which nothing is told but how many calls failed
abbrev pub counted : ℕ → Outcomes
counted failures = record { failures = failures; each = None }

-- calls were made, or none, and all of them succeeded
pub data AllSucceeded (before : Outcomes) : Outcomes → Type 0 where
  no_call : AllSucceeded before before
  call_more : (now : Outcomes) → AllSucceeded before now → AllSucceeded before (with_call now succeeded)

-- calls were made, and the last of them failed, and no other
pub record LastFailed (before now : Outcomes) : Type 0 where
  pub earlier : Outcomes
  pub others : AllSucceeded before earlier
  pub last : now ≡ with_call earlier failed

-- of the calls that were made the last one failed where the result is an error, and no other
pub record StopsAtFailure {T E : Type 0} (before now : Outcomes) (result : Result T E) : Type 0 where
  pub all : OnOk result (AllSucceeded before now)
  pub last : OnErr result (LastFailed before now)

-- of the calls that were made the last one failed where the result is one of some errors, and no other
pub record StopsWhere (failure : Type 0) (before now : Outcomes) : Type 0 where
  pub all : ¬ failure → AllSucceeded before now
  pub last : failure → LastFailed before now

-- at most this number of calls were made, where the calls are told
pub record MakesAtMost (most : ℕ) (before now : Outcomes) : Type 0 where
  pub calls : IfSome before.each (λ earlier. IfSome now.each (λ all. length all ≤ length earlier + most))
