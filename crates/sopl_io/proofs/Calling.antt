-- Calls behind one another.
use Rattle.std.proofs.Common.{◌≡◌, ℕ, ◌+◌, ◌-◌, ◌^◌, ◌≤◌, List, ◌∷◌, length, Option, Some, None, option_map, unwrap_or, IfSome, Result, Ok, Err, arith, sym, subst}
use Rattle.sopl_io.specs.Calls.{CallOutcome, Outcomes, MakesAtMost, succeeded, failed, with_call, AllSucceeded, no_call, call_more, LastFailed, StopsAtFailure, StopsWhere}

-- no call
pub none_called : (calls : Outcomes) → AllSucceeded calls calls
none_called calls = no_call

-- one more call that succeeded
pub call_made : (before now next : Outcomes) → AllSucceeded before now → next ≡ with_call now succeeded → AllSucceeded before next
call_made before now next all is = subst (AllSucceeded before) (sym is) (call_more now all)

-- and one that failed
pub call_failed : (before now next : Outcomes) → AllSucceeded before now → next ≡ with_call now failed → LastFailed before next
call_failed before now next all is = record { earlier = now; others = all; last = is }

-- all calls of two lists succeeded
pub calls_more : (before now next : Outcomes) → AllSucceeded before now → AllSucceeded now next → AllSucceeded before next
calls_more before now _ all no_call = all
calls_more before now _ all (call_more next more) = call_more next (calls_more before now next all more)

pub calls_last : (before now next : Outcomes) → AllSucceeded before now → LastFailed now next → LastFailed before next
calls_last before now next all last = record { earlier = last.earlier; others = calls_more before now last.earlier all last.others; last = last.last }

-- calls of which the last one may have failed, behind calls that succeeded
pub stops_later : {T E : Type 0} (before now next : Outcomes) (result : Result T E) → AllSucceeded before now → StopsAtFailure now next result
    → StopsAtFailure before next result
stops_later before now next (Ok value) all stops = record { all = calls_more before now next all stops.all; last = tt }
stops_later before now next (Err error) all stops = record { all = tt; last = calls_last before now next all stops.last }

pub where_later : {F : Type 0} (before now next : Outcomes) → AllSucceeded before now → StopsWhere F now next → StopsWhere F before next
where_later before now next all stops = record {
  all = λ not_so. calls_more before now next all (stops.all not_so);
  last = λ so. calls_last before now next all (stops.last so);
}

-- where it is known whether the last one failed
pub where_all : {F : Type 0} (before now : Outcomes) → ¬ F → AllSucceeded before now → StopsWhere F before now
where_all before now not_so all = record { all = λ _. all; last = λ so. absurd (not_so so) }

pub where_last : {F : Type 0} (before now : Outcomes) → F → LastFailed before now → StopsWhere F before now
where_last before now so last = record { all = λ not_so. absurd (not_so so); last = λ _. last }

-- how many calls there are at most, where they are told
abbrev AreFew : Option (List CallOutcome) → Option (List CallOutcome) → ℕ → Type 0
AreFew before now most = IfSome before (λ earlier. IfSome now (λ all. length all ≤ length earlier + most))

few_none : (calls : Option (List CallOutcome)) → AreFew calls calls 0
few_none None = tt
few_none (Some all) = omega arith

few_later : (before now : Option (List CallOutcome)) (outcome : CallOutcome) (k m : ℕ) → AreFew before now k → k + 1 ≤ m → AreFew before (option_map (λ all. outcome ∷ all) now) m
few_later None now outcome k m few within = tt
few_later (Some earlier) None outcome k m few within = tt
few_later (Some earlier) (Some all) outcome k m few within = omega (arith, few, within)

few_earlier : (before now : Option (List CallOutcome)) (outcome : CallOutcome) (k m : ℕ) → AreFew (option_map (λ all. outcome ∷ all) before) now k → k + 1 ≤ m → AreFew before now m
few_earlier None now outcome k m few within = tt
few_earlier (Some earlier) None outcome k m few within = tt
few_earlier (Some earlier) (Some all) outcome k m few within = omega (arith, few, within)

few_most : (before now : Option (List CallOutcome)) (k m : ℕ) → AreFew before now k → k ≤ m → AreFew before now m
few_most None now k m few within = tt
few_most (Some earlier) None k m few within = tt
few_most (Some earlier) (Some all) k m few within = omega (arith, few, within)

-- no call; one call more, after the others or before them; a greater number
pub none_made : (calls : Outcomes) → MakesAtMost 0 calls calls
none_made calls = record { calls = few_none calls.each }

pub made_later : (before now next : Outcomes) (outcome : CallOutcome) (k m : ℕ) → MakesAtMost k before now → next ≡ with_call now outcome → k + 1 ≤ m → MakesAtMost m before next
made_later before now next outcome k m made is within =
    subst (MakesAtMost m before) (sym is) (record { calls = few_later before.each now.each outcome k m made.calls within })

pub made_earlier : (before next now : Outcomes) (outcome : CallOutcome) (k m : ℕ) → next ≡ with_call before outcome → MakesAtMost k next now → k + 1 ≤ m → MakesAtMost m before now
made_earlier before next now outcome k m is made within =
    let made_so : MakesAtMost k (with_call before outcome) now = subst (λ (calls : Outcomes). MakesAtMost k calls now) is made in
    record { calls = few_earlier before.each now.each outcome k m made_so.calls within }

pub made_most : (before now : Outcomes) (k m : ℕ) → MakesAtMost k before now → k ≤ m → MakesAtMost m before now
made_most before now k m made within = record { calls = few_most before.each now.each k m made.calls within }

-- a most that is given
pub made_given : (most : Option ℕ) (before now : Outcomes) (k : ℕ) → MakesAtMost k before now → k ≤ unwrap_or most (2 ^ 64 - 1) + 1 → IfSome most (λ m. MakesAtMost (m + 1) before now)
made_given None before now k made within = tt
made_given (Some m) before now k made within = made_most before now k (m + 1) made within
