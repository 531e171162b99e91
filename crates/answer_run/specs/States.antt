-- The states of the source and of both sinks of a run, as their ghost members tell them.
use Rattle.std.specs.Prelude.{ℕ, List, Option}
use Rattle.sopl_io.specs.Calls.{Outcomes}
use Rattle.sopl_io.specs.Stock.{Stock}
use Rattle.answer_texts.specs.Logs.{SinkState, state_of}

-- a source: the bytes that are left, the texts that it can give, its count of faults, what came of its calls, and the names with which
-- it was begun
pub record SourceState : Type 0 where
  pub left : Option (List ℕ)
  pub stock : Option Stock
  pub faults : ℕ
  pub outcomes : Outcomes
  pub names : Option (List (List ℕ))

-- a sink: what it took and was begun with, its count of faults, and what came of its calls
pub record CalledSink : Type 0 where
  pub state : SinkState
  pub faults : ℕ
  pub outcomes : Outcomes

-- the source, the answer's sink and the log's sink
pub record RunState : Type 0 where
  pub source : SourceState
  pub answer : CalledSink
  pub log : CalledSink

-- each state, gathered from the ghost members
abbrev pub source_state : {S : Type 0} → (S → Option (List ℕ)) → (S → Option Stock) → (S → ℕ) → (S → Outcomes)
    → (S → Option (List (List ℕ))) → S → SourceState
source_state left stock faults outcomes names source =
    record { left = left source; stock = stock source; faults = faults source; outcomes = outcomes source; names = names source }

abbrev pub sink_state : {K : Type 0} → (K → Option (List ℕ)) → (K → ℕ) → (K → Outcomes) → (K → Option (List (List ℕ))) → K → CalledSink
sink_state taken faults outcomes names sink = record { state = state_of taken names sink; faults = faults sink; outcomes = outcomes sink }

abbrev pub run_state : SourceState → CalledSink → CalledSink → RunState
run_state source answer log = record { source = source; answer = answer; log = log }
