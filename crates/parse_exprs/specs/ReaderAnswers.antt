-- What a reader's result says of the outcome that is computed for its tokens.
use Rattle.std.specs.Prelude.{◌≡◌, Result, Ok, Err}
use Rattle.parse_grammar.specs.Reading.{Stop}
use Rattle.parse_exprs.specs.declared.reader.ParseStop.{ParseStop}
use Rattle.parse_exprs.specs.declared.reader.ParseStop.TheVariants as halt

-- the outcome is the stop that is answered; out of memory says nothing
abbrev pub Fails : {B : Type 0} → ParseStop → Result B Stop → Type 0
Fails (halt.Syntax left) outcome = outcome ≡ Err (Stop.Syntax left.now)
Fails (halt.Depth left) outcome = outcome ≡ Err (Stop.Depth left.now)
Fails halt.NoMemory outcome = Unit {0}

-- the outcome is the value, as `view` shows it, or it is where the reader halts
abbrev pub Answers : {A B : Type 0} → (A → B) → Result A ParseStop → Result B Stop → Type 0
Answers view (Ok value) outcome = outcome ≡ Ok (view value)
Answers view (Err h) outcome = Fails h outcome

-- what was read before and what is read now, as one
abbrev pub with_first : {A B C : Type 0} → A → Result (B × C) ParseStop → Result ((A × B) × C) ParseStop
with_first first (Ok x) = Ok ((first, x.0), x.1)
with_first first (Err h) = Err h
