-- What is made of a reading that may have stopped.
use Rattle.std.specs.Prelude.{◌≡◌, List, Option, Some, Result, Ok, Err, IfOk}
use denote.Ref.{Bor}
use Rattle.sopl_ast.specs.declared.token.Token.{Token}
use Rattle.parse_grammar.specs.declared.marks.Mark.{Mark}
use Rattle.parse_grammar.specs.Reading.{Way, past}
use Rattle.parse_grammar.specs.Phrases.{finished}
use Rattle.parse_exprs.specs.ReaderAnswers.{Answers}
use Rattle.parse_exprs.specs.declared.reader.ParseStop.{ParseStop}

-- what was read is what is answered, behind the mark that follows it; a reading that stops stops there
abbrev pub Ends : {A : Type 0} → Way → Mark → Result (A × Bor (List Token)) ParseStop → Result (A × Bor (List Token)) ParseStop → Type 0
Ends w mark (Ok x) outcome = Answers (λ y. y.1.now) outcome (past w mark x.1.now) × IfOk outcome (λ y. y.0 ≡ x.0)
Ends w mark (Err h) outcome = outcome ≡ Err h

-- what was read, as a part that there is
abbrev pub with_some : {A B : Type 0} → Result (A × B) ParseStop → Result (Option A × B) ParseStop
with_some (Ok x) = Ok (Some x.0, x.1)
with_some (Err h) = Err h

-- what was read is what is answered, where no token is left; a reading that stops stops there
abbrev pub Finishes : {A : Type 0} → Result (A × Bor (List Token)) ParseStop → Result A ParseStop → Type 0
Finishes (Ok x) outcome = Answers (λ a. a) outcome (finished (x.0, x.1.now))
Finishes (Err h) outcome = outcome ≡ Err h
