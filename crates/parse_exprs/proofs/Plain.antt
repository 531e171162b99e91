-- A part of a chain that the grammar sees as the contracts do.
use Rattle.std.proofs.Common.{◌≡◌, List, Option, Some, None, Result, Ok, Err, refl, ap, ◌∙◌, option_map}
use denote.Ref.{Bor}
use Rattle.sopl_ast.specs.declared.token.Token.{Token}
use Rattle.parse_grammar.specs.Reading.{Read}
use Rattle.parse_exprs.specs.ReaderAnswers.{Answers}
use Rattle.parse_exprs.specs.declared.reader.ParseStop.{ParseStop}

-- a part or none, seen through nothing
seen : {A : Type 0} (o : Option A) → o ≡ option_map (λ e. e) o
seen None = refl
seen (Some e) = refl

-- what reads the next part answers the same, seen so
pub plain : {A : Type 0} (r : Result (Option A × Bor (List Token)) ParseStop) (o : Read (Option A))
    → Answers (λ x. (x.0, x.1.now)) r o → Answers (λ x. (option_map (λ e. e) x.0, x.1.now)) r o
plain (Ok x) o h = h ∙ ap (λ part. Ok (part, x.1.now)) (seen x.0)
plain (Err halt) o h = h
