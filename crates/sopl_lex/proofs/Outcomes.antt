-- Each text has an outcome.
use Rattle.std.proofs.Common.{◌≡◌, ℕ, zero, suc, ◌+◌, ◌≤◌, ◌<◌, List, [], ◌++◌, length, drop, Result, Ok, Err, refl, subst, arith, ◌⊎◌, inl, inr, length-drop}
use Rattle.std.proofs.lemmas.Bool.{cases_lt}
use Rattle.std.proofs.lemmas.List.{drop_all}
use Rattle.sopl_base.specs.declared.fault.Refusal.{Refusal}
use Rattle.sopl_base.specs.declared.codes.TheConstants as codes
use Rattle.sopl_ast.specs.Pieces.{Piece}
use Rattle.sopl_ast.specs.Tokens.{Cuts, Lexes, too_long, max_length}
use Rattle.sopl_ast.specs.declared.token.Token.{Token}
use Rattle.sopl_lex.specs.Front.{front}
use Rattle.sopl_lex.specs.Reads.{Reads}
use Rattle.sopl_lex.proofs.FrontLemmas.{Holds, front_holds}
use Rattle.sopl_lex.proofs.StepLemmas.{reads_on, reads_start, refuses, token_at}

abbrev Outcome : List ℕ → Type 0
Outcome text = (outcome : Result (List Token) Refusal) × Lexes text outcome

-- a text that is read to its end has its tokens
ended : (text : List ℕ) (at : ℕ) (tokens : List Token) → Reads text at tokens → length text ≤ at → Outcome text
ended text at tokens reads end =
    let within = reads.within in
    let same : at ≡ length text = omega arith in
    let cut = subst (λ n. Cuts text n tokens (drop at text)) same reads.cut in
    (Ok tokens, (reads.fits, subst (Cuts text (length text) tokens) (drop_all at text end) cut, reads.small))

-- a text that is read up to some place has an outcome, by the number of bytes left
goes_on : (left : ℕ) (text : List ℕ) (at : ℕ) (tokens : List Token) → Reads text at tokens → length text ≤ at + left → Outcome text
goes_on zero text at tokens reads end = ended text at tokens reads (omega arith)
goes_on (suc left) text at tokens reads end = by_place (cases_lt at (length text)) (goes_on left text)
  where
    by_front : (answer : Result (Piece × ℕ) Refusal) → Holds at (drop at text) answer → ((to : ℕ) (more : List Token) → Reads text to more → length text ≤ to + left → Outcome text) → Outcome text
    by_front (Ok answer) stands more = more (at + answer.1) (tokens ++ token_at at answer.0 answer.1) (reads_on text at tokens answer.0 answer.1 reads stands) (omega (arith, stands.some))
    by_front (Err refusal) fails more = (Err refusal, refuses text at tokens refusal reads fails)

    by_place : (at < length text) ⊎ (length text ≤ at) → ((to : ℕ) (more : List Token) → Reads text to more → length text ≤ to + left → Outcome text) → Outcome text
    by_place (inl inside) more = by_front (front at (drop at text)) (front_holds at (drop at text) (omega (arith, length-drop at text))) more
    by_place (inr end) more = ended text at tokens reads end

pub lexes_some : (text : List ℕ) → (outcome : Result (List Token) Refusal) × Lexes text outcome
lexes_some text = by_length (cases_lt max_length (length text))
  where
    by_length : (max_length < length text) ⊎ (length text ≤ max_length) → Outcome text
    by_length (inl long) = (Err (record { code = codes.TEXT_LENGTH; at = max_length }), too_long refl refl long)
    by_length (inr fits) = goes_on (length text) text 0 [] (reads_start text fits) (omega arith)
