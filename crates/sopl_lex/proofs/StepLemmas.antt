-- What one piece adds to a text that is read up to some place.
use Rattle.std.proofs.Common.{◌≡◌, ℕ, ◌+◌, ◌≤◌, ◌<◌, List, [], ◌∷◌, ◌++◌, length, take, drop, Option, None, Some, Ok, Err, refl, ap, sym, ◌∙◌, subst, arith, inl, inr, length-drop, length-take-le}
use Rattle.std.proofs.lemmas.List.{drop-drop, append-nil}
use Rattle.sopl_base.specs.declared.fault.Fault.{Fault}
use Rattle.sopl_base.specs.declared.fault.Fault.TheVariants as fault
use Rattle.sopl_base.specs.declared.fault.Refusal.{Refusal}
use Rattle.sopl_ast.specs.Pieces.{Piece, Blank, Word}
use Rattle.sopl_ast.specs.Tokens.{AreSmall, Cuts, start, next, Refuses, no_piece, too_large, Reaches, max_length, token_of}
use Rattle.sopl_ast.specs.declared.token.Token.{Token}
use Rattle.sopl_ast.specs.declared.token.TokenKind.{TokenKind}
use Rattle.sopl_lex.specs.TextAnswers.{Answers}
use Rattle.sopl_lex.specs.Front.{front, piece_of_kind}
use Rattle.sopl_lex.specs.Reads.{Reads, RefusesAs}
use Rattle.sopl_lex.specs.Shown.{shown}
use Rattle.sopl_lex.specs.declared.pieces.Piece as code
use Rattle.sopl_lex.proofs.FrontLemmas.{Fails, Holds, IsSmallPiece, Stands, front_holds}

pub reads_start : (text : List ℕ) → length text ≤ max_length → Reads text 0 []
reads_start text h = record { fits = h; within = omega arith; cut = start; small = tt }

-- the token of a piece of this length
abbrev pub token_at : ℕ → Piece → ℕ → List Token
token_at at Blank len = []
token_at at (Word kind) len = record { kind = kind; span = record { start = at; end = at + len } } ∷ []

same_token : (at : ℕ) (piece : Piece) (bytes : List ℕ) (len : ℕ) → length bytes ≡ len → token_of at piece bytes ≡ token_at at piece len
same_token at Blank bytes len e = refl
same_token at (Word kind) bytes len e = ap (token_at at (Word kind)) e

small_append : (tokens more : List Token) → AreSmall tokens → AreSmall more → AreSmall (tokens ++ more)
small_append [] more small others = others
small_append (token ∷ tokens) more small others = (small.0, small_append tokens more small.1 others)

small_token : (at : ℕ) (piece : Piece) (len : ℕ) → IsSmallPiece piece → AreSmall (token_at at piece len)
small_token at Blank len small = tt
small_token at (Word kind) len small = (small, tt)

pub reads_on : (text : List ℕ) (at : ℕ) (tokens : List Token) (piece : Piece) (len : ℕ) → Reads text at tokens → Stands (drop at text) piece len
    → Reads text (at + len) (tokens ++ token_at at piece len)
reads_on text at tokens piece len reads stands =
    let rest = length-drop at text in
    let within = stands.within in
    let same = length-take-le len (drop at text) within in
    let P : ℕ → List Token → List ℕ → Type 0 = λ n more left. Cuts text (at + n) (tokens ++ more) left in
    let cut = next at tokens (drop at text) piece (take len (drop at text)) (drop len (drop at text)) reads.cut stands.begins in
    record {
      fits = reads.fits;
      within = omega (arith, rest, within, reads.within);
      cut =
          subst (P len (token_at at piece len)) (drop-drop len at text)
          (subst (λ n. P n (token_at at piece len) (drop len (drop at text))) same
          (subst (λ more. P (length (take len (drop at text))) more (drop len (drop at text))) (same_token at piece (take len (drop at text)) len same) cut));
      small = small_append tokens (token_at at piece len) reads.small (small_token at piece len stands.small);
    }

-- what holds where the text goes on
front_at : (text : List ℕ) (at : ℕ) → at < length text → Holds at (drop at text) (front at (drop at text))
front_at text at h = front_holds at (drop at text) (omega (arith, length-drop at text))

-- a piece of the code stands at the front
pub piece_stands : (text rest : List ℕ) (at : ℕ) (piece : code.Piece) → at < length text → rest ≡ drop at text → Ok (shown piece) ≡ front at rest
    → Stands (drop at text) (piece_of_kind piece.kind) piece.len
piece_stands text rest at piece h same e =
    subst (Holds at (drop at text)) (sym (e ∙ ap (front at) same)) (front_at text at h)

pub piece_some : (text rest : List ℕ) (at : ℕ) (piece : code.Piece) → at < length text → rest ≡ drop at text → Ok (shown piece) ≡ front at rest → (0 < piece.len) × (at + piece.len ≤ length text)
piece_some text rest at piece h same e =
    let stands = piece_stands text rest at piece h same e in
    (stands.some, omega (arith, stands.within, length-drop at text))

pub reads_word : (text rest : List ℕ) (at : ℕ) (tokens : List Token) (piece : code.Piece) (kind : TokenKind) → Reads text at tokens → at < length text → rest ≡ drop at text → Ok (shown piece)
    ≡ front at rest → piece.kind ≡ Some kind → Reads text (at + piece.len) (tokens ++ record { kind = kind; span = record { start = at; end = at + piece.len } } ∷ [])
reads_word text rest at tokens piece kind reads h same e is =
    let stands = subst (λ o. Stands (drop at text) (piece_of_kind o) piece.len) is (piece_stands text rest at piece h same e) in
    reads_on text at tokens (Word kind) piece.len reads stands

none_of : (o : Option TokenKind) → ((kind : TokenKind) → o ≡ Some kind → ⊥) → o ≡ None
none_of None never = refl
none_of (Some kind) never = absurd (never kind refl)

pub reads_blank : (text rest : List ℕ) (at : ℕ) (tokens : List Token) (piece : code.Piece) → Reads text at tokens → at < length text → rest ≡ drop at text → Ok (shown piece) ≡ front at rest
    → ((kind : TokenKind) → piece.kind ≡ Some kind → ⊥) → Reads text (at + piece.len) tokens
reads_blank text rest at tokens piece reads h same e never =
    let stands = subst (λ o. Stands (drop at text) (piece_of_kind o) piece.len) (none_of piece.kind never) (piece_stands text rest at piece h same e) in
    subst (Reads text (at + piece.len)) (append-nil tokens) (reads_on text at tokens Blank piece.len reads stands)

pub refuses : (text : List ℕ) (at : ℕ) (tokens : List Token) (refusal : Refusal) → Reads text at tokens → Fails at (drop at text) refusal → Refuses text refusal
refuses text at tokens refusal reads fails =
    let cut = subst (λ n. Cuts text n tokens (drop at text)) (sym fails.place) reads.cut in
    let reaches : Reaches text refusal.at (drop at text) = record { tokens = tokens; cut = cut; small = reads.small } in
    elim fails.cause [ inl stuck ↦ no_piece (drop at text) stuck.0 reads.fits reaches stuck.1 | inr large ↦ too_large (drop at text) large.0 reads.fits reaches large.1 ]

pub refuses_as : (text rest : List ℕ) (at : ℕ) (tokens : List Token) (answer : Fault) → Reads text at tokens → at < length text → rest ≡ drop at text
    → Answers shown (Err answer) (λ answer. answer ≡ front at rest) → RefusesAs text answer
refuses_as text rest at tokens (fault.Text refusal) reads h same e =
    refuses text at tokens refusal reads (subst (Holds at (drop at text)) (sym (e ∙ ap (front at) same)) (front_at text at h))
refuses_as text rest at tokens (fault.Limit excess) reads h same e = e
refuses_as text rest at tokens fault.NoMemory reads h same e = tt
