-- Ranges and dimensions: a name alone is told from a sum by the token behind it. So each row is complete at each level.
use Rattle.std.proofs.Common.{◌≡◌, refl, ap, ◌∙◌, ℕ, zero, suc, Bool, true, false, ◌&&◌, List, [], ◌∷◌, Some, None, Ok, Err, ◌⊎◌, inr}
use Rattle.sopl_base.specs.declared.span.Span.{Span}
use Rattle.sopl_ast.specs.declared.token.Token.{Token}
use Rattle.sopl_ast.specs.declared.token.TokenKind.{TokenKind}
use Rattle.sopl_ast.specs.declared.token.TokenKind.TheVariants as k
use Rattle.sopl_ast.specs.Tree as t
use Rattle.sopl_ast.specs.Tree.{Tree, Node}
use Rattle.parse_grammar.specs.Reading.{Syntax, Read, ◌>>=◌, absent, chain}
use Rattle.sopl_ast.specs.ExpressionRows as expr
use Rattle.sopl_ast.specs.ExpressionRows.{sum_row, ends_row, range_row, binder_row, range_closers, range_tree}
use Rattle.sopl_ast.specs.KindSets.{kind_number, KindSet, only, first_kind, has_kind}
use Rattle.sopl_ast.specs.ModelRows as model
use Rattle.sopl_ast.specs.ModelRows.{row}
use Rattle.sopl_ast.specs.Nonterminals as s
use Rattle.sopl_ast.specs.Nonterminals.{Nonterminal}
use Rattle.sopl_ast.specs.PhraseLanguage.{Phrase, give, terminal, sequence, mapped, deepened, choice, repetition, not_before, lookahead, ◌before◌}
use Rattle.grammar_rows.specs.RowLaws.{ReadsAll}
use Rattle.grammar_rows.specs.RowReading.{terminal_at, and_then, as_alone, as_other, pick, nested_read, read_at}
use Rattle.sopl_ast.specs.RowSpelling.{IsSpelledAt}
use Rattle.grammar_rows.specs.RowTests.{continues, goes_on, is_predictive}
use Rattle.sopl_ast.specs.Terminals.{a_name, mark_of, says}
use Rattle.grammar_rows.proofs.KindSetLaws.{both_true, within_has, apart_has, within_none}
use Rattle.grammar_rows.proofs.Predictive.{row_is, row_goes_on}
use Rattle.grammar_rows.proofs.ReadComplete.{IsGiven, IsClearOf, over, clear, IsToldApart, AreToldApart, NestedComplete, complete}
use Rattle.grammar_rows.proofs.ReadNothing.{none_read, all_then, all_mapped}
use Rattle.grammar_rows.proofs.ReadSteps.{done}
use Rattle.grammar_rows.proofs.RowsPass.{each_row}

-- whether a phrase has no alternatives that a second token tells apart
abbrev pub is_plain : {A : Type 0} → Phrase A → Bool
is_plain (sequence p q) = is_plain p && is_plain q
is_plain (mapped f p) = is_plain p
is_plain (choice ks p q) = is_plain p && is_plain q
is_plain (repetition ks p) = is_plain p
is_plain (not_before ks p) = is_plain p
is_plain (lookahead w ks t p) = false
is_plain p = true

pub plain : {A : Type 0} (p : Phrase A) → is_plain p ≡ true → AreToldApart p
plain (give a) e = tt
plain (terminal w) e = tt
plain (sequence p q) e = let b = both_true (is_plain p) (is_plain q) e in (plain p b.0, plain q b.1)
plain (mapped f p) e = plain p e
plain (deepened kind s) e = tt
plain (choice ks p q) e = let b = both_true (is_plain p) (is_plain q) e in (plain p b.0, plain q b.1)
plain (repetition ks p) e = plain p e
plain (not_before ks p) e = plain p e
plain (lookahead w ks t p) e = absurd (cc)

abbrev token : TokenKind → Span → Token
token kind span = record { kind = kind; span = span }

abbrev name_closers : KindSet
name_closers = kind_number k.Inside ∷ range_closers

-- a name alone is a sum, where one of these kinds stands behind it
name_read : (cut : Bool) (n : ℕ) (bytes : List ℕ) (at : Span) (kind : TokenKind) (span : Span) (us : List Token) → has_kind name_closers (kind_number kind) ≡ true
    → ◌≡◌ {A = Read Tree} (read_at cut n sum_row (token (k.Name bytes) at ∷ token kind span ∷ us)) (Ok (Node at.start (t.Name bytes), token kind span ∷ us))
unfolding chain each_row
name_read cut n bytes at k.Inside span us e = refl
name_read cut n bytes at k.Comma span us e = refl
name_read cut n bytes at k.ParenClose span us e = refl
name_read cut n bytes at k.BracketClose span us e = refl
name_read cut n bytes at k.Semi span us e = refl
name_read cut n bytes at k.Stage span us e = refl
name_read cut n bytes at kind span us e = absurd (cc)

name_over : (n : ℕ) (bytes : List ℕ) (at : Span) → ◌≡◌ {A = Read Tree} (read_at true n sum_row (token (k.Name bytes) at ∷ [])) (Ok (Node at.start (t.Name bytes), []))
unfolding chain each_row
name_over n bytes at = refl

-- no `..` stands there
no_dots : (kind : TokenKind) → has_kind name_closers (kind_number kind) ≡ true → says (mark_of k.DotDot) kind ≡ None
no_dots k.DotDot e = absurd (cc)
no_dots kind e = refl

absent_stops : {A : Type 0} (cut : Bool) (v : A × List Token) (u : Token) (us : List Token) → absent cut v (u ∷ us) ≡ Err (Syntax (u ∷ us))
absent_stops true v u us = refl
absent_stops false v u us = refl

abbrev dots : Phrase Tree
dots = k.DotDot before sum_row

dots_predictive : is_predictive dots ≡ true
unfolding each_row
dots_predictive = refl

dots_stop : (cut : Bool) (n : ℕ) (u : Token) (us : List Token) → says (mark_of k.DotDot) u.kind ≡ None → read_at cut n dots (u ∷ us) ≡ Err (Syntax (u ∷ us))
dots_stop cut n u us e =
    ap (λ o. ((terminal_at cut (mark_of k.DotDot) (u ∷ us) o >>= (λ x. Ok (x.0.0, x.1))) >>= and_then (read_at cut n sum_row)) >>= (λ x. Ok (x.0.1, x.1))) e
    ∙ ap (λ o. ((o >>= (λ x. Ok (x.0.0, x.1))) >>= and_then (read_at cut n sum_row)) >>= (λ x. Ok (x.0.1, x.1))) (absent_stops {A = ℕ × Unit {0}} cut ((0, tt), []) u us)

ends_stop : (cut : Bool) (n : ℕ) (bytes : List ℕ) (at : Span) (us : List Token) → has_kind name_closers (first_kind us) ≡ true
    → read_at cut n ends_row (token (k.Name bytes) at ∷ us) ≡ Err (Syntax us)
unfolding ends_row
ends_stop cut n bytes at [] e = absurd (cc)
ends_stop cut n bytes at (v ∷ vs) e =
    ap (λ o. o >>= and_then (read_at cut n dots)) (name_read cut n bytes at v.kind v.span vs e)
    ∙ ap (λ o. o >>= (λ y. Ok ((Node at.start (t.Name bytes), y.0), y.1))) (dots_stop cut n v vs (no_dots v.kind e))

ends_over : (n : ℕ) (bytes : List ℕ) (at : Span) → ReadsAll (read_at true n ends_row (token (k.Name bytes) at ∷ []))
unfolding ends_row
ends_over n bytes at =
    all_then (read_at true n sum_row (token (k.Name bytes) at ∷ [])) (read_at true n dots) (record { value = Node at.start (t.Name bytes); read = name_over n bytes at })
    (none_read (nested_read true n) dots dots_predictive)

pub range_apart : IsToldApart a_name range_closers ends_row
range_apart = record {
  stops = λ cut n u us x is e. stops_by cut n u.kind u.span us x is (within_has range_closers name_closers (first_kind us) refl e);
  over = λ n u x is. over_by n u.kind u.span x is;
  kind = k.Comma;
  among = refl;
}
  where
    stops_by : (cut : Bool) (n : ℕ) (kind : TokenKind) (at : Span) (us : List Token) (x : List ℕ) → says a_name kind ≡ Some x → has_kind name_closers (first_kind us) ≡ true
        → read_at cut n ends_row (token kind at ∷ us) ≡ Err (Syntax us)
    stops_by cut n (k.Name bytes) at us x is e = ends_stop cut n bytes at us e
    stops_by cut n kind at us x is e = absurd (cc)

    over_by : (n : ℕ) (kind : TokenKind) (at : Span) (x : List ℕ) → says a_name kind ≡ Some x → ReadsAll (read_at true n ends_row (token kind at ∷ []))
    over_by n (k.Name bytes) at x is = ends_over n bytes at
    over_by n kind at x is = absurd (cc)

-- a range stops behind a name, where `in` stands there
range_stops : (cut : Bool) (n : ℕ) (bytes : List ℕ) (at : Span) (us : List Token) → has_kind (only k.Inside) (first_kind us) ≡ true
    → read_at cut n range_row (token (k.Name bytes) at ∷ us) ≡ Err (Syntax us)
unfolding range_row
range_stops cut n bytes at us e =
    let ts = token (k.Name bytes) at ∷ us in
    ap (λ b. pick b (as_alone (Tree × Tree) (at.start, bytes) (done {A = Unit {0} × List Token} (tt, us)))
    (as_other (ℕ × List ℕ) (Unit {0}) (read_at cut n ends_row ts)) >>= (λ x. Ok (range_tree x.0, x.1)))
    (apart_has (only k.Inside) range_closers (first_kind us) refl e)
    ∙ ap (λ o. as_other (ℕ × List ℕ) (Unit {0}) o >>= (λ x. Ok (range_tree x.0, x.1))) (ends_stop cut n bytes at us (within_has (only k.Inside) name_closers (first_kind us) refl e))

range_over : (n : ℕ) (bytes : List ℕ) (at : Span) → ReadsAll (read_at true n range_row (token (k.Name bytes) at ∷ []))
unfolding range_row
range_over n bytes at =
    let ts = token (k.Name bytes) at ∷ [] in
    all_mapped (as_other (ℕ × List ℕ) (Unit {0}) (read_at true n ends_row ts)) range_tree
    (all_mapped {B = ((ℕ × List ℕ) × Unit {0}) ⊎ (Tree × Tree)} (read_at true n ends_row ts) inr (ends_over n bytes at))

dim_apart : IsToldApart a_name (only k.Inside) range_row
dim_apart = record {
  stops = λ cut n u us x is e. stops_by cut n u.kind u.span us x is e;
  over = λ n u x is. over_by n u.kind u.span x is;
  kind = k.Inside;
  among = refl;
}
  where
    stops_by : (cut : Bool) (n : ℕ) (kind : TokenKind) (at : Span) (us : List Token) (x : List ℕ) → says a_name kind ≡ Some x → has_kind (only k.Inside) (first_kind us) ≡ true
        → read_at cut n range_row (token kind at ∷ us) ≡ Err (Syntax us)
    stops_by cut n (k.Name bytes) at us x is e = range_stops cut n bytes at us e
    stops_by cut n kind at us x is e = absurd (cc)

    over_by : (n : ℕ) (kind : TokenKind) (at : Span) (x : List ℕ) → says a_name kind ≡ Some x → ReadsAll (read_at true n range_row (token kind at ∷ []))
    over_by n (k.Name bytes) at x is = range_over n bytes at
    over_by n kind at x is = absurd (cc)

sum_all : AreToldApart sum_row
unfolding each_row
sum_all = plain sum_row refl

ends_all : AreToldApart ends_row
unfolding ends_row
ends_all = (sum_all, (tt, sum_all))

range_all : AreToldApart range_row
unfolding range_row
range_all = (range_apart, (tt, ends_all))

binder_all : AreToldApart binder_row
unfolding binder_row
binder_all = (tt, (tt, range_all))

bound_all : AreToldApart (row s.Bound)
unfolding expr.bound_row
bound_all = (binder_all, (tt, binder_all))

dim_all : AreToldApart (row s.Dim)
unfolding model.dim_row
dim_all = (dim_apart, ((tt, range_all), range_all))

dims_all : AreToldApart model.dims_row
unfolding each_row
dims_all = plain model.dims_row refl

stage_all : AreToldApart model.stage_row
unfolding each_row
stage_all = plain model.stage_row refl

decision_all : AreToldApart model.decision_row
unfolding model.decision_row
decision_all = (tt, (tt, (tt, (dims_all, (tt, (range_all, (stage_all, tt)))))))

integer_all : AreToldApart model.integer_row
unfolding each_row
integer_all = plain model.integer_row refl

range_declaration_all : AreToldApart model.range_declaration_row
unfolding each_row
range_declaration_all = plain model.range_declaration_row refl

set_all : AreToldApart model.set_row
unfolding each_row
set_all = plain model.set_row refl

stochastic_all : AreToldApart model.stochastic_row
unfolding each_row
stochastic_all = plain model.stochastic_row refl

declaration_all : AreToldApart model.declaration_row
unfolding model.declaration_row
declaration_all = (integer_all, (range_declaration_all, (set_all, (decision_all, stochastic_all))))

goal_all : AreToldApart model.goal_row
unfolding each_row
goal_all = plain model.goal_row refl

body_all : AreToldApart model.body_row
unfolding each_row
body_all = plain model.body_row refl

model_all : AreToldApart (row s.Model)
unfolding model.model_row
model_all = (declaration_all, ((goal_all, tt), body_all))

-- in each row
pub row_apart : (s : Nonterminal) → AreToldApart (row s)
unfolding each_row
row_apart s.Model = model_all
row_apart s.Expression = plain (row s.Expression) refl
row_apart s.Negation = plain (row s.Negation) refl
row_apart s.Operand = plain (row s.Operand) refl
row_apart s.Summed = plain (row s.Summed) refl
row_apart s.Arguments = plain (row s.Arguments) refl
row_apart s.Compared = plain (row s.Compared) refl
row_apart s.Task = plain (row s.Task) refl
row_apart s.Tasks = plain (row s.Tasks) refl
row_apart s.Bound = bound_all
row_apart s.Dim = dim_all
row_apart s.Inits = plain (row s.Inits) refl
row_apart s.IntType = plain (row s.IntType) refl
row_apart s.Elements = plain (row s.Elements) refl
row_apart s.Outcomes = plain (row s.Outcomes) refl
row_apart s.Constraints = plain (row s.Constraints) refl
row_apart s.Quantified = plain (row s.Quantified) refl

followed : (cut : Bool) (s : Nonterminal) (r : List Token) → IsClearOf cut (goes_on s) r → IsClearOf cut (continues (row s)) r
followed cut s r (over c e) = over c e
followed cut s r (clear e) = clear (within_none (continues (row s)) (goes_on s) (first_kind r) (row_goes_on s) e)

nested_complete : (cut : Bool) (n : ℕ) → NestedComplete cut n
nested_complete cut zero s r ts us x free is = elim is [ ]
nested_complete cut (suc n) s r ts us x free is = complete cut n (nested_complete cut n) (row s) (row_is s) (row_apart s) us x r (followed cut s r free) is

-- what is spelled is read
pub read_complete : (cut : Bool) (n : ℕ) {A : Type 0} (p : Phrase A) → is_predictive p ≡ true → AreToldApart p → (ts : List Token) (x : A) (r : List Token) → IsClearOf cut (continues p) r
    → IsSpelledAt cut n p ts x r → IsGiven cut (read_at cut n p ts) x r
read_complete cut n p ok ls ts x r free is = complete cut n (nested_complete cut n) p ok ls ts x r free is
