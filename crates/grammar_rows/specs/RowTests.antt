-- The test of a row: it can be read by the kind of the next token, and what is missing of it can be filled in.
use Rattle.std.specs.Prelude.{ℕ, zero, suc, Bool, true, false, ◌&&◌, not, List, [], ◌∷◌, ◌++◌}
use mathlib.Core.Logic.{inl}
use Rattle.sopl_ast.specs.declared.token.Token.{Token}
use Rattle.sopl_ast.specs.declared.token.TokenKind.{TokenKind}
use Rattle.sopl_ast.specs.declared.token.TokenKind.TheVariants as k
use Rattle.sopl_ast.specs.KindSets.{KindSet, only, first_kind, has_kind, kinds_without, kinds_but}
use Rattle.sopl_ast.specs.Terminals.{kinds_of}
use Rattle.sopl_ast.specs.Nonterminals as s
use Rattle.sopl_ast.specs.Nonterminals.{Nonterminal, ValueOf}
use Rattle.sopl_ast.specs.PhraseLanguage.{Phrase, give, terminal, sequence, mapped, deepened, choice, repetition, not_before, lookahead}
use Rattle.sopl_ast.specs.PhraseLanguage.{nullable, starts, when}
use Rattle.sopl_ast.specs.ExpressionRows.{factor_sign, term_sign, comparison_sign, range_closers}
use Rattle.sopl_ast.specs.ModelRows.{row}
use Rattle.grammar_rows.specs.RowReading.{sample_kind, sample_value, some_value, pick}

-- whether all of the first are in the second
abbrev pub kinds_within : KindSet → KindSet → Bool
kinds_within [] ds = true
kinds_within (c ∷ cs) ds = has_kind ds c && kinds_within cs ds

-- whether none of the first is in the second
abbrev pub kinds_apart : KindSet → KindSet → Bool
kinds_apart [] ds = true
kinds_apart (c ∷ cs) ds = not (has_kind ds c) && kinds_apart cs ds

-- what may go on with an element
abbrev pub on_element : KindSet
on_element = only k.BracketOpen

-- with a chain of sums
abbrev pub on_sum : KindSet
on_sum = on_element ++ kinds_of factor_sign ++ kinds_of term_sign

-- with a comparison
abbrev pub on_comparison : KindSet
on_comparison = on_sum ++ kinds_of comparison_sign

-- with an expression
abbrev pub on_expression : KindSet
on_expression = on_comparison ++ only k.AndAnd ++ only k.OrOr ++ only k.Arrow

-- all but what closes a bracket or a list: the end of the tokens too
abbrev pub open_ends : KindSet → KindSet
open_ends closers = 0 ∷ kinds_but closers

-- the kinds that may go on with each nonterminal
abbrev pub goes_on : Nonterminal → KindSet
goes_on s.Model = []
goes_on s.Expression = on_expression
goes_on s.Negation = on_comparison
goes_on s.Operand = on_element
goes_on s.Summed = on_element
goes_on s.Arguments = only k.Comma ++ on_expression
goes_on s.Compared = on_expression
goes_on s.Task = on_expression
goes_on s.Tasks = on_expression
goes_on s.Bound = only k.Comma ++ open_ends range_closers
goes_on s.Dim = open_ends range_closers
goes_on s.Inits = kinds_but (only k.BracketClose)
goes_on s.IntType = []
goes_on s.Elements = kinds_but (only k.BraceClose)
goes_on s.Outcomes = only k.Comma ++ on_sum
goes_on s.Constraints = kinds_but (only k.BraceClose)
goes_on s.Quantified = []

-- the kinds that may go on with what was read of a phrase
abbrev pub continues : {A : Type 0} → Phrase A → KindSet
continues (give a) = []
continues (terminal w) = []
continues (sequence p q) = continues q ++ when (nullable q) (continues p)
continues (mapped f p) = continues p
continues (deepened kind s) = goes_on s
continues (choice ks p q) = continues p ++ continues q ++ when (nullable q) ks
continues (repetition ks p) = ks ++ continues p
continues (not_before ks p) = kinds_without (continues p) ks
continues (lookahead w ks t p) = (continues t ++ when (nullable t) (open_ends ks)) ++ continues p

-- kinds that never stand behind what was read
abbrev pub never_behind : {A : Type 0} → Phrase A → KindSet
never_behind (mapped f p) = never_behind p
never_behind (sequence p q) = never_behind q
never_behind (repetition ks p) = ks
never_behind p = []

-- whether a phrase can be read by the kind of the next token: alternatives begin apart, and nothing that may go on with a part begins
-- what follows it
abbrev pub is_predictive : {A : Type 0} → Phrase A → Bool
is_predictive (give a) = true
is_predictive (terminal w) = true
is_predictive (sequence p q) = is_predictive p && (is_predictive q && kinds_apart (continues p) (starts q))
is_predictive (mapped f p) = is_predictive p
is_predictive (deepened kind s) = true
is_predictive (choice ks p q) =
    is_predictive p && (is_predictive q && (not (nullable p) &&
    (kinds_within (starts p) ks && (kinds_apart ks (starts q) && not (has_kind ks 0)))))
is_predictive (repetition ks p) =
    is_predictive p && (not (nullable p) && (kinds_within (starts p) ks && (kinds_apart (continues p) (starts p) && not (has_kind ks 0))))
is_predictive (not_before ks p) = is_predictive p && kinds_within ks (never_behind p)
is_predictive (lookahead w ks t p) =
    is_predictive t && (kinds_within (starts t) ks && (is_predictive p && (not (nullable p) && not (has_kind ks 0))))

-- kinds that never stand behind the body of a `sum`
abbrev pub barred : KindSet
barred = kinds_of factor_sign

-- some token of a kind
abbrev pub sample_token : TokenKind → Token
sample_token kind = record { kind = kind; span = record { start = 0; end = 0 } }

-- some tokens of a phrase and their value, and whether they are its spelling, of which no part begins with a barred kind
pub record SampleText (A : Type 0) : Type 0 where
  pub tokens : List Token
  pub value : A
  pub whole : Bool

-- some tokens of a phrase, by some of each nonterminal
abbrev pub sample_of : ((s : Nonterminal) → SampleText (ValueOf s)) → {A : Type 0} → Phrase A → SampleText A
sample_of f (give a) = record { tokens = []; value = a; whole = true }
sample_of f (terminal w) = record { tokens = sample_token (sample_kind w) ∷ []; value = (0, sample_value w); whole = true }
sample_of f (sequence p q) = record {
  tokens = (sample_of f p).tokens ++ (sample_of f q).tokens;
  value = ((sample_of f p).value, (sample_of f q).value);
  whole = (sample_of f p).whole && ((sample_of f q).whole && not (has_kind barred (first_kind (sample_of f q).tokens)));
}
sample_of f (mapped h p) = record { tokens = (sample_of f p).tokens; value = h (sample_of f p).value; whole = (sample_of f p).whole }
sample_of f (deepened kind s) = record { tokens = sample_token kind ∷ (f s).tokens; value = (0, (f s).value); whole = (f s).whole }
sample_of f (choice ks p q) = pick (sample_of f p).whole (sample_of f p) (sample_of f q)
sample_of f (repetition ks p) = record { tokens = []; value = []; whole = true }
sample_of f (not_before ks p) =
    record { tokens = (sample_of f p).tokens; value = (sample_of f p).value; whole = (sample_of f p).whole && kinds_within ks barred }
sample_of f (lookahead w ks t p) = record {
  tokens = sample_token (sample_kind w) ∷ (sample_of f t).tokens;
  value = inl ((0, sample_value w), (sample_of f t).value);
  whole = (sample_of f t).whole;
}

-- some tokens of each nonterminal, of so many nestings at most
abbrev pub samples : ℕ → (s : Nonterminal) → SampleText (ValueOf s)
samples zero s = record { tokens = []; value = some_value s; whole = false }
samples (suc n) s = sample_of (samples n) (row s)

-- whether what is missing of a phrase can be filled in by two nestings more
abbrev pub is_fillable : {A : Type 0} → Phrase A → Bool
is_fillable (sequence p q) =
    is_fillable p && (is_fillable q &&
    ((sample_of (samples 2) q).whole && not (has_kind barred (first_kind (sample_of (samples 2) q).tokens))))
is_fillable (mapped f p) = is_fillable p
is_fillable (deepened kind s) = (samples 2 s).whole
is_fillable (choice ks p q) = is_fillable p && is_fillable q
is_fillable (repetition ks p) = is_fillable p
is_fillable (not_before ks p) = is_fillable p && kinds_within ks barred
is_fillable (lookahead w ks t p) = (is_fillable t && (sample_of (samples 2) t).whole) && is_fillable p
is_fillable p = true

-- whether a row passes: it can be read by the kind of the next token, no other kinds go on with it than those said, and it can be filled in
abbrev pub row_passes : Nonterminal → Bool
row_passes s = is_predictive (row s) && (kinds_within (continues (row s)) (goes_on s) && is_fillable (row s))
