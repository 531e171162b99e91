-- Marks, terminals and nestings of rows, as code reads them.
use Rattle.std.proofs.Common.{◌≡◌, refl, sym, ap, ◌∙◌, ℕ, zero, suc, Bool, true, false, ◌||◌, not, List, [], ◌∷◌, Option, Some, None, Result, Ok, Err}
use Rattle.std.specs.Prelude.{nat_eq}
use Rattle.sopl_ast.specs.declared.token.Token.{Token}
use Rattle.sopl_ast.specs.declared.token.TokenKind.{TokenKind}
use Rattle.sopl_ast.specs.declared.token.TokenKind.TheVariants as k
use Rattle.parse_grammar.specs.declared.marks.Mark.{Mark}
use Rattle.parse_grammar.specs.declared.marks.Mark.TheVariants as m
use Rattle.parse_grammar.specs.Heads as h
use Rattle.parse_grammar.specs.Heads.{head, rest, place, kind_of, is_mark}
use Rattle.parse_grammar.specs.Phrases as phrases
use Rattle.parse_grammar.specs.Phrases.{way, is_over, inner_of, deeper}
use Rattle.parse_grammar.specs.Reading.{Stop, Syntax, Read, Inner, ◌>>=◌, past, passed, opening, opened, content_of, enter, name, name_at}
use Rattle.sopl_ast.specs.ExpressionRows.{factor_sign, term_sign, comparison_sign, function_sign, extreme_sign, range_closers}
use Rattle.sopl_ast.specs.KindSets.{kind_number, KindSet, only, first_kind, has_kind, kinds_but}
use Rattle.sopl_ast.specs.ModelRows.{row, direction_sign, measure_sign}
use Rattle.sopl_ast.specs.Nonterminals as s
use Rattle.sopl_ast.specs.Nonterminals.{Nonterminal, ValueOf}
use Rattle.sopl_ast.specs.PhraseLanguage.{Phrase, terminal, deepened, place_of_mark, ◌before◌, ◌closed_by◌, enclosed, enclosed_at}
use Rattle.grammar_rows.specs.ReadersOfRows.{int_mark, reader_of}
use Rattle.grammar_rows.specs.RowReading.{said, terminal_at, deepened_at, pick, nested_read, read_at}
use Rattle.sopl_ast.specs.Terminals.{Terminal, a_name, found_or, mark_of, says, kinds_of}
use Rattle.grammar_rows.proofs.KindSetLaws.{terminal_has, terminal_lacks, none_ends, some_number}
use Rattle.grammar_rows.proofs.ReadPlans.{chained, Plan, part, two_parts, other_value, PlanAt, known, known_then, known_value}

-- no mark stands where there is no token
no_mark : (mark : Mark) → is_mark mark None ≡ false
unfolding is_mark
no_mark m.Int = refl
no_mark mark = refl

-- a mark is seen by the number of its kind
same_mark : (mark : Mark) (kind : TokenKind) → nat_eq (kind_number (kind_of mark)) (kind_number kind) ≡ is_mark mark (Some kind)
unfolding is_mark
same_mark m.Int k.Int = refl
same_mark m.Assign k.Assign = refl
same_mark m.Semi k.Semi = refl
same_mark m.Comma k.Comma = refl
same_mark m.Colon k.Colon = refl
same_mark m.DotDot k.DotDot = refl
same_mark m.Inside k.Inside = refl
same_mark m.Stage k.Stage = refl
same_mark m.Subject k.Subject = refl
same_mark m.To k.To = refl
same_mark m.Forall k.Forall = refl
same_mark m.Sum k.Sum = refl
same_mark m.All k.All = refl
same_mark m.Prob k.Prob = refl
same_mark m.AllDifferent k.AllDifferent = refl
same_mark m.Cumulative k.Cumulative = refl
same_mark m.Dvar k.Dvar = refl
same_mark m.Stoch k.Stoch = refl
same_mark m.Range k.Range = refl
same_mark m.ParenOpen k.ParenOpen = refl
same_mark m.ParenClose k.ParenClose = refl
same_mark m.BracketOpen k.BracketOpen = refl
same_mark m.BracketClose k.BracketClose = refl
same_mark m.BraceOpen k.BraceOpen = refl
same_mark m.BraceClose k.BraceClose = refl
same_mark m.Minus k.Minus = refl
same_mark m.Not k.Not = refl
same_mark m.AndAnd k.AndAnd = refl
same_mark m.OrOr k.OrOr = refl
same_mark m.Arrow k.Arrow = refl
same_mark m.GreaterEq k.GreaterEq = refl
same_mark m.Slash k.Slash = refl
same_mark mark kind = refl

or_false : (b : Bool) → b || false ≡ b
or_false true = refl
or_false false = refl

pub mark_first : (mark : Mark) (ts : List Token) → has_kind (only (kind_of mark)) (first_kind ts) ≡ is_mark mark (head ts)
mark_first mark [] = ap (λ b. b || false) (some_number (kind_of mark)) ∙ sym (no_mark mark)
mark_first mark (u ∷ us) = or_false (nat_eq (kind_number (kind_of mark)) (kind_number u.kind)) ∙ same_mark mark u.kind

abbrev flag : Bool → Option (Unit {0})
flag b = found_or b tt None

mark_says : (mark : Mark) (kind : TokenKind) → says (mark_of (kind_of mark)) kind ≡ flag (is_mark mark (Some kind))
mark_says mark kind = ap flag (same_mark mark kind)

pub mark_said : (mark : Mark) (ts : List Token) → said (mark_of (kind_of mark)) ts ≡ flag (is_mark mark (head ts))
mark_said mark [] = sym (ap flag (no_mark mark))
mark_said mark (u ∷ us) = mark_says mark u.kind

-- what terminals are to the reader
factor_says : (kind : TokenKind) → says factor_sign kind ≡ h.factor_of_kind kind
factor_says k.Star = refl
factor_says kind = refl

pub factor_said : (ts : List Token) → said factor_sign ts ≡ h.factor_operator (head ts)
unfolding h.factor_operator
factor_said [] = refl
factor_said (u ∷ us) = factor_says u.kind

term_says : (kind : TokenKind) → says term_sign kind ≡ h.term_of_kind kind
term_says k.Plus = refl
term_says kind = refl

pub term_said : (ts : List Token) → said term_sign ts ≡ h.term_operator (head ts)
unfolding h.term_operator
term_said [] = refl
term_said (u ∷ us) = term_says u.kind

comparison_says : (kind : TokenKind) → says comparison_sign kind ≡ h.comparison_of_kind kind
comparison_says k.EqEq = refl
comparison_says kind = refl

pub comparison_said : (ts : List Token) → said comparison_sign ts ≡ h.comparison_operator (head ts)
unfolding h.comparison_operator
comparison_said [] = refl
comparison_said (u ∷ us) = comparison_says u.kind

function_says : (kind : TokenKind) → says function_sign kind ≡ h.function_of_kind kind
function_says k.Abs = refl
function_says kind = refl

pub function_said : (ts : List Token) → said function_sign ts ≡ h.number_function (head ts)
unfolding h.number_function
function_said [] = refl
function_said (u ∷ us) = function_says u.kind

extreme_says : (kind : TokenKind) → says extreme_sign kind ≡ h.extreme_of_kind kind
extreme_says k.Min = refl
extreme_says kind = refl

pub extreme_said : (ts : List Token) → said extreme_sign ts ≡ h.extreme_function (head ts)
unfolding h.extreme_function
extreme_said [] = refl
extreme_said (u ∷ us) = extreme_says u.kind

direction_says : (kind : TokenKind) → says direction_sign kind ≡ h.direction_of_kind kind
direction_says k.Minimize = refl
direction_says kind = refl

pub direction_said : (ts : List Token) → said direction_sign ts ≡ h.goal_direction (head ts)
unfolding h.goal_direction
direction_said [] = refl
direction_said (u ∷ us) = direction_says u.kind

measure_says : (kind : TokenKind) → says measure_sign kind ≡ h.measure_of_kind kind
measure_says k.Expected = refl
measure_says kind = refl

pub measure_said : (ts : List Token) → said measure_sign ts ≡ h.goal_measure (head ts)
unfolding h.goal_measure
measure_said [] = refl
measure_said (u ∷ us) = measure_says u.kind

abbrev pub is_there : Option Bool → Bool
is_there None = false
is_there (Some b) = true

ends_by_kind : (kind : TokenKind) → has_kind range_closers (kind_number kind) ≡ is_there (h.range_end (Some kind))
unfolding h.range_end
ends_by_kind k.Comma = refl
ends_by_kind kind = refl

pub range_ends : (ts : List Token) → has_kind range_closers (first_kind ts) ≡ is_there (h.range_end (head ts))
unfolding h.range_end
range_ends [] = refl
range_ends (u ∷ us) = ends_by_kind u.kind

-- a list in brackets or braces goes on, unless its mark stands there or no token is left
but_bracket : (kind : TokenKind) → has_kind (kinds_but (only k.BracketClose)) (kind_number kind) ≡ not (is_mark m.BracketClose (Some kind))
unfolding is_mark
but_bracket k.BracketClose = refl
but_bracket kind = refl

but_brace : (kind : TokenKind) → has_kind (kinds_but (only k.BraceClose)) (kind_number kind) ≡ not (is_mark m.BraceClose (Some kind))
unfolding is_mark
but_brace k.BraceClose = refl
but_brace kind = refl

pub bracket_over : (ts : List Token) → has_kind (kinds_but (only k.BracketClose)) (first_kind ts) ≡ not (is_over (is_mark m.BracketClose (head ts)) ts)
bracket_over [] = refl
bracket_over (u ∷ us) = but_bracket u.kind

pub brace_over : (ts : List Token) → has_kind (kinds_but (only k.BraceClose)) (first_kind ts) ≡ not (is_over (is_mark m.BraceClose (head ts)) ts)
brace_over [] = refl
brace_over (u ∷ us) = but_brace u.kind

-- a choice by a test that code makes as well
pub pick_by : {R : Type 0} (t : Bool) (a b : R) (f : Bool → R) (u : Bool) → t ≡ u → (u ≡ true → a ≡ f true) → (u ≡ false → b ≡ f false) → pick t a b ≡ f u
pick_by t a b f true e yes' no' = ap (λ t. pick t a b) e ∙ yes' refl
pick_by t a b f false e yes' no' = ap (λ t. pick t a b) e ∙ no' refl

pub pick_not : {R : Type 0} (t : Bool) (a b : R) (f : Bool → R) (u : Bool) → t ≡ not u → a ≡ f false → b ≡ f true → pick t a b ≡ f u
pick_not t a b f true e yes' no' = ap (λ t. pick t a b) e ∙ no'
pick_not t a b f false e yes' no' = ap (λ t. pick t a b) e ∙ yes'

some_first : {X : Type 0} (w : Terminal X) (ts : List Token) (x : X) → said w ts ≡ Some x → has_kind (kinds_of w) (first_kind ts) ≡ true
some_first w [] x e = absurd (cc)
some_first w (u ∷ us) x e = terminal_has w u.kind x e

none_first : {X : Type 0} (w : Terminal X) (ts : List Token) → said w ts ≡ None → has_kind (kinds_of w) (first_kind ts) ≡ false
none_first w [] e = none_ends w
none_first w (u ∷ us) e = terminal_lacks w u.kind e

pub pick_said : {X R : Type 0} (w : Terminal X) (ks : KindSet) (ts : List Token) (a b : R) (f : Option X → R) → ks ≡ kinds_of w → ((x : X) → said w ts ≡ Some x → a ≡ f (Some x))
    → (said w ts ≡ None → b ≡ f None) → pick (has_kind ks (first_kind ts)) a b ≡ f (said w ts)
pick_said {X} {R} w ks ts a b f same some none = ap (λ l. pick (has_kind l (first_kind ts)) a b) same ∙ by_said (said w ts) refl
  where
    by_said : (o : Option X) → said w ts ≡ o → pick (has_kind (kinds_of w) (first_kind ts)) a b ≡ f o
    by_said (Some x) e = ap (λ t. pick t a b) (some_first w ts x e) ∙ some x e
    by_said None e = ap (λ t. pick t a b) (none_first w ts e) ∙ none e

pub pick_mark : {R : Type 0} (mark : Mark) (ts : List Token) (a b : R) (f : Bool → R) → (is_mark mark (head ts) ≡ true → a ≡ f true) → (is_mark mark (head ts) ≡ false → b ≡ f false)
    → pick (has_kind (only (kind_of mark)) (first_kind ts)) a b ≡ f (is_mark mark (head ts))
pick_mark mark ts a b f there missing = pick_by (has_kind (only (kind_of mark)) (first_kind ts)) a b f (is_mark mark (head ts)) (mark_first mark ts) there missing

-- parts of plans
abbrev pub as_function : {B A : Type 0} (n : ℕ) (p : Phrase A) (f : List Token → Read A) → ((ts : List Token) → read_at false n p ts ≡ f ts) → Plan B n A p
as_function n p f e = part p (λ on ts. f ts >>= on) (λ on ts. ap (λ o. o >>= on) (e ts))

pub mark_read : {B : Type 0} (n : ℕ) (mark : Mark) (on : ℕ × List Token → Read B) (ts : List Token)
    → read_at false n (place_of_mark (kind_of mark)) ts >>= on ≡ past (way false n) mark ts >>= (λ left. on (place ts, left))
unfolding past
mark_read {B} n mark on ts =
    ap (λ o. (terminal_at false (mark_of (kind_of mark)) ts o >>= (λ x. Ok (x.0.0, x.1))) >>= on) (mark_said mark ts) ∙ by_test (is_mark mark (head ts))
  where
    by_test : (b : Bool) → (terminal_at false (mark_of (kind_of mark)) ts (flag b) >>= (λ x. Ok (x.0.0, x.1))) >>= on ≡ passed (way false n) ts b >>= (λ left. on (place ts, left))
    by_test true = refl
    by_test false = refl

abbrev pub a_mark : {B : Type 0} (n : ℕ) (mark : Mark) → Plan B n ℕ (place_of_mark (kind_of mark))
a_mark n mark = part (place_of_mark (kind_of mark)) (λ on ts. past (way false n) mark ts >>= (λ left. on (place ts, left))) (mark_read n mark)

-- a mark that does not stand there, and one that does
pub missing_mark_read : {B : Type 0} (n : ℕ) (mark : Mark) (ts : List Token) → is_mark mark (head ts) ≡ false → (on : ℕ × List Token → Read B)
    → read_at false n (place_of_mark (kind_of mark)) ts >>= on ≡ Err (Syntax ts)
missing_mark_read n mark ts e on = ap (λ o. (terminal_at false (mark_of (kind_of mark)) ts o >>= (λ x. Ok (x.0.0, x.1))) >>= on) (mark_said mark ts ∙ ap flag e)

abbrev pub missing_mark : {B : Type 0} (n : ℕ) (mark : Mark) (ts : List Token) → is_mark mark (head ts) ≡ false → PlanAt B n ts ℕ (place_of_mark (kind_of mark))
missing_mark n mark ts e = known (place_of_mark (kind_of mark)) (λ on. Err (Syntax ts)) (missing_mark_read n mark ts e)

pub known_mark_read : {B : Type 0} (n : ℕ) (mark : Mark) (ts : List Token) → is_mark mark (head ts) ≡ true → (on : ℕ × List Token → Read B)
    → read_at false n (place_of_mark (kind_of mark)) ts >>= on ≡ on (place ts, rest ts)
known_mark_read n mark ts e on = ap (λ o. (terminal_at false (mark_of (kind_of mark)) ts o >>= (λ x. Ok (x.0.0, x.1))) >>= on) (mark_said mark ts ∙ ap flag e)

abbrev pub known_mark : {B : Type 0} (n : ℕ) (mark : Mark) (ts : List Token) → is_mark mark (head ts) ≡ true → PlanAt B n ts ℕ (place_of_mark (kind_of mark))
known_mark n mark ts e = known (place_of_mark (kind_of mark)) (λ on. on (place ts, rest ts)) (known_mark_read n mark ts e)

pub known_terminal_read : {X B : Type 0} (n : ℕ) (w : Terminal X) (ts : List Token) (x : X) → said w ts ≡ Some x → (on : (ℕ × X) × List Token → Read B)
    → read_at false n (terminal w) ts >>= on ≡ on ((place ts, x), rest ts)
known_terminal_read n w ts x e on = ap (λ o. terminal_at false w ts o >>= on) e

abbrev pub known_terminal : {X B : Type 0} (n : ℕ) (w : Terminal X) (ts : List Token) (x : X) → said w ts ≡ Some x → PlanAt B n ts (ℕ × X) (terminal w)
known_terminal n w ts x e = known (terminal w) (λ on. on ((place ts, x), rest ts)) (known_terminal_read n w ts x e)

pub name_read : {B : Type 0} (n : ℕ) (on : (ℕ × List ℕ) × List Token → Read B) (ts : List Token)
    → read_at false n (terminal a_name) ts >>= on ≡ name (way false n) ts >>= (λ x. on ((x.0.1, x.0.0), x.1))
unfolding name h.named
name_read {B} n on ts = by_said (said a_name ts)
  where
    by_said : (o : Option (List ℕ)) → terminal_at false a_name ts o >>= on ≡ name_at (way false n) ts o >>= (λ x. on ((x.0.1, x.0.0), x.1))
    by_said (Some bytes) = refl
    by_said None = refl

abbrev pub the_name : {B : Type 0} (n : ℕ) → Plan B n (ℕ × List ℕ) (terminal a_name)
the_name n = part (terminal a_name) (λ on ts. name (way false n) ts >>= (λ x. on ((x.0.1, x.0.0), x.1))) (name_read n)

pub measure_read : {B : Type 0} (n : ℕ) (on : (ℕ × Bool) × List Token → Read B) (ts : List Token)
    → read_at false n (terminal measure_sign) ts >>= on ≡ phrases.measure (way false n) ts >>= (λ x. on ((place ts, x.0), x.1))
unfolding phrases.measure
measure_read {B} n on ts =
    ap (λ o. terminal_at false measure_sign ts o >>= on) (measure_said ts) ∙ by_said (h.goal_measure (head ts))
  where
    by_said : (o : Option Bool) → terminal_at false measure_sign ts o >>= on ≡ phrases.measure_by (way false n) ts o >>= (λ x. on ((place ts, x.0), x.1))
    by_said (Some worst) = refl
    by_said None = refl

abbrev pub the_measure : {B : Type 0} (n : ℕ) → Plan B n (ℕ × Bool) (terminal measure_sign)
the_measure n = part (terminal measure_sign) (λ on ts. phrases.measure (way false n) ts >>= (λ x. on ((place ts, x.0), x.1))) (measure_read n)

-- what stands inside: which field of the reader's phrases reads it
abbrev pub InBracket : Nonterminal → Type 0
InBracket s.Model = ⊥
InBracket s = Unit {0}

abbrev pub inside_of : (s : Nonterminal) → Inner → List Token → Read (ValueOf s)
inside_of s.Model inner ts = Err (Syntax ts)
inside_of s.Expression inner ts = inner.expression ts
inside_of s.Negation inner ts = inner.negation ts
inside_of s.Operand inner ts = inner.operand ts
inside_of s.Summed inner ts = inner.summed ts
inside_of s.Arguments inner ts = inner.arguments ts
inside_of s.Compared inner ts = inner.compared ts
inside_of s.Task inner ts = inner.task ts
inside_of s.Tasks inner ts = inner.tasks ts
inside_of s.Bound inner ts = inner.bound ts
inside_of s.Dim inner ts = inner.dim ts
inside_of s.Inits inner ts = inner.inits ts
inside_of s.IntType inner ts = int_mark (way false zero) ts
inside_of s.Elements inner ts = inner.elements ts
inside_of s.Outcomes inner ts = inner.outcomes ts
inside_of s.Constraints inner ts = inner.constraints ts
inside_of s.Quantified inner ts = inner.quantified ts

-- a mark is passed alike at each level
pub past_same : (n : ℕ) (mark : Mark) (ts : List Token) → past (way false zero) mark ts ≡ past (way false n) mark ts
unfolding past
past_same n mark ts = by_test (is_mark mark (head ts))
  where
    by_test : (b : Bool) → passed (way false zero) ts b ≡ passed (way false n) ts b
    by_test true = refl
    by_test false = refl

inside_is : (s : Nonterminal) → InBracket s → (n : ℕ) (ts : List Token) → inside_of s (inner_of (way false n)) ts ≡ reader_of s (way false n) ts
unfolding inner_of
inside_is s.Model i n ts = elim i [ ]
inside_is s.Expression i n ts = refl
inside_is s.Negation i n ts = refl
inside_is s.Operand i n ts = refl
inside_is s.Summed i n ts = refl
inside_is s.Arguments i n ts = refl
inside_is s.Compared i n ts = refl
inside_is s.Task i n ts = refl
inside_is s.Tasks i n ts = refl
inside_is s.Bound i n ts = refl
inside_is s.Dim i n ts = refl
inside_is s.Inits i n ts = refl
inside_is s.IntType i n ts = ap (λ o. o >>= (λ left. Ok (place ts, left))) (past_same n m.Int ts)
inside_is s.Elements i n ts = refl
inside_is s.Outcomes i n ts = refl
inside_is s.Constraints i n ts = refl
inside_is s.Quantified i n ts = refl

-- the rows one level below are read alike
abbrev pub TiedAt : ℕ → Type 0
TiedAt n = (s : Nonterminal) (ts : List Token) → read_at false n (row s) ts ≡ reader_of s (way false n) ts

abbrev pub TiedBelow : ℕ → Type 0
TiedBelow n = (m : ℕ) → n ≡ suc m → TiedAt m

pub known_nested_read : {B : Type 0} (n : ℕ) → TiedBelow n → (mark : Mark) (s : Nonterminal) → InBracket s → (ts : List Token) → is_mark mark (head ts) ≡ true
    → (on : (ℕ × ValueOf s) × List Token → Read B)
    → read_at false n (deepened (kind_of mark) s) ts >>= on ≡ (way false n).inside ts >>= (λ inner. inside_of s inner (rest ts) >>= (λ x. on ((place ts, x.0), x.1)))
unfolding deeper
known_nested_read zero below mark s i ts e on =
    ap (λ o. deepened_at false s (nested_read false zero) ts o >>= on) (mark_said mark ts ∙ ap flag e)
known_nested_read (suc m) below mark s i ts e on =
    ap (λ o. deepened_at false s (nested_read false (suc m)) ts o >>= on) (mark_said mark ts ∙ ap flag e)
    ∙ ap (λ o. (o >>= (λ y. Ok ((place ts, y.0), y.1))) >>= on) (below m refl s (rest ts) ∙ sym (inside_is s i m (rest ts)))
    ∙ chained (inside_of s (inner_of (way false m)) (rest ts)) (λ y. Ok ((place ts, y.0), y.1)) on

abbrev pub known_nested : {B : Type 0} (n : ℕ) → TiedBelow n → (mark : Mark) (s : Nonterminal) → InBracket s → (ts : List Token) → is_mark mark (head ts) ≡ true
    → PlanAt B n ts (ℕ × ValueOf s) (deepened (kind_of mark) s)
known_nested n below mark s i ts e =
    known (deepened (kind_of mark) s) (λ on. (way false n).inside ts >>= (λ inner. inside_of s inner (rest ts) >>= (λ x. on ((place ts, x.0), x.1))))
    (known_nested_read n below mark s i ts e)

entered : {A C : Type 0} (o : Result Inner Stop) (r : List Token) (value : A) (content : Inner → List Token → Read A) (on : A × List Token → Read C)
    → o >>= (λ inner. content inner r >>= on) ≡ ((o >>= (λ inner. Ok (Some (inner, r)))) >>= content_of value content) >>= on
entered (Ok inner) r value content on = refl
entered (Err stop) r value content on = refl

pub nested_entered : {B : Type 0} (n : ℕ) → TiedBelow n → (mark : Mark) (s : Nonterminal) → InBracket s → (value : ValueOf s) (on : (ℕ × ValueOf s) × List Token → Read B) (ts : List Token)
    → read_at false n (deepened (kind_of mark) s) ts >>= on ≡ enter (way false n) mark value (inside_of s) ts >>= (λ x. on ((place ts, x.0), x.1))
unfolding opening
nested_entered {B} n below mark s i value on ts = by_test (is_mark mark (head ts)) refl
  where
    by_test : (b : Bool) → is_mark mark (head ts) ≡ b
        → read_at false n (deepened (kind_of mark) s) ts >>= on ≡ (opened (way false n) ts (is_mark mark (head ts)) >>= content_of value (inside_of s)) >>= (λ x. on ((place ts, x.0), x.1))
    by_test true e =
        known_nested_read n below mark s i ts e on
        ∙ entered ((way false n).inside ts) (rest ts) value (inside_of s) (λ x. on ((place ts, x.0), x.1))
        ∙ sym (ap (λ b. (opened (way false n) ts b >>= content_of value (inside_of s)) >>= (λ x. on ((place ts, x.0), x.1))) e)
    by_test false e =
        ap (λ o. deepened_at false s (nested_read false n) ts o >>= on) (mark_said mark ts ∙ ap flag e)
        ∙ sym (ap (λ b. (opened (way false n) ts b >>= content_of value (inside_of s)) >>= (λ x. on ((place ts, x.0), x.1))) e)

abbrev pub a_nested : {B : Type 0} (n : ℕ) → TiedBelow n → (mark : Mark) (s : Nonterminal) → InBracket s → ValueOf s → Plan B n (ℕ × ValueOf s) (deepened (kind_of mark) s)
a_nested n below mark s i value =
    part (deepened (kind_of mark) s) (λ on ts. enter (way false n) mark value (inside_of s) ts >>= (λ x. on ((place ts, x.0), x.1))) (nested_entered n below mark s i value)

-- the forms of rows
abbrev pub mark_before : {B A : Type 0} {n : ℕ} (mark : Mark) {p : Phrase A} → Plan B n A p → Plan B n A (kind_of mark before p)
mark_before {n} mark a = other_value (λ x. x.1) (two_parts (a_mark n mark) a)

abbrev pub closed_by_mark : {B A : Type 0} {n : ℕ} {p : Phrase A} → Plan B n A p → (mark : Mark) → Plan B n A (p closed_by kind_of mark)
closed_by_mark {n} a mark = other_value (λ x. x.0) (two_parts a (a_mark n mark))

abbrev pub a_bracket : {B : Type 0} (n : ℕ) → TiedBelow n → (begin : Mark) (s : Nonterminal) → InBracket s → ValueOf s → (end : Mark)
    → Plan B n (ValueOf s) (enclosed (kind_of begin) s (kind_of end))
a_bracket n below begin s i value end = other_value (λ x. x.1) (closed_by_mark (a_nested n below begin s i value) end)

abbrev pub known_before : {B A : Type 0} {n : ℕ} (mark : Mark) (ts : List Token) → is_mark mark (head ts) ≡ true → {p : Phrase A} → Plan B n A p → PlanAt B n ts A (kind_of mark before p)
known_before {n} mark ts e a = known_value (λ x. x.1) (known_then (known_mark n mark ts e) a)

abbrev pub known_bracket_at : {B : Type 0} (n : ℕ) → TiedBelow n → (begin : Mark) (s : Nonterminal) → InBracket s → (end : Mark) (ts : List Token) → is_mark begin (head ts) ≡ true
    → PlanAt B n ts (ℕ × ValueOf s) (enclosed_at (kind_of begin) s (kind_of end))
known_bracket_at n below begin s i end ts e = known_value (λ x. x.0) (known_then (known_nested n below begin s i ts e) (a_mark n end))

abbrev pub known_bracket : {B : Type 0} (n : ℕ) → TiedBelow n → (begin : Mark) (s : Nonterminal) → InBracket s → (end : Mark) (ts : List Token) → is_mark begin (head ts) ≡ true
    → PlanAt B n ts (ValueOf s) (enclosed (kind_of begin) s (kind_of end))
known_bracket n below begin s i end ts e = known_value (λ x. x.1) (known_bracket_at n below begin s i end ts e)
