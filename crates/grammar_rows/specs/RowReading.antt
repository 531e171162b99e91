-- How a phrase is read: by the kind of the first token, and in one place by that of the second.
use Rattle.std.specs.Prelude.{ℕ, zero, suc, pos, Bool, true, false, List, [], length, Option, Some, None, Ok, Err, ◌⊎◌}
use mathlib.Core.Logic.{inl, inr}
use Rattle.sopl_ast.specs.declared.token.Token.{Token}
use Rattle.sopl_ast.specs.declared.token.TokenKind.{TokenKind}
use Rattle.sopl_ast.specs.declared.token.TokenKind.TheVariants as k
use Rattle.sopl_ast.specs.Tree.{Ends}
use Rattle.sopl_ast.specs.Whole.{HardTree}
use Rattle.parse_grammar.specs.Expressions.{no_tree}
use Rattle.parse_grammar.specs.Heads.{head, rest, place, at_kind}
use Rattle.parse_grammar.specs.Reading.{Depth, Read, ◌>>=◌, absent, chain}
use Rattle.sopl_ast.specs.KindSets.{KindSet, first_kind, has_kind}
use Rattle.sopl_ast.specs.Terminals.{Terminal, one_of, a_literal, a_name, mark_of, says}
use Rattle.sopl_ast.specs.Nonterminals as s
use Rattle.sopl_ast.specs.Nonterminals.{Nonterminal, ValueOf}
use Rattle.sopl_ast.specs.PhraseLanguage.{Phrase, give, terminal, sequence, mapped, deepened, choice, repetition, not_before, lookahead}
use Rattle.sopl_ast.specs.ModelRows.{row}

-- some kind of token that is the terminal
abbrev pub sample_kind : {X : Type 0} → Terminal X → TokenKind
sample_kind (one_of kind x more) = kind
sample_kind a_literal = k.Lit (pos 0)
sample_kind a_name = k.Name []

-- what a token of that kind says
abbrev pub sample_value : {X : Type 0} → Terminal X → X
sample_value (one_of kind x more) = x
sample_value a_literal = pos 0
sample_value a_name = []

-- some value of each, for one that is missing
abbrev pub some_value : (s : Nonterminal) → ValueOf s
some_value s.Model = record { decls = []; goal = None; body = [] }
some_value s.Expression = no_tree
some_value s.Negation = no_tree
some_value s.Operand = no_tree
some_value s.Summed = ([], no_tree)
some_value s.Arguments = []
some_value s.Compared = ([], no_tree)
some_value s.Task = (no_tree, (no_tree, no_tree))
some_value s.Tasks = ([], ((no_tree, (no_tree, no_tree)), no_tree))
some_value s.Bound = []
some_value s.Dim = record { binder = None; at = 0; range = Ends no_tree no_tree }
some_value s.Inits = []
some_value s.IntType = 0
some_value s.Elements = []
some_value s.Outcomes = []
some_value s.Constraints = []
some_value s.Quantified = ([], HardTree no_tree)

-- what the first token says as the terminal
abbrev pub said : {X : Type 0} → Terminal X → List Token → Option X
said w ts = at_kind (says w) (head ts)

-- the terminal with its place; where it is missing, some value of it
abbrev pub terminal_at : {X : Type 0} → Bool → Terminal X → List Token → Option X → Read (ℕ × X)
terminal_at cut w ts (Some x) = Ok ((place ts, x), rest ts)
terminal_at cut w ts None = absent cut ((0, sample_value w), []) ts

-- how each nonterminal is read behind a token that counts: where that token stands, and where what is behind it stands
abbrev pub NestedReaders : Type 0
NestedReaders = (s : Nonterminal) → List Token → List Token → Read (ValueOf s)

-- the token that counts, and the nonterminal behind it; where both are missing, some value of it
abbrev pub deepened_at : Bool → (s : Nonterminal) → NestedReaders → List Token → Option (Unit {0}) → Read (ℕ × ValueOf s)
deepened_at cut s nested ts (Some x) = nested s ts (rest ts) >>= (λ y. Ok ((place ts, y.0), y.1))
deepened_at cut s nested ts None = absent cut ((0, some_value s), []) ts

-- one or the other
abbrev pub pick : {A : Type 0} → Bool → A → A → A
pick true a b = a
pick false a b = b

-- one item more, where one of these kinds stands
abbrev pub some_more : {A : Type 0} → KindSet → (List Token → Read A) → List Token → Read (Option A)
some_more ks item ts = pick (has_kind ks (first_kind ts)) (item ts >>= (λ x. Ok (Some x.0, x.1))) (Ok (None, ts))

-- as the second of two alternatives
abbrev pub as_other : {A : Type 0} (Y T : Type 0) → Read A → Read ((Y × T) ⊎ A)
as_other Y T o = o >>= (λ y. Ok (inr y.0, y.1))

-- as the first of them, behind the terminal
abbrev pub as_alone : {Y T : Type 0} (A : Type 0) → Y → Read T → Read ((Y × T) ⊎ A)
as_alone A y o = o >>= (λ z. Ok (inl (y, z.0), z.1))

-- the first alternative, where one of these kinds stands behind the terminal, and else the second
abbrev pub by_second : {X T A : Type 0} → KindSet → List Token → Option X → Read T → Read A → Read (((ℕ × X) × T) ⊎ A)
by_second {X} {T} ks ts None onward other = as_other (ℕ × X) T other
by_second {X} {T} {A} ks ts (Some x) onward other =
    pick (has_kind ks (first_kind (rest ts))) (as_alone A (place ts, x) onward) (as_other (ℕ × X) T other)

-- reads on behind what was read
abbrev pub and_then : {A B : Type 0} → (List Token → Read B) → A × List Token → Read (A × B)
and_then q x = q x.1 >>= (λ y. Ok ((x.0, y.0), y.1))

-- what is read of a phrase
abbrev pub phrase_read : Bool → NestedReaders → {A : Type 0} → Phrase A → List Token → Read A
phrase_read cut nested (give a) ts = Ok (a, ts)
phrase_read cut nested (terminal w) ts = terminal_at cut w ts (said w ts)
phrase_read cut nested (sequence p q) ts = phrase_read cut nested p ts >>= and_then (phrase_read cut nested q)
phrase_read cut nested (mapped f p) ts = phrase_read cut nested p ts >>= (λ x. Ok (f x.0, x.1))
phrase_read cut nested (deepened kind s) ts = deepened_at cut s nested ts (said (mark_of kind) ts)
phrase_read cut nested (choice ks p q) ts = pick (has_kind ks (first_kind ts)) (phrase_read cut nested p ts) (phrase_read cut nested q ts)
phrase_read cut nested (repetition ks p) ts = chain (some_more ks (phrase_read cut nested p)) (length ts) [] ts
phrase_read cut nested (not_before ks p) ts = phrase_read cut nested p ts
phrase_read cut nested (lookahead w ks t p) ts =
    by_second ks ts (said w ts) (phrase_read cut nested t (rest ts)) (phrase_read cut nested p ts)

-- how the nonterminals are read where so many nestings may begin: the token that counts once too often is refused
abbrev pub nested_read : Bool → ℕ → NestedReaders
nested_read cut zero s ts us = Err (Depth ts)
nested_read cut (suc n) s ts us = phrase_read cut (nested_read cut n) (row s) us

-- what is read of a phrase where so many nestings may begin
abbrev pub read_at : Bool → ℕ → {A : Type 0} → Phrase A → List Token → Read A
read_at cut n p ts = phrase_read cut (nested_read cut n) p ts
