-- Kinds of tokens by their numbers, and sets of kinds.
use Rattle.std.specs.Prelude.{ℕ, nat_eq, Bool, true, false, ◌||◌, List, [], ◌∷◌}
use Rattle.sopl_ast.specs.declared.token.Token.{Token}
use Rattle.sopl_ast.specs.declared.token.TokenKind.{TokenKind}
use Rattle.sopl_ast.specs.declared.token.TokenKind.TheVariants as k

-- the number of a kind, whatever the name or the literal is; 0 is left for the end of the tokens
abbrev pub kind_number : TokenKind → ℕ
kind_number (k.Name bytes) = 1
kind_number (k.Lit value) = 2
kind_number k.Int = 3
kind_number k.Range = 4
kind_number k.Dvar = 5
kind_number k.Stoch = 6
kind_number k.Stage = 7
kind_number k.Inside = 8
kind_number k.Subject = 9
kind_number k.To = 10
kind_number k.Forall = 11
kind_number k.Sum = 12
kind_number k.All = 13
kind_number k.Prob = 14
kind_number k.Expected = 15
kind_number k.Worst = 16
kind_number k.Minimize = 17
kind_number k.Maximize = 18
kind_number k.AllDifferent = 19
kind_number k.Cumulative = 20
kind_number k.Div = 21
kind_number k.Mod = 22
kind_number k.Min = 23
kind_number k.Max = 24
kind_number k.Abs = 25
kind_number k.Semi = 26
kind_number k.Comma = 27
kind_number k.Colon = 28
kind_number k.ParenOpen = 29
kind_number k.ParenClose = 30
kind_number k.BracketOpen = 31
kind_number k.BracketClose = 32
kind_number k.BraceOpen = 33
kind_number k.BraceClose = 34
kind_number k.DotDot = 35
kind_number k.Assign = 36
kind_number k.EqEq = 37
kind_number k.NotEq = 38
kind_number k.LessEq = 39
kind_number k.GreaterEq = 40
kind_number k.Less = 41
kind_number k.Greater = 42
kind_number k.Arrow = 43
kind_number k.AndAnd = 44
kind_number k.OrOr = 45
kind_number k.Not = 46
kind_number k.Plus = 47
kind_number k.Minus = 48
kind_number k.Star = 49
kind_number k.Slash = 50

-- the number of the first token's kind
abbrev pub first_kind : List Token → ℕ
first_kind [] = 0
first_kind (u ∷ us) = kind_number u.kind

-- a set of kinds, by their numbers
abbrev pub KindSet : Type 0
KindSet = List ℕ

-- the set of one kind
abbrev pub only : TokenKind → KindSet
only kind = kind_number kind ∷ []

-- whether a kind is in the set
abbrev pub has_kind : KindSet → ℕ → Bool
has_kind [] c = false
has_kind (d ∷ ds) c = nat_eq d c || has_kind ds c

-- the set with this kind, unless it is left out
abbrev pub with_kind : Bool → ℕ → KindSet → KindSet
with_kind true c cs = cs
with_kind false c cs = c ∷ cs

-- those of the first that are not in the second
abbrev pub kinds_without : KindSet → KindSet → KindSet
kinds_without [] ds = []
kinds_without (c ∷ cs) ds = with_kind (has_kind ds c) c (kinds_without cs ds)

-- all kinds
abbrev pub all_kinds : KindSet
all_kinds = 1 ∷ 2 ∷ 3 ∷ 4 ∷ 5 ∷ 6 ∷ 7 ∷ 8 ∷ 9 ∷ 10 ∷ 11 ∷ 12 ∷ 13 ∷ 14 ∷ 15 ∷ 16 ∷ 17 ∷ 18 ∷ 19 ∷ 20 ∷ 21 ∷ 22 ∷ 23 ∷ 24 ∷ 25
    ∷ 26 ∷ 27 ∷ 28 ∷ 29 ∷ 30 ∷ 31 ∷ 32 ∷ 33 ∷ 34 ∷ 35 ∷ 36 ∷ 37 ∷ 38 ∷ 39 ∷ 40 ∷ 41 ∷ 42 ∷ 43 ∷ 44 ∷ 45 ∷ 46 ∷ 47 ∷ 48 ∷ 49 ∷ 50 ∷ []

-- all kinds but these
abbrev pub kinds_but : KindSet → KindSet
kinds_but ks = kinds_without all_kinds ks
