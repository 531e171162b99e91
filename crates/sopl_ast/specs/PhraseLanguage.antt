-- The language in which rows are written: nine ways to build a phrase, and the forms in which the rows use them.
use Rattle.std.specs.Prelude.{ℕ, Bool, true, false, ◌&&◌, List, [], ◌∷◌, ◌++◌, Option, Some, None, ◌⊎◌}
use Rattle.sopl_ast.specs.declared.token.TokenKind.{TokenKind}
use Rattle.sopl_ast.specs.KindSets.{KindSet, only, kinds_but}
use Rattle.sopl_ast.specs.Nonterminals.{Nonterminal, ValueOf}
use Rattle.sopl_ast.specs.Terminals.{Terminal, mark_of, kinds_of}

infixr 30 ◌then◌
infixr 30 ◌before◌
infixr 30 ◌closed_by◌
infixl 20 ◌makes◌
infixr 10 ◌or◌
-- a phrase, by the values that it has
pub data Phrase : Type 0 → Type 1 where
  -- no token, and this value
  give : {A : Type 0} → A → Phrase A
  -- one token: its place, and what it says
  terminal : {X : Type 0} → Terminal X → Phrase (ℕ × X)
  -- one behind the other
  sequence : {A B : Type 0} → Phrase A → Phrase B → Phrase (A × B)
  -- another value of what is spelled
  mapped : {A B : Type 0} → (A → B) → Phrase A → Phrase B
  -- a token of this kind, which counts as one more nesting, and the nonterminal behind it: its place, and the value
  deepened : TokenKind → (s : Nonterminal) → Phrase (ℕ × ValueOf s)
  -- one or the other; it is read as the first where one of these kinds stands
  choice : {A : Type 0} → KindSet → Phrase A → Phrase A → Phrase A
  -- any number of times; it is read once more where one of these kinds stands
  repetition : {A : Type 0} → KindSet → Phrase A → Phrase (List A)
  -- the phrase, where none of these kinds stands behind it
  not_before : {A : Type 0} → KindSet → Phrase A → Phrase A
  -- the terminal and what follows it, or the other phrase; it is read as the first where one of these kinds stands behind the terminal
  lookahead : {X T A : Type 0} → Terminal X → KindSet → Phrase T → Phrase A → Phrase (((ℕ × X) × T) ⊎ A)

-- whether a phrase may have no token: of two alternatives the second alone, as the test of rows asks; for the reader alone
abbrev pub nullable : {A : Type 0} → Phrase A → Bool
nullable (give a) = true
nullable (terminal w) = false
nullable (sequence p q) = nullable p && nullable q
nullable (mapped f p) = nullable p
nullable (deepened kind s) = false
nullable (choice ks p q) = nullable q
nullable (repetition ks p) = true
nullable (not_before ks p) = nullable p
nullable (lookahead w ks t p) = false

-- the set, or none of it
abbrev pub when : Bool → KindSet → KindSet
when true ks = ks
when false ks = []

-- the kinds with which a phrase starts, for the reader alone
abbrev pub starts : {A : Type 0} → Phrase A → KindSet
starts (give a) = []
starts (terminal w) = kinds_of w
starts (sequence p q) = starts p ++ when (nullable p) (starts q)
starts (mapped f p) = starts p
starts (deepened kind s) = only kind
starts (choice ks p q) = starts p ++ starts q
starts (repetition ks p) = starts p
starts (not_before ks p) = starts p
starts (lookahead w ks t p) = kinds_of w ++ starts p

-- one behind the other
abbrev pub ◌then◌ : {A B : Type 0} → Phrase A → Phrase B → Phrase (A × B)
◌then◌ p q = sequence p q

-- with the value of a function
abbrev pub ◌makes◌ : {A B : Type 0} → Phrase A → (A → B) → Phrase B
◌makes◌ p f = mapped f p

-- a keyword or a symbol: its place
abbrev pub place_of_mark : TokenKind → Phrase ℕ
place_of_mark kind = terminal (mark_of kind) makes λ x. x.0

-- a mark before a phrase, with the phrase's value
abbrev pub ◌before◌ : {A : Type 0} → TokenKind → Phrase A → Phrase A
◌before◌ kind p = place_of_mark kind then p makes λ x. x.1

-- a phrase and the mark that closes it, with the phrase's value
abbrev pub ◌closed_by◌ : {A : Type 0} → Phrase A → TokenKind → Phrase A
◌closed_by◌ p kind = p then place_of_mark kind makes λ x. x.0

-- a nonterminal between two marks, of which the first counts until the second: the place of the first, and the value
abbrev pub enclosed_at : TokenKind → (s : Nonterminal) → TokenKind → Phrase (ℕ × ValueOf s)
enclosed_at begin s end = deepened begin s closed_by end

-- likewise, with the value alone
abbrev pub enclosed : TokenKind → (s : Nonterminal) → TokenKind → Phrase (ValueOf s)
enclosed begin s end = enclosed_at begin s end makes λ x. x.1

-- an operator and its operand
abbrev pub operator : {X A : Type 0} → Terminal X → Phrase A → Phrase (X × A)
operator w p = terminal w then p makes λ x. (x.0.1, x.1)

-- one phrase or the other, which begin apart
abbrev pub ◌or◌ : {A : Type 0} → Phrase A → Phrase A → Phrase A
◌or◌ p q = choice (starts p) p q

-- a phrase, or nothing
abbrev pub option : {A : Type 0} → Phrase A → Phrase (Option A)
option p = (p makes Some) or give None

-- a phrase any number of times
abbrev pub any : {A : Type 0} → Phrase A → Phrase (List A)
any p = repetition (starts p) p

-- a phrase any number of times, up to a mark
abbrev pub any_until : {A : Type 0} → TokenKind → Phrase A → Phrase (List A)
any_until kind p = repetition (kinds_but (only kind)) p

-- a phrase once or more, with a mark between
abbrev pub one_or_more : {A : Type 0} → TokenKind → Phrase A → Phrase (List A)
one_or_more kind p = p then any (kind before p) makes λ x. x.0 ∷ x.1

-- a list, or an empty one where a mark stands
abbrev pub unless_closed : {A : Type 0} → TokenKind → Phrase (List A) → Phrase (List A)
unless_closed kind p = choice (kinds_but (only kind)) p (give [])
