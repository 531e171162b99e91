-- What a phrase spells: the tokens begin with its spelling, it has a value, and these tokens are left.
-- `cut` says whether the tokens may end too early: where they do, what is still missing counts as spelled, whatever it is.
-- The kinds that a choice, a repetition and a lookahead have are for the reader alone: what is spelled does not depend on them. Those of
-- `not_before` belong to what is spelled.
use Rattle.std.specs.Prelude.{◌≡◌, ◌⊎◌, ℕ, zero, suc, Bool, true, false, List, [], ◌∷◌, Some}
use mathlib.Core.Logic.{inl, inr}
use Rattle.sopl_ast.specs.declared.token.Token.{Token}
use Rattle.sopl_ast.specs.declared.token.TokenKind.{TokenKind}
use Rattle.sopl_ast.specs.KindSets.{first_kind, has_kind}
use Rattle.sopl_ast.specs.Terminals.{Terminal, mark_of, says}
use Rattle.sopl_ast.specs.Nonterminals.{Nonterminal, ValueOf}
use Rattle.sopl_ast.specs.PhraseLanguage.{Phrase, give, terminal, sequence, mapped, deepened, choice, repetition, not_before, lookahead}
use Rattle.sopl_ast.specs.ModelRows.{row}

-- tokens, a value that is spelled at their front, and those that are left
abbrev pub SpellsFrom : Type 0 → Type 1
SpellsFrom A = List Token → A → List Token → Type 0

-- the first token is the terminal
pub data IsTerminal {X : Type 0} (cut : Bool) (w : Terminal X) : List Token → ℕ × X → List Token → Type 0 where
  stands : (u : Token) (us : List Token) (x : X) → says w u.kind ≡ Some x → IsTerminal cut w (u ∷ us) (u.span.start, x) us
  lacking : (x : ℕ × X) → cut ≡ true → IsTerminal cut w [] x []

-- the first token is of this kind, and what counts as nested stands behind it
pub data IsDeepened {B : Type 0} (cut : Bool) (kind : TokenKind) (Nested : SpellsFrom B) : List Token → ℕ × B → List Token → Type 0 where
  deepens : (u : Token) (us : List Token) (b : B) (r : List Token) → says (mark_of kind) u.kind ≡ Some tt → Nested us b r
      → IsDeepened cut kind Nested (u ∷ us) (u.span.start, b) r
  lacking_nested : (x : ℕ × B) → cut ≡ true → IsDeepened cut kind Nested [] x []

-- one behind the other, as often as there are values
pub data AreRepeated {A : Type 0} (Item : SpellsFrom A) : List Token → List A → List Token → Type 0 where
  none_more : (r : List Token) → AreRepeated Item r [] r
  one_more : (ts : List Token) (a : A) (us : List Token) (more : List A) (r : List Token)
      → Item ts a us → AreRepeated Item us more r → AreRepeated Item ts (a ∷ more) r

-- a terminal and what follows it, or another phrase
pub data IsEither {Y T A : Type 0} (First : SpellsFrom Y) (Then : SpellsFrom T) (Other : SpellsFrom A)
    : List Token → (Y × T) ⊎ A → List Token → Type 0 where
  alone : (ts : List Token) (y : Y) (us : List Token) (z : T) (r : List Token)
      → First ts y us → Then us z r → IsEither First Then Other ts (inl (y, z)) r
  otherwise : (ts : List Token) (a : A) (r : List Token) → Other ts a r → IsEither First Then Other ts (inr a) r

-- what each nonterminal spells
abbrev pub Spellings : Type 1
Spellings = (s : Nonterminal) → SpellsFrom (ValueOf s)

-- the tokens begin with the phrase
abbrev pub IsSpelled : Bool → Spellings → {A : Type 0} → Phrase A → SpellsFrom A
IsSpelled cut inside (give a) ts x r = (x ≡ a) × (ts ≡ r)
IsSpelled cut inside (terminal w) ts x r = IsTerminal cut w ts x r
IsSpelled cut inside (sequence {A} {B} p q) ts x r =
    (us : List Token) × (IsSpelled cut inside p ts x.0 us × IsSpelled cut inside q us x.1 r)
IsSpelled cut inside (mapped {A} {B} f p) ts x r = (a : A) × (IsSpelled cut inside p ts a r × (x ≡ f a))
IsSpelled cut inside (deepened kind s) ts x r = IsDeepened cut kind (inside s) ts x r
IsSpelled cut inside (choice ks p q) ts x r = IsSpelled cut inside p ts x r ⊎ IsSpelled cut inside q ts x r
IsSpelled cut inside (repetition ks p) ts x r = AreRepeated (IsSpelled cut inside p) ts x r
IsSpelled cut inside (not_before ks p) ts x r = IsSpelled cut inside p ts x r × (has_kind ks (first_kind r) ≡ false)
IsSpelled cut inside (lookahead w ks t p) ts x r = IsEither (IsTerminal cut w) (IsSpelled cut inside t) (IsSpelled cut inside p) ts x r

-- what each nonterminal spells where so many nestings may be open, the one in which it stands and those inside it; nothing where none may
abbrev pub SpelledInside : Bool → ℕ → Spellings
SpelledInside cut zero s ts x r = ⊥
SpelledInside cut (suc n) s ts x r = IsSpelled cut (SpelledInside cut n) (row s) ts x r

-- the tokens begin with the phrase, and never are more nestings open than this
abbrev pub IsSpelledAt : Bool → ℕ → {A : Type 0} → Phrase A → SpellsFrom A
IsSpelledAt cut n p ts x r = IsSpelled cut (SpelledInside cut n) p ts x r
