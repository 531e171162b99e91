-- What is left behind a phrase has names of the form of names, where its tokens have; and what stands behind a mark. `cut` is false, so nothing is missing.
use Rattle.std.proofs.Common.{sym, subst, ℕ, zero, suc, false, List, ◌⊎◌, inl, inr}
use Rattle.std.specs.List.{AllByRecursion}
use Rattle.sopl_ast.specs.declared.token.Token.{Token}
use Rattle.sopl_ast.specs.declared.token.TokenKind.{TokenKind}
use Rattle.sopl_ast.specs.ModelRows.{row}
use Rattle.sopl_ast.specs.Nonterminals.{Nonterminal, ValueOf}
use Rattle.sopl_ast.specs.Origin.{HasForm}
use Rattle.sopl_ast.specs.PhraseLanguage.{Phrase, give, terminal, sequence, mapped, deepened, choice, repetition, not_before, lookahead, place_of_mark, ◌before◌}
use Rattle.sopl_ast.specs.RowSpelling.{IsTerminal, stands, lacking, IsDeepened, deepens, lacking_nested, AreRepeated, none_more, one_more, IsEither, alone, otherwise}
use Rattle.sopl_ast.specs.RowSpelling.{Spellings, IsSpelled, SpelledInside, IsSpelledAt}
use Rattle.sopl_ast.specs.Terminals.{Terminal}

-- each name among the tokens has the form of a name
abbrev pub Formed : List Token → Type 0
Formed tokens = AllByRecursion (λ token. HasForm token.kind) tokens

terminal_formed : {X : Type 0} (w : Terminal X) (ts : List Token) (x : ℕ × X) (r : List Token) → IsTerminal false w ts x r → Formed ts → Formed r
terminal_formed w _ _ _ (stands u us x is) held = held.1
terminal_formed w _ _ _ (lacking x is) held = absurd (cc)

deepened_formed : {B : Type 0} (kind : TokenKind) (Nested : List Token → B → List Token → Type 0) → ((ts : List Token) (b : B) (r : List Token) → Nested ts b r → Formed ts → Formed r)
    → (ts : List Token) (x : ℕ × B) (r : List Token) → IsDeepened false kind Nested ts x r → Formed ts → Formed r
deepened_formed kind Nested each _ _ _ (deepens u us b r is nested) held = each us b r nested held.1
deepened_formed kind Nested each _ _ _ (lacking_nested x is) held = absurd (cc)

repeated_formed : {A : Type 0} (Item : List Token → A → List Token → Type 0) → ((ts : List Token) (a : A) (r : List Token) → Item ts a r → Formed ts → Formed r)
    → (ts : List Token) (xs : List A) (r : List Token) → AreRepeated Item ts xs r → Formed ts → Formed r
repeated_formed Item each _ _ _ (none_more r) held = held
repeated_formed Item each _ _ _ (one_more ts a us more r first later) held = repeated_formed Item each us more r later (each ts a us first held)

choice_formed : (P Q : Type 0) (r : List Token) → (P → Formed r) → (Q → Formed r) → P ⊎ Q → Formed r
choice_formed P Q r f g (inl is) = f is
choice_formed P Q r f g (inr is) = g is

lookahead_formed : {Y T A : Type 0} (First : List Token → Y → List Token → Type 0) (Then : List Token → T → List Token → Type 0) (Other : List Token → A → List Token → Type 0)
    → ((ts : List Token) (y : Y) (r : List Token) → First ts y r → Formed ts → Formed r) → ((ts : List Token) (t : T) (r : List Token) → Then ts t r → Formed ts → Formed r)
    → ((ts : List Token) (a : A) (r : List Token) → Other ts a r → Formed ts → Formed r)
    → (ts : List Token) (x : (Y × T) ⊎ A) (r : List Token) → IsEither First Then Other ts x r → Formed ts → Formed r
lookahead_formed First Then Other f g h _ _ _ (alone ts y us t r one two) held = g us t r two (f ts y us one held)
lookahead_formed First Then Other f g h _ _ _ (otherwise ts a r is) held = h ts a r is held

-- what follows of each of five alternatives
pub one_of_five : {A B C D E P : Type 0} → A ⊎ (B ⊎ (C ⊎ (D ⊎ E))) → (A → P) → (B → P) → (C → P) → (D → P) → (E → P) → P
one_of_five (inl is) a b c d e = a is
one_of_five (inr (inl is)) a b c d e = b is
one_of_five (inr (inr (inl is))) a b c d e = c is
one_of_five (inr (inr (inr (inl is)))) a b c d e = d is
one_of_five (inr (inr (inr (inr is)))) a b c d e = e is

-- behind each nonterminal
abbrev FormedInside : Spellings → Type 0
FormedInside inside = (s : Nonterminal) (ts : List Token) (x : ValueOf s) (r : List Token) → inside s ts x r → Formed ts → Formed r

phrase_formed : (inside : Spellings) → FormedInside inside → {A : Type 0} (p : Phrase A) (ts : List Token) (x : A) (r : List Token) → IsSpelled false inside p ts x r → Formed ts → Formed r
phrase_formed inside nested (give a) ts x r is held = subst Formed is.1 held
phrase_formed inside nested (terminal w) ts x r is held = terminal_formed w ts x r is held
phrase_formed inside nested (sequence p q) ts x r is held =
    phrase_formed inside nested q is.0 x.1 r is.1.1 (phrase_formed inside nested p ts x.0 is.0 is.1.0 held)
phrase_formed inside nested (mapped f p) ts x r is held = phrase_formed inside nested p ts is.0 r is.1.0 held
phrase_formed inside nested (deepened kind s) ts x r is held = deepened_formed kind (inside s) (nested s) ts x r is held
phrase_formed inside nested (choice ks p q) ts x r is held =
    choice_formed (IsSpelled false inside p ts x r) (IsSpelled false inside q ts x r) r (λ i. phrase_formed inside nested p ts x r i held)
    (λ i. phrase_formed inside nested q ts x r i held) is
phrase_formed inside nested (repetition ks p) ts x r is held =
    repeated_formed (IsSpelled false inside p) (λ us a l i f. phrase_formed inside nested p us a l i f) ts x r is held
phrase_formed inside nested (not_before ks p) ts x r is held = phrase_formed inside nested p ts x r is.0 held
phrase_formed inside nested (lookahead w ks t p) ts x r is held =
    lookahead_formed (IsTerminal false w) (IsSpelled false inside t) (IsSpelled false inside p) (λ us y l i f. terminal_formed w us y l i f)
    (λ us y l i f. phrase_formed inside nested t us y l i f) (λ us a l i f. phrase_formed inside nested p us a l i f) ts x r is held

inside_formed : (n : ℕ) → FormedInside (SpelledInside false n)
inside_formed zero s ts x r is held = elim is [ ]
inside_formed (suc n) s ts x r is held = phrase_formed (SpelledInside false n) (inside_formed n) (row s) ts x r is held

-- behind a phrase at each level
pub formed_behind : (n : ℕ) {A : Type 0} (p : Phrase A) (ts : List Token) (x : A) (r : List Token) → IsSpelledAt false n p ts x r → Formed ts → Formed r
formed_behind n p ts x r is held = phrase_formed (SpelledInside false n) (inside_formed n) p ts x r is held

-- a mark, and the phrase behind it
pub record IsAfterMark (n : ℕ) (kind : TokenKind) {A : Type 0} (p : Phrase A) (ts : List Token) (x : A) (r : List Token) : Type 0 where
  pub at : ℕ
  pub tokens : List Token
  pub mark : IsSpelledAt false n (place_of_mark kind) ts at tokens
  pub spelled : IsSpelledAt false n p tokens x r

pub after_mark : (n : ℕ) (kind : TokenKind) {A : Type 0} (p : Phrase A) (ts : List Token) (x : A) (r : List Token) → IsSpelledAt false n (kind before p) ts x r → IsAfterMark n kind p ts x r
after_mark n kind p ts x r is = record {
  at = is.0.0;
  tokens = is.1.0.0;
  mark = is.1.0.1.0;
  spelled = subst (λ y. IsSpelledAt false n p is.1.0.0 y r) (sym is.1.1) is.1.0.1.1;
}
