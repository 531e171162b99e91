-- A phrase takes a token with which it starts, or none where it may have none, or all of it is missing.
use Rattle.std.proofs.Common.{◌≡◌, refl, sym, ap, subst, ◌∙◌, ℕ, zero, suc, ◌<◌, ◌≤◌, Bool, true, false, ◌&&◌, List, [], ◌++◌, length, arith, ◌⊎◌, inl, inr}
use Rattle.sopl_ast.specs.declared.token.Token.{Token}
use Rattle.sopl_ast.specs.declared.token.TokenKind.{TokenKind}
use Rattle.sopl_ast.specs.KindSets.{KindSet, only, first_kind, has_kind}
use Rattle.sopl_ast.specs.ModelRows.{row}
use Rattle.sopl_ast.specs.Nonterminals.{Nonterminal, ValueOf}
use Rattle.sopl_ast.specs.PhraseLanguage.{Phrase, give, terminal, sequence, mapped, deepened, choice, repetition, not_before, lookahead, nullable, starts, when}
use Rattle.grammar_rows.specs.RowLaws.{TakesTokens, takes, takes_none, lacks_all}
use Rattle.sopl_ast.specs.RowSpelling.{IsTerminal, stands, lacking, IsDeepened, deepens, lacking_nested, AreRepeated, none_more, one_more, IsEither, alone, otherwise}
use Rattle.sopl_ast.specs.RowSpelling.{Spellings, IsSpelled, SpelledInside, IsSpelledAt}
use Rattle.grammar_rows.specs.RowTests.{is_predictive}
use Rattle.sopl_ast.specs.Terminals.{Terminal, mark_of, kinds_of}
use Rattle.grammar_rows.proofs.KindSetLaws.{contra, has_left, has_right, terminal_has}
use Rattle.grammar_rows.proofs.Predictive.{row_is, of_sequence, of_choice, of_repetition, of_not_before, of_lookahead}

pub taken_le : (cut : Bool) (ks : KindSet) (may : Bool) (ts r : List Token) → TakesTokens cut ks may ts r → length r ≤ length ts
taken_le cut ks may ts r (takes h lt) = omega (arith, lt)
taken_le cut ks may ts r (takes_none e same) = let l : length ts ≡ length r = ap (λ l. length l) same in omega (arith, l)
taken_le cut ks may ts r (lacks_all c left right) = let l : length r ≡ 0 = ap (λ l. length l) right in omega (arith, l)

pub none_behind : (cut : Bool) (ks : KindSet) (may : Bool) (us r : List Token) → us ≡ [] → TakesTokens cut ks may us r → r ≡ []
none_behind cut ks may us r gone (takes h lt) = let l : length us ≡ 0 = ap (λ l. length l) gone in absurd (omega (arith, l, lt))
none_behind cut ks may us r gone (takes_none e same) = sym same ∙ gone
none_behind cut ks may us r gone (lacks_all c left right) = right

-- the second of two, behind nothing
second_takes : (cut : Bool) (sp sq : KindSet) (ep eq : Bool) (ts us r : List Token) → ep ≡ true → ts ≡ us → TakesTokens cut sq eq us r → TakesTokens cut (sp ++ when ep sq) (ep && eq) ts r
second_takes cut sp sq ep eq ts us r e same (takes h lt) =
    takes (has_right sp (when ep sq) (first_kind ts) (subst (λ b. has_kind (when b sq) (first_kind ts) ≡ true) (sym e) (ap (λ l. has_kind sq (first_kind l)) same ∙ h)))
    (subst (λ l. length r < length l) (sym same) lt)
second_takes cut sp sq ep eq ts us r e same (takes_none f also) = takes_none (ap (λ b. b && eq) e ∙ f) (same ∙ also)
second_takes cut sp sq ep eq ts us r e same (lacks_all c left right) = lacks_all c (same ∙ left) right

sequence_takes : (cut : Bool) (sp sq : KindSet) (ep eq : Bool) (ts us r : List Token) → TakesTokens cut sp ep ts us → TakesTokens cut sq eq us r
    → TakesTokens cut (sp ++ when ep sq) (ep && eq) ts r
sequence_takes cut sp sq ep eq ts us r (takes h lt) second =
    takes (has_left sp (when ep sq) (first_kind ts) h) (omega (arith, lt, taken_le cut sq eq us r second))
sequence_takes cut sp sq ep eq ts us r (takes_none e same) second = second_takes cut sp sq ep eq ts us r e same second
sequence_takes cut sp sq ep eq ts us r (lacks_all c left right) second = lacks_all c left (none_behind cut sq eq us r right second)

deepened_takes : {B : Type 0} (cut : Bool) (kind : TokenKind) (inside : List Token → B → List Token → Type 0) (ts : List Token) (x : ℕ × B) (r : List Token)
    → ((us : List Token) (b : B) (r : List Token) → inside us b r → length r ≤ length us) → IsDeepened cut kind inside ts x r → TakesTokens cut (only kind) false ts r
deepened_takes cut kind inside _ _ _ short (deepens u us b r is behind) = takes (terminal_has (mark_of kind) u.kind tt is) (omega (arith, short us b r behind))
deepened_takes cut kind inside _ _ _ short (lacking_nested x c) = lacks_all c refl refl

terminal_takes : {X : Type 0} (cut : Bool) (w : Terminal X) (ts : List Token) (x : ℕ × X) (r : List Token) → IsTerminal cut w ts x r → TakesTokens cut (kinds_of w) false ts r
terminal_takes cut w _ _ _ (stands u us x is) = takes (terminal_has w u.kind x is) (omega arith)
terminal_takes cut w _ _ _ (lacking x c) = lacks_all c refl refl

-- the first of two alternatives, which is not empty; the second
one_takes : (cut : Bool) (sp sq : KindSet) (ep may : Bool) (ts r : List Token) → ep ≡ false → TakesTokens cut sp ep ts r → TakesTokens cut (sp ++ sq) may ts r
one_takes cut sp sq ep may ts r full (takes h lt) = takes (has_left sp sq (first_kind ts) h) lt
one_takes cut sp sq ep may ts r full (takes_none e same) = contra ep e full
one_takes cut sp sq ep may ts r full (lacks_all c left right) = lacks_all c left right

other_takes : (cut : Bool) (sp sq : KindSet) (eq : Bool) (ts r : List Token) → TakesTokens cut sq eq ts r → TakesTokens cut (sp ++ sq) eq ts r
other_takes cut sp sq eq ts r (takes h lt) = takes (has_right sp sq (first_kind ts) h) lt
other_takes cut sp sq eq ts r (takes_none e same) = takes_none e same
other_takes cut sp sq eq ts r (lacks_all c left right) = lacks_all c left right

choice_takes : (cut : Bool) (sp sq : KindSet) (ep eq : Bool) (ts r : List Token) (P Q : Type 0) → ep ≡ false → (P → TakesTokens cut sp ep ts r) → (Q → TakesTokens cut sq eq ts r)
    → P ⊎ Q → TakesTokens cut (sp ++ sq) eq ts r
choice_takes cut sp sq ep eq ts r P Q full f g (inl i) = one_takes cut sp sq ep eq ts r full (f i)
choice_takes cut sp sq ep eq ts r P Q full f g (inr i) = other_takes cut sp sq eq ts r (g i)

item_takes : (cut : Bool) (ks : KindSet) (ts us r : List Token) → TakesTokens cut ks false ts us → TakesTokens cut ks true us r → TakesTokens cut ks true ts r
item_takes cut ks ts us r (takes h lt) later = takes h (omega (arith, lt, taken_le cut ks true us r later))
item_takes cut ks ts us r (takes_none e same) later = absurd (cc)
item_takes cut ks ts us r (lacks_all c left right) later = lacks_all c left (none_behind cut ks true us r right later)

pub repetition_takes : {A : Type 0} (cut : Bool) (ks : KindSet) (Item : List Token → A → List Token → Type 0)
    → ((ts : List Token) (a : A) (r : List Token) → Item ts a r → TakesTokens cut ks false ts r)
    → (ts : List Token) (xs : List A) (r : List Token) → AreRepeated Item ts xs r → TakesTokens cut ks true ts r
repetition_takes cut ks Item each _ _ _ (none_more r) = takes_none refl refl
repetition_takes cut ks Item each _ _ _ (one_more ts a us more r i later) = item_takes cut ks ts us r (each ts a us i) (repetition_takes cut ks Item each us more r later)

pub full_takes : (cut : Bool) (ks : KindSet) (may : Bool) (ts r : List Token) → may ≡ false → TakesTokens cut ks may ts r → TakesTokens cut ks false ts r
full_takes cut ks may ts r full f = subst (λ b. TakesTokens cut ks b ts r) full f

-- a terminal and what follows it, or another phrase
lookahead_takes : {X T A : Type 0} (cut : Bool) (w : Terminal X) (st sp : KindSet) (et ep : Bool) (S : List Token → T → List Token → Type 0) (P : List Token → A → List Token → Type 0) → ep ≡ false
    → ((ts : List Token) (t : T) (r : List Token) → S ts t r → TakesTokens cut st et ts r) → ((ts : List Token) (a : A) (r : List Token) → P ts a r → TakesTokens cut sp ep ts r)
    → (ts : List Token) (x : ((ℕ × X) × T) ⊎ A) (r : List Token) → IsEither (IsTerminal cut w) S P ts x r → TakesTokens cut (kinds_of w ++ sp) false ts r
lookahead_takes cut w st sp et ep S P full h f _ _ _ (alone ts y us t r i j) = one_takes cut (kinds_of w) sp false false ts r refl (behind_terminal (terminal_takes cut w ts y us i))
  where
    behind_terminal : TakesTokens cut (kinds_of w) false ts us → TakesTokens cut (kinds_of w) false ts r
    behind_terminal (takes e lt) = takes e (omega (arith, lt, taken_le cut st et us r (h us t r j)))
    behind_terminal (takes_none e same) = absurd (cc)
    behind_terminal (lacks_all c left right) = lacks_all c left (none_behind cut st et us r right (h us t r j))
lookahead_takes cut w st sp et ep S P full h f _ _ _ (otherwise ts a r i) = other_takes cut (kinds_of w) sp false ts r (full_takes cut sp ep ts r full (f ts a r i))

-- what stands inside is no longer than what it stands in
abbrev pub NoLonger : Spellings → Type 0
NoLonger inside = (s : Nonterminal) (us : List Token) (b : ValueOf s) (r : List Token) → inside s us b r → length r ≤ length us

pub phrase_takes : (cut : Bool) (inside : Spellings) → NoLonger inside → {A : Type 0} (p : Phrase A) → is_predictive p ≡ true
    → (ts : List Token) (x : A) (r : List Token) → IsSpelled cut inside p ts x r → TakesTokens cut (starts p) (nullable p) ts r
phrase_takes cut inside short (give a) ok ts x r is = takes_none refl is.1
phrase_takes cut inside short (terminal w) ok ts x r is = terminal_takes cut w ts x r is
phrase_takes cut inside short (sequence p q) ok ts x r is =
    let o = of_sequence p q ok in
    sequence_takes cut (starts p) (starts q) (nullable p) (nullable q) ts is.0 r (phrase_takes cut inside short p o.one ts x.0 is.0 is.1.0)
    (phrase_takes cut inside short q o.two is.0 x.1 r is.1.1)
phrase_takes cut inside short (mapped f p) ok ts x r is = phrase_takes cut inside short p ok ts is.0 r is.1.0
phrase_takes cut inside short (deepened kind s) ok ts x r is = deepened_takes cut kind (inside s) ts x r (short s) is
phrase_takes cut inside short (choice ks p q) ok ts x r is =
    let o = of_choice ks p q ok in
    choice_takes cut (starts p) (starts q) (nullable p) (nullable q) ts r (IsSpelled cut inside p ts x r) (IsSpelled cut inside q ts x r) o.full
    (λ i. phrase_takes cut inside short p o.one ts x r i) (λ i. phrase_takes cut inside short q o.two ts x r i) is
phrase_takes cut inside short (repetition ks p) ok ts x r is =
    let o = of_repetition ks p ok in
    repetition_takes cut (starts p) (IsSpelled cut inside p) (λ us a l i. full_takes cut (starts p) (nullable p) us l o.full (phrase_takes cut inside short p o.item us a l i)) ts x r is
phrase_takes cut inside short (not_before ks p) ok ts x r is = phrase_takes cut inside short p (of_not_before ks p ok).item ts x r is.0
phrase_takes cut inside short (lookahead w ks t p) ok ts x r is =
    let o = of_lookahead w ks t p ok in
    lookahead_takes cut w (starts t) (starts p) (nullable t) (nullable p) (IsSpelled cut inside t) (IsSpelled cut inside p) o.full
    (λ us a l i. phrase_takes cut inside short t o.one us a l i) (λ us a l i. phrase_takes cut inside short p o.two us a l i) ts x r is

-- at each level
pub no_longer : (cut : Bool) (n : ℕ) → NoLonger (SpelledInside cut n)
no_longer cut zero s us b r is = elim is [ ]
no_longer cut (suc n) s us b r is =
    taken_le cut (starts (row s)) (nullable (row s)) us r (phrase_takes cut (SpelledInside cut n) (no_longer cut n) (row s) (row_is s) us b r is)

pub takes_at : (cut : Bool) (n : ℕ) {A : Type 0} (p : Phrase A) → is_predictive p ≡ true → (ts : List Token) (x : A) (r : List Token) → IsSpelledAt cut n p ts x r
    → TakesTokens cut (starts p) (nullable p) ts r
takes_at cut n p ok ts x r is = phrase_takes cut (SpelledInside cut n) (no_longer cut n) p ok ts x r is
