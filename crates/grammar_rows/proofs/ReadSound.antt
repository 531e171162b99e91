-- What is read is spelled.
use Rattle.std.proofs.Common.{◌≡◌, refl, sym, ap, subst, ◌∙◌, ℕ, zero, suc, ◌<◌, Bool, true, false, List, [], ◌∷◌, length, Option, Some, None, Ok, arith, ◌⊎◌, inl, inr}
use Rattle.sopl_ast.specs.declared.token.Token.{Token}
use Rattle.sopl_ast.specs.declared.token.TokenKind.{TokenKind}
use Rattle.parse_grammar.specs.Heads.{rest}
use Rattle.parse_grammar.specs.Reading.{Read}
use Rattle.sopl_ast.specs.KindSets.{KindSet, first_kind, has_kind}
use Rattle.sopl_ast.specs.ModelRows.{row}
use Rattle.sopl_ast.specs.Nonterminals.{Nonterminal, ValueOf}
use Rattle.sopl_ast.specs.PhraseLanguage.{Phrase, give, terminal, sequence, mapped, deepened, choice, repetition, not_before, lookahead, nullable, starts}
use Rattle.grammar_rows.specs.RowLaws.{TakesTokens, takes, takes_none, lacks_all}
use Rattle.grammar_rows.specs.RowReading.{NestedReaders, said, terminal_at, deepened_at, by_second, as_alone, as_other, some_more, and_then, phrase_read, nested_read, read_at}
use Rattle.grammar_rows.specs.RowReading.{sample_value, some_value}
use Rattle.sopl_ast.specs.RowSpelling.{IsTerminal, stands, lacking, IsDeepened, deepens, lacking_nested, AreRepeated, IsEither, alone, otherwise, Spellings, IsSpelled, SpelledInside, IsSpelledAt}
use Rattle.grammar_rows.specs.RowTests.{is_predictive, never_behind}
use Rattle.sopl_ast.specs.Terminals.{Terminal, mark_of, says}
use Rattle.grammar_rows.proofs.KindSetLaws.{contra, within_none}
use Rattle.grammar_rows.proofs.Predictive.{row_is, of_sequence, of_choice, of_repetition, of_not_before, of_lookahead}
use Rattle.grammar_rows.proofs.ReadSteps.{went, kept, not_absent, picked, next_sound, chain_sound}
use Rattle.grammar_rows.proofs.TokensTaken.{NoLonger, phrase_takes, full_takes, no_longer}

terminal_sound : {X : Type 0} (cut : Bool) (w : Terminal X) (ts : List Token) (q : (ℕ × X) × List Token) → terminal_at cut w ts (said w ts) ≡ Ok q → IsTerminal cut w ts q.0 q.1
terminal_sound true w [] q e = kept (IsTerminal true w []) (0, sample_value w) [] q e (lacking (0, sample_value w) refl)
terminal_sound false w [] q e = absurd (cc)
terminal_sound {X} cut w (u ∷ us) q e = by_said (says w u.kind) refl e
  where
    by_said : (o : Option X) → says w u.kind ≡ o → terminal_at cut w (u ∷ us) o ≡ Ok q → IsTerminal cut w (u ∷ us) q.0 q.1
    by_said (Some x) is e = kept (IsTerminal cut w (u ∷ us)) (u.span.start, x) us q e (stands u us x is)
    by_said None is e = not_absent cut ((0, sample_value w), []) u us q e

abbrev NestedSound : NestedReaders → Spellings → Type 0
NestedSound nested inside = (s : Nonterminal) (ts us : List Token) (q : ValueOf s × List Token) → nested s ts us ≡ Ok q → inside s us q.0 q.1

deepened_sound : (cut : Bool) (kind : TokenKind) (s : Nonterminal) (nested : NestedReaders) (inside : List Token → ValueOf s → List Token → Type 0)
    → ((ts us : List Token) (q : ValueOf s × List Token) → nested s ts us ≡ Ok q → inside us q.0 q.1)
    → (ts : List Token) (q : (ℕ × ValueOf s) × List Token) → deepened_at cut s nested ts (said (mark_of kind) ts) ≡ Ok q → IsDeepened cut kind inside ts q.0 q.1
deepened_sound true kind s nested inside each [] q e = kept (IsDeepened true kind inside []) (0, some_value s) [] q e (lacking_nested (0, some_value s) refl)
deepened_sound false kind s nested inside each [] q e = absurd (cc)
deepened_sound cut kind s nested inside each (u ∷ us) q e = by_said (says (mark_of kind) u.kind) refl e
  where
    by_said : (o : Option (Unit {0})) → says (mark_of kind) u.kind ≡ o → deepened_at cut s nested (u ∷ us) o ≡ Ok q → IsDeepened cut kind inside (u ∷ us) q.0 q.1
    by_said (Some x) is e =
        let g = went (nested s (u ∷ us) us) (λ y. Ok ((u.span.start, y.0), y.1)) q e in
        kept (IsDeepened cut kind inside (u ∷ us)) (u.span.start, g.middle.0) g.middle.1 q g.on (deepens u us g.middle.0 g.middle.1 is (each (u ∷ us) us g.middle g.read))
    by_said None is e = not_absent cut ((0, some_value s), []) u us q e

lookahead_sound : {X T A : Type 0} (cut : Bool) (w : Terminal X) (ks : KindSet) (S : List Token → T → List Token → Type 0) (P : List Token → A → List Token → Type 0)
    (h : List Token → Read T) (f : List Token → Read A)
    → ((ts : List Token) (q : T × List Token) → h ts ≡ Ok q → S ts q.0 q.1) → ((ts : List Token) (q : A × List Token) → f ts ≡ Ok q → P ts q.0 q.1)
    → (ts : List Token) (q : (((ℕ × X) × T) ⊎ A) × List Token) → by_second ks ts (said w ts) (h (rest ts)) (f ts) ≡ Ok q → IsEither (IsTerminal cut w) S P ts q.0 q.1
lookahead_sound {X} {T} {A} cut w ks S P h f sh sf ts q e = by_tokens ts q e
  where
    other : (ts : List Token) (q : (((ℕ × X) × T) ⊎ A) × List Token) → as_other (ℕ × X) T (f ts) ≡ Ok q → IsEither (IsTerminal cut w) S P ts q.0 q.1
    other ts q e =
        let a = went (f ts) (λ y. Ok (inr y.0, y.1)) q e in
        kept (IsEither (IsTerminal cut w) S P ts) (inr a.middle.0) a.middle.1 q a.on (otherwise ts a.middle.0 a.middle.1 (sf ts a.middle a.read))

    by_said : (u : Token) (us : List Token) (q : (((ℕ × X) × T) ⊎ A) × List Token) (o : Option X) → says w u.kind ≡ o → by_second ks (u ∷ us) o (h us) (f (u ∷ us)) ≡ Ok q
        → IsEither (IsTerminal cut w) S P (u ∷ us) q.0 q.1
    by_said u us q None is e = other (u ∷ us) q e
    by_said u us q (Some x) is e =
        picked (has_kind ks (first_kind us)) (as_alone A (u.span.start, x) (h us)) (as_other (ℕ × X) T (f (u ∷ us))) q e
        (λ test on. let a = went (h us) (λ z. Ok (inl ((u.span.start, x), z.0), z.1)) q on in
        kept (IsEither (IsTerminal cut w) S P (u ∷ us)) (inl ((u.span.start, x), a.middle.0)) a.middle.1 q a.on
        (alone (u ∷ us) (u.span.start, x) us a.middle.0 a.middle.1 (stands u us x is) (sh us a.middle a.read)))
        (λ test on. other (u ∷ us) q on)

    by_tokens : (ts : List Token) (q : (((ℕ × X) × T) ⊎ A) × List Token) → by_second ks ts (said w ts) (h (rest ts)) (f ts) ≡ Ok q → IsEither (IsTerminal cut w) S P ts q.0 q.1
    by_tokens [] q e = other [] q e
    by_tokens (u ∷ us) q e = by_said u us q (says w u.kind) refl e

-- an item that is read where one of these kinds stands takes a token
pub item_shorter : (cut : Bool) (ks sp : KindSet) (ts us : List Token) → has_kind ks 0 ≡ false → has_kind ks (first_kind ts) ≡ true → TakesTokens cut sp false ts us → length us < length ts
item_shorter cut ks sp ts us ends test (takes h lt) = lt
item_shorter cut ks sp ts us ends test (takes_none e same) = absurd (cc)
item_shorter cut ks sp ts us ends test (lacks_all c left right) = contra (has_kind ks 0) (sym (ap (λ l. has_kind ks (first_kind l)) left) ∙ test) ends

-- what was read is spelled, and some kinds never stand behind it
record IsReadAs {A : Type 0} (Spelled : List Token → A → List Token → Type 0) (ks : KindSet) (q : A × List Token) (ts : List Token) : Type 0 where
  is : Spelled ts q.0 q.1
  left : has_kind ks (first_kind q.1) ≡ false

sound : (cut : Bool) (b : NestedReaders) (inside : Spellings) → NoLonger inside → NestedSound b inside → {A : Type 0} (p : Phrase A) → is_predictive p ≡ true
    → (ts : List Token) (q : A × List Token) → phrase_read cut b p ts ≡ Ok q → IsReadAs (IsSpelled cut inside p) (never_behind p) q ts
sound cut b inside short sb (give a) ok ts q e = record { is = kept (λ x l. (x ≡ a) × (ts ≡ l)) a ts q e (refl, refl); left = refl }
sound cut b inside short sb (terminal w) ok ts q e = record { is = terminal_sound cut w ts q e; left = refl }
sound cut b inside short sb (sequence p q) ok ts x e =
    let o = of_sequence p q ok in
    let f = went (phrase_read cut b p ts) (and_then (phrase_read cut b q)) x e in
    let g = went (phrase_read cut b q f.middle.1) (λ y. Ok ((f.middle.0, y.0), y.1)) x f.on in
    let i = sound cut b inside short sb p o.one ts f.middle f.read in
    let j = sound cut b inside short sb q o.two f.middle.1 g.middle g.read in
    record {
      is = kept (IsSpelled cut inside (sequence p q) ts) (f.middle.0, g.middle.0) g.middle.1 x g.on (f.middle.1, (i.is, j.is));
      left = kept (λ a l. has_kind (never_behind q) (first_kind l) ≡ false) (f.middle.0, g.middle.0) g.middle.1 x g.on j.left;
    }
sound cut b inside short sb (mapped h p) ok ts x e =
    let f = went (phrase_read cut b p ts) (λ x. Ok (h x.0, x.1)) x e in
    let i = sound cut b inside short sb p ok ts f.middle f.read in
    record {
      is = kept (IsSpelled cut inside (mapped h p) ts) (h f.middle.0) f.middle.1 x f.on (f.middle.0, (i.is, refl));
      left = kept (λ a l. has_kind (never_behind p) (first_kind l) ≡ false) (h f.middle.0) f.middle.1 x f.on i.left;
    }
sound cut b inside short sb (deepened kind s) ok ts q e = record { is = deepened_sound cut kind s b (inside s) (sb s) ts q e; left = refl }
sound cut b inside short sb (choice ks p q) ok ts x e =
    let o = of_choice ks p q ok in
    record {
      is = picked (has_kind ks (first_kind ts)) (phrase_read cut b p ts) (phrase_read cut b q ts) x e
          (λ test on. inl (sound cut b inside short sb p o.one ts x on).is) (λ test on. inr (sound cut b inside short sb q o.two ts x on).is);
      left = refl;
    }
sound cut b inside short sb (repetition ks p) ok ts x e =
    let o = of_repetition ks p ok in
    let ran = chain_sound ks (IsSpelled cut inside p) (some_more ks (phrase_read cut b p)) o.ends
    (λ us a l test i. item_shorter cut ks (starts p) us l o.ends test (full_takes cut (starts p) (nullable p) us l o.full (phrase_takes cut inside short p o.item us a l i)))
    (next_sound ks (IsSpelled cut inside p) (phrase_read cut b p) (λ us q on. (sound cut b inside short sb p o.item us q on).is))
    (length ts) [] ts x e in
    record { is = subst (λ xs. AreRepeated (IsSpelled cut inside p) ts xs x.1) (sym ran.whole) ran.are; left = ran.ends (omega arith) }
sound cut b inside short sb (not_before ks p) ok ts x e =
    let o = of_not_before ks p ok in
    let i = sound cut b inside short sb p o.item ts x e in
    record { is = (i.is, within_none ks (never_behind p) (first_kind x.1) o.left i.left); left = refl }
sound cut b inside short sb (lookahead w ks t p) ok ts x e =
    let o = of_lookahead w ks t p ok in
    record {
      is = lookahead_sound cut w ks (IsSpelled cut inside t) (IsSpelled cut inside p) (phrase_read cut b t) (phrase_read cut b p)
          (λ ts y on. (sound cut b inside short sb t o.one ts y on).is) (λ ts y on. (sound cut b inside short sb p o.two ts y on).is) ts x e;
      left = refl;
    }

nested_sound : (cut : Bool) (n : ℕ) → NestedSound (nested_read cut n) (SpelledInside cut n)
nested_sound cut zero s ts us q e = absurd (cc)
nested_sound cut (suc n) s ts us q e =
    (sound cut (nested_read cut n) (SpelledInside cut n) (no_longer cut n) (nested_sound cut n) (row s) (row_is s) us q e).is

-- what is read is spelled
pub read_sound : (cut : Bool) (n : ℕ) {A : Type 0} (p : Phrase A) → is_predictive p ≡ true → (ts : List Token) (q : A × List Token) → read_at cut n p ts ≡ Ok q
    → IsSpelledAt cut n p ts q.0 q.1
read_sound cut n p ok ts q e = (sound cut (nested_read cut n) (SpelledInside cut n) (no_longer cut n) (nested_sound cut n) p ok ts q e).is
