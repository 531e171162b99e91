-- What is spelled is read, where no kind stands behind it that goes on with it.
use Rattle.std.proofs.Common.{◌≡◌, refl, sym, ap, subst, ◌∙◌, ℕ, zero, suc, ◌<◌, ◌≤◌, Bool, true, false, List, [], ◌∷◌, ◌++◌, length, Option, Some, None, Ok, Err, append_assoc, arith, ◌⊎◌, inl, inr}
use Rattle.std.proofs.lemmas.List.{append-nil}
use Rattle.sopl_ast.specs.declared.token.Token.{Token}
use Rattle.sopl_ast.specs.declared.token.TokenKind.{TokenKind}
use Rattle.parse_grammar.specs.Reading.{Syntax, Read, Next, ◌>>=◌, chain}
use Rattle.sopl_ast.specs.KindSets.{kind_number, KindSet, first_kind, has_kind}
use Rattle.sopl_ast.specs.Nonterminals.{Nonterminal, ValueOf}
use Rattle.sopl_ast.specs.PhraseLanguage.{Phrase, give, terminal, sequence, mapped, deepened, choice, repetition, not_before, lookahead, nullable, starts, when}
use Rattle.grammar_rows.specs.RowLaws.{ReadsAll, TakesTokens, takes, takes_none, lacks_all}
use Rattle.grammar_rows.specs.RowReading.{NestedReaders, said, terminal_at, deepened_at, by_second, as_alone, as_other, pick, some_more, and_then, nested_read, read_at, sample_value, some_value}
use Rattle.sopl_ast.specs.RowSpelling.{IsTerminal, stands, lacking, IsDeepened, deepens, lacking_nested, AreRepeated, none_more, one_more, alone, otherwise, SpelledInside, IsSpelledAt}
use Rattle.grammar_rows.specs.RowTests.{continues, goes_on, open_ends, is_predictive, kinds_within, kinds_apart}
use Rattle.sopl_ast.specs.Terminals.{Terminal, mark_of, says}
use Rattle.grammar_rows.proofs.KindSetLaws.{within_has, apart_back, none_left, none_right, without_none, closes}
use Rattle.grammar_rows.proofs.Predictive.{OfLookahead, of_sequence, of_choice, of_repetition, of_not_before, of_lookahead}
use Rattle.grammar_rows.proofs.ReadNothing.{none_read, all_mapped}
use Rattle.grammar_rows.proofs.ReadSteps.{read_on, chain_end, chain_step, not_both}
use Rattle.grammar_rows.proofs.TokensTaken.{takes_at, full_takes, repetition_takes, none_behind}

-- a value is read, and it is the one that was spelled where no token may be missing
pub record IsGiven {A : Type 0} (cut : Bool) (o : Read A) (a : A) (r : List Token) : Type 0 where
  pub value : A
  pub read : o ≡ Ok (value, r)
  pub same : cut ≡ false → value ≡ a

-- no kind of the set stands there
pub data IsClearOf (cut : Bool) (ks : KindSet) (r : List Token) : Type 0 where
  over : cut ≡ true → r ≡ [] → IsClearOf cut ks r
  clear : has_kind ks (first_kind r) ≡ false → IsClearOf cut ks r

free_map : (cut : Bool) (ks ls : KindSet) (r : List Token) → ((c : ℕ) → has_kind ks c ≡ false → has_kind ls c ≡ false) → IsClearOf cut ks r → IsClearOf cut ls r
free_map cut ks ls r f (over c e) = over c e
free_map cut ks ls r f (clear e) = clear (f (first_kind r) e)

free_none : (cut : Bool) (ks : KindSet) (r : List Token) → has_kind ks 0 ≡ false → IsClearOf cut ks r → has_kind ks (first_kind r) ≡ false
free_none cut ks r ends (over c e) = ap (λ l. has_kind ks (first_kind l)) e ∙ ends
free_none cut ks r ends (clear e) = e

-- what stands behind the first of two phrases does not go on with it
free_behind : (cut : Bool) (sq gp gq : KindSet) (may : Bool) (us r : List Token) → TakesTokens cut sq may us r → kinds_apart gp sq ≡ true → IsClearOf cut (gq ++ when may gp) r → IsClearOf cut gp us
free_behind cut sq gp gq may us r (takes h lt) ap free = clear (apart_back gp sq (first_kind us) ap h)
free_behind cut sq gp gq may us r (takes_none e same) ap free =
    subst (λ l. IsClearOf cut gp l) (sym same) (free_map cut (gq ++ gp) gp r (none_right gq gp) (subst (λ b. IsClearOf cut (gq ++ when b gp) r) e free))
free_behind cut sq gp gq may us r (lacks_all c left right) ap free = over c left

given_then : {A B : Type 0} (cut : Bool) (o : Read A) (g : List Token → Read B) (a : A) (b : B) (us r : List Token) → IsGiven cut o a us → IsGiven cut (g us) b r
    → IsGiven cut (o >>= and_then g) (a, b) r
given_then cut o g a b us r x y = record {
  value = (x.value, y.value);
  read = ap (λ l. l >>= and_then g) x.read ∙ ap (λ l. l >>= (λ y. Ok ((x.value, y.0), y.1))) y.read;
  same = λ c i. (x.same c i, y.same c i);
}

given_mapped : {A B : Type 0} (cut : Bool) (o : Read A) (f : A → B) (a : A) (r : List Token) → IsGiven cut o a r → IsGiven cut (o >>= (λ x. Ok (f x.0, x.1))) (f a) r
given_mapped cut o f a r x = record { value = f x.value; read = ap (λ l. l >>= (λ x. Ok (f x.0, x.1))) x.read; same = λ c. ap f (x.same c) }

given_first : {A : Type 0} (cut b : Bool) (o p : Read A) (a : A) (r : List Token) → b ≡ true → IsGiven cut o a r → IsGiven cut (pick b o p) a r
given_first cut true o p a r e x = x
given_first cut false o p a r e x = absurd (cc)

given_second : {A : Type 0} (cut b : Bool) (o p : Read A) (a : A) (r : List Token) → b ≡ false → IsGiven cut p a r → IsGiven cut (pick b o p) a r
given_second cut true o p a r e x = absurd (cc)
given_second cut false o p a r e x = x

given_missing : (cut : Bool) (n : ℕ) {A : Type 0} (p : Phrase A) → is_predictive p ≡ true → (ts : List Token) (a : A) (r : List Token) → cut ≡ true → ts ≡ [] → r ≡ []
    → IsGiven cut (read_at cut n p ts) a r
given_missing false n p ok ts a r c left right = absurd (cc)
given_missing true n p ok ts a r c left right =
    let x = none_read (nested_read true n) p ok in
    record { value = x.value; read = ap (read_at true n p) left ∙ x.read ∙ ap (λ l. Ok (x.value, l)) (sym right); same = λ e. absurd (cc) }

-- repetitions
next_none : {A : Type 0} (ks : KindSet) (item : List Token → Read A) (ts : List Token) → has_kind ks (first_kind ts) ≡ false → some_more ks item ts ≡ Ok (None, ts)
next_none ks item ts e = ap (λ b. pick b (item ts >>= (λ x. Ok (Some x.0, x.1))) (Ok (None, ts))) e

pub next_some : {A : Type 0} (ks : KindSet) (item : List Token → Read A) (ts : List Token) → has_kind ks (first_kind ts) ≡ true → some_more ks item ts ≡ item ts >>= (λ x. Ok (Some x.0, x.1))
next_some ks item ts e = ap (λ b. pick b (item ts >>= (λ x. Ok (Some x.0, x.1))) (Ok (None, ts))) e

pub chain_none : {A : Type 0} (ks : KindSet) (item : List Token → Read A) (fuel : ℕ) (before : List A) (ts : List Token) → has_kind ks (first_kind ts) ≡ false
    → chain (some_more ks item) fuel before ts ≡ Ok (before, ts)
chain_none ks item zero before ts e = chain_end (some_more ks item) before ts
chain_none ks item (suc fuel) before ts e =
    chain_step (some_more ks item) fuel before ts ∙ ap (λ o. o >>= read_on (some_more ks item) fuel before) (next_none ks item ts e)

pub chain_some : {A : Type 0} (ks : KindSet) (item : List Token → Read A) (fuel : ℕ) (before : List A) (ts : List Token) (a : A) (us : List Token) → has_kind ks (first_kind ts) ≡ true
    → item ts ≡ Ok (a, us) → chain (some_more ks item) (suc fuel) before ts ≡ chain (some_more ks item) fuel (before ++ a ∷ []) us
chain_some ks item fuel before ts a us e i =
    chain_step (some_more ks item) fuel before ts
    ∙ ap (λ o. o >>= read_on (some_more ks item) fuel before) (next_some ks item ts e ∙ ap (λ o. o >>= (λ x. Ok (Some x.0, x.1))) i)

record GivesItems {A : Type 0} (cut : Bool) (next : Next A) (ts : List Token) (xs : List A) (r : List Token) : Type 0 where
  gives : (fuel : ℕ) (before : List A) → length ts ≤ fuel → IsGiven cut (chain next fuel before ts) (before ++ xs) r

chains_end : {A : Type 0} (cut : Bool) (ks : KindSet) (item : List Token → Read A) (ts r : List Token) (xs : List A) → ts ≡ r → (cut ≡ false → xs ≡ []) → has_kind ks (first_kind ts) ≡ false
    → GivesItems cut (some_more ks item) ts xs r
chains_end cut ks item ts r xs same no_item e = record {
  gives = λ fuel before le. record {
    value = before;
    read = chain_none ks item fuel before ts e ∙ ap (λ l. Ok (before, l)) same;
    same = λ c. sym (ap (λ l. before ++ l) (no_item c) ∙ append-nil before);
  };
}

one_item : {A : Type 0} (cut : Bool) (ks : KindSet) (item : List Token → Read A) (ts : List Token) (a : A) (us : List Token) (more : List A) (r : List Token)
    → has_kind ks (first_kind ts) ≡ true → length us < length ts → IsGiven cut (item ts) a us → GivesItems cut (some_more ks item) us more r
    → (fuel : ℕ) (before : List A) → length ts ≤ fuel → IsGiven cut (chain (some_more ks item) fuel before ts) (before ++ a ∷ more) r
one_item cut ks item ts a us more r test lt x later zero before le = absurd (omega (arith, le, lt))
one_item cut ks item ts a us more r test lt x later (suc fuel) before le =
    let y = later.gives fuel (before ++ x.value ∷ []) (omega (arith, le, lt)) in
    record {
      value = y.value;
      read = chain_some ks item fuel before ts x.value us test x.read ∙ y.read;
      same = λ c. y.same c ∙ append_assoc before (x.value ∷ []) more ∙ ap (λ v. before ++ v ∷ more) (x.same c);
    }

chains_more : {A : Type 0} (cut : Bool) (ks sp : KindSet) (item : List Token → Read A) (ts : List Token) (a : A) (us : List Token) (more : List A) (r : List Token)
    → has_kind ks 0 ≡ false → kinds_within sp ks ≡ true → TakesTokens cut sp false ts us → TakesTokens cut sp true us r → (length us < length ts → IsGiven cut (item ts) a us)
    → GivesItems cut (some_more ks item) us more r → GivesItems cut (some_more ks item) ts (a ∷ more) r
chains_more cut ks sp item ts a us more r ends cover (takes h lt) behind x later =
    record { gives = one_item cut ks item ts a us more r (within_has sp ks (first_kind ts) cover h) lt (x lt) later }
chains_more cut ks sp item ts a us more r ends cover (takes_none e same) behind x later = absurd (cc)
chains_more true ks sp item ts a us more r ends cover (lacks_all c left right) behind x later =
    chains_end true ks item ts r (a ∷ more) (left ∙ sym (none_behind true sp true us r right behind)) (λ e. absurd (cc)) (ap (λ l. has_kind ks (first_kind l)) left ∙ ends)
chains_more false ks sp item ts a us more r ends cover (lacks_all c left right) behind x later = absurd (cc)

repetition_complete : {A : Type 0} (cut : Bool) (ks sp gp : KindSet) (Item : List Token → A → List Token → Type 0) (item : List Token → Read A)
    → has_kind ks 0 ≡ false → kinds_within sp ks ≡ true → kinds_apart gp sp ≡ true
    → ((ts : List Token) (a : A) (r : List Token) → Item ts a r → TakesTokens cut sp false ts r)
    → ((ts : List Token) (a : A) (r : List Token) → Item ts a r → IsClearOf cut gp r → IsGiven cut (item ts) a r)
    → (ts : List Token) (xs : List A) (r : List Token) → AreRepeated Item ts xs r → IsClearOf cut (ks ++ gp) r → GivesItems cut (some_more ks item) ts xs r
repetition_complete cut ks sp gp Item item ends cover parted take each _ _ _ (none_more r) free =
    chains_end cut ks item r r [] refl (λ c. refl) (free_none cut ks r ends (free_map cut (ks ++ gp) ks r (none_left ks gp) free))
repetition_complete cut ks sp gp Item item ends cover parted take each _ _ _ (one_more ts a us more r i later) free =
    let behind = repetition_takes cut sp Item take us more r later in
    chains_more cut ks sp item ts a us more r ends cover (take ts a us i) behind
    (λ lt. each ts a us i (free_behind cut sp gp ks true us r behind parted free))
    (repetition_complete cut ks sp gp Item item ends cover parted take each us more r later free)

-- what is asked of the second of two alternatives that are told apart by a terminal and what stands behind it: it takes the terminal and stops
pub record IsToldApart {X A : Type 0} (w : Terminal X) (ks : KindSet) (p : Phrase A) : Type 0 where
  pub stops : (cut : Bool) (n : ℕ) (u : Token) (us : List Token) (x : X) → says w u.kind ≡ Some x → has_kind ks (first_kind us) ≡ true → read_at cut n p (u ∷ us) ≡ Err (Syntax us)
  pub over : (n : ℕ) (u : Token) (x : X) → says w u.kind ≡ Some x → ReadsAll (read_at true n p (u ∷ []))
  pub kind : TokenKind
  pub among : has_kind ks (kind_number kind) ≡ true

-- all alternatives of a phrase are
abbrev pub AreToldApart : {A : Type 0} → Phrase A → Type 0
AreToldApart (sequence p q) = AreToldApart p × AreToldApart q
AreToldApart (mapped f p) = AreToldApart p
AreToldApart (choice ks p q) = AreToldApart p × AreToldApart q
AreToldApart (repetition ks p) = AreToldApart p
AreToldApart (not_before ks p) = AreToldApart p
AreToldApart (lookahead w ks t p) = IsToldApart w ks p × (AreToldApart t × AreToldApart p)
AreToldApart p = Unit {0}

terminal_complete : {X : Type 0} (cut : Bool) (w : Terminal X) (ts : List Token) (x : ℕ × X) (r : List Token) → IsTerminal cut w ts x r → IsGiven cut (terminal_at cut w ts (said w ts)) x r
terminal_complete cut w _ _ _ (stands u us x is) = record { value = (u.span.start, x); read = ap (terminal_at cut w (u ∷ us)) is; same = λ c. refl }
terminal_complete true w _ _ _ (lacking x c) = record { value = (0, sample_value w); read = refl; same = λ e. absurd (cc) }
terminal_complete false w _ _ _ (lacking x c) = absurd (cc)

deepened_complete : (cut : Bool) (kind : TokenKind) (s : Nonterminal) (b : NestedReaders) (inside : List Token → ValueOf s → List Token → Type 0)
    (ts : List Token) (x : ℕ × ValueOf s) (r : List Token)
    → ((ts us : List Token) (v : ValueOf s) → inside us v r → IsGiven cut (b s ts us) v r)
    → IsDeepened cut kind inside ts x r → IsGiven cut (deepened_at cut s b ts (said (mark_of kind) ts)) x r
deepened_complete cut kind s b inside _ _ _ each (deepens u us v r is i) =
    let g = each (u ∷ us) us v i in
    record {
      value = (u.span.start, g.value);
      read = ap (deepened_at cut s b (u ∷ us)) is ∙ ap (λ o. o >>= (λ y. Ok ((u.span.start, y.0), y.1))) g.read;
      same = λ c i. (u.span.start, g.same c i);
    }
deepened_complete true kind s b inside _ _ _ each (lacking_nested x c) = record { value = (0, some_value s); read = refl; same = λ e. absurd (cc) }
deepened_complete false kind s b inside _ _ _ each (lacking_nested x c) = absurd (cc)

-- the terminal was written, and what follows it
alone_complete : {X T A : Type 0} (cut : Bool) (n : ℕ) (w : Terminal X) (ks : KindSet) (t : Phrase T) (p : Phrase A) → IsToldApart w ks p → OfLookahead ks t p
    → (ts : List Token) (y : ℕ × X) (us : List Token) (z : T) (r : List Token) → IsTerminal cut w ts y us → IsSpelledAt cut n t us z r → IsGiven cut (read_at cut n t us) z r
    → IsClearOf cut (continues t ++ when (nullable t) (open_ends ks)) r → is_predictive (lookahead w ks t p) ≡ true → IsGiven cut (read_at cut n (lookahead w ks t p) ts) (inl (y, z)) r
alone_complete cut n w ks t p l o _ _ _ z r (lacking y c) i g free ok =
    given_missing cut n (lookahead w ks t p) ok [] (inl (y, z)) r c refl (none_behind cut (starts t) (nullable t) [] r refl (takes_at cut n t o.one [] z r i))
alone_complete {X} {T} {A} cut n w ks t p l o _ _ _ z r (stands u us x is) i g free ok = by_taken (takes_at cut n t o.one us z r i)
  where
    Given : List Token → Type 0
    Given us = IsGiven cut (by_second ks (u ∷ us) (says w u.kind) (read_at cut n t us) (read_at cut n p (u ∷ us))) (inl ((u.span.start, x), z)) r

    ending : (cut : Bool) → cut ≡ true → (us : List Token) → us ≡ [] → r ≡ []
        → IsGiven cut (by_second ks (u ∷ us) (says w u.kind) (read_at cut n t us) (read_at cut n p (u ∷ us))) (inl ((u.span.start, x), z)) r
    ending false c us e f = absurd (cc)
    ending true c us e f =
        let v = all_mapped {B = ((ℕ × X) × T) ⊎ A} (read_at true n p (u ∷ [])) inr (l.over n u x is) in
        record {
          value = v.value;
          read = ap (λ l. by_second ks (u ∷ l) (says w u.kind) (read_at true n t l) (read_at true n p (u ∷ l))) e
              ∙ ap (λ s. by_second ks (u ∷ []) s (read_at true n t []) (read_at true n p (u ∷ []))) is
              ∙ ap (λ b. pick b (as_alone A (u.span.start, x) (read_at true n t [])) (as_other (ℕ × X) T (read_at true n p (u ∷ [])))) o.ends
              ∙ v.read ∙ ap (λ l. Ok (v.value, l)) (sym f);
          same = λ e. absurd (cc);
        }

    there : has_kind ks (first_kind us) ≡ true → Given us
    there test = record {
      value = inl ((u.span.start, x), g.value);
      read = ap (λ s. by_second ks (u ∷ us) s (read_at cut n t us) (read_at cut n p (u ∷ us))) is
          ∙ ap (λ b. pick b (as_alone A (u.span.start, x) (read_at cut n t us)) (as_other (ℕ × X) T (read_at cut n p (u ∷ us)))) test
          ∙ ap (as_alone A (u.span.start, x)) g.read;
      same = λ c i. inl ((u.span.start, x), g.same c i);
    }

    by_free : us ≡ r → IsClearOf cut (open_ends ks) r → Given us
    by_free same (over c e) = ending cut c us (same ∙ e) e
    by_free same (clear e) = there (closes ks us (ap (λ l. has_kind (open_ends ks) (first_kind l)) same ∙ e))

    by_taken : TakesTokens cut (starts t) (nullable t) us r → Given us
    by_taken (takes h lt) = there (within_has (starts t) ks (first_kind us) o.covered h)
    by_taken (takes_none e same) =
        by_free same (free_map cut (continues t ++ open_ends ks) (open_ends ks) r (none_right (continues t) (open_ends ks))
        (subst (λ b. IsClearOf cut (continues t ++ when b (open_ends ks)) r) e free))
    by_taken (lacks_all c left right) = ending cut c us left right

-- the other phrase was written
other_complete : {X T A : Type 0} (cut : Bool) (n : ℕ) (w : Terminal X) (ks : KindSet) (t : Phrase T) (p : Phrase A) → IsToldApart w ks p
    → (ts : List Token) (a : A) (r : List Token) → IsGiven cut (read_at cut n p ts) a r → IsGiven cut (read_at cut n (lookahead w ks t p) ts) (inr a) r
other_complete {X} {T} {A} cut n w ks t p l ts a r x = by_tokens ts x
  where
    other : (ts : List Token) → IsGiven cut (read_at cut n p ts) a r → IsGiven cut (as_other (ℕ × X) T (read_at cut n p ts)) (inr a) r
    other ts x = given_mapped cut (read_at cut n p ts) inr a r x

    by_said : (v : Token) (vs : List Token) → IsGiven cut (read_at cut n p (v ∷ vs)) a r → (o : Option X) → says w v.kind ≡ o
        → IsGiven cut (by_second ks (v ∷ vs) o (read_at cut n t vs) (read_at cut n p (v ∷ vs))) (inr a) r
    by_said v vs x None is = other (v ∷ vs) x
    by_said v vs x (Some z) is = by_test (has_kind ks (first_kind vs)) refl
      where
        by_test : (c : Bool) → has_kind ks (first_kind vs) ≡ c
            → IsGiven cut (pick c (as_alone A (v.span.start, z) (read_at cut n t vs)) (as_other (ℕ × X) T (read_at cut n p (v ∷ vs)))) (inr a) r
        by_test false e = other (v ∷ vs) x
        by_test true e = not_both (read_at cut n p (v ∷ vs)) (x.value, r) (Syntax vs) x.read (l.stops cut n v vs z is e)

    by_tokens : (ts : List Token) → IsGiven cut (read_at cut n p ts) a r → IsGiven cut (read_at cut n (lookahead w ks t p) ts) (inr a) r
    by_tokens [] x = other [] x
    by_tokens (v ∷ vs) x = by_said v vs x (says w v.kind) refl

-- one of two alternatives was written
one_complete : {A : Type 0} (cut : Bool) (n : ℕ) (ks : KindSet) (p q : Phrase A) (ok : is_predictive (choice ks p q) ≡ true) (ts : List Token) (x : A) (r : List Token)
    → TakesTokens cut (starts p) false ts r → IsGiven cut (read_at cut n p ts) x r → IsGiven cut (read_at cut n (choice ks p q) ts) x r
one_complete cut n ks p q ok ts x r (takes h lt) g =
    given_first cut (has_kind ks (first_kind ts)) (read_at cut n p ts) (read_at cut n q ts) x r (within_has (starts p) ks (first_kind ts) (of_choice ks p q ok).covered h) g
one_complete cut n ks p q ok ts x r (takes_none e same) g = absurd (cc)
one_complete cut n ks p q ok ts x r (lacks_all c left right) g = given_missing cut n (choice ks p q) ok ts x r c left right

second_test : (cut : Bool) (ks sq g : KindSet) (may : Bool) (ts r : List Token) → has_kind ks 0 ≡ false → kinds_apart ks sq ≡ true → TakesTokens cut sq may ts r
    → IsClearOf cut (g ++ when may ks) r → has_kind ks (first_kind ts) ≡ false
second_test cut ks sq g may ts r ends parted (takes h lt) free = apart_back ks sq (first_kind ts) parted h
second_test cut ks sq g may ts r ends parted (takes_none e same) free =
    ap (λ l. has_kind ks (first_kind l)) same
    ∙ free_none cut ks r ends (free_map cut (g ++ ks) ks r (none_right g ks) (subst (λ b. IsClearOf cut (g ++ when b ks) r) e free))
second_test cut ks sq g may ts r ends parted (lacks_all c left right) free = ap (λ l. has_kind ks (first_kind l)) left ∙ ends

abbrev pub NestedComplete : Bool → ℕ → Type 0
NestedComplete cut n = (s : Nonterminal) (r ts us : List Token) (x : ValueOf s) → IsClearOf cut (goes_on s) r → SpelledInside cut n s us x r → IsGiven cut (nested_read cut n s ts us) x r

pub complete : (cut : Bool) (n : ℕ) → NestedComplete cut n → {A : Type 0} (p : Phrase A) → is_predictive p ≡ true → AreToldApart p → (ts : List Token) (x : A) (r : List Token)
    → IsClearOf cut (continues p) r → IsSpelledAt cut n p ts x r → IsGiven cut (read_at cut n p ts) x r
complete cut n bc (give a) ok ls ts x r free is = record { value = a; read = ap (λ l. Ok (a, l)) is.1; same = λ c. sym is.0 }
complete cut n bc (terminal w) ok ls ts x r free is = terminal_complete cut w ts x r is
complete cut n bc (sequence p q) ok ls ts x r free is =
    let o = of_sequence p q ok in
    given_then cut (read_at cut n p ts) (read_at cut n q) x.0 x.1 is.0 r
    (complete cut n bc p o.one ls.0 ts x.0 is.0
    (free_behind cut (starts q) (continues p) (continues q) (nullable q) is.0 r (takes_at cut n q o.two is.0 x.1 r is.1.1) o.parted free) is.1.0)
    (complete cut n bc q o.two ls.1 is.0 x.1 r
    (free_map cut (continues q ++ when (nullable q) (continues p)) (continues q) r (none_left (continues q) (when (nullable q) (continues p))) free) is.1.1)
complete cut n bc (mapped f p) ok ls ts x r free is =
    subst (λ y. IsGiven cut (read_at cut n (mapped f p) ts) y r) (sym is.1.1) (given_mapped cut (read_at cut n p ts) f is.0 r (complete cut n bc p ok ls ts is.0 r free is.1.0))
complete cut n bc (deepened kind s) ok ls ts x r free is = deepened_complete cut kind s (nested_read cut n) (SpelledInside cut n s) ts x r (λ ts us v i. bc s r ts us v free i) is
complete cut n bc (choice ks p q) ok ls ts x r free (inl i) =
    let o = of_choice ks p q ok in
    one_complete cut n ks p q ok ts x r (full_takes cut (starts p) (nullable p) ts r o.full (takes_at cut n p o.one ts x r i))
    (complete cut n bc p o.one ls.0 ts x r (free_map cut (continues p ++ continues q ++ when (nullable q) ks) (continues p) r
    (λ c e. none_left (continues p) (continues q) c (none_left (continues p ++ continues q) (when (nullable q) ks) c e)) free) i)
complete cut n bc (choice ks p q) ok ls ts x r free (inr i) =
    let o = of_choice ks p q ok in
    given_second cut (has_kind ks (first_kind ts)) (read_at cut n p ts) (read_at cut n q ts) x r
    (second_test cut ks (starts q) (continues p ++ continues q) (nullable q) ts r o.ends o.parted (takes_at cut n q o.two ts x r i) free)
    (complete cut n bc q o.two ls.1 ts x r (free_map cut (continues p ++ continues q ++ when (nullable q) ks) (continues q) r
    (λ c e. none_right (continues p) (continues q) c (none_left (continues p ++ continues q) (when (nullable q) ks) c e)) free) i)
complete cut n bc (repetition ks p) ok ls ts x r free is =
    let o = of_repetition ks p ok in
    (repetition_complete cut ks (starts p) (continues p) (IsSpelledAt cut n p) (read_at cut n p) o.ends o.covered o.parted
    (λ us a l i. full_takes cut (starts p) (nullable p) us l o.full (takes_at cut n p o.item us a l i))
    (λ us a l i f. complete cut n bc p o.item ls us a l f i) ts x r is free).gives (length ts) [] (omega arith)
complete cut n bc (not_before ks p) ok ls ts x r free is = complete cut n bc p (of_not_before ks p ok).item ls ts x r (kept_free free) is.0
  where
    kept_free : IsClearOf cut (continues (not_before ks p)) r → IsClearOf cut (continues p) r
    kept_free (over c e) = over c e
    kept_free (clear e) = clear (without_none (continues p) ks (first_kind r) e is.1)
complete cut n bc (lookahead w ks t p) ok ls ts x r free (alone _ y us z _ i j) =
    let o = of_lookahead w ks t p ok in
    let g = continues t ++ when (nullable t) (open_ends ks) in
    alone_complete cut n w ks t p ls.0 o ts y us z r i j
    (complete cut n bc t o.one ls.1.0 us z r
    (free_map cut (g ++ continues p) (continues t) r (λ c e. none_left (continues t) (when (nullable t) (open_ends ks)) c (none_left g (continues p) c e)) free) j)
    (free_map cut (g ++ continues p) g r (none_left g (continues p)) free) ok
complete cut n bc (lookahead w ks t p) ok ls ts x r free (otherwise _ a _ i) =
    let g = continues t ++ when (nullable t) (open_ends ks) in
    other_complete cut n w ks t p ls.0 ts a r
    (complete cut n bc p (of_lookahead w ks t p ok).two ls.1.1 ts a r (free_map cut (g ++ continues p) (continues p) r (none_right g (continues p)) free) i)
