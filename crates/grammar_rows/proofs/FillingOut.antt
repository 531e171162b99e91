-- Where tokens end too early, some tokens behind them spell what is missing; and a whole spelling stays one in front of other tokens.
use Rattle.std.proofs.Common.{◌≡◌, refl, sym, ap, subst, ◌∙◌, ℕ, zero, suc, ◌+◌, ◌≤◌, Bool, true, false, ◌&&◌, not, List, [], ◌∷◌, ◌++◌, append_assoc, arith, inl, inr}
use Rattle.std.proofs.lemmas.List.{append-nil}
use Rattle.sopl_base.proofs.Booleans.{not_true}
use Rattle.sopl_ast.specs.declared.token.Token.{Token}
use Rattle.sopl_ast.specs.declared.token.TokenKind.{TokenKind}
use Rattle.sopl_ast.specs.KindSets.{KindSet, first_kind, has_kind}
use Rattle.sopl_ast.specs.ModelRows.{row}
use Rattle.sopl_ast.specs.Nonterminals.{Nonterminal, ValueOf}
use Rattle.sopl_ast.specs.PhraseLanguage.{Phrase, give, terminal, sequence, mapped, deepened, choice, repetition, not_before, lookahead, nullable, starts}
use Rattle.grammar_rows.specs.RowLaws.{TakesTokens, RowPrefixesGoOn}
use Rattle.grammar_rows.specs.RowReading.{pick, sample_kind, sample_value}
use Rattle.sopl_ast.specs.RowSpelling.{IsTerminal, stands, lacking, IsDeepened, deepens, lacking_nested, AreRepeated, none_more, one_more, alone, otherwise, Spellings, SpelledInside, IsSpelledAt}
use Rattle.grammar_rows.specs.RowTests.{is_predictive, barred, sample_token, SampleText, sample_of, samples, is_fillable, kinds_within}
use Rattle.sopl_ast.specs.Terminals.{Terminal, mark_of}
use Rattle.grammar_rows.proofs.KindSetLaws.{both_true, within_none, sample_says}
use Rattle.grammar_rows.proofs.Predictive.{row_is, row_fills, of_sequence, of_choice, of_repetition, of_not_before, of_lookahead}
use Rattle.grammar_rows.proofs.TokensTaken.{takes_at, full_takes, repetition_takes, none_behind}

-- the sample of each nonterminal is spelled, where no barred kind stands behind it
abbrev Fills : ℕ → ((s : Nonterminal) → SampleText (ValueOf s)) → Type 0
Fills m f = (s : Nonterminal) → (f s).whole ≡ true → (r : List Token) → has_kind barred (first_kind r) ≡ false → SpelledInside false m s ((f s).tokens ++ r) (f s).value r

clear_on : (l r : List Token) → has_kind barred (first_kind l) ≡ false → has_kind barred (first_kind r) ≡ false → has_kind barred (first_kind (l ++ r)) ≡ false
clear_on [] r e f = f
clear_on (u ∷ us) r e f = e

filled : (m : ℕ) (f : (s : Nonterminal) → SampleText (ValueOf s)) → Fills m f → {A : Type 0} (p : Phrase A) → (sample_of f p).whole ≡ true → (r : List Token)
    → has_kind barred (first_kind r) ≡ false → IsSpelledAt false m p ((sample_of f p).tokens ++ r) (sample_of f p).value r
filled m f fs (give a) ok r free = (refl, refl)
filled m f fs (terminal w) ok r free = stands (sample_token (sample_kind w)) r (sample_value w) (sample_says w)
filled m f fs (sequence p q) ok r free =
    let o1 = both_true (sample_of f p).whole ((sample_of f q).whole && not (has_kind barred (first_kind (sample_of f q).tokens))) ok in
    let o2 = both_true (sample_of f q).whole (not (has_kind barred (first_kind (sample_of f q).tokens))) o1.1 in
    let second = filled m f fs q o2.0 r free in
    let first_part = filled m f fs p o1.0 ((sample_of f q).tokens ++ r) (clear_on (sample_of f q).tokens r (not_true (has_kind barred (first_kind (sample_of f q).tokens)) o2.1) free) in (
      (sample_of f q).tokens ++ r,
      (subst (λ l. IsSpelledAt false m p l (sample_of f p).value ((sample_of f q).tokens ++ r)) (sym (append_assoc (sample_of f p).tokens (sample_of f q).tokens r)) first_part, second),
    )
filled m f fs (mapped h p) ok r free = ((sample_of f p).value, (filled m f fs p ok r free, refl))
filled m f fs (deepened kind s) ok r free = deepens (sample_token kind) ((f s).tokens ++ r) (f s).value r (sample_says (mark_of kind)) (fs s ok r free)
filled m f fs (choice {A} ks p q) ok r free = by_whole (filled m f fs p) (filled m f fs q) (sample_of f p).whole refl ok
  where
    by_whole : ((sample_of f p).whole ≡ true → (r : List Token) → has_kind barred (first_kind r) ≡ false → IsSpelledAt false m p ((sample_of f p).tokens ++ r) (sample_of f p).value r)
        → ((sample_of f q).whole ≡ true → (r : List Token) → has_kind barred (first_kind r) ≡ false → IsSpelledAt false m q ((sample_of f q).tokens ++ r) (sample_of f q).value r)
        → (b : Bool) → (sample_of f p).whole ≡ b → (pick b (sample_of f p) (sample_of f q)).whole ≡ true
        → IsSpelledAt false m (choice ks p q) ((pick b (sample_of f p) (sample_of f q)).tokens ++ r) (pick b (sample_of f p) (sample_of f q)).value r
    by_whole x y true e ok = inl (x e r free)
    by_whole x y false e ok = inr (y ok r free)
filled m f fs (repetition ks p) ok r free = none_more r
filled m f fs (not_before ks p) ok r free =
    let o = both_true (sample_of f p).whole (kinds_within ks barred) ok in
    (filled m f fs p o.0 r free, within_none ks barred (first_kind r) o.1 free)
filled m f fs (lookahead w ks t p) ok r free =
    let l = (sample_of f t).tokens ++ r in
    alone (sample_token (sample_kind w) ∷ l) (0, sample_value w) l (sample_of f t).value r (stands (sample_token (sample_kind w)) l (sample_value w) (sample_says w)) (filled m f fs t ok r free)

samples_fill : (k m : ℕ) → k ≤ m → Fills m (samples k)
samples_fill zero m le s ok r free = absurd (cc)
samples_fill (suc k) zero le s ok r free = absurd (omega (arith, le))
samples_fill (suc k) (suc m) le s ok r free = filled m (samples k) (samples_fill k m (omega (arith, le))) (row s) ok r free

-- where tokens are left, none is missing: with other tokens behind, and at higher levels, the phrase is spelled alike
abbrev Extends : Spellings → Spellings → Type 0
Extends inside other = (s : Nonterminal) (us : List Token) (x : ValueOf s) (v : Token) (vs l : List Token) → inside s us x (v ∷ vs) → other s (us ++ l) x (v ∷ vs ++ l)

gone : {P : Type 0} (ks : KindSet) (may : Bool) (v : Token) (vs : List Token) → TakesTokens true ks may [] (v ∷ vs) → P
gone ks may v vs f = let e : v ∷ vs ≡ [] = none_behind true ks may [] (v ∷ vs) refl f in absurd (cc)

repetition_extended : {A : Type 0} (ks : KindSet) (P Q : List Token → A → List Token → Type 0) (l : List Token)
    → ((us : List Token) (a : A) (r : List Token) → P us a r → TakesTokens true ks false us r)
    → ((us : List Token) (a : A) (v : Token) (vs : List Token) → P us a (v ∷ vs) → Q (us ++ l) a (v ∷ vs ++ l))
    → (ts : List Token) (xs : List A) (r : List Token) → AreRepeated P ts xs r → (v : Token) (vs : List Token) → r ≡ v ∷ vs → AreRepeated Q (ts ++ l) xs (r ++ l)
repetition_extended ks P Q l take each _ _ _ (none_more r) v vs e = none_more (r ++ l)
repetition_extended ks P Q l take each _ _ _ (one_more ts a [] more r i later) v vs e =
    gone ks true v vs (subst (λ r. TakesTokens true ks true [] r) e (repetition_takes true ks P take [] more r later))
repetition_extended ks P Q l take each _ _ _ (one_more ts a (w ∷ ws) more r i later) v vs e =
    one_more (ts ++ l) a (w ∷ ws ++ l) more (r ++ l) (each ts a w ws i) (repetition_extended ks P Q l take each (w ∷ ws) more r later v vs e)

extended : (n m : ℕ) → Extends (SpelledInside true n) (SpelledInside false m) → {A : Type 0} (p : Phrase A) → is_predictive p ≡ true → (ts : List Token) (x : A) (v : Token) (vs : List Token)
    → IsSpelledAt true n p ts x (v ∷ vs) → (l : List Token) → IsSpelledAt false m p (ts ++ l) x (v ∷ vs ++ l)
extended n m ex (give a) ok ts x v vs is l = (is.0, ap (λ t. t ++ l) is.1)
extended n m ex (terminal w) ok _ _ v vs (stands u us x is) l = stands u (v ∷ vs ++ l) x is
extended n m ex (sequence p q) ok ts x v vs ([], (i, j)) l = gone (starts q) (nullable q) v vs (takes_at true n q (of_sequence p q ok).two [] x.1 (v ∷ vs) j)
extended n m ex (sequence p q) ok ts x v vs (u ∷ us, (i, j)) l =
    let o = of_sequence p q ok in
    (u ∷ us ++ l, (extended n m ex p o.one ts x.0 u us i l, extended n m ex q o.two (u ∷ us) x.1 v vs j l))
extended n m ex (mapped f p) ok ts x v vs is l = (is.0, (extended n m ex p ok ts is.0 v vs is.1.0 l, is.1.1))
extended n m ex (deepened kind s) ok _ _ v vs (deepens u us b _ is i) l = deepens u (us ++ l) b (v ∷ vs ++ l) is (ex s us b v vs l i)
extended n m ex (choice ks p q) ok ts x v vs (inl i) l = inl (extended n m ex p (of_choice ks p q ok).one ts x v vs i l)
extended n m ex (choice ks p q) ok ts x v vs (inr i) l = inr (extended n m ex q (of_choice ks p q ok).two ts x v vs i l)
extended n m ex (repetition ks p) ok ts x v vs is l =
    let o = of_repetition ks p ok in
    repetition_extended (starts p) (IsSpelledAt true n p) (IsSpelledAt false m p) l (λ us a r i. full_takes true (starts p) (nullable p) us r o.full (takes_at true n p o.item us a r i))
    (λ us a v vs i. extended n m ex p o.item us a v vs i l) ts x (v ∷ vs) is v vs refl
extended n m ex (not_before ks p) ok ts x v vs is l = (extended n m ex p (of_not_before ks p ok).item ts x v vs is.0 l, is.1)
extended n m ex (lookahead w ks t p) ok _ _ v vs (alone _ x [] z _ i j) l = gone (starts t) (nullable t) v vs (takes_at true n t (of_lookahead w ks t p ok).one [] z (v ∷ vs) j)
extended n m ex (lookahead w ks t p) ok _ _ v vs (alone _ _ (a ∷ bs) z _ (stands u _ x is) j) l =
    alone (u ∷ a ∷ bs ++ l) (u.span.start, x) (a ∷ bs ++ l) z (v ∷ vs ++ l) (stands u (a ∷ bs ++ l) x is) (extended n m ex t (of_lookahead w ks t p ok).one (a ∷ bs) z v vs j l)
extended n m ex (lookahead w ks t p) ok _ _ v vs (otherwise ts a _ i) l = otherwise (ts ++ l) a (v ∷ vs ++ l) (extended n m ex p (of_lookahead w ks t p ok).two ts a v vs i l)

extended_in : (n m : ℕ) → n ≤ m → Extends (SpelledInside true n) (SpelledInside false m)
extended_in zero m le s us x v vs l is = elim is [ ]
extended_in (suc n) zero le s us x v vs l is = absurd (omega (arith, le))
extended_in (suc n) (suc m) le s us x v vs l is = extended n m (extended_in n m (omega (arith, le))) (row s) (row_is s) us x v vs is l

-- tokens behind these spell what is missing
pub record IsCompleted {A : Type 0} (Spelled : ℕ → List Token → A → List Token → Type 0) (n : ℕ) (ts : List Token) : Type 0 where
  pub more : List Token
  pub value : A
  pub is : (m : ℕ) → n + 2 ≤ m → (r : List Token) → has_kind barred (first_kind r) ≡ false → Spelled m (ts ++ more ++ r) value r

abbrev pub Whole : {A : Type 0} → Phrase A → ℕ → List Token → A → List Token → Type 0
Whole p m ts x r = IsSpelledAt false m p ts x r

filled_twice : {A : Type 0} (p : Phrase A) (m : ℕ) → 2 ≤ m → (sample_of (samples 2) p).whole ≡ true → (r : List Token) → has_kind barred (first_kind r) ≡ false
    → IsSpelledAt false m p ((sample_of (samples 2) p).tokens ++ r) (sample_of (samples 2) p).value r
filled_twice p m le ok r free = filled m (samples 2) (samples_fill 2 m le) p ok r free

joined : (ts more l2 r : List Token) → ts ++ more ++ (l2 ++ r) ≡ ts ++ (more ++ l2) ++ r
joined ts more l2 r = sym (append_assoc (ts ++ more) l2 r) ∙ ap (λ t. t ++ r) (append_assoc ts more l2)

-- the first of two phrases is missing from somewhere on, and the second is filled in
then_filled : {A B C : Type 0} (P : ℕ → List Token → A → List Token → Type 0) (Q : ℕ → List Token → B → List Token → Type 0) (R : ℕ → List Token → C → List Token → Type 0) (n : ℕ)
    (make : A → B → C) → ((m : ℕ) (ts : List Token) (a : A) (us : List Token) (b : B) (r : List Token) → P m ts a us → Q m us b r → R m ts (make a b) r)
    → (ts l2 : List Token) (b : B) → has_kind barred (first_kind l2) ≡ false
    → ((m : ℕ) → 2 ≤ m → (r : List Token) → has_kind barred (first_kind r) ≡ false → Q m (l2 ++ r) b r) → IsCompleted P n ts → IsCompleted R n ts
then_filled P Q R n make join ts l2 b no_block fills x = record {
  more = x.more ++ l2;
  value = make x.value b;
  is = λ m le r free.
      subst (λ t. R m t (make x.value b) r) (joined ts x.more l2 r)
      (join m (ts ++ x.more ++ (l2 ++ r)) x.value (l2 ++ r) b r (x.is m le (l2 ++ r) (clear_on l2 r no_block free)) (fills m (omega (arith, le)) r free));
}

-- the first of two phrases is whole, and the second is missing from somewhere on
then_missing : {A B C : Type 0} (P : ℕ → List Token → A → List Token → Type 0) (Q : ℕ → List Token → B → List Token → Type 0) (R : ℕ → List Token → C → List Token → Type 0) (n : ℕ)
    (make : A → B → C) → ((m : ℕ) (ts : List Token) (a : A) (us : List Token) (b : B) (r : List Token) → P m ts a us → Q m us b r → R m ts (make a b) r)
    → (ts us : List Token) (a : A) → ((m : ℕ) → n + 2 ≤ m → (l : List Token) → P m (ts ++ l) a (us ++ l)) → IsCompleted Q n us → IsCompleted R n ts
then_missing P Q R n make join ts us a whole y = record {
  more = y.more;
  value = make a y.value;
  is = λ m le r free.
      subst (λ t. R m t (make a y.value) r) (sym (append_assoc ts y.more r))
      (join m (ts ++ (y.more ++ r)) a (us ++ (y.more ++ r)) y.value r (whole m le (y.more ++ r))
      (subst (λ t. Q m t y.value r) (append_assoc us y.more r) (y.is m le r free)));
}

terminal_completes : {X : Type 0} (w : Terminal X) (n : ℕ) (ts : List Token) (x : ℕ × X) → IsTerminal true w ts x [] → IsCompleted (Whole (terminal w)) n ts
terminal_completes w n _ _ (stands u _ x is) = record { more = []; value = (u.span.start, x); is = λ m le r free. stands u r x is }
terminal_completes w n _ _ (lacking x c) =
    record { more = sample_token (sample_kind w) ∷ []; value = (0, sample_value w); is = λ m le r free. stands (sample_token (sample_kind w)) r (sample_value w) (sample_says w) }

-- what stands behind a token that counts, one level below
inner_level : (P : ℕ → Type 0) (k n m : ℕ) → n ≡ suc k → n + 2 ≤ m → ((j : ℕ) → k + 2 ≤ j → P (suc j)) → P m
inner_level P k n zero e le f = absurd (omega (arith, e, le))
inner_level P k n (suc j) e le f = f j (omega (arith, e, le))

deepened_completes : (kind : TokenKind) (s : Nonterminal) (n : ℕ) → (samples 2 s).whole ≡ true
    → ((us : List Token) (b : ValueOf s) → SpelledInside true n s us b [] → (k : ℕ) × ((n ≡ suc k) × IsCompleted (Whole (row s)) k us))
    → (ts : List Token) (x : ℕ × ValueOf s) → IsDeepened true kind (SpelledInside true n s) ts x [] → IsCompleted (Whole (deepened kind s)) n ts
deepened_completes kind s n ok below _ _ (deepens u us b _ is i) = by_below (below us b i)
  where
    by_below : (k : ℕ) × ((n ≡ suc k) × IsCompleted (Whole (row s)) k us) → IsCompleted (Whole (deepened kind s)) n (u ∷ us)
    by_below (k, (e, y)) = record {
      more = y.more;
      value = (u.span.start, y.value);
      is = λ m le r free. inner_level (λ m. IsSpelledAt false m (deepened kind s) (u ∷ us ++ y.more ++ r) (u.span.start, y.value) r) k n m e le
          (λ j low. deepens u (us ++ y.more ++ r) y.value r is (y.is j low r free));
    }
deepened_completes kind s n ok below _ _ (lacking_nested x c) = record {
  more = sample_token kind ∷ (samples 2 s).tokens;
  value = (0, (samples 2 s).value);
  is = λ m le r free.
      deepens (sample_token kind) ((samples 2 s).tokens ++ r) (samples 2 s).value r (sample_says (mark_of kind)) (samples_fill 2 m (omega (arith, le)) s ok r free);
}

repetition_completes : {A : Type 0} (ks : KindSet) (p : Phrase A) (n : ℕ) → is_predictive (repetition ks p) ≡ true
    → ((ts : List Token) (a : A) → IsSpelledAt true n p ts a [] → IsCompleted (Whole p) n ts)
    → (ts : List Token) (xs : List A) (r : List Token) → AreRepeated (IsSpelledAt true n p) ts xs r → r ≡ [] → IsCompleted (Whole (repetition ks p)) n ts
repetition_completes ks p n ok each _ _ _ (none_more r) e =
    record { more = []; value = []; is = λ m le l free. subst (λ t. AreRepeated (IsSpelledAt false m p) (t ++ [] ++ l) [] l) (sym e) (none_more l) }
repetition_completes ks p n ok each _ _ _ (one_more ts a [] more r i later) e =
    then_filled (Whole p) (Whole (repetition ks p)) (Whole (repetition ks p)) n (λ a xs. a ∷ xs) (λ m ts a us xs r i j. one_more ts a us xs r i j) ts [] []
    refl (λ m le r free. none_more r) (each ts a i)
repetition_completes ks p n ok each _ _ _ (one_more ts a (u ∷ us) more r i later) e =
    then_missing (Whole p) (Whole (repetition ks p)) (Whole (repetition ks p)) n (λ a xs. a ∷ xs) (λ m ts a us xs r i j. one_more ts a us xs r i j) ts (u ∷ us) a
    (λ m le l. extended n m (extended_in n m (omega (arith, le))) p (of_repetition ks p ok).item ts a u us i l)
    (repetition_completes ks p n ok each (u ∷ us) more r later e)

abbrev NestedCompletes : ℕ → Type 0
NestedCompletes n = (s : Nonterminal) (us : List Token) (b : ValueOf s) → SpelledInside true n s us b [] → (k : ℕ) × ((n ≡ suc k) × IsCompleted (Whole (row s)) k us)

-- what is known of a sequence that can be filled in
four_parts : (a b c d : Bool) → a && (b && (c && not d)) ≡ true → (a ≡ true) × ((b ≡ true) × ((c ≡ true) × (d ≡ false)))
four_parts true true true false e = (refl, (refl, (refl, refl)))
four_parts true true true true e = absurd (cc)
four_parts true true false d e = absurd (cc)
four_parts true false c d e = absurd (cc)
four_parts false b c d e = absurd (cc)

completes : (n : ℕ) → NestedCompletes n → {A : Type 0} (p : Phrase A) → is_predictive p ≡ true → is_fillable p ≡ true → (ts : List Token) (x : A) → IsSpelledAt true n p ts x []
    → IsCompleted (Whole p) n ts
completes n bs (give a) ok fi ts x is = record { more = []; value = a; is = λ m le r free. (refl, ap (λ t. t ++ [] ++ r) is.1) }
completes n bs (terminal w) ok fi ts x is = terminal_completes w n ts x is
completes n bs (sequence p q) ok fi ts x ([], (i, j)) =
    let o = of_sequence p q ok in
    let f = four_parts (is_fillable p) (is_fillable q) (sample_of (samples 2) q).whole (has_kind barred (first_kind (sample_of (samples 2) q).tokens)) fi in
    then_filled (Whole p) (Whole q) (Whole (sequence p q)) n (λ a b. (a, b)) (λ m ts a us b r i j. (us, (i, j))) ts (sample_of (samples 2) q).tokens (sample_of (samples 2) q).value f.1.1.1
    (λ m le r free. filled_twice q m le f.1.1.0 r free) (completes n bs p o.one f.0 ts x.0 i)
completes n bs (sequence p q) ok fi ts x (u ∷ us, (i, j)) =
    let o = of_sequence p q ok in
    let f = four_parts (is_fillable p) (is_fillable q) (sample_of (samples 2) q).whole (has_kind barred (first_kind (sample_of (samples 2) q).tokens)) fi in
    then_missing (Whole p) (Whole q) (Whole (sequence p q)) n (λ a b. (a, b)) (λ m ts a us b r i j. (us, (i, j))) ts (u ∷ us) x.0
    (λ m le l. extended n m (extended_in n m (omega (arith, le))) p o.one ts x.0 u us i l) (completes n bs q o.two f.1.0 (u ∷ us) x.1 j)
completes n bs (mapped h p) ok fi ts x is =
    let y = completes n bs p ok fi ts is.0 is.1.0 in
    record { more = y.more; value = h y.value; is = λ m le r free. (y.value, (y.is m le r free, refl)) }
completes n bs (deepened kind s) ok fi ts x is = deepened_completes kind s n fi (bs s) ts x is
completes n bs (choice ks p q) ok fi ts x (inl i) =
    let y = completes n bs p (of_choice ks p q ok).one (both_true (is_fillable p) (is_fillable q) fi).0 ts x i in
    record { more = y.more; value = y.value; is = λ m le r free. inl (y.is m le r free) }
completes n bs (choice ks p q) ok fi ts x (inr i) =
    let y = completes n bs q (of_choice ks p q ok).two (both_true (is_fillable p) (is_fillable q) fi).1 ts x i in
    record { more = y.more; value = y.value; is = λ m le r free. inr (y.is m le r free) }
completes n bs (repetition ks p) ok fi ts x is = repetition_completes ks p n ok (completes n bs p (of_repetition ks p ok).item fi) ts x [] is refl
completes n bs (not_before ks p) ok fi ts x is =
    let f = both_true (is_fillable p) (kinds_within ks barred) fi in
    let y = completes n bs p (of_not_before ks p ok).item f.0 ts x is.0 in
    record { more = y.more; value = y.value; is = λ m le r free. (y.is m le r free, within_none ks barred (first_kind r) f.1 free) }
completes n bs (lookahead w ks t p) ok fi _ _ (alone _ _ us z _ (stands u _ x is) j) =
    let f = both_true (is_fillable t && (sample_of (samples 2) t).whole) (is_fillable p) fi in
    let y = completes n bs t (of_lookahead w ks t p ok).one (both_true (is_fillable t) (sample_of (samples 2) t).whole f.0).0 us z j in
    record {
      more = y.more;
      value = inl ((u.span.start, x), y.value);
      is = λ m le r free. alone (u ∷ us ++ y.more ++ r) (u.span.start, x) (us ++ y.more ++ r) y.value r (stands u (us ++ y.more ++ r) x is) (y.is m le r free);
    }
completes n bs (lookahead w ks t p) ok fi _ _ (alone _ _ _ z _ (lacking x c) j) =
    let f = both_true (is_fillable t && (sample_of (samples 2) t).whole) (is_fillable p) fi in
    record {
      more = sample_token (sample_kind w) ∷ (sample_of (samples 2) t).tokens;
      value = inl ((0, sample_value w), (sample_of (samples 2) t).value);
      is = λ m le r free. filled_twice (lookahead w ks t p) m (omega (arith, le)) (both_true (is_fillable t) (sample_of (samples 2) t).whole f.0).1 r free;
    }
completes n bs (lookahead w ks t p) ok fi ts _ (otherwise _ a _ i) =
    let y = completes n bs p (of_lookahead w ks t p ok).two (both_true (is_fillable t && (sample_of (samples 2) t).whole) (is_fillable p) fi).1 ts a i in
    record { more = y.more; value = inr y.value; is = λ m le r free. otherwise (ts ++ y.more ++ r) y.value r (y.is m le r free) }

nested_completes : (n : ℕ) → NestedCompletes n
nested_completes zero s us b is = elim is [ ]
nested_completes (suc n) s us b is = (n, (refl, completes n (nested_completes n) (row s) (row_is s) (row_fills s) us b is))

pub row_prefixes_go_on : RowPrefixesGoOn
row_prefixes_go_on n s ts x is =
    let y = completes n (nested_completes n) (row s) (row_is s) (row_fills s) ts x is in
    record {
      others = y.more;
      value = y.value;
      spelled = subst (λ l. IsSpelledAt false (n + 2) (row s) l y.value []) (append-nil (ts ++ y.more)) (y.is (n + 2) (omega arith) [] refl);
    }
