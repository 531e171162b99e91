-- Alternatives that are told apart by two tokens.
use Rattle.std.proofs.Common.{◌≡◌, refl, sym, ap, ◌∙◌, ℕ, Bool, true, false, List, [], ◌∷◌, ◌++◌, length, Option, Some, None, Ok, Err, ◌⊎◌, inl, inr, arith}
use Rattle.sopl_ast.specs.declared.token.Token.{Token}
use Rattle.parse_grammar.specs.Heads.{head, rest, place}
use Rattle.parse_grammar.specs.Reading.{Syntax, Depth, Read}
use Rattle.sopl_ast.specs.KindSets.{KindSet, first_kind, has_kind}
use Rattle.sopl_ast.specs.PhraseLanguage.{Phrase, lookahead}
use Rattle.grammar_rows.specs.RowLaws.{ReadEnd, got, stuck, sunk, end_at, ReadsAll}
use Rattle.grammar_rows.specs.RowReading.{said, by_second, as_alone, as_other, pick, read_at}
use Rattle.sopl_ast.specs.Terminals.{Terminal, says}
use Rattle.grammar_rows.proofs.LocalReading.{same_first, same_said, head_append, end_map, AtLevel, EndShows, at_map, at_same, shows_map, shows_whole, sunk_map, end_mapped}
use Rattle.grammar_rows.proofs.LocalReading.{PhraseReader, LocalReading, mapped_local}
use Rattle.grammar_rows.proofs.Predictive.{OfLookahead}
use Rattle.grammar_rows.proofs.ReadComplete.{IsToldApart}
use Rattle.grammar_rows.proofs.ReadNothing.{all_mapped}

abbrev chosen_by : {X : Type 0} → Option X → Bool → Option X
chosen_by None t = None
chosen_by (Some x) true = Some x
chosen_by (Some x) false = None

-- what the first token says, where one of the kinds stands behind it
abbrev chosen : {X : Type 0} → Terminal X → KindSet → List Token → Option X
chosen w ks ts = chosen_by (said w ts) (has_kind ks (first_kind (rest ts)))

abbrev read_chosen : {X T A : Type 0} → List Token → Option X → Read T → Read A → Read (((ℕ × X) × T) ⊎ A)
read_chosen {X} {T} {A} ts (Some x) onward other = as_alone A (place ts, x) onward
read_chosen {X} {T} ts None onward other = as_other (ℕ × X) T other

second_is : {X T A : Type 0} (ks : KindSet) (ts : List Token) (o : Option X) (onward : Read T) (other : Read A)
    → by_second ks ts o onward other ≡ read_chosen ts (chosen_by o (has_kind ks (first_kind (rest ts)))) onward other
second_is ks ts None onward other = refl
second_is {X} {T} {A} ks ts (Some x) onward other = by_test (has_kind ks (first_kind (rest ts)))
  where
    by_test : (t : Bool) → pick t (as_alone A (place ts, x) onward) (as_other (ℕ × X) T other) ≡ read_chosen ts (chosen_by (Some x) t) onward other
    by_test true = refl
    by_test false = refl

-- likewise of other tokens
chosen_same : {X : Type 0} (w : Terminal X) (ks : KindSet) (used left s : List Token) → (used ≡ [] → said w left ≡ None) → head s ≡ head left → chosen w ks (used ++ left) ≡ None
    → chosen w ks (used ++ s) ≡ None
chosen_same w ks [] left s silent same e = ap (λ o. chosen_by o (has_kind ks (first_kind (rest s)))) (same_said w s left same ∙ silent refl)
chosen_same w ks (u ∷ []) left s silent same e = ap (λ t. chosen_by (says w u.kind) t) (ap (has_kind ks) (same_first s left same)) ∙ e
chosen_same w ks (u ∷ v ∷ vs) left s silent same e = e

unsaid : {X : Type 0} (o : Option X) → chosen_by o false ≡ None
unsaid None = refl
unsaid (Some x) = refl

chosen_front : {X : Type 0} (w : Terminal X) (ks : KindSet) (used left : List Token) → has_kind ks 0 ≡ false → chosen w ks (used ++ left) ≡ None → chosen w ks used ≡ None
chosen_front w ks [] left ends e = refl
chosen_front w ks (u ∷ []) left ends e = ap (λ t. chosen_by (says w u.kind) t) ends ∙ unsaid (says w u.kind)
chosen_front w ks (u ∷ v ∷ vs) left ends e = e

abbrev left_of : {A : Type 0} → Read A → List Token
left_of (Ok x) = x.1
left_of (Err (Syntax l)) = l
left_of (Err (Depth l)) = l

left_is : {A : Type 0} (o : ReadEnd A) (s : List Token) → left_of (end_at o s) ≡ s
left_is (got a) s = refl
left_is stuck s = refl
left_is sunk s = refl

abbrev Either : {X T A : Type 0} → Terminal X → KindSet → Phrase T → Phrase A → PhraseReader (((ℕ × X) × T) ⊎ A)
Either w ks t p cut m ts = read_at cut m (lookahead w ks t p) ts

abbrev Only : {A : Type 0} → Phrase A → PhraseReader A
Only p cut m ts = read_at cut m p ts

-- the second alternative takes the terminal
takes_terminal : {X A : Type 0} (w : Terminal X) (ks : KindSet) (p : Phrase A) (n : ℕ) → IsToldApart w ks p → (u : Token) (x : X) → says w u.kind ≡ Some x → (end : ReadEnd A)
    → ((cut : Bool) (m : ℕ) (s : List Token) → AtLevel end n m → head s ≡ Some u.kind → EndShows cut end s → read_at cut m p s ≡ end_at end s) → ⊥
takes_terminal {X} {A} w ks p n ok u x is end again =
    let c : Token = record { kind = ok.kind; span = u.span } in
    let same : u ∷ c ∷ [] ≡ c ∷ [] =
    sym (left_is end (u ∷ c ∷ [])) ∙ ap left_of (sym (again false n (u ∷ c ∷ []) (at_same end n) refl (shows_whole end (u ∷ c ∷ []))))
    ∙ ap left_of (ok.stops false n u (c ∷ []) x is ok.among) in
    let two : 2 ≡ 1 = ap (λ l. length l) same in
    absurd (omega (arith, two))

alone_local : {X T A : Type 0} (w : Terminal X) (ks : KindSet) (t : Phrase T) (p : Phrase A) (n : ℕ) → IsToldApart w ks p → OfLookahead ks t p → (u : Token) (us : List Token) (x : X)
    → says w u.kind ≡ Some x → has_kind ks (first_kind us) ≡ true → LocalReading (Only t) n us → LocalReading (Either w ks t p) n (u ∷ us)
alone_local {X} {T} {A} w ks t p n ok o u us x is test y = record {
  end = end_map put y.end;
  left = y.left;
  is = record {
    used = u ∷ y.is.used;
    all = ap (λ l. u ∷ l) y.is.all;
    again = λ cut m s at same seen.
        there cut m (y.is.used ++ s) (head_append y.is.used s y.left same ∙ sym (ap head y.is.all))
        ∙ ap (as_alone A (u.span.start, x)) (y.is.again cut m s (at_map put y.end n m at) same (shows_map put cut y.end s seen)) ∙ end_mapped put y.end s;
    over = λ m le. over m y.is.used y.is.all (y.is.over m le);
    over_next = λ e m lt v vs there.
        on m (y.is.used ++ v ∷ []) (head_append y.is.used (v ∷ []) y.left (sym (ap head there)) ∙ sym (ap head y.is.all)) (y.is.over_next (sunk_map put y.end e) m lt v vs there);
    there = λ e. y.is.there (sunk_map put y.end e);
  };
}
  where
    put : T → ((ℕ × X) × T) ⊎ A
    put z = inl ((u.span.start, x), z)

    there : (cut : Bool) (m : ℕ) (l : List Token) → head l ≡ head us → Either w ks t p cut m (u ∷ l) ≡ as_alone A (u.span.start, x) (Only t cut m l)
    there cut m l same =
        second_is ks (u ∷ l) (says w u.kind) (Only t cut m l) (Only p cut m (u ∷ l))
        ∙ ap (λ o. read_chosen (u ∷ l) (chosen_by o (has_kind ks (first_kind l))) (Only t cut m l) (Only p cut m (u ∷ l))) is
        ∙ ap (λ b. read_chosen (u ∷ l) (chosen_by (Some x) b) (Only t cut m l) (Only p cut m (u ∷ l))) (ap (has_kind ks) (same_first l us same) ∙ test)

    on : (m : ℕ) (l : List Token) → head l ≡ head us → ReadsAll (Only t true m l) → ReadsAll (Either w ks t p true m (u ∷ l))
    on m l same v = record { value = put v.value; read = there true m l same ∙ ap (as_alone A (u.span.start, x)) v.read }

    over : (m : ℕ) (used : List Token) → us ≡ used ++ y.left → ReadsAll (Only t true m used) → ReadsAll (Either w ks t p true m (u ∷ used))
    over m (v ∷ vs) e z = on m (v ∷ vs) (sym (ap head e)) z
    over m [] e z =
        let v = all_mapped {B = ((ℕ × X) × T) ⊎ A} (Only p true m (u ∷ [])) inr (ok.over m u x is) in
        record {
          value = v.value;
          read = second_is ks (u ∷ []) (says w u.kind) (Only t true m []) (Only p true m (u ∷ []))
              ∙ ap (λ b. read_chosen (u ∷ []) (chosen_by (says w u.kind) b) (Only t true m []) (Only p true m (u ∷ []))) o.ends
              ∙ ap (λ o. read_chosen (u ∷ []) o (Only t true m []) (Only p true m (u ∷ []))) (unsaid (says w u.kind))
              ∙ v.read;
        }

other_local : {X T A : Type 0} (w : Terminal X) (ks : KindSet) (t : Phrase T) (p : Phrase A) (n : ℕ) → IsToldApart w ks p → OfLookahead ks t p → (ts : List Token)
    → chosen w ks ts ≡ None → LocalReading (Only p) n ts → LocalReading (Either w ks t p) n ts
other_local {X} {T} {A} w ks t p n ok o ts not_chosen y =
    record {
      end = z.end;
      left = z.left;
      is = record {
        used = z.is.used;
        all = z.is.all;
        again = λ cut m s at same seen. as_second cut m (z.is.used ++ s) (free s same) ∙ z.is.again cut m s at same seen;
        over = λ m le. second_over m z.is.used (chosen_front w ks z.is.used z.left o.ends split) (z.is.over m le);
        over_next = λ e m lt u us there. second_over m (z.is.used ++ u ∷ []) (free (u ∷ []) (sym (ap head there))) (z.is.over_next e m lt u us there);
        there = z.is.there;
      };
    }
  where
    z : LocalReading (λ cut m ts. as_other (ℕ × X) T (Only p cut m ts)) n ts
    z = mapped_local {B = ((ℕ × X) × T) ⊎ A} inr (Only p) n ts y

    split : chosen w ks (z.is.used ++ z.left) ≡ None
    split = ap (chosen w ks) (sym z.is.all) ∙ not_chosen

    silent_by : (l : List Token) → l ≡ z.left → (z.is.used ≡ []) → (o : Option X) → said w l ≡ o → said w z.left ≡ None
    silent_by l e no_used None is = ap (said w) (sym e) ∙ is
    silent_by [] e no_used (Some x) is = absurd (cc)
    silent_by (u ∷ us) e no_used (Some x) is =
        absurd (takes_terminal w ks p n ok u x is y.end (λ cut m s at same seen.
        ap (λ l. Only p cut m (l ++ s)) (sym no_used) ∙ y.is.again cut m s at (same ∙ ap head e) seen))

    free : (s : List Token) → head s ≡ head z.left → chosen w ks (z.is.used ++ s) ≡ None
    free s same = chosen_same w ks z.is.used z.left s (λ no_used. silent_by z.left refl no_used (said w z.left) refl) same split

    as_second : (cut : Bool) (m : ℕ) (l : List Token) → chosen w ks l ≡ None → Either w ks t p cut m l ≡ as_other (ℕ × X) T (Only p cut m l)
    as_second cut m l e =
        second_is ks l (said w l) (Only t cut m (rest l)) (Only p cut m l) ∙ ap (λ o. read_chosen l o (Only t cut m (rest l)) (Only p cut m l)) e

    second_over : (m : ℕ) (l : List Token) → chosen w ks l ≡ None → ReadsAll (as_other (ℕ × X) T (Only p true m l)) → ReadsAll (Either w ks t p true m l)
    second_over m l e v = record { value = v.value; read = as_second true m l e ∙ v.read }

pub lookahead_local : {X T A : Type 0} (w : Terminal X) (ks : KindSet) (t : Phrase T) (p : Phrase A) (n : ℕ) → IsToldApart w ks p → OfLookahead ks t p
    → ((us : List Token) → LocalReading (λ cut m ts. read_at cut m t ts) n us) → ((us : List Token) → LocalReading (λ cut m ts. read_at cut m p ts) n us) → (ts : List Token)
    → LocalReading (λ cut m ts. read_at cut m (lookahead w ks t p) ts) n ts
lookahead_local {X} w ks t p n ok o third second ts = by_tokens ts
  where
    by_said : (u : Token) (us : List Token) (s : Option X) (b : Bool) → says w u.kind ≡ s → has_kind ks (first_kind us) ≡ b → LocalReading (Either w ks t p) n (u ∷ us)
    by_said u us (Some x) true is test = alone_local w ks t p n ok o u us x is test (third us)
    by_said u us (Some x) false is test = other_local w ks t p n ok o (u ∷ us) (ap (λ b. chosen_by (says w u.kind) b) test ∙ unsaid (says w u.kind)) (second (u ∷ us))
    by_said u us None b is test = other_local w ks t p n ok o (u ∷ us) (ap (λ s. chosen_by s (has_kind ks (first_kind us))) is) (second (u ∷ us))

    by_tokens : (ts : List Token) → LocalReading (Either w ks t p) n ts
    by_tokens [] = other_local w ks t p n ok o [] refl (second [])
    by_tokens (u ∷ us) = by_said u us (says w u.kind) (has_kind ks (first_kind us)) refl refl
