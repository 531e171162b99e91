-- Reading goes by the tokens that it takes and the kind of the next one.
use Rattle.std.proofs.Common.{◌≡◌, refl, sym, ap, subst, ◌∙◌, ℕ, suc, ◌<◌, ◌≤◌, Bool, true, false, List, [], ◌∷◌, ◌++◌, Option, Some, None, Ok, append_assoc, arith}
use Rattle.std.proofs.lemmas.List.{append-nil}
use Rattle.sopl_ast.specs.declared.token.Token.{Token}
use Rattle.sopl_ast.specs.declared.token.TokenKind.{TokenKind}
use Rattle.parse_grammar.specs.Heads.{head, at_kind}
use Rattle.parse_grammar.specs.Reading.{Read, ◌>>=◌}
use Rattle.sopl_ast.specs.KindSets.{kind_number, first_kind}
use Rattle.grammar_rows.specs.RowLaws.{ReadEnd, got, stuck, sunk, end_at, ReadsAll}
use Rattle.grammar_rows.specs.RowReading.{said, and_then}
use Rattle.sopl_ast.specs.Terminals.{Terminal, says}
use Rattle.grammar_rows.proofs.ReadNothing.{all_then, all_mapped}

abbrev number_of_head : Option TokenKind → ℕ
number_of_head None = 0
number_of_head (Some kind) = kind_number kind

first_is : (ts : List Token) → number_of_head (head ts) ≡ first_kind ts
first_is [] = refl
first_is (u ∷ us) = refl

pub same_first : (s r : List Token) → head s ≡ head r → first_kind s ≡ first_kind r
same_first s r e = sym (first_is s) ∙ ap number_of_head e ∙ first_is r

pub same_said : {X : Type 0} (w : Terminal X) (s r : List Token) → head s ≡ head r → said w s ≡ said w r
same_said w s r e = ap (at_kind (says w)) e

pub head_append : (w s r : List Token) → head s ≡ head r → head (w ++ s) ≡ head (w ++ r)
head_append [] s r e = e
head_append (u ∷ us) s r e = refl

abbrev pub end_map : {A B : Type 0} → (A → B) → ReadEnd A → ReadEnd B
end_map f (got a) = got (f a)
end_map f stuck = stuck
end_map f sunk = sunk

-- the other levels at which a reading ends so
abbrev pub AtLevel : {A : Type 0} → ReadEnd A → ℕ → ℕ → Type 0
AtLevel (got a) n m = n ≤ m
AtLevel stuck n m = n ≤ m
AtLevel sunk n m = n ≡ m

-- some token is there, or the tokens may not end too early
abbrev pub ShowsToken : Bool → List Token → Type 0
ShowsToken true [] = ⊥
ShowsToken true (u ∷ us) = Unit {0}
ShowsToken false s = Unit {0}

abbrev pub EndShows : {A : Type 0} → Bool → ReadEnd A → List Token → Type 0
EndShows cut (got a) s = Unit {0}
EndShows cut stuck s = ShowsToken cut s
EndShows cut sunk s = Unit {0}

pub at_le : {A : Type 0} (o : ReadEnd A) (n m : ℕ) → AtLevel o n m → n ≤ m
at_le (got a) n m e = e
at_le stuck n m e = e
at_le sunk n m e = omega (arith, e)

pub at_map : {A B : Type 0} (f : A → B) (o : ReadEnd A) (n m : ℕ) → AtLevel (end_map f o) n m → AtLevel o n m
at_map f (got a) n m e = e
at_map f stuck n m e = e
at_map f sunk n m e = e

pub at_down : {A : Type 0} (o : ReadEnd A) (n m : ℕ) → AtLevel o (suc n) (suc m) → AtLevel o n m
at_down (got a) n m e = omega (arith, e)
at_down stuck n m e = omega (arith, e)
at_down sunk n m e = omega (arith, e)

pub at_same : {A : Type 0} (o : ReadEnd A) (n : ℕ) → AtLevel o n n
at_same (got a) n = omega arith
at_same stuck n = omega arith
at_same sunk n = refl

pub shows_map : {A B : Type 0} (f : A → B) (cut : Bool) (o : ReadEnd A) (s : List Token) → EndShows cut (end_map f o) s → EndShows cut o s
shows_map f cut (got a) s e = e
shows_map f cut stuck s e = e
shows_map f cut sunk s e = e

pub shows_whole : {A : Type 0} (o : ReadEnd A) (s : List Token) → EndShows false o s
shows_whole (got a) s = tt
shows_whole stuck s = tt
shows_whole sunk s = tt

pub sunk_map : {A B : Type 0} (f : A → B) (o : ReadEnd A) → end_map f o ≡ sunk → o ≡ sunk
sunk_map f (got a) e = absurd (cc)
sunk_map f stuck e = absurd (cc)
sunk_map f sunk e = refl

pub end_mapped : {A B : Type 0} (f : A → B) (o : ReadEnd A) (s : List Token) → end_at o s >>= (λ y. Ok (f y.0, y.1)) ≡ end_at (end_map f o) s
end_mapped f (got a) s = refl
end_mapped f stuck s = refl
end_mapped f sunk s = refl

-- a way to read a phrase, by whether tokens may end too early and how many nestings may begin
abbrev pub PhraseReader : Type 0 → Type 0
PhraseReader A = Bool → ℕ → List Token → Read A

pub record FirstToken (left : List Token) : Type 0 where
  pub token : Token
  pub more : List Token
  pub is : left ≡ token ∷ more

-- what was taken, and what is read of it with other tokens behind, or none
pub record IsLocal {A : Type 0} (f : PhraseReader A) (n : ℕ) (ts : List Token) (end : ReadEnd A) (left : List Token) : Type 0 where
  pub used : List Token
  pub all : ts ≡ used ++ left
  pub again : (cut : Bool) (m : ℕ) (s : List Token) → AtLevel end n m → head s ≡ head left → EndShows cut end s → f cut m (used ++ s) ≡ end_at end s
  pub over : (m : ℕ) → n ≤ m → ReadsAll (f true m used)
  pub over_next : end ≡ sunk → (m : ℕ) → n < m → (u : Token) (us : List Token) → left ≡ u ∷ us → ReadsAll (f true m (used ++ u ∷ []))
  pub there : end ≡ sunk → FirstToken left

pub record LocalReading {A : Type 0} (f : PhraseReader A) (n : ℕ) (ts : List Token) : Type 0 where
  pub end : ReadEnd A
  pub left : List Token
  pub is : IsLocal f n ts end left

-- another value
abbrev pub mapped_local : {A B : Type 0} (h : A → B) (f : PhraseReader A) (n : ℕ) (ts : List Token) → LocalReading f n ts → LocalReading (λ cut m ts. f cut m ts >>= (λ x. Ok (h x.0, x.1))) n ts
mapped_local h f n ts x = record {
  end = end_map h x.end;
  left = x.left;
  is = record {
    used = x.is.used;
    all = x.is.all;
    again = λ cut m s at same seen.
        ap (λ o. o >>= (λ x. Ok (h x.0, x.1))) (x.is.again cut m s (at_map h x.end n m at) same (shows_map h cut x.end s seen)) ∙ end_mapped h x.end s;
    over = λ m le. all_mapped (f true m x.is.used) h (x.is.over m le);
    over_next = λ e m lt u us there. all_mapped (f true m (x.is.used ++ u ∷ [])) h (x.is.over_next (sunk_map h x.end e) m lt u us there);
    there = λ e. x.is.there (sunk_map h x.end e);
  };
}

-- one behind the other
abbrev pub BothRead : {A B : Type 0} → PhraseReader A → PhraseReader B → PhraseReader (A × B)
BothRead f g cut m ts = f cut m ts >>= and_then (g cut m)

pub data StandsAs (w left : List Token) : Type 0 where
  same_head : head w ≡ head left → StandsAs w left
  no_tokens : w ≡ [] → StandsAs w left

pub meets : (used left rest : List Token) → left ≡ used ++ rest → StandsAs used left
meets [] left rest e = no_tokens refl
meets (u ∷ us) left rest e = same_head (sym (ap head e))

pub meets_next : (used left : List Token) (u : Token) (us rest : List Token) → left ≡ used ++ rest → rest ≡ u ∷ us → StandsAs (used ++ u ∷ []) left
meets_next used left u us rest e f = same_head (head_append used (u ∷ []) rest (sym (ap head f)) ∙ sym (ap head e))

both_join : {A B : Type 0} (f : PhraseReader A) (g : PhraseReader B) (n m : ℕ) (ts : List Token) (a : A) (left : List Token) → (l : IsLocal f n ts (got a) left) → ReadsAll (g true m []) → n ≤ m
    → (w : List Token) → StandsAs w left → ReadsAll (g true m w) → ReadsAll (BothRead f g true m (l.used ++ w))
both_join f g n m ts a left l no_more le w (same_head e) o =
    record { value = (a, o.value); read = ap (λ o. o >>= and_then (g true m)) (l.again true m w le e tt) ∙ ap (λ o. o >>= (λ y. Ok ((a, y.0), y.1))) o.read }
both_join f g n m ts a left l no_more le w (no_tokens e) o =
    subst (λ k. ReadsAll (BothRead f g true m k)) (sym (ap (λ w. l.used ++ w) e ∙ append-nil l.used)) (all_then (f true m l.used) (g true m) (l.over m le) no_more)

got_then : {A B : Type 0} (f : PhraseReader A) (g : PhraseReader B) (n : ℕ) → ((m : ℕ) → ReadsAll (g true m [])) → (ts : List Token) (a : A) (mid : List Token) → IsLocal f n ts (got a) mid
    → (end : ReadEnd B) (left : List Token) → IsLocal g n mid end left → IsLocal (BothRead f g) n ts (end_map (λ b. (a, b)) end) left
got_then f g n no_more ts a mid l end left k = record {
  used = l.used ++ k.used;
  all = l.all ∙ ap (λ w. l.used ++ w) k.all ∙ sym (append_assoc l.used k.used left);
  again = λ cut m s at same seen.
      let at2 = at_map (λ b. (a, b)) end n m at in
      ap (λ w. BothRead f g cut m w) (append_assoc l.used k.used s)
      ∙ ap (λ o. o >>= and_then (g cut m)) (l.again cut m (k.used ++ s) (at_le end n m at2) (head_append k.used s left same ∙ ap head (sym k.all)) tt)
      ∙ ap (λ o. o >>= (λ y. Ok ((a, y.0), y.1))) (k.again cut m s at2 same (shows_map (λ b. (a, b)) cut end s seen))
      ∙ end_mapped (λ b. (a, b)) end s;
  over = λ m le. both_join f g n m ts a mid l (no_more m) le k.used (meets k.used mid left k.all) (k.over m le);
  over_next = λ e m lt u us there.
      subst (λ w. ReadsAll (BothRead f g true m w)) (sym (append_assoc l.used k.used (u ∷ [])))
      (both_join f g n m ts a mid l (no_more m) (omega (arith, lt)) (k.used ++ u ∷ []) (meets_next k.used mid u us left k.all there)
      (k.over_next (sunk_map (λ b. (a, b)) end e) m lt u us there));
  there = λ e. k.there (sunk_map (λ b. (a, b)) end e);
}

stuck_then : {A B : Type 0} (f : PhraseReader A) (g : PhraseReader B) (n : ℕ) → ((m : ℕ) → ReadsAll (g true m [])) → (ts left : List Token) → IsLocal f n ts stuck left
    → IsLocal (BothRead f g) n ts stuck left
stuck_then f g n no_more ts left l = record {
  used = l.used;
  all = l.all;
  again = λ cut m s at same seen. ap (λ o. o >>= and_then (g cut m)) (l.again cut m s at same seen);
  over = λ m le. all_then (f true m l.used) (g true m) (l.over m le) (no_more m);
  over_next = λ e m lt u us there. absurd (cc);
  there = λ e. absurd (cc);
}

sunk_then : {A B : Type 0} (f : PhraseReader A) (g : PhraseReader B) (n : ℕ) → ((m : ℕ) → ReadsAll (g true m [])) → (ts left : List Token) → IsLocal f n ts sunk left
    → IsLocal (BothRead f g) n ts sunk left
sunk_then f g n no_more ts left l = record {
  used = l.used;
  all = l.all;
  again = λ cut m s at same seen. ap (λ o. o >>= and_then (g cut m)) (l.again cut m s at same seen);
  over = λ m le. all_then (f true m l.used) (g true m) (l.over m le) (no_more m);
  over_next = λ e m lt u us there. all_then (f true m (l.used ++ u ∷ [])) (g true m) (l.over_next refl m lt u us there) (no_more m);
  there = λ e. l.there refl;
}

pub both_local : {A B : Type 0} (f : PhraseReader A) (g : PhraseReader B) (n : ℕ) → ((m : ℕ) → ReadsAll (g true m [])) → (ts : List Token) → LocalReading f n ts
    → ((us : List Token) → LocalReading g n us) → LocalReading (BothRead f g) n ts
both_local {A} {B} f g n no_more ts x second = by_end x.end x.left x.is
  where
    by_end : (end : ReadEnd A) (left : List Token) → IsLocal f n ts end left → LocalReading (BothRead f g) n ts
    by_end (got a) left l = let y = second left in record { end = end_map (λ b. (a, b)) y.end; left = y.left; is = got_then f g n no_more ts a left l y.end y.left y.is }
    by_end stuck left l = record { end = stuck; left = left; is = stuck_then f g n no_more ts left l }
    by_end sunk left l = record { end = sunk; left = left; is = sunk_then f g n no_more ts left l }

-- what is read as by another reader, where the first token's kind is the same
pub read_as_other : {A : Type 0} (f h : PhraseReader A) (n : ℕ) (ts : List Token) → ((m : ℕ) → ReadsAll (f true m []))
    → ((cut : Bool) (m : ℕ) (s : List Token) → head s ≡ head ts → f cut m s ≡ h cut m s) → LocalReading h n ts → LocalReading f n ts
read_as_other {A} f h n ts none_there same x = record {
  end = x.end;
  left = x.left;
  is = record {
    used = x.is.used;
    all = x.is.all;
    again = λ cut m s at e seen. same cut m (x.is.used ++ s) (head_append x.is.used s x.left e ∙ sym (ap head x.is.all)) ∙ x.is.again cut m s at e seen;
    over = λ m le. by_used m x.is.used x.is.all (x.is.over m le);
    over_next = λ e m lt u us there.
        other m (x.is.used ++ u ∷ []) (head_append x.is.used (u ∷ []) x.left (sym (ap head there)) ∙ sym (ap head x.is.all)) (x.is.over_next e m lt u us there);
    there = x.is.there;
  };
}
  where
    other : (m : ℕ) (w : List Token) → head w ≡ head ts → ReadsAll (h true m w) → ReadsAll (f true m w)
    other m w e o = record { value = o.value; read = same true m w e ∙ o.read }

    by_used : (m : ℕ) (used : List Token) → ts ≡ used ++ x.left → ReadsAll (h true m used) → ReadsAll (f true m used)
    by_used m [] e o = none_there m
    by_used m (u ∷ us) e o = other m (u ∷ us) (sym (ap head e)) o
