-- Terminals, what stands behind a token that counts, and repetitions are read by the tokens that they take and the kind of the next one.
use Rattle.std.proofs.Common.{◌≡◌, refl, sym, ap, subst, ◌∙◌, ℕ, zero, suc, ◌+◌, ◌<◌, ◌≤◌, Bool, true, false, List, [], ◌∷◌, ◌++◌, length, Option, Some, None, Ok, Err, append_assoc, arith}
use Rattle.std.proofs.lemmas.List.{append-nil, length-append}
use Rattle.sopl_ast.specs.declared.token.Token.{Token}
use Rattle.sopl_ast.specs.declared.token.TokenKind.{TokenKind}
use Rattle.parse_grammar.specs.Heads.{head}
use Rattle.parse_grammar.specs.Reading.{Stop, Syntax, Depth, Read, ◌>>=◌, absent, chain}
use Rattle.sopl_ast.specs.KindSets.{KindSet, first_kind, has_kind}
use Rattle.sopl_ast.specs.ModelRows.{row}
use Rattle.sopl_ast.specs.Nonterminals.{Nonterminal, ValueOf}
use Rattle.grammar_rows.specs.RowLaws.{ReadEnd, got, stuck, sunk, end_at, ReadsAll}
use Rattle.grammar_rows.specs.RowReading.{said, terminal_at, deepened_at, some_more, nested_read, read_at, sample_value, some_value}
use Rattle.sopl_ast.specs.Terminals.{Terminal, mark_of, says}
use Rattle.grammar_rows.proofs.KindSetLaws.{contra}
use Rattle.grammar_rows.proofs.LocalReading as l
use Rattle.grammar_rows.proofs.LocalReading.{same_first, same_said, head_append, end_map, AtLevel, ShowsToken, EndShows, at_le, at_map, at_down, shows_map, sunk_map, end_mapped}
use Rattle.grammar_rows.proofs.LocalReading.{PhraseReader, FirstToken, IsLocal, LocalReading, StandsAs, same_head, meets, meets_next}
use Rattle.grammar_rows.proofs.Predictive.{row_is}
use Rattle.grammar_rows.proofs.ReadComplete.{next_some, chain_none, chain_some}
use Rattle.grammar_rows.proofs.ReadNothing.{none_read}
use Rattle.grammar_rows.proofs.ReadSteps.{read_on, chain_step, no_tokens}

-- what is not there
absent_stuck : {A : Type 0} (cut : Bool) (v : A × List Token) (s : List Token) → ShowsToken cut s → absent cut v s ≡ Err (Syntax s)
absent_stuck false v s seen = refl
absent_stuck true v [] seen = elim seen [ ]
absent_stuck true v (u ∷ us) seen = refl

stuck_at : {A : Type 0} (f : PhraseReader A) (n : ℕ) (ts : List Token) → ((m : ℕ) → ReadsAll (f true m []))
    → ((cut : Bool) (m : ℕ) (s : List Token) → head s ≡ head ts → ShowsToken cut s → f cut m s ≡ Err (Syntax s)) → LocalReading f n ts
stuck_at f n ts no_more refuses = record {
  end = stuck;
  left = ts;
  is = record { used = []; all = refl; again = λ cut m s at e seen. refuses cut m s e seen; over = λ m le. no_more m; over_next = λ e m lt u us there. absurd (cc); there = λ e. absurd (cc) };
}

terminal_stuck : {X : Type 0} (w : Terminal X) (n : ℕ) (ts : List Token) → said w ts ≡ None → LocalReading (λ cut m ts. terminal_at cut w ts (said w ts)) n ts
terminal_stuck w n ts e =
    stuck_at (λ cut m ts. terminal_at cut w ts (said w ts)) n ts (λ m. record { value = (0, sample_value w); read = refl })
    (λ cut m s same seen. ap (terminal_at cut w s) (same_said w s ts same ∙ e) ∙ absent_stuck cut ((0, sample_value w), []) s seen)

pub terminal_local : {X : Type 0} (w : Terminal X) (n : ℕ) (ts : List Token) → LocalReading (λ cut m ts. terminal_at cut w ts (said w ts)) n ts
terminal_local w n [] = terminal_stuck w n [] refl
terminal_local {X} w n (u ∷ us) = by_said (says w u.kind) refl
  where
    by_said : (o : Option X) → says w u.kind ≡ o → LocalReading (λ cut m ts. terminal_at cut w ts (said w ts)) n (u ∷ us)
    by_said None e = terminal_stuck w n (u ∷ us) e
    by_said (Some x) e = record {
      end = got (u.span.start, x);
      left = us;
      is = record {
        used = u ∷ [];
        all = refl;
        again = λ cut m s at same seen. ap (terminal_at cut w (u ∷ s)) e;
        over = λ m le. record { value = (u.span.start, x); read = ap (terminal_at true w (u ∷ [])) e };
        over_next = λ e m lt u us there. absurd (cc);
        there = λ e. absurd (cc);
      };
    }

-- what stands behind a token that counts
abbrev Deepened : TokenKind → (s : Nonterminal) → PhraseReader (ℕ × ValueOf s)
Deepened kind s cut m ts = deepened_at cut s (nested_read cut m) ts (said (mark_of kind) ts)

abbrev pub RowRead : (s : Nonterminal) → PhraseReader (ValueOf s)
RowRead s cut m us = read_at cut m (row s) us

row_none : (m : ℕ) (s : Nonterminal) → ReadsAll (read_at true m (row s) [])
row_none m s = none_read (nested_read true m) (row s) (row_is s)

deepened_stuck : (kind : TokenKind) (s : Nonterminal) (n : ℕ) (ts : List Token) → said (mark_of kind) ts ≡ None → LocalReading (Deepened kind s) n ts
deepened_stuck kind s n ts e =
    stuck_at (Deepened kind s) n ts (λ m. record { value = (0, some_value s); read = refl })
    (λ cut m r same seen. ap (deepened_at cut s (nested_read cut m) r) (same_said (mark_of kind) r ts same ∙ e) ∙ absent_stuck cut ((0, some_value s), []) r seen)

-- a token that counts is read with what stands behind it
deepened_read : (kind : TokenKind) (s : Nonterminal) (cut : Bool) (m : ℕ) (u : Token) (us : List Token) → says (mark_of kind) u.kind ≡ Some tt
    → Deepened kind s cut (suc m) (u ∷ us) ≡ RowRead s cut m us >>= (λ y. Ok ((u.span.start, y.0), y.1))
deepened_read kind s cut m u us e = ap (deepened_at cut s (nested_read cut (suc m)) (u ∷ us)) e

deepened_over : (kind : TokenKind) (s : Nonterminal) (m : ℕ) (u : Token) (us : List Token) → says (mark_of kind) u.kind ≡ Some tt → ReadsAll (RowRead s true m us)
    → ReadsAll (Deepened kind s true (suc m) (u ∷ us))
deepened_over kind s m u us e o = record {
  value = (u.span.start, o.value);
  read = deepened_read kind s true m u us e ∙ ap (λ o. o >>= (λ y. Ok ((u.span.start, y.0), y.1))) o.read;
}

sunk_first : (kind : TokenKind) (s : Nonterminal) (cut : Bool) (r : List Token) → said (mark_of kind) r ≡ Some tt → Deepened kind s cut 0 r ≡ Err (Depth r)
sunk_first kind s cut r e = ap (deepened_at cut s (nested_read cut 0) r) e

deepened_some : (kind : TokenKind) (s : Nonterminal) (n : ℕ) (u : Token) (us : List Token) → says (mark_of kind) u.kind ≡ Some tt
    → ((k : ℕ) → n ≡ suc k → LocalReading (RowRead s) k us) → LocalReading (Deepened kind s) n (u ∷ us)
deepened_some kind s zero u us e inner = record {
  end = sunk;
  left = u ∷ us;
  is = record {
    used = [];
    all = refl;
    again = λ cut m r at same seen. ap (λ k. Deepened kind s cut k r) (sym at) ∙ sunk_first kind s cut r (same_said (mark_of kind) r (u ∷ us) same ∙ e);
    over = λ m le. record { value = (0, some_value s); read = refl };
    over_next = λ _ m lt v vs there. by_level m lt v (ap (says (mark_of kind)) (sym (same_kind v vs there)) ∙ e);
    there = λ _. record { token = u; more = us; is = refl };
  };
}
  where
    same_kind : (v : Token) (vs : List Token) → u ∷ us ≡ v ∷ vs → u.kind ≡ v.kind
    same_kind v vs e = let h : Some u.kind ≡ Some v.kind = ap head e in cc

    by_level : (m : ℕ) → 0 < m → (v : Token) → says (mark_of kind) v.kind ≡ Some tt → ReadsAll (Deepened kind s true m (v ∷ []))
    by_level zero lt v e = absurd (omega (arith, lt))
    by_level (suc m) lt v e = deepened_over kind s m v [] e (row_none m s)
deepened_some kind s (suc n) u us e inner = by_inner (inner n refl)
  where
    by_inner : LocalReading (RowRead s) n us → LocalReading (Deepened kind s) (suc n) (u ∷ us)
    by_inner y = record {
      end = end_map (λ b. (u.span.start, b)) y.end;
      left = y.left;
      is = record {
        used = u ∷ y.is.used;
        all = ap (λ l. u ∷ l) y.is.all;
        again = λ cut m r at same seen. again cut m r (at_map (λ b. (u.span.start, b)) y.end (suc n) m at) same (shows_map (λ b. (u.span.start, b)) cut y.end r seen);
        over = over;
        over_next = λ e2 m lt v vs there. over_next (sunk_map (λ b. (u.span.start, b)) y.end e2) m lt v vs there;
        there = λ e2. y.is.there (sunk_map (λ b. (u.span.start, b)) y.end e2);
      };
    }
      where
        again : (cut : Bool) (m : ℕ) (r : List Token) → AtLevel y.end (suc n) m → head r ≡ head y.left → EndShows cut y.end r
            → Deepened kind s cut m (u ∷ y.is.used ++ r) ≡ end_at (end_map (λ b. (u.span.start, b)) y.end) r
        again cut zero r at same seen = absurd (omega (arith, at_le y.end (suc n) zero at))
        again cut (suc m) r at same seen =
            deepened_read kind s cut m u (y.is.used ++ r) e
            ∙ ap (λ o. o >>= (λ z. Ok ((u.span.start, z.0), z.1))) (y.is.again cut m r (at_down y.end n m at) same seen)
            ∙ end_mapped (λ b. (u.span.start, b)) y.end r

        over : (m : ℕ) → suc n ≤ m → ReadsAll (Deepened kind s true m (u ∷ y.is.used))
        over zero le = absurd (omega (arith, le))
        over (suc m) le = deepened_over kind s m u y.is.used e (y.is.over m (omega (arith, le)))

        over_next : y.end ≡ sunk → (m : ℕ) → suc n < m → (v : Token) (vs : List Token) → y.left ≡ v ∷ vs → ReadsAll (Deepened kind s true m (u ∷ y.is.used ++ v ∷ []))
        over_next e2 zero lt v vs there = absurd (omega (arith, lt))
        over_next e2 (suc m) lt v vs there = deepened_over kind s m u (y.is.used ++ v ∷ []) e (y.is.over_next e2 m (omega (arith, lt)) v vs there)

pub deepened_local : (kind : TokenKind) (s : Nonterminal) (n : ℕ) → ((k : ℕ) → n ≡ suc k → (us : List Token) → LocalReading (RowRead s) k us) → (ts : List Token)
    → LocalReading (λ cut m ts. deepened_at cut s (nested_read cut m) ts (said (mark_of kind) ts)) n ts
deepened_local kind s n inner [] = deepened_stuck kind s n [] refl
deepened_local kind s n inner (u ∷ us) = by_said (says (mark_of kind) u.kind) refl
  where
    by_said : (o : Option (Unit {0})) → says (mark_of kind) u.kind ≡ o → LocalReading (Deepened kind s) n (u ∷ us)
    by_said None e = deepened_stuck kind s n (u ∷ us) e
    by_said (Some x) e = deepened_some kind s n u us e (λ k is. inner k is us)

-- repetitions
abbrev ItemsRead : {A : Type 0} → KindSet → PhraseReader A → ℕ → List A → PhraseReader (List A)
ItemsRead ks item fuel before cut m ts = chain (some_more ks (item cut m)) fuel before ts

pub record AreLocal {A : Type 0} (ks : KindSet) (item : PhraseReader A) (n : ℕ) (ts : List Token) (end : ReadEnd (List A)) (left : List Token) : Type 0 where
  pub used : List Token
  pub all : ts ≡ used ++ left
  pub again : (cut : Bool) (m : ℕ) (s : List Token) → AtLevel end n m → head s ≡ head left → EndShows cut end s → (fuel : ℕ) (before : List A) → length (used ++ s) ≤ fuel
      → ItemsRead ks item fuel before cut m (used ++ s) ≡ end_at (end_map (λ xs. before ++ xs) end) s
  over : (m : ℕ) → n ≤ m → (fuel : ℕ) (before : List A) → length used ≤ fuel → ReadsAll (ItemsRead ks item fuel before true m used)
  over_next : end ≡ sunk → (m : ℕ) → n < m → (u : Token) (us : List Token) → left ≡ u ∷ us → (fuel : ℕ) (before : List A) → length (used ++ u ∷ []) ≤ fuel
      → ReadsAll (ItemsRead ks item fuel before true m (used ++ u ∷ []))
  there : end ≡ sunk → FirstToken left

pub record LocalItems {A : Type 0} (ks : KindSet) (item : PhraseReader A) (n : ℕ) (ts : List Token) : Type 0 where
  pub end : ReadEnd (List A)
  pub left : List Token
  pub is : AreLocal ks item n ts end left

items_end : {A : Type 0} (ks : KindSet) (item : PhraseReader A) (n : ℕ) (ts : List Token) → has_kind ks 0 ≡ false → has_kind ks (first_kind ts) ≡ false → LocalItems ks item n ts
items_end {A} ks item n ts ends e = record {
  end = got [];
  left = ts;
  is = record {
    used = [];
    all = refl;
    again = λ cut m s at same seen fuel before le.
        chain_none ks (item cut m) fuel before s (ap (has_kind ks) (same_first s ts same) ∙ e) ∙ ap (λ l. Ok (l, s)) (sym (append-nil before));
    over = λ m le fuel before lt. record { value = before; read = chain_none ks (item true m) fuel before [] ends };
    over_next = λ e m lt u us there. absurd (cc);
    there = λ e. absurd (cc);
  };
}

-- one item over the last tokens
item_over : {A : Type 0} (ks : KindSet) (item : List Token → Read A) (ts : List Token) → has_kind ks 0 ≡ false → (ts ≡ [] → ⊥) → has_kind ks (first_kind ts) ≡ true → ReadsAll (item ts)
    → (fuel : ℕ) (before : List A) → length ts ≤ fuel → ReadsAll (chain (some_more ks item) fuel before ts)
item_over ks item ts ends some test o zero before le = absurd (some (no_tokens ts le))
item_over ks item ts ends some test o (suc fuel) before le = record {
  value = before ++ o.value ∷ [];
  read = chain_some ks item fuel before ts o.value [] test o.read ∙ chain_none ks item fuel (before ++ o.value ∷ []) [] ends;
}

none_over : {A : Type 0} (ks : KindSet) (item : List Token → Read A) → has_kind ks 0 ≡ false → (fuel : ℕ) (before : List A) → ReadsAll (chain (some_more ks item) fuel before [])
none_over ks item ends fuel before = record { value = before; read = chain_none ks item fuel before [] ends }

some_tokens : (ks : KindSet) (ts : List Token) → has_kind ks 0 ≡ false → has_kind ks (first_kind ts) ≡ true → ts ≡ [] → ⊥
some_tokens ks ts ends test e = contra (has_kind ks 0) (sym (ap (λ l. has_kind ks (first_kind l)) e) ∙ test) ends

-- a reading of an item that gives no value
pub chain_stops : {A : Type 0} (ks : KindSet) (item : List Token → Read A) (ts : List Token) (stop : Stop) → has_kind ks 0 ≡ false → has_kind ks (first_kind ts) ≡ true → item ts ≡ Err stop
    → (fuel : ℕ) (before : List A) → length ts ≤ fuel → chain (some_more ks item) fuel before ts ≡ Err stop
chain_stops ks item ts stop ends test e zero before le = absurd (some_tokens ks ts ends test (no_tokens ts le))
chain_stops ks item ts stop ends test e (suc fuel) before le =
    chain_step (some_more ks item) fuel before ts
    ∙ ap (λ o. o >>= read_on (some_more ks item) fuel before) (next_some ks item ts test ∙ ap (λ o. o >>= (λ x. Ok (Some x.0, x.1))) e)

record HasHead (ks : KindSet) (used left : List Token) : Type 0 where
  with_head : (s : List Token) → head s ≡ head left → has_kind ks (first_kind (used ++ s)) ≡ true

tested : (ks : KindSet) (used left ts : List Token) → ts ≡ used ++ left → has_kind ks (first_kind ts) ≡ true → HasHead ks used left
tested ks used left ts all test = record {
  with_head = λ s e. ap (has_kind ks) (same_first (used ++ s) ts (head_append used s left e ∙ sym (ap head all))) ∙ test;
}

front_over : {A : Type 0} (ks : KindSet) (item : PhraseReader A) (m : ℕ) (ts used left : List Token) → has_kind ks 0 ≡ false → has_kind ks (first_kind ts) ≡ true → ts ≡ used ++ left
    → ReadsAll (item true m used) → (fuel : ℕ) (before : List A) → length used ≤ fuel → ReadsAll (ItemsRead ks item fuel before true m used)
front_over ks item m ts [] left ends test all o fuel before le = none_over ks (item true m) ends fuel before
front_over ks item m ts (u ∷ us) left ends test all o fuel before le =
    item_over ks (item true m) (u ∷ us) ends (λ e. absurd (cc)) (ap (λ l. has_kind ks (first_kind l)) (sym all) ∙ test) o fuel before le

items_stuck : {A : Type 0} (ks : KindSet) (item : PhraseReader A) (n : ℕ) (ts left : List Token) → has_kind ks 0 ≡ false → has_kind ks (first_kind ts) ≡ true → IsLocal item n ts stuck left
    → LocalItems ks item n ts
items_stuck {A} ks item n ts left ends test k = record {
  end = stuck;
  left = left;
  is = record {
    used = k.used;
    all = k.all;
    again = λ cut m s at same seen fuel before le.
        chain_stops ks (item cut m) (k.used ++ s) (Syntax s) ends ((tested ks k.used left ts k.all test).with_head s same) (k.again cut m s at same seen) fuel before le;
    over = λ m le fuel before lt. front_over ks item m ts k.used left ends test k.all (k.over m le) fuel before lt;
    over_next = λ e m lt u us there. absurd (cc);
    there = λ e. absurd (cc);
  };
}

items_sunk : {A : Type 0} (ks : KindSet) (item : PhraseReader A) (n : ℕ) (ts left : List Token) → has_kind ks 0 ≡ false → has_kind ks (first_kind ts) ≡ true → IsLocal item n ts sunk left
    → LocalItems ks item n ts
items_sunk {A} ks item n ts left ends test k = record {
  end = sunk;
  left = left;
  is = record {
    used = k.used;
    all = k.all;
    again = λ cut m s at same seen fuel before le.
        chain_stops ks (item cut m) (k.used ++ s) (Depth s) ends ((tested ks k.used left ts k.all test).with_head s same) (k.again cut m s at same seen) fuel before le;
    over = λ m le fuel before lt. front_over ks item m ts k.used left ends test k.all (k.over m le) fuel before lt;
    over_next = λ e m lt u us there fuel before le.
        item_over ks (item true m) (k.used ++ u ∷ []) ends (some_tokens ks (k.used ++ u ∷ []) ends (next_test u us there)) (next_test u us there) (k.over_next refl m lt u us there) fuel before le;
    there = λ e. k.there refl;
  };
}
  where
    next_test : (u : Token) (us : List Token) → left ≡ u ∷ us → has_kind ks (first_kind (k.used ++ u ∷ [])) ≡ true
    next_test u us there = (tested ks k.used left ts k.all test).with_head (u ∷ []) (sym (ap head there))

map_assoc : {A : Type 0} (before : List A) (a : A) (o : ReadEnd (List A)) (s : List Token)
    → end_at (end_map (λ xs. (before ++ a ∷ []) ++ xs) o) s ≡ end_at (end_map (λ xs. before ++ xs) (end_map (λ xs. a ∷ xs) o)) s
map_assoc before a (got xs) s = ap (λ l. Ok (l, s)) (append_assoc before (a ∷ []) xs)
map_assoc before a stuck s = refl
map_assoc before a sunk s = refl

chain_on_item : {A : Type 0} (ks : KindSet) (item : List Token → Read A) (ts : List Token) (a : A) (us : List Token) (q : List A → Read (List A)) → has_kind ks (first_kind ts) ≡ true
    → item ts ≡ Ok (a, us) → length us < length ts
    → ((fuel : ℕ) (before : List A) → length us ≤ fuel → chain (some_more ks item) fuel before us ≡ q before)
    → (fuel : ℕ) (before : List A) → length ts ≤ fuel → chain (some_more ks item) fuel before ts ≡ q (before ++ a ∷ [])
chain_on_item ks item ts a us q test e lt later zero before le = absurd (omega (arith, le, lt))
chain_on_item ks item ts a us q test e lt later (suc fuel) before le = chain_some ks item fuel before ts a us test e ∙ later fuel (before ++ a ∷ []) (omega (arith, le, lt))

over_on : {A : Type 0} (ks : KindSet) (item : List Token → Read A) (ts : List Token) (a : A) (us : List Token) → has_kind ks (first_kind ts) ≡ true → item ts ≡ Ok (a, us) → length us < length ts
    → ((fuel : ℕ) (before : List A) → length us ≤ fuel → ReadsAll (chain (some_more ks item) fuel before us))
    → (fuel : ℕ) (before : List A) → length ts ≤ fuel → ReadsAll (chain (some_more ks item) fuel before ts)
over_on ks item ts a us test e lt later zero before le = absurd (omega (arith, le, lt))
over_on ks item ts a us test e lt later (suc fuel) before le =
    let o = later fuel (before ++ a ∷ []) (omega (arith, le, lt)) in
    record { value = o.value; read = chain_some ks item fuel before ts a us test e ∙ o.read }

-- an item takes tokens, so what stands behind it is shorter, whatever it is
behind_shorter : (used mid ts s : List Token) → ts ≡ used ++ mid → length mid < length ts → length s < length (used ++ s)
behind_shorter used mid ts s all lt =
    let a : length ts ≡ length used + length mid = ap (λ l. length l) all ∙ length-append used mid in
    let b = length-append used s in
    omega (arith, a, b, lt)

items_more : {A : Type 0} (ks : KindSet) (item : PhraseReader A) (n : ℕ) (ts : List Token) (a : A) (mid : List Token) (end : ReadEnd (List A)) (left : List Token) → has_kind ks 0 ≡ false
    → has_kind ks (first_kind ts) ≡ true → length mid < length ts → IsLocal item n ts (got a) mid → AreLocal ks item n mid end left
    → AreLocal ks item n ts (end_map (λ xs. a ∷ xs) end) left
items_more {A} ks item n ts a mid end left ends test lt k r = record {
  used = k.used ++ r.used;
  all = k.all ∙ ap (λ l. k.used ++ l) r.all ∙ sym (append_assoc k.used r.used left);
  again = λ cut m s at same seen fuel before le.
      let at2 = at_map (λ xs. a ∷ xs) end n m at in
      let e = head_append r.used s left same ∙ ap head (sym r.all) in
      ap (λ l. ItemsRead ks item fuel before cut m l) (append_assoc k.used r.used s)
      ∙ chain_on_item ks (item cut m) (k.used ++ (r.used ++ s)) a (r.used ++ s) (λ before. end_at (end_map (λ xs. before ++ xs) end) s) (t.with_head (r.used ++ s) e)
      (k.again cut m (r.used ++ s) (at_le end n m at2) e tt) (behind_shorter k.used mid ts (r.used ++ s) k.all lt)
      (λ fuel before le. r.again cut m s at2 same (shows_map (λ xs. a ∷ xs) cut end s seen) fuel before le)
      fuel before (subst (λ l. length l ≤ fuel) (append_assoc k.used r.used s) le)
      ∙ map_assoc before a end s;
  over = λ m le fuel before l. over_join m le r.used (meets r.used mid left r.all) (λ fuel before le2. r.over m le fuel before le2) fuel before l;
  over_next = λ e m lt2 u us there fuel before l.
      subst (λ w. ReadsAll (ItemsRead ks item fuel before true m w)) (sym (append_assoc k.used r.used (u ∷ [])))
      (over_join m (omega (arith, lt2)) (r.used ++ u ∷ []) (meets_next r.used mid u us left r.all there)
      (λ fuel before le2. r.over_next (sunk_map (λ xs. a ∷ xs) end e) m lt2 u us there fuel before le2) fuel before
      (subst (λ w. length w ≤ fuel) (append_assoc k.used r.used (u ∷ [])) l));
  there = λ e. r.there (sunk_map (λ xs. a ∷ xs) end e);
}
  where
    t : HasHead ks k.used mid
    t = tested ks k.used mid ts k.all test

    over_join : (m : ℕ) → n ≤ m → (w : List Token) → StandsAs w mid → ((fuel : ℕ) (before : List A) → length w ≤ fuel → ReadsAll (ItemsRead ks item fuel before true m w))
        → (fuel : ℕ) (before : List A) → length (k.used ++ w) ≤ fuel → ReadsAll (ItemsRead ks item fuel before true m (k.used ++ w))
    over_join m le w (same_head e) o fuel before l =
        over_on ks (item true m) (k.used ++ w) a w (t.with_head w e) (k.again true m w le e tt) (behind_shorter k.used mid ts w k.all lt) o fuel before l
    over_join m le w (l.no_tokens e) o fuel before l =
        let whole = ap (λ w. k.used ++ w) e ∙ append-nil k.used in
        subst (λ x. ReadsAll (ItemsRead ks item fuel before true m x)) (sym whole)
        (front_over ks item m ts k.used mid ends test k.all (k.over m le) fuel before (subst (λ x. length x ≤ fuel) whole l))

pub items_local : {A : Type 0} (ks : KindSet) (item : PhraseReader A) (n : ℕ) → has_kind ks 0 ≡ false → ((ts : List Token) → LocalReading item n ts)
    → ((ts : List Token) (a : A) (us : List Token) → has_kind ks (first_kind ts) ≡ true → item false n ts ≡ Ok (a, us) → length us < length ts)
    → (bound : ℕ) (ts : List Token) → length ts ≤ bound → LocalItems ks item n ts
items_local {A} ks item n ends each shorter zero ts le = items_end ks item n ts ends (ap (λ l. has_kind ks (first_kind l)) (no_tokens ts le) ∙ ends)
items_local {A} ks item n ends each shorter (suc bound) ts le = by_test (items_local ks item n ends each shorter bound) (has_kind ks (first_kind ts)) refl
  where
    by_end : ((ts : List Token) → length ts ≤ bound → LocalItems ks item n ts) → has_kind ks (first_kind ts) ≡ true → (end : ReadEnd A) (left : List Token) → IsLocal item n ts end left
        → LocalItems ks item n ts
    by_end again test stuck left k = items_stuck ks item n ts left ends test k
    by_end again test sunk left k = items_sunk ks item n ts left ends test k
    by_end again test (got a) left k =
        let lt = shorter ts a left test (ap (item false n) k.all ∙ k.again false n left (omega arith) refl tt) in
        let r = again left (omega (arith, le, lt)) in
        record { end = end_map (λ xs. a ∷ xs) r.end; left = r.left; is = items_more ks item n ts a left r.end r.left ends test lt k r.is }

    by_test : ((ts : List Token) → length ts ≤ bound → LocalItems ks item n ts) → (b : Bool) → has_kind ks (first_kind ts) ≡ b → LocalItems ks item n ts
    by_test again false e = items_end ks item n ts ends e
    by_test again true e = let x = each ts in by_end again e x.end x.left x.is

map_nil : {A : Type 0} (o : ReadEnd (List A)) (s : List Token) → end_at (end_map (λ xs. [] ++ xs) o) s ≡ end_at o s
map_nil (got xs) s = refl
map_nil stuck s = refl
map_nil sunk s = refl

pub repetition_local : {A : Type 0} (ks : KindSet) (item : PhraseReader A) (n : ℕ) (ts : List Token) → LocalItems ks item n ts
    → LocalReading (λ cut m ts. chain (some_more ks (item cut m)) (length ts) [] ts) n ts
repetition_local ks item n ts x = record {
  end = x.end;
  left = x.left;
  is = record {
    used = x.is.used;
    all = x.is.all;
    again = λ cut m s at same seen. x.is.again cut m s at same seen (length (x.is.used ++ s)) [] (omega arith) ∙ map_nil x.end s;
    over = λ m le. x.is.over m le (length x.is.used) [] (omega arith);
    over_next = λ e m lt u us there. x.is.over_next e m lt u us there (length (x.is.used ++ u ∷ [])) [] (omega arith);
    there = x.is.there;
  };
}
