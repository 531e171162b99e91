-- Steps of a reading.
use Rattle.std.proofs.Common.{◌≡◌, refl, sym, ap, subst, ◌∙◌, ℕ, zero, suc, ◌<◌, ◌≤◌, Bool, true, false, List, [], ◌∷◌, ◌++◌, length, Option, Some, None, Result, Ok, Err, append_assoc, arith}
use Rattle.std.proofs.lemmas.List.{append-nil}
use Rattle.sopl_ast.specs.declared.token.Token.{Token}
use Rattle.parse_grammar.specs.Reading.{Stop, Read, Next, ◌>>=◌, absent, chain, chain_on}
use Rattle.sopl_ast.specs.KindSets.{KindSet, first_kind, has_kind}
use Rattle.grammar_rows.specs.RowReading.{pick, some_more}
use Rattle.sopl_ast.specs.RowSpelling.{AreRepeated, none_more, one_more}

-- what was read first, and how it went on
pub record Went {A B : Type 0} (o : Result A Stop) (f : A → Result B Stop) (b : B) : Type 0 where
  pub middle : A
  pub read : o ≡ Ok middle
  pub on : f middle ≡ Ok b

pub went : {A B : Type 0} (o : Result A Stop) (f : A → Result B Stop) (b : B) → o >>= f ≡ Ok b → Went o f b
went (Ok a) f b e = record { middle = a; read = refl; on = e }
went (Err stop) f b e = absurd (cc)

abbrev pub done : {A : Type 0} → A → Result A Stop
done a = Ok a

abbrev pub failed : (A : Type 0) → Stop → Read A
failed A stop = Err stop

pub ok_value : {A : Type 0} (a b : A) → done a ≡ done b → a ≡ b
ok_value a b e = cc

pub not_both : {A : Type 0} {P : Type 0} (o : Read A) (x : A × List Token) (stop : Stop) → o ≡ Ok x → o ≡ Err stop → P
not_both {A} o x stop e f = let h : done {A = A × List Token} x ≡ failed A stop = sym e ∙ f in absurd (cc)

pub same_value : {A : Type 0} (o : Read A) (x y : A × List Token) → o ≡ Ok x → o ≡ Ok y → x ≡ y
same_value {A} o x y e f = ok_value x y (sym e ∙ f)

pub kept : {A : Type 0} (P : A → List Token → Type 0) (a : A) (r : List Token) (q : A × List Token) → done (a, r) ≡ Ok q → P a r → P q.0 q.1
kept {A} P a r q e is = subst (λ (x : A × List Token). P x.0 x.1) (ok_value (a, r) q e) is

pub not_absent : {A : Type 0} {P : Type 0} (cut : Bool) (v : A) (u : Token) (us : List Token) (q : A) → absent cut v (u ∷ us) ≡ Ok q → P
not_absent true v u us q e = absurd (cc)
not_absent false v u us q e = absurd (cc)

pub picked : {A : Type 0} {P : Type 0} (b : Bool) (o p : Read A) (q : A × List Token) → pick b o p ≡ Ok q → (b ≡ true → o ≡ Ok q → P) → (b ≡ false → p ≡ Ok q → P) → P
picked true o p q e f g = f refl e
picked false o p q e f g = g refl e

-- items one behind the other: none more, and one more
abbrev pub read_on : {A : Type 0} → Next A → ℕ → List A → Option A × List Token → Read (List A)
read_on next fuel before x = chain_on (λ more left. chain next fuel more left) before x.1 x.0

pub chain_end : {A : Type 0} (next : Next A) (before : List A) (ts : List Token) → chain next zero before ts ≡ Ok (before, ts)
unfolding chain
chain_end next before ts = refl

pub chain_step : {A : Type 0} (next : Next A) (fuel : ℕ) (before : List A) (ts : List Token) → chain next (suc fuel) before ts ≡ next ts >>= read_on next fuel before
unfolding chain
chain_step next fuel before ts = refl

-- one more was read, or none is there
pub data NextItem {A : Type 0} (ks : KindSet) (Item : List Token → A → List Token → Type 0) (ts : List Token) : Option A → List Token → Type 0 where
  an_item : (a : A) (us : List Token) → has_kind ks (first_kind ts) ≡ true → Item ts a us → NextItem ks Item ts (Some a) us
  no_item : has_kind ks (first_kind ts) ≡ false → NextItem ks Item ts None ts

pub next_sound : {A : Type 0} (ks : KindSet) (Item : List Token → A → List Token → Type 0) (item : List Token → Read A)
    → ((ts : List Token) (q : A × List Token) → item ts ≡ Ok q → Item ts q.0 q.1)
    → (ts : List Token) (q : Option A × List Token) → some_more ks item ts ≡ Ok q → NextItem ks Item ts q.0 q.1
next_sound {A} ks Item item each ts q e =
    picked (has_kind ks (first_kind ts)) (item ts >>= (λ x. Ok (Some x.0, x.1))) (Ok (None, ts)) q e
    (λ test on. let w = went (item ts) (λ x. Ok (Some x.0, x.1)) q on in
    kept (NextItem ks Item ts) (Some w.middle.0) w.middle.1 q w.on (an_item w.middle.0 w.middle.1 test (each ts w.middle w.read)))
    (λ test on. kept (NextItem ks Item ts) None ts q on (no_item test))

-- what was read of many
pub record Ran {A : Type 0} (ks : KindSet) (Item : List Token → A → List Token → Type 0) (fuel : ℕ) (before : List A) (ts : List Token) (all : List A) (r : List Token) : Type 0 where
  pub items : List A
  pub whole : all ≡ before ++ items
  pub are : AreRepeated Item ts items r
  pub ends : length ts ≤ fuel → has_kind ks (first_kind r) ≡ false

pub no_tokens : (ts : List Token) → length ts ≤ 0 → ts ≡ []
no_tokens [] le = refl
no_tokens (u ∷ us) le = absurd (omega (arith, le))

ran_more : {A : Type 0} (ks : KindSet) (Item : List Token → A → List Token → Type 0) (fuel : ℕ) (before : List A) (ts : List Token) (a : A) (us : List Token) (all : List A) (r : List Token)
    → Item ts a us → length us < length ts → Ran ks Item fuel (before ++ a ∷ []) us all r → Ran ks Item (suc fuel) before ts all r
ran_more ks Item fuel before ts a us all r i lt later = record {
  items = a ∷ later.items;
  whole = later.whole ∙ append_assoc before (a ∷ []) later.items;
  are = one_more ts a us later.items r i later.are;
  ends = λ le. later.ends (omega (arith, le, lt));
}

pub chain_sound : {A : Type 0} (ks : KindSet) (Item : List Token → A → List Token → Type 0) (next : Next A) → has_kind ks 0 ≡ false
    → ((ts : List Token) (a : A) (us : List Token) → has_kind ks (first_kind ts) ≡ true → Item ts a us → length us < length ts)
    → ((ts : List Token) (q : Option A × List Token) → next ts ≡ Ok q → NextItem ks Item ts q.0 q.1)
    → (fuel : ℕ) (before : List A) (ts : List Token) (q : List A × List Token) → chain next fuel before ts ≡ Ok q → Ran ks Item fuel before ts q.0 q.1
chain_sound {A} ks Item next ends shorter each zero before ts q e =
    kept (Ran ks Item zero before ts) before ts q (sym (chain_end next before ts) ∙ e)
    (record { items = []; whole = sym (append-nil before); are = none_more ts; ends = λ le. ap (λ l. has_kind ks (first_kind l)) (no_tokens ts le) ∙ ends })
chain_sound {A} ks Item next ends shorter each (suc fuel) before ts q e =
    let w = went (next ts) (read_on next fuel before) q (sym (chain_step next fuel before ts) ∙ e) in
    by_next (chain_sound ks Item next ends shorter each fuel) w.middle.0 w.middle.1 (each ts w.middle w.read) w.on
  where
    by_next : ((before : List A) (ts : List Token) (q : List A × List Token) → chain next fuel before ts ≡ Ok q → Ran ks Item fuel before ts q.0 q.1)
        → (o : Option A) (us : List Token) → NextItem ks Item ts o us → read_on next fuel before (o, us) ≡ Ok q → Ran ks Item (suc fuel) before ts q.0 q.1
    by_next again _ _ (an_item a us test i) on = ran_more ks Item fuel before ts a us q.0 q.1 i (shorter ts a us test i) (again (before ++ a ∷ []) us q on)
    by_next again _ _ (no_item test) on =
        kept (Ran ks Item (suc fuel) before ts) before ts q on (record { items = []; whole = sym (append-nil before); are = none_more ts; ends = λ le. test })
