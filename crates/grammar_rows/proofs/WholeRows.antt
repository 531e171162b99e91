-- Whole models: where reading stops, and prefixes.
use Rattle.std.proofs.Common.{◌≡◌, refl, sym, ap, subst, ◌∙◌, ℕ, ◌+◌, ◌≤◌, Bool, true, false, List, [], ◌∷◌, ◌++◌, Some, None, Ok, append_assoc, arith}
use Rattle.std.proofs.lemmas.List.{append-nil}
use Rattle.sopl_ast.specs.declared.token.Token.{Token}
use Rattle.sopl_ast.specs.Grammar.{IsPrefix}
use Rattle.sopl_ast.specs.RowSpelling.{IsSpelledAt}
use Rattle.sopl_ast.specs.Whole.{ModelTree}
use Rattle.parse_grammar.specs.Heads.{head}
use Rattle.parse_grammar.specs.Reading.{Read, Syntax, Depth}
use Rattle.sopl_ast.specs.KindSets.{has_kind}
use Rattle.sopl_ast.specs.ModelRows.{row}
use Rattle.sopl_ast.specs.Nonterminals as s
use Rattle.grammar_rows.specs.RowLaws.{ReadsAll, RowPrefixesAreClosed, TokensEndInRows, EndsInRows, spells, misplaced_at, too_deep_at, IsMisplacedInRows, IsTooDeepInRows, ReadEnd, got, stuck, sunk}
use Rattle.grammar_rows.specs.RowReading.{read_at}
use Rattle.grammar_rows.specs.RowTests.{continues}
use Rattle.grammar_rows.proofs.LocalReading.{IsLocal, LocalReading}
use Rattle.grammar_rows.proofs.LocalRows.{read_local}
use Rattle.grammar_rows.proofs.OneValue.{whole_read}
use Rattle.grammar_rows.proofs.Predictive.{row_is}
use Rattle.grammar_rows.proofs.ReadComplete.{over}
use Rattle.grammar_rows.proofs.ReadSound.{read_sound}
use Rattle.grammar_rows.proofs.ReadSteps.{same_value, not_both}
use Rattle.grammar_rows.proofs.RowsPass.{each_row}
use Rattle.grammar_rows.proofs.ToldApart.{row_apart, read_complete}

abbrev pub ModelRead : Bool → ℕ → List Token → Read ModelTree
ModelRead cut m ts = read_at cut m (row s.Model) ts

-- nothing goes on with a model
pub model_ends : continues (row s.Model) ≡ []
unfolding each_row
model_ends = refl

pub model_open : has_kind (continues (row s.Model)) 0 ≡ false
model_open = ap (λ ks. has_kind ks 0) model_ends

pub model_local : (n : ℕ) (ts : List Token) → LocalReading ModelRead n ts
model_local n ts = read_local n (row s.Model) (row_is s.Model) (row_apart s.Model) ts

pub model_sound : (cut : Bool) (n : ℕ) (ts : List Token) (q : ModelTree × List Token) → ModelRead cut n ts ≡ Ok q → IsSpelledAt cut n (row s.Model) ts q.0 q.1
model_sound cut n ts q e = read_sound cut n (row s.Model) (row_is s.Model) ts q e

pub model_whole : (n m : ℕ) → n ≤ m → (ts : List Token) (whole : ModelTree) → IsSpelledAt false n (row s.Model) ts whole [] → ModelRead false m ts ≡ Ok (whole, [])
model_whole n m le ts whole is = whole_read n m (row s.Model) (row_is s.Model) (row_apart s.Model) model_open le ts whole is

pub prefix_of : (n : ℕ) (ts : List Token) → ReadsAll (ModelRead true n ts) → IsPrefix n ts
prefix_of n ts o = record { whole = o.value; spelled = model_sound true n ts (o.value, []) o.read }

pub prefix_read : (n : ℕ) (ts : List Token) → IsPrefix n ts → ReadsAll (ModelRead true n ts)
prefix_read n ts f =
    let g = read_complete true n (row s.Model) (row_is s.Model) (row_apart s.Model) ts f.whole [] (over refl refl) f.spelled in
    record { value = g.value; read = g.read }

-- where reading stopped at the end of the tokens, they are a prefix
pub used_up : (n : ℕ) (ts : List Token) (end : ReadEnd ModelTree) → IsLocal ModelRead n ts end [] → IsPrefix n ts
used_up n ts end l = subst (λ b. IsPrefix n b) (sym (l.all ∙ append-nil l.used)) (prefix_of n l.used (l.over n (omega arith)))

-- a prefix is read to its end: reading stops at no token of it
pub not_before_end : {P : Type 0} (n : ℕ) (ts after : List Token) (end : ReadEnd ModelTree) (u : Token) (us : List Token) → IsLocal ModelRead n ts end (u ∷ us) → IsPrefix n (ts ++ after) → P
not_before_end {P} n ts after end u us l prefix = by_end end l (all_read l.used l.all)
  where
    all_read : (used : List Token) → ts ≡ used ++ u ∷ us → ReadsAll (ModelRead true n (used ++ (u ∷ us ++ after)))
    all_read used all = prefix_read n (used ++ (u ∷ us ++ after)) (subst (λ l. IsPrefix n l) (ap (λ l. l ++ after) all ∙ append_assoc used (u ∷ us) after) prefix)

    by_end : (end : ReadEnd ModelTree) (l : IsLocal ModelRead n ts end (u ∷ us)) → ReadsAll (ModelRead true n (l.used ++ (u ∷ us ++ after))) → P
    by_end (got a) l o =
        let e = same_value (ModelRead true n (l.used ++ (u ∷ us ++ after))) (a, u ∷ us ++ after) (o.value, []) (l.again true n (u ∷ us ++ after) (omega arith) refl tt) o.read in
        let clash : Some u.kind ≡ None = ap (λ (x : ModelTree × List Token). head x.1) e in absurd (cc)
    by_end stuck l o =
        not_both (ModelRead true n (l.used ++ (u ∷ us ++ after))) (o.value, []) (Syntax (u ∷ us ++ after)) o.read (l.again true n (u ∷ us ++ after) (omega arith) refl tt)
    by_end sunk l o =
        not_both (ModelRead true n (l.used ++ (u ∷ us ++ after))) (o.value, []) (Depth (u ∷ us ++ after)) o.read (l.again true n (u ∷ us ++ after) refl refl tt)

-- a prefix of a prefix is one
pub row_prefixes_are_closed : RowPrefixesAreClosed
row_prefixes_are_closed n before behind prefix = let x = model_local n before in by_left x.end x.left x.is
  where
    by_left : (end : ReadEnd ModelTree) (left : List Token) → IsLocal ModelRead n before end left → IsPrefix n before
    by_left end [] l = used_up n before end l
    by_left end (u ∷ us) l = not_before_end n before behind end u us l prefix

pub misplaced : (n : ℕ) (ts left : List Token) → IsLocal ModelRead n ts stuck left → IsMisplacedInRows n ts left
misplaced n ts left l = record {
  used = l.used;
  all = l.all;
  prefix = prefix_of n l.used (l.over n (omega arith));
  none = λ others whole same is.
      let m = n + is.nesting in
      not_both (ModelRead false m (l.used ++ others)) (whole, []) (Syntax others) (model_whole is.nesting m (omega arith) (l.used ++ others) whole is.spelled)
      (l.again false m others (omega arith) same tt);
}

-- a model was read, and a token stands behind it
pub behind : (n : ℕ) (ts : List Token) (a : ModelTree) (u : Token) (us : List Token) → IsLocal ModelRead n ts (got a) (u ∷ us) → IsMisplacedInRows n ts (u ∷ us)
behind n ts a u us l = record {
  used = l.used;
  all = l.all;
  prefix = prefix_of n l.used (l.over n (omega arith));
  none = λ others whole same is.
      let m = n + is.nesting in
      let both = same_value (ModelRead false m (l.used ++ others)) (a, others) (whole, []) (l.again false m others (omega arith) same tt)
      (model_whole is.nesting m (omega arith) (l.used ++ others) whole is.spelled) in
      let clash : Some u.kind ≡ None = sym same ∙ ap (λ (x : ModelTree × List Token). head x.1) both in absurd (cc);
}

pub too_deep : (n : ℕ) (ts left : List Token) → IsLocal ModelRead n ts sunk left → IsTooDeepInRows n ts left
too_deep n ts left l =
    let t = l.there refl in
    record {
      used = l.used;
      token = t.token;
      more = t.more;
      all = l.all ∙ ap (λ r. l.used ++ r) t.is;
      at = t.is;
      prefix = prefix_of n l.used (l.over n (omega arith));
      deeper = prefix_of (n + 1) (l.used ++ t.token ∷ []) (l.over_next refl (n + 1) (omega arith) t.token t.more t.is);
      over = λ f. let o = prefix_read n (l.used ++ t.token ∷ []) f in
          not_both (ModelRead true n (l.used ++ t.token ∷ [])) (o.value, []) (Depth (t.token ∷ [])) o.read (l.again true n (t.token ∷ []) refl (sym (ap head t.is)) tt);
      none = λ others whole is.
          not_both (ModelRead false n (l.used ++ t.token ∷ others)) (whole, []) (Depth (t.token ∷ others))
          (model_whole n n (omega arith) (l.used ++ t.token ∷ others) whole is) (l.again false n (t.token ∷ others) refl (sym (ap head t.is)) tt);
    }

pub tokens_end_in_rows : TokensEndInRows
tokens_end_in_rows n ts = let x = model_local n ts in by_end x.end x.left x.is
  where
    by_end : (end : ReadEnd ModelTree) (left : List Token) → IsLocal ModelRead n ts end left → EndsInRows n ts
    by_end (got a) [] l = spells a (model_sound false n ts (a, []) (ap (ModelRead false n) l.all ∙ l.again false n [] (omega arith) refl tt))
    by_end (got a) (u ∷ us) l = misplaced_at (u ∷ us) (behind n ts a u us l)
    by_end stuck left l = misplaced_at left (misplaced n ts left l)
    by_end sunk left l = too_deep_at left (too_deep n ts left l)
