-- From where on a name may stand: those that are passed by are others.
use Rattle.std.proofs.Common.{◌≡◌, refl, sym, ap, subst, ◌∙◌, ℕ, zero, suc, ◌+◌, ◌≤◌, ℤ, Bool, true, false, ◌&&◌, true≢false, cond, T, List, [], ◌∷◌, ◌++◌, length, take, drop, arith}
use Rattle.std.proofs.Common.{Option, Some, None, is_some, Result, Ok, Err, OnOk, OnErr, nat_eq, length-append}
use Rattle.std.proofs.lemmas.Bool.{or_from, or_parts}
use Rattle.std.proofs.lemmas.List.{take-append-le}
use Rattle.std.specs.Borrow.{Bor}
use Rattle.std.specs.Cmp.Lexicographic.{pointwise, nat_list_eq_equiv}
use Rattle.std.specs.List.{list_any}
use Rattle.std.specs.Map.{lookup}
use Rattle.std.specs.Option.{unwrap_or}
use Rattle.std.specs.Str.{bytes_eq}
use Rattle.indexmap.specs.IndexMap.{IndexMap, insert_entry}
use Rattle.indexmap.proofs.CallerLemmas.{insert_entry-new}
use Rattle.sopl_ast.specs.Known.{bound_value, is_at, same_values}
use Rattle.unfold_constants.specs.Here.{bindings_in}
use Rattle.unfold_constants.specs.Starts.{start_in}

abbrev pub Bound : Type 0
Bound = Bor (List ℕ) × ℤ

abbrev pub Places : Type 0
Places = List (Bor (List ℕ) × ℕ)

-- the place that is kept of a name
abbrev pub kept_place : List ℕ → Places → Option ℕ
kept_place name ps = lookup (λ k. pointwise nat_eq name k.now) ps

-- whether a bound name is the given one
abbrev pub has_name : List ℕ → Bound → Bool
has_name name b = bytes_eq name b.0.now

abbrev pub Passed : Bool → Places → List Bound → Type 0
Passed indexed ps bs = (name : List ℕ) → list_any (has_name name) (take (start_in indexed name ps (length bs)) bs) ≡ false

-- Lists.

none_taken : {A : Type 0} (p : A → Bool) (n : ℕ) → list_any p (take n []) ≡ false
none_taken p zero = refl
none_taken p (suc n) = refl

-- one more behind, which is another
more_taken : {A : Type 0} (p : A → Bool) (xs : List A) (x : A) (n m : ℕ) → p x ≡ false → m ≤ n → list_any p (take n xs) ≡ false → list_any p (take m (xs ++ x ∷ [])) ≡ false
more_taken p [] x n zero other most h = refl
more_taken p [] x n (suc m) other most h = or_from (p x) (list_any p (take m [])) other (none_taken p m)
more_taken p (y ∷ ys) x n zero other most h = refl
more_taken p (y ∷ ys) x zero (suc m) other most h = absurd (omega (arith, most))
more_taken p (y ∷ ys) x (suc n) (suc m) other most h =
    let s = or_parts (p y) (list_any p (take n ys)) h in
    or_from (p y) (list_any p (take m (ys ++ x ∷ []))) s.0 (more_taken p ys x n m other (omega (arith, most)) s.1)

-- all of a list
past_end : {A : Type 0} (p : A → Bool) (xs : List A) (n m : ℕ) → length xs ≤ n → list_any p (take n xs) ≡ false → list_any p (take m xs) ≡ false
past_end p [] n m long h = none_taken p m
past_end p (x ∷ xs) n zero long h = refl
past_end p (x ∷ xs) zero (suc m) long h = absurd (omega (arith, long))
past_end p (x ∷ xs) (suc n) (suc m) long h =
    let s = or_parts (p x) (list_any p (take n xs)) h in
    or_from (p x) (list_any p (take m xs)) s.0 (past_end p xs n m (omega (arith, long)) s.1)

-- What is passed by.

-- no name is bound
pub none_passed : (indexed : Bool) (ps : Places) (bs : List Bound) → bs ≡ [] → Passed indexed ps bs
none_passed indexed ps bs empty name = (λ i. list_any (has_name name) (take (start_in indexed name ps (length (empty i))) (empty i))) ∙ none_taken (has_name name) (start_in indexed name ps 0)

-- a name that is placed behind all others begins where it would have begun
start_appended : (name : List ℕ) (ps : Places) (key : Bor (List ℕ)) (n : ℕ) → unwrap_or (kept_place name (ps ++ (key, n) ∷ [])) n ≡ unwrap_or (kept_place name ps) n
start_appended name [] key n = either (pointwise nat_eq name key.now)
  where
    either : (b : Bool) → unwrap_or (cond b (Some n) None) n ≡ n
    either true = refl
    either false = refl
start_appended name (p ∷ ps) key n = on (start_appended name ps key n) (pointwise nat_eq name p.0.now)
  where
    on : unwrap_or (kept_place name (ps ++ (key, n) ∷ [])) n ≡ unwrap_or (kept_place name ps) n
        → (b : Bool) → unwrap_or (cond b (Some p.1) (kept_place name (ps ++ (key, n) ∷ []))) n ≡ unwrap_or (cond b (Some p.1) (kept_place name ps)) n
    on rest true = refl
    on rest false = rest

-- so where a name that has no place is inserted, or is not, what is passed by stays
pub passed_placed : {A B S : Type 0} (result : Result A B) (indexed : Bool) (m : IndexMap (Bor (List ℕ)) ℕ S) (new : Places) (bs : List Bound) (key : Bor (List ℕ)) (name : List ℕ) (v : ℕ)
    → kept_place name m.entries ≡ None → key.now ≡ name → v ≡ length bs
    → OnOk result (new ≡ insert_entry (λ a b. pointwise nat_eq a.now b.now) m.entries key v) → OnErr result (new ≡ m.entries)
    → Passed indexed m.entries bs → Passed indexed new bs
passed_placed (Ok r) indexed m new bs key name v fresh is_key is_end ok err passed other =
    ap (λ k. list_any (has_name other) (take k bs))
    (ap (λ ps. start_in indexed other ps (length bs)) (ok ∙ insert_entry-new (λ a b. pointwise nat_eq a.now b.now) m key v (ap (λ bytes. kept_place bytes m.entries) is_key ∙ fresh))
    ∙ (λ i. start_in indexed other (m.entries ++ (key, is_end i) ∷ []) (length bs))
    ∙ on indexed)
    ∙ passed other
  where
    on : (b : Bool) → start_in b other (m.entries ++ (key, length bs) ∷ []) (length bs) ≡ start_in b other m.entries (length bs)
    on true = start_appended other m.entries key (length bs)
    on false = refl
passed_placed (Err e) indexed m new bs key name v fresh is_key is_end ok err passed other = subst (λ ps. Passed indexed ps bs) (sym err) passed other

-- one name more
module _ (indexed : Bool) (ps : Places) (bs : List Bound) (x : Bound)
    (placed : indexed ≡ true → is_some (kept_place x.0.now ps) ≡ true)
    (near : start_in indexed x.0.now ps (length bs) ≤ length bs) (passed : Passed indexed ps bs) where
  pub passed_more : Passed indexed ps (bs ++ x ∷ [])
  passed_more name = on indexed placed near (passed name)
    where
      on : (b : Bool) → (b ≡ true → is_some (kept_place x.0.now ps) ≡ true) → start_in b x.0.now ps (length bs) ≤ length bs
          → list_any (has_name name) (take (start_in b name ps (length bs)) bs) ≡ false
          → list_any (has_name name) (take (start_in b name ps (length (bs ++ x ∷ []))) (bs ++ x ∷ [])) ≡ false
      on false there close all = refl
      on true there close all = by (kept_place name ps) refl (bytes_eq name x.0.now) refl all
        where
          same : bytes_eq name x.0.now ≡ true → kept_place x.0.now ps ≡ kept_place name ps
          same p = ap (λ test. lookup test ps) (λ i k. sym (nat_list_eq_equiv.congr name x.0.now k.now p) i)

          by : (o : Option ℕ) → kept_place name ps ≡ o → (t : Bool) → bytes_eq name x.0.now ≡ t
              → list_any (has_name name) (take (unwrap_or o (length bs)) bs) ≡ false
              → list_any (has_name name) (take (unwrap_or o (length (bs ++ x ∷ []))) (bs ++ x ∷ [])) ≡ false
          by None none true p h = absurd (true≢false (sym (there refl) ∙ ap is_some (same p ∙ none)))
          by None none false p h =
              more_taken (has_name name) bs x (suc (length bs)) (length (bs ++ x ∷ [])) p (omega (arith, length-append bs (x ∷ [])))
              (past_end (has_name name) bs (length bs) (suc (length bs)) (omega arith) h)
          by (Some n) some true p h =
              ap (list_any (has_name name)) (take-append-le n bs (x ∷ []) (subst (λ (o : Option ℕ). unwrap_or o (length bs) ≤ length bs) (same p ∙ some) close)) ∙ h
          by (Some n) some false p h = more_taken (has_name name) bs x n n p (omega arith) h

-- one name is pushed, or none
pub passed_pushed : (pushed indexed : Bool) (ps : Places) (bs new : List Bound) (x : Bound) → new ≡ cond pushed (bs ++ x ∷ []) bs
    → (indexed ≡ true → is_some (kept_place x.0.now ps) ≡ true) → start_in indexed x.0.now ps (length bs) ≤ length bs
    → Passed indexed ps bs → Passed indexed ps new
passed_pushed true indexed ps bs new x is placed near passed = subst (Passed indexed ps) (sym is) (passed_more indexed ps bs x placed near passed)
passed_pushed false indexed ps bs new x is placed near passed = subst (Passed indexed ps) (sym is) passed

-- what is passed by does not bind the name
pub bound_passed : (name : List ℕ) (index : List ℤ) (n : ℕ) (bs : List Bound) → list_any (has_name name) (take n bs) ≡ false
    → bound_value name index (bindings_in (drop n bs)) ≡ bound_value name index (bindings_in bs)
bound_passed name index zero bs h = refl
bound_passed name index (suc n) [] h = refl
bound_passed name index (suc n) (b ∷ bs) h =
    let s = or_parts (has_name name b) (list_any (has_name name) (take n bs)) h in
    bound_passed name index n bs s.1 ∙ sym (ap (λ (t : Bool). cond t (Some b.1) (bound_value name index (bindings_in bs))) (both s.0))
  where
    both : has_name name b ≡ false → is_at name index b.0.now [] ≡ false
    both other = on (has_name name b) other
      where
        on : (t : Bool) → t ≡ false → (t && same_values index []) ≡ false
        on true h = absurd (subst T h tt)
        on false h = refl
