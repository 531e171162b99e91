-- What the tables of names hold.
use Rattle.std.proofs.Common.{◌≡◌, refl, sym, ap, ◌∙◌, Bool, true, false, ◌||◌, true≢false, cond, ℕ, List, [], ◌∷◌, ◌++◌, map, Option, None, Some, is_some, nat_eq}
use Rattle.std.specs.Cmp.Lexicographic.{pointwise, nat_list_eq_equiv}
use Rattle.std.specs.List.{list_any}
use Rattle.std.specs.Map.{lookup}
use Rattle.std.specs.Option.{option_map}
use Rattle.std.specs.Str.{bytes_eq}
use Rattle.std.specs.declared.alloc.Global.{Global}
use Rattle.std.specs.declared.vec.Vec.{Vec}
use Rattle.indexmap.specs.IndexMap.{insert_entry}
use Rattle.sopl_ast.specs.Mistakes as m
use Rattle.sopl_ast.specs.Mistakes.{Scope, entity_of, no_names, with_entity}
use Rattle.sopl_types.specs.declared.names.NameKind.{NameKind}
use Rattle.sopl_types.specs.Entered.{seen, entered, bound_over}

-- both say the same of each name, so they are the same
abbrev pub Same : Scope → Scope → Type 0
Same s r = (name : List ℕ) → entity_of s name ≡ entity_of r name

pub same_scope : (s r : Scope) → Same s r → s ≡ r
same_scope s r h = λ i name. h name i

choice : {X Y : Type 0} (f : X → Y) (b : Bool) (x : X) (r : Option X) → option_map f (cond b (Some x) r) ≡ cond b (Some (f x)) (option_map f r)
choice f true x r = refl
choice f false x r = refl

-- a look-up in a table finds what the name stands for
pub entered_lookup : (es : List (Vec ℕ Global × NameKind)) (name : List ℕ) →
    option_map seen (lookup (λ key. pointwise nat_eq name key.items) es) ≡ entity_of (entered es) name
entered_lookup [] name = refl
entered_lookup (e ∷ es) name =
    choice seen (pointwise nat_eq name e.0.items) e.1 (lookup (λ key. pointwise nat_eq name key.items) es)
    ∙ (λ i. cond (nat_list_eq_equiv.symm name e.0.items i) (Some (seen e.1)) (entered_lookup es name i))

-- equal bytes stand before any name alike
same_before : (a b name : List ℕ) → bytes_eq a b ≡ true → bytes_eq b name ≡ bytes_eq a name
same_before a b name h = sym (nat_list_eq_equiv.congr a b name h)

module _ (name : List ℕ) (v : m.Entity) (r : Option m.Entity) where
  -- a name that is not the one is found behind it
  other_behind : (a b : List ℕ) (w : m.Entity) → bytes_eq a b ≡ false →
      cond (bytes_eq b name) (Some w) (cond (bytes_eq a name) (Some v) r) ≡ cond (bytes_eq a name) (Some v) (cond (bytes_eq b name) (Some w) r)
  other_behind a b w h = by (bytes_eq a name) refl
    where
      by : (t : Bool) → bytes_eq a name ≡ t →
          cond (bytes_eq b name) (Some w) (cond (bytes_eq a name) (Some v) r) ≡ cond (bytes_eq a name) (Some v) (cond (bytes_eq b name) (Some w) r)
      by false p = (λ i. cond (bytes_eq b name) (Some w) (cond (p i) (Some v) r)) ∙ (λ i. cond (sym p i) (Some v) (cond (bytes_eq b name) (Some w) r))
      by true p =
          let q : bytes_eq b name ≡ false = nat_list_eq_equiv.symm b name ∙ sym (nat_list_eq_equiv.congr a name b p) ∙ h in
          (λ i. cond (q i) (Some w) (cond (p i) (Some v) r)) ∙ (λ i. cond (sym p i) (Some v) (cond (bytes_eq b name) (Some w) r))

-- what is entered is found, and all else as before
pub entered_insert : (es : List (Vec ℕ Global × NameKind)) (key : Vec ℕ Global) (entity : NameKind) (name : List ℕ) →
    entity_of (entered (insert_entry (λ a b. pointwise nat_eq a.items b.items) es key entity)) name
    ≡ entity_of (with_entity key.items (seen entity) (entered es)) name
entered_insert [] key entity name = refl
entered_insert (e ∷ es) key entity name = by (bytes_eq key.items e.0.items) refl (entered_insert es key entity name)
  where
    twice : (s t : Bool) → s ≡ t → cond s (Some (seen entity)) (entity_of (entered es) name) ≡ cond t (Some (seen entity)) (cond s (Some (seen e.1)) (entity_of (entered es) name))
    twice true true h = refl
    twice true false h = absurd (true≢false h)
    twice false true h = absurd (true≢false (sym h))
    twice false false h = refl

    by : (t : Bool) → bytes_eq key.items e.0.items ≡ t →
        entity_of (entered (insert_entry (λ a b. pointwise nat_eq a.items b.items) es key entity)) name ≡ entity_of (with_entity key.items (seen entity) (entered es)) name →
        entity_of (entered (insert_entry (λ a b. pointwise nat_eq a.items b.items) (e ∷ es) key entity)) name
        ≡ entity_of (with_entity key.items (seen entity) (entered (e ∷ es))) name
    by true p more =
        (λ i. entity_of (entered (cond (p i) ((e.0, entity) ∷ es) (e ∷ insert_entry (λ a b. pointwise nat_eq a.items b.items) es key entity))) name)
        ∙ twice (bytes_eq e.0.items name) (bytes_eq key.items name) (same_before key.items e.0.items name p)
    by false p more =
        (λ i. entity_of (entered (cond (p i) ((e.0, entity) ∷ es) (e ∷ insert_entry (λ a b. pointwise nat_eq a.items b.items) es key entity))) name)
        ∙ ap (cond (bytes_eq e.0.items name) (Some (seen e.1))) more
        ∙ other_behind name (seen entity) (entity_of (entered es) name) key.items e.0.items (seen e.1) p

-- one more bound name
pub bound_push : {X : Type 0} (f : X → List ℕ) (xs : List X) (x : X) (scope : Scope) →
    bound_over (map f (xs ++ x ∷ [])) scope ≡ with_entity (f x) (m.Constant 0) (bound_over (map f xs) scope)
bound_push f [] x scope = refl
bound_push f (y ∷ ys) x scope = bound_push f ys x (with_entity (f y) (m.Constant 0) scope)

-- a bound name stands for a constant, any other for what it stood for
pub bound_any : {X : Type 0} (f : X → List ℕ) (xs : List X) (name : List ℕ) (scope : Scope) →
    entity_of (bound_over (map f xs) scope) name ≡ cond (list_any (λ x. bytes_eq (f x) name) xs) (Some (m.Constant 0)) (entity_of scope name)
bound_any f [] name scope = refl
bound_any f (x ∷ xs) name scope =
    bound_any f xs name (with_entity (f x) (m.Constant 0) scope) ∙ merged (list_any (λ x. bytes_eq (f x) name) xs) (bytes_eq (f x) name)
  where
    merged : (s t : Bool) → cond s (Some (m.Constant 0)) (cond t (Some (m.Constant 0)) (entity_of scope name)) ≡ cond (t || s) (Some (m.Constant 0)) (entity_of scope name)
    merged true true = refl
    merged true false = refl
    merged false true = refl
    merged false false = refl

seen_some : (r : Option NameKind) → is_some (option_map seen r) ≡ is_some r
seen_some None = refl
seen_some (Some entity) = refl

some_where : (there : Bool) (entity : m.Entity) → is_some (cond there (Some entity) None) ≡ there
some_where true entity = refl
some_where false entity = refl

module _ {X : Type 0} (f : X → List ℕ) (xs : List X) where
  -- a table of bound names has those alone
  pub tabled_any : (name : List ℕ) (found : Option NameKind) → option_map seen found ≡ entity_of (bound_over (map f xs) no_names) name →
      is_some found ≡ list_any (λ x. bytes_eq (f x) name) xs
  tabled_any name found is = sym (seen_some found) ∙ ap is_some (is ∙ bound_any f xs name no_names) ∙ some_where (list_any (λ x. bytes_eq (f x) name) xs) (m.Constant 0)

  -- a table of bound names, with one more
  pub tabled_push : (ys : List X) (x : X) (old new : Scope) → ys ≡ xs ++ x ∷ [] →
      ((name : List ℕ) → entity_of old name ≡ entity_of (bound_over (map f xs) no_names) name) →
      ((name : List ℕ) → entity_of new name ≡ entity_of (with_entity (f x) (m.Constant 0) old) name) →
      (name : List ℕ) → entity_of new name ≡ entity_of (bound_over (map f ys) no_names) name
  tabled_push ys x old new pushed before after name =
      after name
      ∙ ap (cond (bytes_eq (f x) name) (Some (m.Constant 0))) (before name)
      ∙ sym (ap (λ zs. entity_of (bound_over (map f zs) no_names) name) pushed ∙ ap (λ scope. entity_of scope name) (bound_push f xs x no_names))

-- a name that is bound
pub bound_there : {X : Type 0} (f : X → List ℕ) (xs : List X) (name : List ℕ) (scope : Scope) → list_any (λ x. bytes_eq (f x) name) xs ≡ true →
    entity_of (bound_over (map f xs) scope) name ≡ Some (m.Constant 0)
bound_there f xs name scope there = bound_any f xs name scope ∙ ap (λ t. cond t (Some (m.Constant 0)) (entity_of scope name)) there

-- a name that is not
pub bound_not_there : {X : Type 0} (f : X → List ℕ) (xs : List X) (name : List ℕ) (scope : Scope) → list_any (λ x. bytes_eq (f x) name) xs ≡ false →
    entity_of (bound_over (map f xs) scope) name ≡ entity_of scope name
bound_not_there f xs name scope there = bound_any f xs name scope ∙ ap (λ t. cond t (Some (m.Constant 0)) (entity_of scope name)) there
