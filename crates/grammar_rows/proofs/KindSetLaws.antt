-- Sets of kinds, and the kinds of terminals.
use Rattle.std.proofs.Common.{◌≡◌, refl, sym, ap, subst, ◌∙◌, ℕ, ℤ, Bool, true, false, ◌&&◌, ◌||◌, not, List, [], ◌∷◌, ◌++◌, Some, None}
use Rattle.std.specs.Prelude.{nat_eq}
use Rattle.std.proofs.lemmas.Bool.{eqb-true, eq-eqb}
use Rattle.sopl_base.proofs.Booleans.{not_true}
use Rattle.sopl_ast.specs.declared.token.Token.{Token}
use Rattle.sopl_ast.specs.declared.token.TokenKind.{TokenKind}
use Rattle.sopl_ast.specs.declared.token.TokenKind.TheVariants as k
use Rattle.sopl_ast.specs.KindSets.{kind_number, first_kind, KindSet, has_kind, with_kind, kinds_without, all_kinds}
use Rattle.grammar_rows.specs.RowTests.{open_ends, kinds_within, kinds_apart}
use Rattle.sopl_ast.specs.Terminals.{Terminal, one_of, a_literal, a_name, found_or, look_up, says, kinds_in, kinds_of}
use Rattle.grammar_rows.specs.RowReading.{sample_kind, sample_value}

pub both_true : (a b : Bool) → a && b ≡ true → (a ≡ true) × (b ≡ true)
both_true true b e = (refl, e)
both_true false b e = absurd (cc)

pub contra : {P : Type 0} (a : Bool) → a ≡ true → a ≡ false → P
contra a e f = let clash : true ≡ false = sym e ∙ f in absurd (cc)

or_intro : (a b : Bool) → b ≡ true → a || b ≡ true
or_intro true b e = refl
or_intro false b e = e

or_map : (a b c : Bool) → (b ≡ true → c ≡ true) → a || b ≡ true → a || c ≡ true
or_map true b c f e = refl
or_map false b c f e = f e

or_none : (a b : Bool) → a || b ≡ false → (a ≡ false) × (b ≡ false)
or_none true b e = absurd (cc)
or_none false b e = (refl, e)

pub has_left : (xs ys : KindSet) (c : ℕ) → has_kind xs c ≡ true → has_kind (xs ++ ys) c ≡ true
has_left [] ys c e = absurd (cc)
has_left (d ∷ ds) ys c e = or_map (nat_eq d c) (has_kind ds c) (has_kind (ds ++ ys) c) (has_left ds ys c) e

pub has_right : (xs ys : KindSet) (c : ℕ) → has_kind ys c ≡ true → has_kind (xs ++ ys) c ≡ true
has_right [] ys c e = e
has_right (d ∷ ds) ys c e = or_intro (nat_eq d c) (has_kind (ds ++ ys) c) (has_right ds ys c e)

pub none_left : (xs ys : KindSet) (c : ℕ) → has_kind (xs ++ ys) c ≡ false → has_kind xs c ≡ false
none_left [] ys c e = refl
none_left (d ∷ ds) ys c e =
    let both = or_none (nat_eq d c) (has_kind (ds ++ ys) c) e in
    ap (λ b. b || has_kind ds c) both.0 ∙ none_left ds ys c both.1

pub none_right : (xs ys : KindSet) (c : ℕ) → has_kind (xs ++ ys) c ≡ false → has_kind ys c ≡ false
none_right [] ys c e = e
none_right (d ∷ ds) ys c e = none_right ds ys c (or_none (nat_eq d c) (has_kind (ds ++ ys) c) e).1

-- what is so of the first of a set, and of the others
member : (P : ℕ → Type 0) (d c : ℕ) (ds : KindSet) → P d → (has_kind ds c ≡ true → P c) → has_kind (d ∷ ds) c ≡ true → P c
member P d c ds here there = by_test (nat_eq d c) refl
  where
    by_test : (b : Bool) → nat_eq d c ≡ b → b || has_kind ds c ≡ true → P c
    by_test true same e = subst P (eqb-true d c same) here
    by_test false same e = there e

pub within_has : (xs ys : KindSet) (c : ℕ) → kinds_within xs ys ≡ true → has_kind xs c ≡ true → has_kind ys c ≡ true
within_has [] ys c is e = absurd (cc)
within_has (d ∷ ds) ys c is e =
    let both = both_true (has_kind ys d) (kinds_within ds ys) is in
    member (λ c. has_kind ys c ≡ true) d c ds both.0 (within_has ds ys c both.1) e

pub apart_has : (xs ys : KindSet) (c : ℕ) → kinds_apart xs ys ≡ true → has_kind xs c ≡ true → has_kind ys c ≡ false
apart_has [] ys c is e = absurd (cc)
apart_has (d ∷ ds) ys c is e =
    let both = both_true (not (has_kind ys d)) (kinds_apart ds ys) is in
    member (λ c. has_kind ys c ≡ false) d c ds (not_true (has_kind ys d) both.0) (apart_has ds ys c both.1) e

pub apart_back : (xs ys : KindSet) (c : ℕ) → kinds_apart xs ys ≡ true → has_kind ys c ≡ true → has_kind xs c ≡ false
apart_back xs ys c is e = by_test (has_kind xs c) refl
  where
    by_test : (b : Bool) → has_kind xs c ≡ b → b ≡ false
    by_test true there = contra (has_kind ys c) e (apart_has xs ys c is there)
    by_test false there = refl

pub within_none : (xs ys : KindSet) (c : ℕ) → kinds_within xs ys ≡ true → has_kind ys c ≡ false → has_kind xs c ≡ false
within_none xs ys c is e = by_test (has_kind xs c) refl
  where
    by_test : (b : Bool) → has_kind xs c ≡ b → b ≡ false
    by_test true there = contra (has_kind ys c) (within_has xs ys c is there) e
    by_test false there = refl

kept_none : (b : Bool) (d c : ℕ) (cs : KindSet) → has_kind (with_kind b d cs) c ≡ false → has_kind cs c ≡ false
kept_none true d c cs e = e
kept_none false d c cs e = (or_none (nat_eq d c) (has_kind cs c) e).1

pub without_none : (xs ys : KindSet) (c : ℕ) → has_kind (kinds_without xs ys) c ≡ false → has_kind ys c ≡ false → has_kind xs c ≡ false
without_none [] ys c e not_there = refl
without_none (d ∷ ds) ys c e not_there =
    by_test (without_none ds ys c (kept_none (has_kind ys d) d c (kinds_without ds ys) e) not_there) (nat_eq d c) (has_kind ys d) refl refl
  where
    by_test : has_kind ds c ≡ false → (b kept : Bool) → nat_eq d c ≡ b → has_kind ys d ≡ kept → nat_eq d c || has_kind ds c ≡ false
    by_test later true true same there = contra (has_kind ys c) (subst (λ c. has_kind ys c ≡ true) (eqb-true d c same) there) not_there
    by_test later true false same there =
        let e2 : has_kind (with_kind false d (kinds_without ds ys)) c ≡ false = subst (λ b. has_kind (with_kind b d (kinds_without ds ys)) c ≡ false) there e in
        contra (nat_eq d c) same (or_none (nat_eq d c) (has_kind (kinds_without ds ys) c) e2).0
    by_test later false kept same there = ap (λ b. b || has_kind ds c) same ∙ later

-- a kind that is not left over was taken out
without_all : (xs ys : KindSet) (c : ℕ) → has_kind (kinds_without xs ys) c ≡ false → has_kind xs c ≡ true → has_kind ys c ≡ true
without_all xs ys c e there = by_test (has_kind ys c) refl
  where
    by_test : (b : Bool) → has_kind ys c ≡ b → b ≡ true
    by_test true is = refl
    by_test false is = contra (has_kind xs c) there (without_none xs ys c e is)

-- each kind is one of all
kind_among : (kind : TokenKind) → has_kind all_kinds (kind_number kind) ≡ true
kind_among (k.Name bytes) = refl
kind_among kind = refl

-- what is no open end closes
pub closes : (ks : KindSet) (ts : List Token) → has_kind (open_ends ks) (first_kind ts) ≡ false → has_kind ks (first_kind ts) ≡ true
closes ks [] e = let clash : true ≡ false = e in absurd (cc)
closes ks (u ∷ us) e = without_all all_kinds ks (kind_number u.kind) (or_none (nat_eq 0 (kind_number u.kind)) (has_kind (kinds_without all_kinds ks) (kind_number u.kind)) e).1 (kind_among u.kind)

-- a kind that says a terminal is one of its kinds
looked_up : {X : Type 0} (ps : List (TokenKind × X)) (c : ℕ) (x : X) → look_up ps c ≡ Some x → has_kind (kinds_in ps) c ≡ true
looked_up [] c x e = absurd (cc)
looked_up (p ∷ ps) c x e = by_test (looked_up ps c x) (nat_eq (kind_number p.0) c) refl e
  where
    by_test : (look_up ps c ≡ Some x → has_kind (kinds_in ps) c ≡ true) → (b : Bool) → nat_eq (kind_number p.0) c ≡ b → found_or b p.1 (look_up ps c) ≡ Some x
        → nat_eq (kind_number p.0) c || has_kind (kinds_in ps) c ≡ true
    by_test later true same e = ap (λ b. b || has_kind (kinds_in ps) c) same
    by_test later false same e = ap (λ b. b || has_kind (kinds_in ps) c) same ∙ later e

literal_has : (kind : TokenKind) (x : ℤ) → says a_literal kind ≡ Some x → has_kind (2 ∷ []) (kind_number kind) ≡ true
literal_has (k.Lit value) x e = refl
literal_has kind x e = absurd (cc)

name_has : (kind : TokenKind) (x : List ℕ) → says a_name kind ≡ Some x → has_kind (1 ∷ []) (kind_number kind) ≡ true
name_has (k.Name bytes) x e = refl
name_has kind x e = absurd (cc)

pub terminal_has : {X : Type 0} (w : Terminal X) (kind : TokenKind) (x : X) → says w kind ≡ Some x → has_kind (kinds_of w) (kind_number kind) ≡ true
terminal_has (one_of first x more) kind y e = looked_up ((first, x) ∷ more) (kind_number kind) y e
terminal_has a_literal kind x e = literal_has kind x e
terminal_has a_name kind x e = name_has kind x e

-- a kind that does not say a terminal is none of its kinds
not_looked_up : {X : Type 0} (ps : List (TokenKind × X)) (c : ℕ) → look_up ps c ≡ None → has_kind (kinds_in ps) c ≡ false
not_looked_up [] c e = refl
not_looked_up (p ∷ ps) c e = by_test (not_looked_up ps c) (nat_eq (kind_number p.0) c) refl e
  where
    by_test : (look_up ps c ≡ None → has_kind (kinds_in ps) c ≡ false) → (b : Bool) → nat_eq (kind_number p.0) c ≡ b → found_or b p.1 (look_up ps c) ≡ None
        → nat_eq (kind_number p.0) c || has_kind (kinds_in ps) c ≡ false
    by_test later true same e = absurd (cc)
    by_test later false same e = ap (λ b. b || has_kind (kinds_in ps) c) same ∙ later e

literal_lacks : (kind : TokenKind) → says a_literal kind ≡ None → has_kind (2 ∷ []) (kind_number kind) ≡ false
literal_lacks (k.Lit value) e = absurd (cc)
literal_lacks kind e = refl

name_lacks : (kind : TokenKind) → says a_name kind ≡ None → has_kind (1 ∷ []) (kind_number kind) ≡ false
name_lacks (k.Name bytes) e = absurd (cc)
name_lacks kind e = refl

pub terminal_lacks : {X : Type 0} (w : Terminal X) (kind : TokenKind) → says w kind ≡ None → has_kind (kinds_of w) (kind_number kind) ≡ false
terminal_lacks (one_of first x more) kind e = not_looked_up ((first, x) ∷ more) (kind_number kind) e
terminal_lacks a_literal kind e = literal_lacks kind e
terminal_lacks a_name kind e = name_lacks kind e

-- the end of the tokens is no kind of a terminal
pub some_number : (kind : TokenKind) → nat_eq (kind_number kind) 0 ≡ false
some_number (k.Name bytes) = refl
some_number kind = refl

none_ends_in : {X : Type 0} (ps : List (TokenKind × X)) → has_kind (kinds_in ps) 0 ≡ false
none_ends_in [] = refl
none_ends_in (p ∷ ps) = ap (λ b. b || has_kind (kinds_in ps) 0) (some_number p.0) ∙ none_ends_in ps

pub none_ends : {X : Type 0} (w : Terminal X) → has_kind (kinds_of w) 0 ≡ false
none_ends (one_of first x more) = none_ends_in ((first, x) ∷ more)
none_ends a_literal = refl
none_ends a_name = refl

-- the sample of a terminal is one
pub sample_says : {X : Type 0} (w : Terminal X) → says w (sample_kind w) ≡ Some (sample_value w)
sample_says (one_of kind x more) = ap (λ b. found_or b x (look_up more (kind_number kind))) (eq-eqb (kind_number kind) (kind_number kind) refl)
sample_says a_literal = refl
sample_says a_name = refl
