-- Propagators that are wrapped one by one, and what they have together.
use Rattle.std.proofs.Common.{◌≡◌, ◌∙◌, List, [], ◌∷◌, ◌++◌, map, reverse, arith, ap, subst, sym}
use Rattle.std.specs.List.{All}
use Rattle.std.proofs.lemmas.List.{append-nil, append_assoc, get_or-map, length-map, reverse-append}
use Rattle.std.proofs.lemmas.List.Sorted.{All-permutation, IsPermutation-reverse, IsPermutation-sym}
use Rattle.std.proofs.lemmas.Simd.{map-map}
use Rattle.sopl_base.specs.declared.reason.Reason.{Reason}
use Rattle.prop_core.specs.Members.{together}

-- none is wrapped yet; one more is; and all are
pub none_wrapped : {C P : Type 0} (of : C → P) (all : List P) → all ++ map of (reverse []) ≡ all
none_wrapped of all = append-nil all

pub one_wrapped : {C P : Type 0} (of : C → P) (all old new : List P) (before after : List C) (c : C) → old ≡ new ++ of c ∷ [] → after ≡ before ++ c ∷ [] → old ++ map of (reverse before) ≡ all
    → new ++ map of (reverse after) ≡ all
one_wrapped of all old new before after c popped pushed so_far =
    ap (λ list. new ++ map of (reverse list)) pushed
    ∙ (ap (λ list. new ++ map of list) (reverse-append before (c ∷ []))
    ∙ (sym (append_assoc new (of c ∷ []) (map of (reverse before))) ∙ (ap (λ list. list ++ map of (reverse before)) (sym popped) ∙ so_far)))

pub all_wrapped : {C P : Type 0} (of : C → P) (all left : List P) (list : List C) → left ≡ [] → left ++ map of (reverse list) ≡ all → map of (reverse list) ≡ all
all_wrapped of all left list none is = ap (λ front. front ++ map of (reverse list)) (sym none) ∙ is

-- what holds of all holds of those that wrap them, in any order
pub in_order : {C P : Type 0} (F : P → Type 0) (of : C → P) (list : List C) (all : List P) → map of list ≡ all → All F all → All (λ c. F (of c)) list
in_order F of list all same each k d exists =
    subst F (get_or-map of list k d (of d) exists) (subst (All F) (sym same) each k (of d) (omega (arith, exists, length-map list of)))

pub backward : {C P : Type 0} (F : P → Type 0) (of : C → P) (list : List C) (all : List P) → map of (reverse list) ≡ all → All F all → All (λ c. F (of c)) list
backward F of list all same each =
    All-permutation (λ c. F (of c)) (reverse list) list (IsPermutation-sym list (reverse list) (IsPermutation-reverse list)) (in_order F of (reverse list) all same each)

pub reasons_wrapped : {C P : Type 0} (f : P → List Reason) (of : C → P) (list : List C) (all : List P) (reasons : List Reason) → map of list ≡ all → together (map f all) ≡ reasons
    → together (map (λ c. f (of c)) list) ≡ reasons
reasons_wrapped f of list all reasons same is = ap together (sym (map-map f of list) ∙ ap (map f) same) ∙ is
