-- Which index is the first that is the same, noted one by one.
use Rattle.std.proofs.Common.{◌≡◌, refl, sym, ap, subst, ◌∙◌, ℕ, ◌+◌, ◌<◌, ℤ, Bool, true, false, true≢false, ◌&&◌, cond, List, [], ◌∷◌, length, map, get_or, drop, Option}
use Rattle.std.proofs.Common.{Some, None, is_some, Bor}
use Rattle.std.proofs.lemmas.Bool.Decides.{same_from_decides}
use Rattle.std.proofs.lemmas.List.{at_drop_more}
use Rattle.std.specs.Cmp.Lexicographic.{pointwise}
use Rattle.std.specs.Cmp.Rules.{signed_items}
use Rattle.std.specs.Map.{lookup}
use Rattle.std.specs.Option.{option_copied}
use Rattle.std.specs.Ordering.{int_eq}
use Rattle.std.specs.declared.alloc.Global.{Global}
use Rattle.std.specs.declared.vec.Vec.{Vec}
use Rattle.indexmap.specs.IndexMap.{insert_entry}
use Rattle.sopl_ast.specs.Numbers.{or_else}
use Rattle.sopl_ast.specs.References.{now_of}
use Rattle.term_language.specs.Arrays.{same_index}
use Rattle.compile_names.specs.Plans.{place_among}

abbrev Noted : Type 0
Noted = List (Vec ℤ Global × ℕ)

-- the place that is noted for an index
abbrev noted : List ℤ → Noted → Option ℕ
noted index es = lookup (λ (key : Vec ℤ Global). pointwise int_eq index key.items) es

-- tests of indices
pub same_pointwise : (xs ys : List ℤ) → same_index xs ys ≡ pointwise int_eq xs ys
same_pointwise [] [] = refl
same_pointwise [] (y ∷ ys) = refl
same_pointwise (x ∷ xs) [] = refl
same_pointwise (x ∷ xs) (y ∷ ys) = ap (λ b. int_eq x y && b) (same_pointwise xs ys)

-- the two sides of a test
pub swapped : (xs ys : List ℤ) → pointwise int_eq ys xs ≡ same_index xs ys
swapped xs ys =
    same_from_decides (pointwise int_eq ys xs) (pointwise int_eq xs ys) ((λ h. sym ((signed_items ys xs).0 h)), (λ same. (signed_items ys xs).1 (sym same))) (signed_items xs ys)
    ∙ sym (same_pointwise xs ys)

or_none : (r : Option ℕ) → r ≡ or_else r None
or_none None = refl
or_none (Some x) = refl

or_some : (r s : Option ℕ) → is_some r ≡ true → r ≡ or_else r s
or_some None s there = absurd (true≢false (sym there))
or_some (Some x) s there = refl

first_or : (b : Bool) (x : ℕ) (r s : Option ℕ) → cond b (Some x) (or_else r s) ≡ or_else (cond b (Some x) r) s
first_or true x r s = refl
first_or false x r s = refl

-- an index that stands before stays at its place
stays : (es : Noted) (index : List ℤ) (place : ℕ) → is_some (noted index es) ≡ true → (other : List ℤ)
    → noted other es ≡ or_else (noted other es) (cond (same_index index other) (Some place) None)
stays es index place there other = by (same_index index other) refl
  where
    by : (b : Bool) → same_index index other ≡ b → noted other es ≡ or_else (noted other es) (cond b (Some place) None)
    by true same =
        or_some (noted other es) (Some place) (subst (λ o. is_some (noted o es) ≡ true) ((signed_items index other).0 (sym (same_pointwise index other) ∙ same)) there)
    by false differs = or_none (noted other es)

-- it was found
pub place_stays : (r : Option (Bor ℕ)) (b : Bool) (es : Noted) (index : List ℤ) (place : ℕ) → b ≡ is_some r → b ≡ true → option_copied r ≡ noted index es → (other : List ℤ)
    → noted other es ≡ or_else (noted other es) (cond (same_index index other) (Some place) None)
place_stays None b es index place is found value other = absurd (true≢false (sym found ∙ is))
place_stays (Some x) b es index place is found value other = stays es index place (ap is_some (sym value)) other

-- an index that is new goes behind all
comes : (es : Noted) (key : Vec ℤ Global) (index : List ℤ) (place : ℕ) → key.items ≡ index → noted index es ≡ None → (other : List ℤ)
    → noted other (insert_entry (λ (a : Vec ℤ Global) (b : Vec ℤ Global). pointwise int_eq a.items b.items) es key place)
    ≡ or_else (noted other es) (cond (same_index index other) (Some place) None)
comes [] key index place is none other =
    ap (λ k. cond (pointwise int_eq other k) (Some place) None) is ∙ ap (λ b. cond b (Some place) None) (swapped index other)
comes (e ∷ es) key index place is none other = by (pointwise int_eq index e.0.items) refl none (λ rest. comes es key index place is rest other)
  where
    by : (b : Bool) → pointwise int_eq index e.0.items ≡ b → cond b (Some e.1) (noted index es) ≡ None
        → (noted index es ≡ None → noted other (insert_entry (λ (a : Vec ℤ Global) (b : Vec ℤ Global). pointwise int_eq a.items b.items) es key place)
        ≡ or_else (noted other es) (cond (same_index index other) (Some place) None))
        → noted other (insert_entry (λ (a : Vec ℤ Global) (b : Vec ℤ Global). pointwise int_eq a.items b.items) (e ∷ es) key place)
        ≡ or_else (noted other (e ∷ es)) (cond (same_index index other) (Some place) None)
    by true same found later = absurd (true≢false (ap is_some found))
    by false differs rest later =
        ap (λ t. noted other (cond t ((e.0, place) ∷ es) (e ∷ insert_entry (λ (a : Vec ℤ Global) (b : Vec ℤ Global). pointwise int_eq a.items b.items) es key place)))
        (ap (λ k. pointwise int_eq k e.0.items) is ∙ differs)
        ∙ ap (cond (pointwise int_eq other e.0.items) (Some e.1)) (later rest)
        ∙ first_or (pointwise int_eq other e.0.items) e.1 (noted other es) (cond (same_index index other) (Some place) None)

-- it was not found, and is put behind all
pub place_comes : (r : Option (Bor ℕ)) (b : Bool) (es new : Noted) (key : Vec ℤ Global) (index : List ℤ) (place : ℕ) → b ≡ is_some r → b ≡ false → option_copied r ≡ noted index es
    → key.items ≡ index → new ≡ insert_entry (λ (a : Vec ℤ Global) (b : Vec ℤ Global). pointwise int_eq a.items b.items) es key place → (other : List ℤ)
    → noted other new ≡ or_else (noted other es) (cond (same_index index other) (Some place) None)
place_comes None b es new key index place is missing value is_key entered other = ap (noted other) entered ∙ comes es key index place is_key (sym value) other
place_comes (Some x) b es new key index place is missing value is_key entered other = absurd (true≢false (sym is ∙ missing))

-- All of them.

then_rest : (r q : Option ℕ) (b : Bool) (place : ℕ) → or_else (or_else r (cond b (Some place) None)) q ≡ or_else r (cond b (Some place) q)
then_rest None q true place = refl
then_rest None q false place = refl
then_rest (Some x) q b place = refl

module _ (xs : List (Bor (List ℤ))) (i : ℕ) where
  -- one index more
  pub place_noted : (x : Bor (List ℤ)) (es new : Noted) → i < length xs → x ≡ get_or xs i x
      → ((other : List ℤ) → noted other new ≡ or_else (noted other es) (cond (same_index x.now other) (Some i) None)) → (other : List ℤ)
      → or_else (noted other new) (place_among (i + 1) (map now_of (drop (i + 1) xs)) other) ≡ or_else (noted other es) (place_among i (map now_of (drop i xs)) other)
  place_noted x es new below at step other =
      ap (λ r. or_else r (place_among (i + 1) (map now_of (drop (i + 1) xs)) other)) (step other)
      ∙ then_rest (noted other es) (place_among (i + 1) (map now_of (drop (i + 1) xs)) other) (same_index x.now other) i
      ∙ ap (λ y. or_else (noted other es) (place_among i (map now_of (y ∷ drop (i + 1) xs)) other)) at
      ∙ sym (at_drop_more (λ rest. or_else (noted other es) (place_among i (map now_of rest) other)) xs i x below)
