-- Several operands.
use Rattle.std.proofs.Common.{◌≡◌, ℤ, true, ◌&&◌, List, [], ◌∷◌, map, Option, Some, IfSome, refl, ap, ◌∙◌}
use Rattle.std.specs.List.{fold, list_all}
use Rattle.box_problem.specs.Box.{Box, IsBox, InBox}
use Rattle.term_language.specs.declared.answers.Defined.{Defined}
use Rattle.term_language.specs.declared.answers.Defined.TheVariants.{Always}
use Rattle.term_language.specs.Ends.{Ends, Lies}
use Rattle.term_language.specs.Forms.{Form, is_constant, whole}
use Rattle.term_language.specs.Marks.{both, is_always}
use Rattle.term_language.specs.Rules.{folds, folded, unless_folded, chosen}
use Rattle.term_language.specs.Values.{both_of}
use Rattle.term_language.specs.Laws.{Marks}
use Rattle.term_language.proofs.FormValues.{Off, whole_lies, and_first, and_second}
use Rattle.term_language.proofs.Layers.{IsRead, marked_both, both_hold, constant_is, read_folded}

-- each number lies in its interval
abbrev pub AllLie : List ℤ → List Ends → Type 0
AllLie [] [] = Unit {0}
AllLie [] (a ∷ es) = ⊥
AllLie (x ∷ xs) [] = ⊥
AllLie (x ∷ xs) (a ∷ es) = Lies x a × AllLie xs es

abbrev pub constants : List Form → List ℤ
constants fs = map (λ (f : Form). f.constant) fs

pub record AreRead (vs : Option (List ℤ)) (fs : List Form) (es : List Ends) (m : Defined) : Type 0 where
  pub lie : IfSome vs (λ xs. AllLie xs es)
  pub fixed : list_all is_constant fs ≡ true → IfSome vs (λ xs. xs ≡ constants fs)
  pub marked : Marks m vs

pub read_none : AreRead (Some []) [] [] Always
read_none = record { lie = tt; fixed = λ all. refl; marked = tt }

same_lists : (x y : ℤ) (xs ys : List ℤ) → x ≡ y → xs ≡ ys → (x ∷ xs) ≡ (y ∷ ys)
same_lists x y xs ys p q = cc

pub read_more : (b : Box) (p : List ℤ) (v : Option ℤ) (vs : Option (List ℤ)) (f : Form) (fs : List Form) (a : Ends) (es : List Ends) (m n : Defined) → IsBox b → InBox b p → IsRead p v f a m
    → AreRead vs fs es n → AreRead (both_of (λ x xs. x ∷ xs) v vs) (f ∷ fs) (whole b f a ∷ es) (both m n)
read_more b p v vs f fs a es m n is_box q first later = record {
  lie = both_hold (λ x xs. x ∷ xs) (λ x. Off p x f a) (λ xs. AllLie xs es) (λ xs. AllLie xs (whole b f a ∷ es)) v vs
      (λ x xs off lie. (whole_lies b p x f a is_box q off, lie)) first.off later.lie;
  fixed = λ all.
      both_hold (λ x xs. x ∷ xs) (λ x. Off p x f a) (λ xs. xs ≡ constants fs) (λ xs. xs ≡ constants (f ∷ fs)) v vs
      (λ x xs off same. same_lists x f.constant xs (constants fs) (constant_is p x f a (and_first (is_constant f) (list_all is_constant fs) all) first.clear off) same)
      first.off (later.fixed (and_second (is_constant f) (list_all is_constant fs) all));
  marked = marked_both (λ x xs. x ∷ xs) m n v vs first.marked later.marked;
}

-- the least or the greatest
fold_lies : (choose : ℤ → ℤ → ℤ) (pick : Ends → Ends → Ends) (x : ℤ) (a : Ends) (xs : List ℤ) (es : List Ends) → ((x y : ℤ) (a b : Ends) → Lies x a → Lies y b → Lies (choose x y) (pick a b))
    → Lies x a → AllLie xs es → Lies (fold choose x xs) (fold pick a es)
fold_lies choose pick x a [] [] goes p lie = p
fold_lies choose pick x a [] (c ∷ es) goes p lie = absurd lie
fold_lies choose pick x a (y ∷ xs) [] goes p lie = absurd lie
fold_lies choose pick x a (y ∷ xs) (c ∷ es) goes p lie =
    fold_lies choose pick (choose x y) (pick a c) xs es goes (goes x y a c p lie.0) lie.1

pub read_extreme : (b : Box) (p : List ℤ) (choose : ℤ → ℤ → ℤ) (pick : Ends → Ends → Ends) (v : Option ℤ) (vs : Option (List ℤ)) (f : Form) (fs : List Form) (a : Ends) (es : List Ends)
    (m n r : Defined) → ((x y : ℤ) (a b : Ends) → Lies x a → Lies y b → Lies (choose x y) (pick a b)) → IsBox b → InBox b p → IsRead p v f a m → AreRead vs fs es n
    → IsRead p (both_of (λ x xs. fold choose x xs) v vs) (folded (folds (f ∷ fs) r) (chosen choose f fs)) (unless_folded (folds (f ∷ fs) r) (fold pick (whole b f a) es)) (both m n)
read_extreme b p choose pick v vs f fs a es m n r goes is_box q first later =
    read_folded p (both_of (λ x xs. fold choose x xs) v vs) (folds (f ∷ fs) r) (chosen choose f fs) (fold pick (whole b f a) es) (both m n)
    (λ fold_true.
    let all = and_first (is_constant f && list_all is_constant fs) (is_always r) fold_true in
    both_hold (λ x xs. fold choose x xs) (λ x. Off p x f a) (λ xs. xs ≡ constants fs) (λ y. y ≡ chosen choose f fs) v vs
    (λ x xs off same. ap (λ (z : ℤ). fold choose z xs) (constant_is p x f a (and_first (is_constant f) (list_all is_constant fs) all) first.clear off)
    ∙ ap (λ (zs : List ℤ). fold choose f.constant zs) same)
    first.off (later.fixed (and_second (is_constant f) (list_all is_constant fs) all)))
    (both_hold (λ x xs. fold choose x xs) (λ x. Off p x f a) (λ xs. AllLie xs es) (λ y. Lies y (fold pick (whole b f a) es)) v vs
    (λ x xs off lie. fold_lies choose pick x (whole b f a) xs es goes (whole_lies b p x f a is_box q off) lie) first.off later.lie)
    (marked_both (λ x xs. fold choose x xs) m n v vs first.marked later.marked)
