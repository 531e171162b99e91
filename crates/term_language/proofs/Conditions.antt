-- Truths of comparisons, and of three-valued logic.
use Rattle.std.proofs.Common.{◌≡◌, ℤ, negsuc, ◌-ℤ◌, Bool, true, false, not, ◌&&◌, ◌||◌, List, Option, Some, None, IfSome, arith, refl, sym}
use Rattle.std.proofs.lemmas.Int.{ints}
use Rattle.sopl_base.specs.declared.comparison.CmpOp.{CmpOp}
use Rattle.sopl_base.specs.declared.comparison.CmpOp.TheVariants.{Eq, Ne, Lt, Le, Gt, Ge}
use Rattle.sopl_base.proofs.Booleans.{impossible}
use Rattle.box_problem.specs.Box.{Box, IsBox, InBox}
use Rattle.term_language.specs.declared.answers.Defined.{Defined}
use Rattle.term_language.specs.declared.answers.Defined.TheVariants.{Never, Maybe, Always}
use Rattle.term_language.specs.declared.answers.Truth.{Truth}
use Rattle.term_language.specs.declared.answers.Truth.TheVariants.{False, Unknown, True}
use Rattle.term_language.specs.Ends.{Ends, Lies, plus, scaled}
use Rattle.term_language.specs.Forms.{Form, atom_form, plus_form}
use Rattle.term_language.specs.Marks.{both, opposite, and_truth, or_truth, truth_ends, judged, none_compares, all_compare, compared}
use Rattle.term_language.specs.Rules.{difference_ends}
use Rattle.term_language.specs.Values.{both_of, one_or_zero, compares, holds_of}
use Rattle.term_language.specs.Laws.{Marks, Tells}
use Rattle.term_language.proofs.Products.{in_scaled, minus_one-*ℤ}
use Rattle.term_language.proofs.FormValues.{Off, form_value, plus_value, whole_lies}
use Rattle.term_language.proofs.Layers.{IsRead, marked_both, both_hold, off_atom}

-- three-valued logic
pub tells_not : (t : Truth) (h : Bool) → Tells t h → Tells (opposite t) (not h)
tells_not False false tells = tt
tells_not False true tells = absurd tells
tells_not Unknown h tells = tt
tells_not True true tells = tt
tells_not True false tells = absurd tells

pub tells_and : (s t : Truth) (g h : Bool) → Tells s g → Tells t h → Tells (and_truth s t) (g && h)
tells_and False t true h p q = absurd p
tells_and False t false h p q = tt
tells_and Unknown False true true p q = absurd q
tells_and Unknown False true false p q = tt
tells_and Unknown False false h p q = tt
tells_and Unknown Unknown g h p q = tt
tells_and Unknown True g h p q = tt
tells_and True t true h p q = q
tells_and True t false h p q = absurd p

pub tells_or : (s t : Truth) (g h : Bool) → Tells s g → Tells t h → Tells (or_truth s t) (g || h)
tells_or True t true h p q = tt
tells_or True t false h p q = absurd p
tells_or Unknown True true h p q = tt
tells_or Unknown True false true p q = tt
tells_or Unknown True false false p q = absurd q
tells_or Unknown Unknown g h p q = tt
tells_or Unknown False g h p q = tt
tells_or False t true h p q = absurd p
tells_or False t false h p q = q

-- a condition as a number
pub read_truth : (p : List ℤ) (t : Truth) (h : Bool) → Tells t h → IsRead p (Some (one_or_zero h)) atom_form (truth_ends t) Always
read_truth p t h tells = record {
  off = off_atom p (one_or_zero h) (truth_ends t) (lies t h tells);
  clear = λ plain. absurd (cc);
  marked = tt;
} where
  lies : (t : Truth) (h : Bool) → Tells t h → Lies (one_or_zero h) (truth_ends t)
  lies False true tells = absurd tells
  lies False false tells = record { from_low = omega (arith, ints); to_high = omega (arith, ints) }
  lies Unknown true tells = record { from_low = omega (arith, ints); to_high = omega (arith, ints) }
  lies Unknown false tells = record { from_low = omega (arith, ints); to_high = omega (arith, ints) }
  lies True true tells = record { from_low = omega (arith, ints); to_high = omega (arith, ints) }
  lies True false tells = absurd tells

tells_maybe : (fails holds test : Bool) → (fails ≡ true → test ≡ false) → Tells (judged Maybe fails holds) test
tells_maybe true holds true wrong = absurd (impossible (wrong refl))
tells_maybe true holds false wrong = tt
tells_maybe false holds test wrong = tt

tells_always : (fails holds test : Bool) → (fails ≡ true → test ≡ false) → (holds ≡ true → test ≡ true) → Tells (judged Always fails holds) test
tells_always true holds true wrong right = absurd (impossible (wrong refl))
tells_always true holds false wrong right = tt
tells_always false true true wrong right = tt
tells_always false true false wrong right = absurd (impossible (sym (right refl)))
tells_always false false test wrong right = tt

nothing_maybe : (fails holds : Bool) → Tells (judged Maybe fails holds) false
nothing_maybe true holds = tt
nothing_maybe false holds = tt

-- what a test says over a box, of what may be there
pub record Decides {A : Type 0} (fails holds : Bool) (test : A → Bool) (x : A) : Type 0 where
  pub wrong : fails ≡ true → test x ≡ false
  pub right : holds ≡ true → test x ≡ true

pub tells_judged : {A : Type 0} (m : Defined) (fails holds : Bool) (test : A → Bool) (v : Option A) → Marks m v → IfSome v (Decides fails holds test) → Tells (judged m fails holds) (holds_of test v)
tells_judged Never fails holds test None marked decides = tt
tells_judged Never fails holds test (Some x) marked decides = absurd marked
tells_judged Maybe fails holds test None marked decides = nothing_maybe fails holds
tells_judged Maybe fails holds test (Some x) marked decides = tells_maybe fails holds (test x) decides.wrong
tells_judged Always fails holds test None marked decides = absurd marked
tells_judged Always fails holds test (Some x) marked decides = tells_always fails holds (test x) decides.wrong decides.right

-- comparisons of a difference with 0
none_right : (op : CmpOp) (x y : ℤ) (a : Ends) → Lies (x -ℤ y) a → none_compares op a ≡ true → compares op x y ≡ false
none_right Eq x y a p none = grind (arith, ints)
none_right Ne x y a p none = grind (arith, ints)
none_right Lt x y a p none = grind (arith, ints)
none_right Le x y a p none = grind (arith, ints)
none_right Gt x y a p none = grind (arith, ints)
none_right Ge x y a p none = grind (arith, ints)

all_right : (op : CmpOp) (x y : ℤ) (a : Ends) → Lies (x -ℤ y) a → all_compare op a ≡ true → compares op x y ≡ true
all_right Eq x y a p all = grind (arith, ints)
all_right Ne x y a p all = grind (arith, ints)
all_right Lt x y a p all = grind (arith, ints)
all_right Le x y a p all = grind (arith, ints)
all_right Gt x y a p all = grind (arith, ints)
all_right Ge x y a p all = grind (arith, ints)

difference_off : (p : List ℤ) (x y : ℤ) (f g : Form) (a c : Ends) → Off p x f a → Off p y g c → Off p (x -ℤ y) (plus_form (negsuc 0) f g) (plus a (scaled (negsuc 0) c))
difference_off p x y f g a c off_x off_y =
    let s = in_scaled (negsuc 0) (y -ℤ form_value p g) c off_y in
    let d = minus_one-*ℤ (y -ℤ form_value p g) in
    let v = plus_value p (negsuc 0) f g in
    let w = minus_one-*ℤ (form_value p g) in
    record {
      from_low = omega (arith, ints, s.from_low, off_x.from_low, d, v, w);
      to_high = omega (arith, ints, s.to_high, off_x.to_high, d, v, w);
    }

pub tells_compared : (b : Box) (p : List ℤ) (op : CmpOp) (v w : Option ℤ) (f g : Form) (a c : Ends) (m n : Defined) → IsBox b → InBox b p → IsRead p v f a m → IsRead p w g c n
    → Tells (compared op (difference_ends b f g a c) (both m n)) (holds_of (λ same. same) (both_of (compares op) v w))
tells_compared b p op v w f g a c m n is_box q first second =
    let d = difference_ends b f g a c in
    tells_judged (both m n) (none_compares op d) (all_compare op d) (λ same. same) (both_of (compares op) v w)
    (marked_both (compares op) m n v w first.marked second.marked)
    (both_hold (compares op) (λ x. Off p x f a) (λ y. Off p y g c) (Decides (none_compares op d) (all_compare op d) (λ same. same)) v w
    (λ x y p_x p_y.
    let lies = whole_lies b p (x -ℤ y) (plus_form (negsuc 0) f g) (plus a (scaled (negsuc 0) c)) is_box q (difference_off p x y f g a c p_x p_y) in
    record { wrong = none_right op x y d lies; right = all_right op x y d lies })
    first.off second.off)
