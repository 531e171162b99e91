-- Each operation, on operands whose values, forms, intervals and marks are known to go together.
use Rattle.std.proofs.Common.{◌≡◌, inl, inr, ℤ, pos, ◌+ℤ◌, ◌-ℤ◌, ◌*ℤ◌, Bool, true, false, ◌&&◌, ◌||◌, if◌then◌else◌, List, [], ◌∷◌, Option, Some, None, option_map, IfSome, arith, refl, ap, subst, ◌∙◌}
use Rattle.std.proofs.lemmas.Int.{ints, clamps}
use Rattle.std.proofs.Math.IntN.{zero-*ℤ, *ℤ-zero, *ℤ_comm}
use Rattle.std.specs.Ordering.{int_eq}
use Rattle.std.proofs.lemmas.Bool.{or_cases}
use Rattle.box_problem.specs.Box.{Box, IsBox, InBox}
use Rattle.term_language.specs.declared.answers.Defined.{Defined}
use Rattle.term_language.specs.declared.answers.Defined.TheVariants.{Never, Maybe, Always}
use Rattle.term_language.specs.Ends.{Ends, Lies, exactly, plus, scaled, times}
use Rattle.term_language.specs.Forms.{Form, number_form, cell_form, atom_form, is_constant, plus_form, times_form, product_form, whole}
use Rattle.term_language.specs.Marks.{both, is_always}
use Rattle.term_language.specs.Rules.{folds, folded, unless_folded, product_atoms}
use Rattle.term_language.specs.Values.{both_of, cell_value}
use Rattle.term_language.specs.Laws.{Marks}
use Rattle.term_language.proofs.Products.{in_exactly, in_scaled, in_times, times_less}
use Rattle.term_language.proofs.FormValues.{by_bool, and_first, and_second, equal_numbers, Off}
use Rattle.term_language.proofs.FormValues.{form_value, plus_value, times_value, cell_form_value, constant_value, constant_plain, whole_lies}

-- 0 alone
pub record IsClear (a : Ends) : Type 0 where
  pub low : a.low ≡ pos 0
  pub high : a.high ≡ pos 0

-- a value, a form, the interval of what else is in it, and a mark
pub record IsRead (p : List ℤ) (v : Option ℤ) (f : Form) (a : Ends) (m : Defined) : Type 0 where
  pub off : IfSome v (λ x. Off p x f a)
  pub clear : f.plain ≡ true → IsClear a
  pub marked : Marks m v

-- marks of two
pub marked_both : {A B C : Type 0} (make : A → B → C) (m n : Defined) (v : Option A) (w : Option B) → Marks m v → Marks n w → Marks (both m n) (both_of make v w)
marked_both make Never n None w p q = tt
marked_both make Never n (Some x) w p q = absurd p
marked_both make Maybe Never None w p q = tt
marked_both make Maybe Never (Some x) None p q = tt
marked_both make Maybe Never (Some x) (Some y) p q = absurd q
marked_both make Maybe Maybe v w p q = tt
marked_both make Maybe Always v w p q = tt
marked_both make Always n None w p q = absurd p
marked_both make Always Never (Some x) None p q = tt
marked_both make Always Never (Some x) (Some y) p q = absurd q
marked_both make Always Maybe (Some x) w p q = tt
marked_both make Always Always (Some x) None p q = absurd q
marked_both make Always Always (Some x) (Some y) p q = tt

pub marked_map : {A B : Type 0} (f : A → B) (m : Defined) (v : Option A) → Marks m v → Marks m (option_map f v)
marked_map f Never None p = tt
marked_map f Never (Some x) p = absurd p
marked_map f Maybe v p = tt
marked_map f Always None p = absurd p
marked_map f Always (Some x) p = tt

-- what holds of two values that are both there
pub both_hold : {A B C : Type 0} (make : A → B → C) (P : A → Type 0) (Q : B → Type 0) (R : C → Type 0) (v : Option A) (w : Option B) → ((x : A) (y : B) → P x → Q y → R (make x y))
    → IfSome v P → IfSome w Q → IfSome (both_of make v w) R
both_hold make P Q R None w goes p q = tt
both_hold make P Q R (Some x) None goes p q = tt
both_hold make P Q R (Some x) (Some y) goes p q = goes x y p q

pub map_holds : {A B : Type 0} (f : A → B) (P : A → Type 0) (Q : B → Type 0) (v : Option A) → ((x : A) → P x → Q (f x)) → IfSome v P → IfSome (option_map f v) Q
map_holds f P Q None goes p = tt
map_holds f P Q (Some x) goes p = goes x p

-- numbers and cells
pub read_number : (p : List ℤ) (z : ℤ) → IsRead p (Some z) (number_form z) (exactly (pos 0)) Always
read_number p z = record {
  off = in_exactly (z -ℤ (z +ℤ pos 0)) (pos 0) (omega (arith, ints));
  clear = λ plain. record { low = refl; high = refl };
  marked = tt;
}

pub read_cell : (p : List ℤ) (cell : _) → IsRead p (Some (cell_value p cell)) (cell_form cell) (exactly (pos 0)) Always
read_cell p cell = record {
  off = in_exactly (cell_value p cell -ℤ form_value p (cell_form cell)) (pos 0) (omega (arith, ints, cell_form_value p cell));
  clear = λ plain. record { low = refl; high = refl };
  marked = tt;
}

-- sums
sum_off : (p : List ℤ) (k x r : ℤ) (f g : Form) (a c : Ends) → Off p x f a → Off p r g c → Off p (k *ℤ x +ℤ r) (plus_form k g f) (plus (scaled k a) c)
sum_off p k x r f g a c off_x off_r =
    let s = in_scaled k (x -ℤ form_value p f) a off_x in
    let d = times_less k x (form_value p f) in
    let v = plus_value p k g f in
    record {
      from_low = omega (arith, ints, s.from_low, off_r.from_low, d, v);
      to_high = omega (arith, ints, s.to_high, off_r.to_high, d, v);
    }

scaled_clear : (k : ℤ) (a : Ends) → IsClear a → IsClear (scaled k a)
scaled_clear k a clear =
    let low = ap (λ z. k *ℤ z) clear.low ∙ *ℤ-zero k in
    let high = ap (λ z. k *ℤ z) clear.high ∙ *ℤ-zero k in
    record { low = omega (arith, ints, clamps, low, high); high = omega (arith, ints, clamps, low, high) }

scaled_zero : (k : ℤ) (a : Ends) → k ≡ pos 0 → IsClear (scaled k a)
scaled_zero k a none =
    let low = ap (λ z. z *ℤ a.low) none ∙ zero-*ℤ a.low in
    let high = ap (λ z. z *ℤ a.high) none ∙ zero-*ℤ a.high in
    record { low = omega (arith, ints, clamps, low, high); high = omega (arith, ints, clamps, low, high) }

times_clear : (k : ℤ) (f : Form) (a : Ends) → (f.plain ≡ true → IsClear a) → (f.plain || int_eq k (pos 0)) ≡ true → IsClear (scaled k a)
times_clear k f a clear plain =
    elim (or_cases f.plain (int_eq k (pos 0)) plain) [
      | inl here ↦ scaled_clear k a (clear here)
      | inr none ↦ scaled_zero k a (equal_numbers k none)
    ]

plus_clear : (a b : Ends) → IsClear a → IsClear b → IsClear (plus a b)
plus_clear a b p q = record { low = omega (arith, ints, p.low, q.low); high = omega (arith, ints, p.high, q.high) }

pub read_part : (p : List ℤ) (k : ℤ) (v w : Option ℤ) (f g : Form) (a c : Ends) (m n : Defined) → IsRead p v f a m → IsRead p w g c n
    → IsRead p (both_of (λ x sum. k *ℤ x +ℤ sum) v w) (plus_form k g f) (plus (scaled k a) c) (both m n)
read_part p k v w f g a c m n first later = record {
  off = both_hold (λ x sum. k *ℤ x +ℤ sum) (λ x. Off p x f a) (λ x. Off p x g c) (λ x. Off p x (plus_form k g f) (plus (scaled k a) c)) v w
      (λ x r p_x p_r. sum_off p k x r f g a c p_x p_r) first.off later.off;
  clear = λ plain.
      plus_clear (scaled k a) c (times_clear k f a first.clear (and_second g.plain (f.plain || int_eq k (pos 0)) plain)) (later.clear (and_first g.plain (f.plain || int_eq k (pos 0)) plain));
  marked = marked_both (λ x sum. k *ℤ x +ℤ sum) m n v w first.marked later.marked;
}

-- products
pub constant_is : (p : List ℤ) (x : ℤ) (f : Form) (a : Ends) → is_constant f ≡ true → (f.plain ≡ true → IsClear a) → Off p x f a → x ≡ f.constant
constant_is p x f a constant clear off =
    let c = clear (constant_plain f constant) in
    omega (arith, ints, off.from_low, off.to_high, c.low, c.high, constant_value p f constant)

times_off : (p : List ℤ) (k x y : ℤ) (g : Form) (c : Ends) → x ≡ k → Off p y g c → Off p (x *ℤ y) (times_form k g) (scaled k c)
times_off p k x y g c is off =
    let s = in_scaled k (y -ℤ form_value p g) c off in
    let d = times_less k y (form_value p g) in
    let v = times_value p k g in
    let same = ap (λ z. z *ℤ y) is in
    record { from_low = omega (arith, ints, s.from_low, d, v, same); to_high = omega (arith, ints, s.to_high, d, v, same) }

turned_off : (p : List ℤ) (x y : ℤ) (f : Form) (a : Ends) → Off p (x *ℤ y) f a → Off p (y *ℤ x) f a
turned_off p x y f a off = subst (λ z. Off p z f a) (*ℤ_comm x y) off

pub off_atom : (p : List ℤ) (x : ℤ) (a : Ends) → Lies x a → Off p x atom_form a
off_atom p x a lies = record { from_low = omega (arith, ints, lies.from_low); to_high = omega (arith, ints, lies.to_high) }

pub read_product : (b : Box) (p : List ℤ) (v w : Option ℤ) (f g : Form) (a c : Ends) (m n : Defined) → IsBox b → InBox b p → IsRead p v f a m → IsRead p w g c n
    → IsRead p (both_of (λ x y. x *ℤ y) v w) (product_form f g) (product_atoms b f g a c) (both m n)
read_product b p v w f g a c m n is_box q first second =
    by_bool (λ constant. IsRead p (both_of (λ x y. x *ℤ y) v w) (if constant then times_form f.constant g else if is_constant g then times_form g.constant f else atom_form)
    (if constant then scaled f.constant c else if is_constant g then scaled g.constant a else times (whole b f a) (whole b g c)) (both m n)) (is_constant f)
    (λ constant. record {
      off = both_hold (λ x y. x *ℤ y) (λ x. Off p x f a) (λ x. Off p x g c) (λ x. Off p x (times_form f.constant g) (scaled f.constant c)) v w
          (λ x y p_x p_y. times_off p f.constant x y g c (constant_is p x f a constant first.clear p_x) p_y) first.off second.off;
      clear = λ plain. times_clear f.constant g c second.clear plain;
      marked = marked;
    })
    (λ other.
    by_bool (λ constant. IsRead p (both_of (λ x y. x *ℤ y) v w) (if constant then times_form g.constant f else atom_form) (if constant then scaled g.constant a else times (whole b f a) (whole b g c))
    (both m n)) (is_constant g)
    (λ constant. record {
      off = both_hold (λ x y. x *ℤ y) (λ x. Off p x f a) (λ x. Off p x g c) (λ x. Off p x (times_form g.constant f) (scaled g.constant a)) v w
          (λ x y p_x p_y. turned_off p y x (times_form g.constant f) (scaled g.constant a) (times_off p g.constant y x f a (constant_is p y g c constant second.clear p_y) p_x)) first.off second.off;
      clear = λ plain. times_clear g.constant f a first.clear plain;
      marked = marked;
    })
    (λ neither. record {
      off = both_hold (λ x y. x *ℤ y) (λ x. Off p x f a) (λ x. Off p x g c) (λ x. Off p x atom_form (times (whole b f a) (whole b g c))) v w
          (λ x y p_x p_y. off_atom p (x *ℤ y) (times (whole b f a) (whole b g c)) (in_times x y (whole b f a) (whole b g c) (whole_lies b p x f a is_box q p_x) (whole_lies b p y g c is_box q p_y)))
          first.off second.off;
      clear = λ plain. absurd (cc);
      marked = marked;
    }))
  where
    marked : Marks (both m n) (both_of (λ x y. x *ℤ y) v w)
    marked = marked_both (λ x y. x *ℤ y) m n v w first.marked second.marked

-- what folds, or is an atom
pub read_folded : (p : List ℤ) (v : Option ℤ) (fold : Bool) (z : ℤ) (a : Ends) (m : Defined) → (fold ≡ true → IfSome v (λ x. x ≡ z)) → IfSome v (λ x. Lies x a) → Marks m v
    → IsRead p v (folded fold z) (unless_folded fold a) m
read_folded p v true z a m is lies marked = record {
  off = some_exact v (is refl);
  clear = λ plain. record { low = refl; high = refl };
  marked = marked;
} where
  some_exact : (v : Option ℤ) → IfSome v (λ x. x ≡ z) → IfSome v (λ x. Off p x (number_form z) (exactly (pos 0)))
  some_exact None same = tt
  some_exact (Some x) same = in_exactly (x -ℤ (z +ℤ pos 0)) (pos 0) (omega (arith, ints, same))
read_folded p v false z a m is lies marked = record {
  off = some_off v lies;
  clear = λ plain. absurd (cc);
  marked = marked;
} where
  some_off : (v : Option ℤ) → IfSome v (λ x. Lies x a) → IfSome v (λ x. Off p x atom_form a)
  some_off None in_a = tt
  some_off (Some x) in_a = off_atom p x a in_a

-- one operand
pub read_one : (b : Box) (p : List ℤ) (op : ℤ → ℤ) (ends_of : Ends → Ends) (v : Option ℤ) (f : Form) (a : Ends) (m root_mark : Defined) → ((x : ℤ) (e : Ends) → Lies x e → Lies (op x) (ends_of e))
    → IsBox b → InBox b p → IsRead p v f a m → IsRead p (option_map op v) (folded (folds (f ∷ []) root_mark) (op f.constant)) (unless_folded (folds (f ∷ []) root_mark) (ends_of (whole b f a))) m
read_one b p op ends_of v f a m root_mark goes is_box q read =
    read_folded p (option_map op v) (folds (f ∷ []) root_mark) (op f.constant) (ends_of (whole b f a)) m
    (λ fold.
    let constant : is_constant f ≡ true = and_first (is_constant f) true (and_first (is_constant f && true) (is_always root_mark) fold) in
    map_holds op (λ x. Off p x f a) (λ y. y ≡ op f.constant) v (λ x off. ap op (constant_is p x f a constant read.clear off)) read.off)
    (map_holds op (λ x. Off p x f a) (λ y. Lies y (ends_of (whole b f a))) v (λ x off. goes x (whole b f a) (whole_lies b p x f a is_box q off)) read.off)
    (marked_map op m v read.marked)
