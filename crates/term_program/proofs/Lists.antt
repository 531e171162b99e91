-- Cells that are kept.
use Rattle.std.proofs.Common.{◌≡◌, ◌∙◌, refl, ap, sym, subst, arith, ℕ, zero, suc, ◌+◌, ◌<◌, ◌≤◌, true, cond, List, [], ◌∷◌, ◌++◌, length, get_or, take, Option, Some}
use Rattle.std.proofs.Common.{IfSome, IsTrue, is_some, Vec, Global, Contains, ◌↔◌, slice_get}
use Rattle.std.specs.BTreeMap.{get, is_at}
use Rattle.std.specs.List.{AllByRecursion, flat_map}
use Rattle.std.specs.FinMap.{nat_cmp-IsAntisymmetric}
use Rattle.std.specs.Ordering.{is_eq, nat_cmp}
use Rattle.std.specs.declared.cmp.Ordering.{Ordering}
use Rattle.std.specs.declared.cmp.Ordering.TheVariants.{Less, Equal, Greater}
use Rattle.term_language.proofs.FormValues.{by_bool}
use Rattle.term_goals.specs.declared.sums.Atom.{Atom}
use Rattle.term_program.specs.declared.draft.ChanceConditions.{ChanceConditions}
use Rattle.term_program.specs.declared.draft.Conditions.{Conditions}
use Rattle.term_program.specs.declared.mentions.Mentions.{Mentions}
use Rattle.std.specs.List.Sorted.{IsStrictlyIncreasing}
use Rattle.sopl_base.proofs.Lists.{all_append}
use Rattle.box_problem.specs.Box.{Box}
use Rattle.term_language.specs.Mentions.{cond_mentions, mentions}
use Rattle.term_nodes.specs.Things.{Thing, cond_at, term_at}
use Rattle.term_program.specs.Mentions.{AreLists, Gained, HasList, IsListOf, atom_ids, chance_ids, cond_lists, hard_ids, term_lists}

-- numbers that compare alike are equal
alike : (o : Ordering) → is_eq o ≡ true → o ≡ Equal
alike Less is = cc
alike Equal is = refl
alike Greater is = cc

pub same_key : (k q : ℕ) → is_at (nat_cmp k) q ≡ true → k ≡ q
same_key k q is = nat_cmp-IsAntisymmetric k q (alike (nat_cmp k q) is)

-- one list more
abbrev Puts : Mentions → Mentions → ℕ → Vec ℕ Global → Type 0
Puts m n id cells = (q : ℕ) → get nat_cmp n.lists q ≡ cond (is_at (nat_cmp id) q) (Some cells) (get nat_cmp m.lists q)

module _ (m n : Mentions) (id : ℕ) (cells : Vec ℕ Global) (puts : Puts m n id cells) where
  pub put_lists : (f : ℕ → List ℕ) → AreLists f m → IsListOf (f id) cells.items → AreLists f n
  put_lists f all this q =
      subst (λ (o : Option (Vec ℕ Global)). IfSome o (λ (c : Vec ℕ Global). IsListOf (f q) c.items)) (sym (puts q))
      (by_bool (λ t. IfSome (cond t (Some cells) (get nat_cmp m.lists q)) (λ (c : Vec ℕ Global). IsListOf (f q) c.items)) (is_at (nat_cmp id) q)
      (λ met. subst (λ (k : ℕ). IsListOf (f k) cells.items) (same_key id q met) this) (λ unmet. all q))

  pub put_stays : (other : ℕ) → IsTrue (HasList m other) → IsTrue (HasList n other)
  put_stays other has =
      subst (λ (o : Option (Vec ℕ Global)). IsTrue (is_some o)) (sym (puts other))
      (by_bool (λ t. IsTrue (is_some (cond t (Some cells) (get nat_cmp m.lists other)))) (is_at (nat_cmp id) other) (λ met. refl) (λ unmet. has))

pub put_there : (n : Mentions) (id : ℕ) (cells : Vec ℕ Global) → get nat_cmp n.lists id ≡ Some cells → IsTrue (HasList n id)
put_there n id cells is = ap is_some is

-- what is listed of a condition and of a term
module _ (root b : Box) (all others : List Thing) (id : ℕ) (cells : List ℕ) (root_is : b ≡ root) (things_are : others ≡ all) where
  pub cond_listed : ((cell : ℕ) → Contains cells cell ↔ Contains (cond_mentions b (cond_at others id)) cell) → IsStrictlyIncreasing cells → IsListOf (cond_lists root all id) cells
  cond_listed each ascends = record {
    mentions = subst (λ (xs : List ℕ). (cell : ℕ) → Contains cells cell ↔ Contains xs cell) (ap (λ (r : Box). cond_lists r others id) root_is
        ∙ ap (λ (ts : List Thing). cond_lists root ts id) things_are) each;
    ascending = ascends;
  }

  pub term_listed : ((cell : ℕ) → Contains cells cell ↔ Contains (mentions b (term_at others id)) cell) → IsStrictlyIncreasing cells → IsListOf (term_lists root all id) cells
  term_listed each ascends = record {
    mentions = subst (λ (xs : List ℕ). (cell : ℕ) → Contains cells cell ↔ Contains xs cell) (ap (λ (r : Box). term_lists r others id) root_is
        ∙ ap (λ (ts : List Thing). term_lists root ts id) things_are) each;
    ascending = ascends;
  }

-- what is gained
module _ (f : ℕ → List ℕ) (a : Mentions) where
  pub gained_none : AreLists f a → Gained f a a []
  gained_none all = record { lists = all; stays = λ id has. has; there = tt }

  pub gained_same : (id : ℕ) → AreLists f a → true ≡ HasList a id → Gained f a a (id ∷ [])
  gained_same id all has = record { lists = all; stays = λ other there. there; there = (sym has, tt) }

  pub gained_one : (b : Mentions) (id : ℕ) → AreLists f b → ((other : ℕ) → IsTrue (HasList a other) → IsTrue (HasList b other)) → IsTrue (HasList b id) → Gained f a b (id ∷ [])
  gained_one b id all stays there = record { lists = all; stays = stays; there = (there, tt) }

pub all_stay : (b c : Mentions) (ids : List ℕ) → ((id : ℕ) → IsTrue (HasList b id) → IsTrue (HasList c id)) → AllByRecursion (λ id. IsTrue (HasList b id)) ids
    → AllByRecursion (λ id. IsTrue (HasList c id)) ids
all_stay b c [] stays all = tt
all_stay b c (id ∷ ids) stays all = (stays id all.0, all_stay b c ids stays all.1)

gained_both : (f : ℕ → List ℕ) (a b c : Mentions) (xs ys : List ℕ) → Gained f a b xs → Gained f b c ys → Gained f a c (xs ++ ys)
gained_both f a b c xs ys one two = record {
  lists = two.lists;
  stays = λ id has. two.stays id (one.stays id has);
  there = all_append (λ id. IsTrue (HasList c id)) xs ys (all_stay b c xs two.stays one.there) two.there;
}

-- a list one after the other
taken_suc : {A : Type 0} (g : A → List ℕ) (xs : List A) (i : ℕ) (x : A) → i < length xs → x ≡ get_or xs i x → flat_map g (take (suc i) xs) ≡ flat_map g (take i xs) ++ g x
taken_suc g [] i x below at = absurd (omega (arith, below))
taken_suc g (y ∷ ys) zero x below at = nothing (g y) ∙ ap g (sym at)
  where
    nothing : (zs : List ℕ) → zs ++ [] ≡ zs
    nothing [] = refl
    nothing (z ∷ zs) = ap (λ us. z ∷ us) (nothing zs)
taken_suc g (y ∷ ys) (suc i) x below at =
    ap (λ zs. g y ++ zs) (taken_suc g ys i x (omega (arith, below)) at) ∙ sym (grouped (g y) (flat_map g (take i ys)) (g x))
  where
    grouped : (us vs ws : List ℕ) → (us ++ vs) ++ ws ≡ us ++ (vs ++ ws)
    grouped [] vs ws = refl
    grouped (u ∷ us) vs ws = ap (λ zs. u ∷ zs) (grouped us vs ws)

one_more : (i : ℕ) → suc i ≡ i + 1
one_more i = omega arith

pub taken : {A : Type 0} (g : A → List ℕ) (xs : List A) (i : ℕ) (x : A) → i < length xs → x ≡ get_or xs i x → flat_map g (take (i + 1) xs) ≡ flat_map g (take i xs) ++ g x
taken g xs i x below at = subst (λ (n : ℕ). flat_map g (take n xs) ≡ flat_map g (take i xs) ++ g x) (one_more i) (taken_suc g xs i x below at)

pub all_taken : {A : Type 0} (xs : List A) (i : ℕ) → length xs ≤ i → take i xs ≡ xs
all_taken [] zero past = refl
all_taken [] (suc i) past = refl
all_taken (x ∷ xs) zero past = absurd (omega (arith, past))
all_taken (x ∷ xs) (suc i) past = ap (λ ys. x ∷ ys) (all_taken xs i (omega (arith, past)))

next : {A : Type 0} (g : A → List ℕ) (f : ℕ → List ℕ) (a b c : Mentions) (xs : List A) (i : ℕ) (x : A) → i < length xs → x ≡ get_or xs i x → Gained f a b (flat_map g (take i xs))
    → Gained f b c (g x) → Gained f a c (flat_map g (take (i + 1) xs))
next g f a b c xs i x below at one two = subst (Gained f a c) (sym (taken g xs i x below at)) (gained_both f a b c (flat_map g (take i xs)) (g x) one two)

whole : {A : Type 0} (g : A → List ℕ) (f : ℕ → List ℕ) (a b : Mentions) (xs : List A) (i : ℕ) → length xs ≤ i → Gained f a b (flat_map g (take i xs)) → Gained f a b (flat_map g xs)
whole g f a b xs i past all = subst (λ ys. Gained f a b (flat_map g ys)) (all_taken xs i past) all

pub hards_next : (f : ℕ → List ℕ) (a b c : Mentions) (hards : List Conditions) (i : ℕ) (x : Conditions) → i < length hards → x ≡ get_or hards i x → Gained f a b (hard_ids (take i hards))
    → Gained f b c x.ids.items → Gained f a c (hard_ids (take (i + 1) hards))
hards_next f a b c hards i x below at one two = next (λ (h : Conditions). h.ids.items) f a b c hards i x below at one two

pub hards_all : (f : ℕ → List ℕ) (a b : Mentions) (hards : List Conditions) (i : ℕ) → length hards ≤ i → Gained f a b (hard_ids (take i hards)) → Gained f a b (hard_ids hards)
hards_all f a b hards i past all = whole (λ (h : Conditions). h.ids.items) f a b hards i past all

pub chances_next : (f : ℕ → List ℕ) (a b c : Mentions) (chances : List ChanceConditions) (i : ℕ) (x : ChanceConditions) → i < length chances → x ≡ get_or chances i x
    → Gained f a b (chance_ids (take i chances)) → Gained f b c x.conditions.ids.items → Gained f a c (chance_ids (take (i + 1) chances))
chances_next f a b c chances i x below at one two = next (λ (h : ChanceConditions). h.conditions.ids.items) f a b c chances i x below at one two

pub chances_all : (f : ℕ → List ℕ) (a b : Mentions) (chances : List ChanceConditions) (i : ℕ) → length chances ≤ i → Gained f a b (chance_ids (take i chances)) → Gained f a b (chance_ids chances)
chances_all f a b chances i past all = whole (λ (h : ChanceConditions). h.conditions.ids.items) f a b chances i past all

-- and numbers
take_suc : (xs : List ℕ) (i x : ℕ) → i < length xs → x ≡ get_or xs i x → take (suc i) xs ≡ take i xs ++ x ∷ []
take_suc [] i x below at = absurd (omega (arith, below))
take_suc (y ∷ ys) zero x below at = ap (λ z. z ∷ []) (sym at)
take_suc (y ∷ ys) (suc i) x below at = ap (λ zs. y ∷ zs) (take_suc ys i x (omega (arith, below)) at)

pub take_more : (xs : List ℕ) (i x : ℕ) → i < length xs → x ≡ get_or xs i x → take (i + 1) xs ≡ take i xs ++ x ∷ []
take_more xs i x below at = subst (λ (n : ℕ). take n xs ≡ take i xs ++ x ∷ []) (one_more i) (take_suc xs i x below at)

pub gained_next : (f : ℕ → List ℕ) (a b c : Mentions) (ids : List ℕ) (i x : ℕ) → i < length ids → x ≡ get_or ids i x → Gained f a b (take i ids) → Gained f b c (x ∷ [])
    → Gained f a c (take (i + 1) ids)
gained_next f a b c ids i x below at one two = subst (Gained f a c) (sym (take_more ids i x below at)) (gained_both f a b c (take i ids) (x ∷ []) one two)

pub gained_all : (f : ℕ → List ℕ) (a b : Mentions) (ids : List ℕ) (i : ℕ) → length ids ≤ i → Gained f a b (take i ids) → Gained f a b ids
gained_all f a b ids i past all = subst (Gained f a b) (all_taken ids i past) all

-- and atoms
mapped_suc : (xs : List Atom) (i : ℕ) (x : Atom) → i < length xs → x ≡ get_or xs i x → atom_ids (take (suc i) xs) ≡ atom_ids (take i xs) ++ x.term ∷ []
mapped_suc [] i x below at = absurd (omega (arith, below))
mapped_suc (y ∷ ys) zero x below at = ap (λ (a : Atom). a.term ∷ []) (sym at)
mapped_suc (y ∷ ys) (suc i) x below at = ap (λ zs. y.term ∷ zs) (mapped_suc ys i x (omega (arith, below)) at)

mapped_more : (xs : List Atom) (i : ℕ) (x : Atom) → i < length xs → x ≡ get_or xs i x → atom_ids (take (i + 1) xs) ≡ atom_ids (take i xs) ++ x.term ∷ []
mapped_more xs i x below at = subst (λ (n : ℕ). atom_ids (take n xs) ≡ atom_ids (take i xs) ++ x.term ∷ []) (one_more i) (mapped_suc xs i x below at)

pub atoms_next : (f : ℕ → List ℕ) (a b c : Mentions) (atoms : List Atom) (i : ℕ) (x : Atom) → i < length atoms → x ≡ get_or atoms i x → Gained f a b (atom_ids (take i atoms))
    → Gained f b c (x.term ∷ []) → Gained f a c (atom_ids (take (i + 1) atoms))
atoms_next f a b c atoms i x below at one two = subst (Gained f a c) (sym (mapped_more atoms i x below at)) (gained_both f a b c (atom_ids (take i atoms)) (x.term ∷ []) one two)

pub atoms_all : (f : ℕ → List ℕ) (a b : Mentions) (atoms : List Atom) (i : ℕ) → length atoms ≤ i → Gained f a b (atom_ids (take i atoms)) → Gained f a b (atom_ids atoms)
atoms_all f a b atoms i past all = subst (λ (ys : List Atom). Gained f a b (atom_ids ys)) (all_taken atoms i past) all

-- what all of several lists are
module _ (P : ℕ → Type 0) where
  pub all_at : (ids : List ℕ) (i x : ℕ) → AllByRecursion P ids → i < length ids → x ≡ get_or ids i x → P x
  all_at [] i x all below at = absurd (omega (arith, below))
  all_at (y ∷ ys) zero x all below at = subst P (sym at) all.0
  all_at (y ∷ ys) (suc i) x all below at = all_at ys i x all.1 (omega (arith, below)) at

  all_found : (ids : List ℕ) (i x : ℕ) → AllByRecursion P ids → slice_get ids i ≡ Some x → P x
  all_found [] i x all is = cc
  all_found (y ∷ ys) zero x all is = subst P (same y x is) all.0
    where
      same : (y x : ℕ) → Some y ≡ Some x → y ≡ x
      same y x e = cc
  all_found (y ∷ ys) (suc i) x all is = all_found ys i x all.1 is

  prefix : (xs ys : List ℕ) → AllByRecursion P (xs ++ ys) → AllByRecursion P xs
  prefix [] ys all = tt
  prefix (x ∷ xs) ys all = (all.0, prefix xs ys all.1)

  back : (xs ys : List ℕ) → AllByRecursion P (xs ++ ys) → AllByRecursion P ys
  back [] ys all = all
  back (x ∷ xs) ys all = back xs ys all.1

  all_of : {A : Type 0} (g : A → List ℕ) (xs : List A) (i : ℕ) (x : A) → AllByRecursion P (flat_map g xs) → slice_get xs i ≡ Some x → AllByRecursion P (g x)
  all_of g [] i x all is = cc
  all_of g (y ∷ ys) zero x all is = subst (λ z. AllByRecursion P (g z)) (same y x is) (prefix (g y) (flat_map g ys) all)
    where
      same : {A : Type 0} (y x : A) → Some y ≡ Some x → y ≡ x
      same y x e = cc
  all_of g (y ∷ ys) (suc i) x all is = all_of g ys i x (back (g y) (flat_map g ys) all) is

  pub hard_listed : (hards : List Conditions) (i s : ℕ) (c : Conditions) (x : ℕ) → AllByRecursion P (hard_ids hards) → slice_get hards i ≡ Some c → slice_get c.ids.items s ≡ Some x → P x
  hard_listed hards i s c x all there is = all_found c.ids.items s x (all_of (λ (h : Conditions). h.ids.items) hards i c all there) is

  pub chance_listed : (chances : List ChanceConditions) (i s : ℕ) (c : ChanceConditions) (x : ℕ) → AllByRecursion P (chance_ids chances) → slice_get chances i ≡ Some c
      → slice_get c.conditions.ids.items s ≡ Some x → P x
  chance_listed chances i s c x all there is = all_found c.conditions.ids.items s x (all_of (λ (h : ChanceConditions). h.conditions.ids.items) chances i c all there) is
