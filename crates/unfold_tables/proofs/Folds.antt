-- Folds and sums over a list from its front.
use Rattle.std.proofs.Common.{◌≡◌, sym, refl, ap, ◌∙◌, Bool, true, false, true≢false, ◌&&◌, int_lt, int_le, negsuc, arith, [], ◌∷◌, ℕ, ◌+◌, ◌<◌, ◌≤◌, ℤ, pos, ◌+ℤ◌, List, length, get_or, drop, map}
use Rattle.std.proofs.Math.IntN.{+ℤ_assoc, +ℤ_idl, +ℤ_comm}
use Rattle.std.proofs.lemmas.Bool.{le-leb}
use Rattle.std.proofs.lemmas.List.{at_drop_more, at_drop_all}
use Rattle.std.specs.List.{fold, list_all}
use Rattle.sopl_ast.specs.Numbers as n
use Rattle.sopl_ast.specs.Numbers.{total, asked, demanded, is_sound, all_fit, are_within}
use Rattle.unfold_tables.specs.declared.tasks.TaskNumbers.{TaskNumbers}
use Rattle.unfold_tables.specs.Tables.{task_in}

module _ {A B : Type 0} (f : B → A → B) (xs : List A) (i : ℕ) (before : B) where
  -- one item more
  pub fold_more : (x : A) → i < length xs → x ≡ get_or xs i x → fold f (f before x) (drop (i + 1) xs) ≡ fold f before (drop i xs)
  fold_more x below at = ap (λ y. fold f (f before y) (drop (i + 1) xs)) at ∙ sym (at_drop_more (λ rest. fold f before rest) xs i x below)

  -- no item is left
  pub fold_end : length xs ≤ i → fold f before (drop i xs) ≡ before
  fold_end past = at_drop_all (λ rest. fold f before rest) xs i past

pub ruleset folds = (fold_more, fold_end)

-- nothing behind a sum
nothing_more : (z : ℤ) → z +ℤ pos 0 ≡ z
nothing_more z = +ℤ_comm z (pos 0) ∙ +ℤ_idl z

-- a sum is a fold from its front
folded : (xs : List ℤ) (before : ℤ) → fold ◌+ℤ◌ before xs ≡ before +ℤ total xs
folded [] before = sym (nothing_more before)
folded (x ∷ xs) before = folded xs (before +ℤ x) ∙ +ℤ_assoc before x (total xs)

pub total_folded : (xs : List ℤ) → fold ◌+ℤ◌ (pos 0) xs ≡ total xs
total_folded xs = folded xs (pos 0) ∙ +ℤ_idl (total xs)

pub ruleset totals = (fold_more, fold_end, total_folded)

module _ (time : ℤ) (tasks : List TaskNumbers) (i : ℕ) (before : ℤ) where
  -- one task more
  pub demand_more : (t : TaskNumbers) → i < length tasks → t ≡ get_or tasks i t
      → (before +ℤ asked time (task_in t)) +ℤ demanded time (map task_in (drop (i + 1) tasks)) ≡ before +ℤ demanded time (map task_in (drop i tasks))
  demand_more t below at =
      +ℤ_assoc before (asked time (task_in t)) (demanded time (map task_in (drop (i + 1) tasks)))
      ∙ ap (λ u. before +ℤ (asked time (task_in u) +ℤ demanded time (map task_in (drop (i + 1) tasks)))) at
      ∙ ap (λ z. before +ℤ z) (sym (at_drop_more (λ rest. demanded time (map task_in rest)) tasks i t below))

  -- no task is left
  pub demand_end : length tasks ≤ i → before +ℤ demanded time (map task_in (drop i tasks)) ≡ before
  demand_end past = ap (λ z. before +ℤ z) (at_drop_all (λ rest. demanded time (map task_in rest)) tasks i past) ∙ nothing_more before

-- nothing before a sum
pub demand_all : (time : ℤ) (tasks : List TaskNumbers) → pos 0 +ℤ demanded time (map task_in tasks) ≡ demanded time (map task_in tasks)
demand_all time tasks = +ℤ_idl (demanded time (map task_in tasks))

pub ruleset demands = (demand_more, demand_end, demand_all)

-- a test of what is made of each item
pub all_made : {A B : Type 0} (test : B → Bool) (f : A → B) (xs : List A) → list_all (λ x. test (f x)) xs ≡ list_all test (map f xs)
all_made test f [] = refl
all_made test f (x ∷ xs) = ap (λ rest. test (f x) && rest) (all_made test f xs)

pub ruleset alls = (all_made)

-- a number that is not below 0
at_least : (z : ℤ) → int_lt z (pos 0) ≡ false → int_le (pos 0) z ≡ true
at_least (pos n) h = le-leb 0 n (omega arith)
at_least (negsuc n) h = absurd (true≢false h)

-- tasks that keep within a capacity, and those that do not
module _ (capacity : ℤ) (ts : List TaskNumbers) (all : List n.Task) (is : map task_in ts ≡ all) (least : int_lt capacity (pos 0) ≡ false) where
  abbrev sound : Bool
  sound = list_all (λ t. is_sound (task_in t)) ts

  abbrev fit : Bool
  fit = list_all (λ t. int_le (demanded (task_in t).start (map task_in ts)) capacity) ts

  whole : are_within capacity all ≡ (sound && fit)
  whole =
      ap (are_within capacity) (sym is)
      ∙ ap (λ b. b && (list_all is_sound (map task_in ts) && all_fit capacity (map task_in ts))) (at_least capacity least)
      ∙ (λ i. sym (all_made is_sound task_in ts) i && sym (all_made (λ (t : n.Task). int_le (demanded t.start (map task_in ts)) capacity) task_in ts) i)

  pub not_sound : (b : Bool) → b ≡ sound → b ≡ false → false ≡ are_within capacity all
  not_sound b p q = sym (whole ∙ ap (λ c. c && fit) (sym p ∙ q))

  pub sound_fit : (b f : Bool) → b ≡ sound → b ≡ true → f ≡ fit → f ≡ are_within capacity all
  sound_fit b f p q r = r ∙ sym (whole ∙ ap (λ c. c && fit) (sym p ∙ q))

-- equal tasks under an equal capacity fit alike
pub same_fit : {a b : ℤ} {ts us : List TaskNumbers} → a ≡ b → ts ≡ us
    → list_all (λ t. int_le (demanded (task_in t).start (map task_in ts)) a) ts ≡ list_all (λ t. int_le (demanded (task_in t).start (map task_in us)) b) us
same_fit least is = λ i. list_all (λ t. int_le (demanded (task_in t).start (map task_in (is i))) (least i)) (is i)
