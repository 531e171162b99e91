-- The words of the rules on boxes for numbers, and those of the language, are the same.
use Rattle.std.proofs.Common.{◌≡◌, ◌∙◌, refl, ap, arith, ℤ, pos, neg_ℤ, ◌+ℤ◌, ◌*ℤ◌, Bool, true, false, not, ◌&&◌, List, [], ◌∷◌, map, Option, Some, None, option_map, int_le, if◌then◌else◌}
use Rattle.std.proofs.lemmas.Int.{ints}
use Rattle.std.specs.List.{list_all, list_any}
use Rattle.std.specs.Ordering.{int_eq}
use Rattle.sopl_base.specs.declared.comparison.CmpOp.{CmpOp}
use Rattle.sopl_base.specs.declared.comparison.CmpOp.TheVariants.{Eq, Ne, Lt, Le, Gt, Ge}
use Rattle.sopl_ast.specs.Numbers as ast
use Rattle.sopl_ast.specs.Numbers.{Task}
use Rattle.sopl_ast.specs.Meanings.{compared, are_different, fit}
use Rattle.term_language.specs.Forms.{sign}
use Rattle.term_language.specs.Globals as rules
use Rattle.term_language.specs.Values.{TaskValues, all_distinct, both_of, compares, do_fit, holds_of, is_kept, asked, one_or_zero}
use Rattle.term_language.proofs.Products.{one-*ℤ, minus_one-*ℤ}

pub truth_number : (b : Bool) → one_or_zero b ≡ ast.one_or_zero b
truth_number true = refl
truth_number false = refl

compares_so : (op : CmpOp) (x y : ℤ) → compares op x y ≡ ast.compares op x y
compares_so Eq x y = refl
compares_so Ne x y = refl
compares_so Lt x y = refl
compares_so Le x y = refl
compares_so Gt x y = refl
compares_so Ge x y = refl

pub compared_so : (op : CmpOp) (a b : Option ℤ) → holds_of (λ same. same) (both_of (compares op) a b) ≡ compared op a b
compared_so op None b = refl
compared_so op (Some x) None = refl
compared_so op (Some x) (Some y) = compares_so op x y

-- a part of a chain
signed : (minus : Bool) (x y : ℤ) → (sign minus *ℤ x +ℤ y) ≡ ((if minus then neg_ℤ x else x) +ℤ y)
signed true x y = let h = minus_one-*ℤ x in omega (arith, ints)
signed false x y = ap (λ z. z +ℤ y) (one-*ℤ x)

pub part_so : (minus : Bool) (a b : Option ℤ) → both_of (λ x y. sign minus *ℤ x +ℤ y) a b ≡ ast.both_of (λ x y. (if minus then neg_ℤ x else x) +ℤ y) a b
part_so minus None b = refl
part_so minus (Some x) None = refl
part_so minus (Some x) (Some y) = ap Some (signed minus x y)

-- a number with its sign changed
pub negated_so : (a : Option ℤ) → both_of (λ x y. sign true *ℤ x +ℤ y) a (Some (pos 0)) ≡ option_map neg_ℤ a
negated_so None = refl
negated_so (Some x) = ap Some (signed true x (pos 0) ∙ omega (arith, ints))

-- a part that is added
pub added_so : (a b : Option ℤ) → both_of (λ x y. sign false *ℤ x +ℤ y) a b ≡ ast.both_of (λ x y. x +ℤ y) a b
added_so a b = part_so false a b

pub distinct_so : (xs : List ℤ) → all_distinct xs ≡ ast.all_distinct xs
distinct_so [] = refl
distinct_so (x ∷ xs) = ap (λ b. not (list_any (int_eq x) xs) && b) (distinct_so xs)

pub different_so : (o : Option (List ℤ)) → holds_of all_distinct o ≡ are_different o
different_so None = refl
different_so (Some xs) = distinct_so xs

-- tasks
abbrev pub task_values : Task → TaskValues
task_values t = record { start = t.start; duration = t.duration; demand = t.demand }

demanded_so : (time : ℤ) (tasks : List Task) → rules.total (map (asked time) (map task_values tasks)) ≡ ast.demanded time tasks
demanded_so time [] = refl
demanded_so time (t ∷ tasks) = ap (λ z. ast.asked time t +ℤ z) (demanded_so time tasks)

each_fits : (capacity : ℤ) (all tasks : List Task) → list_all (λ (t : TaskValues). is_kept capacity (map task_values all) t.start) (map task_values tasks)
    ≡ list_all (λ (t : Task). int_le (ast.demanded t.start all) capacity) tasks
each_fits capacity all [] = refl
each_fits capacity all (t ∷ tasks) = λ i. int_le (demanded_so t.start all i) capacity && each_fits capacity all tasks i

all_sound : (tasks : List Task) → list_all (λ (t : TaskValues). int_le (pos 0) t.duration && int_le (pos 0) t.demand) (map task_values tasks) ≡ list_all ast.is_sound tasks
all_sound [] = refl
all_sound (t ∷ tasks) = ap (λ b. ast.is_sound t && b) (all_sound tasks)

turned : (a b c : Bool) → (a && (b && c)) ≡ (b && (a && c))
turned true b c = refl
turned false true c = refl
turned false false c = refl

fits_so : (tasks : List Task) (capacity : ℤ) → do_fit (map task_values tasks) capacity ≡ ast.are_within capacity tasks
fits_so tasks capacity =
    (λ i. all_sound tasks i && (int_le (pos 0) capacity && each_fits capacity tasks tasks i))
    ∙ turned (list_all ast.is_sound tasks) (int_le (pos 0) capacity) (ast.all_fit capacity tasks)

pub fit_so : (tasks : Option (List Task)) (capacity : Option ℤ) → holds_of (λ fits. fits) (both_of do_fit (option_map (map task_values) tasks) capacity) ≡ fit tasks capacity
fit_so None capacity = refl
fit_so (Some tasks) None = refl
fit_so (Some tasks) (Some capacity) = fits_so tasks capacity

pub total_so : (xs : List ℤ) → rules.total xs ≡ ast.total xs
total_so [] = refl
total_so (x ∷ xs) = ap (λ z. x +ℤ z) (total_so xs)
