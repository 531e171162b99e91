-- Whole numbers, lists of them and tasks: what constant expressions and the values of all expressions have in common.
use Rattle.std.specs.Prelude.{ℕ, zero, suc, nat_le, ◌^◌, ℤ, pos, neg_ℤ, ◌+ℤ◌, ◌*ℤ◌, int_lt, int_le, Bool, true, false, not, ◌&&◌, List, [], ◌∷◌, length, map, Option, Some, None}
use Rattle.std.specs.Prelude.{option_map, option_and_then, if◌then◌else◌}
use Rattle.std.specs.List.{flat_map, filter, fold, list_all, list_any, range_with_len}
use Rattle.std.specs.Int.{int_gap}
use Rattle.std.specs.Int.RustNames.{int_div, int_rem, unsigned_abs}
use Rattle.std.specs.Ordering.{int_eq}
use Rattle.sopl_base.specs.declared.comparison.CmpOp.{CmpOp}
use Rattle.sopl_base.specs.declared.comparison.CmpOp.TheVariants.{Eq, Ne, Lt, Le, Gt, Ge}
use Rattle.sopl_ast.specs.declared.operators.Function.{Function}
use Rattle.sopl_ast.specs.declared.operators.Function.TheVariants.{Negative, Size}
use Rattle.sopl_ast.specs.declared.operators.MulOp.{MulOp}
use Rattle.sopl_ast.specs.declared.operators.MulOp.TheVariants.{Times, Div, Mod}

-- the first of two that is there
abbrev pub or_else : {A : Type 0} → Option A → Option A → Option A
or_else (Some x) other = Some x
or_else None other = other

-- two things that are both there, made into one
abbrev pub both_of : {A B C : Type 0} → (A → B → C) → Option A → Option B → Option C
both_of make a b = option_and_then (λ x. option_map (make x) b) a

-- all of a list, where each is there
abbrev pub all_of : {A B : Type 0} → (A → Option B) → List A → Option (List B)
all_of f [] = Some []
all_of f (x ∷ xs) = both_of (λ y ys. y ∷ ys) (f x) (all_of f xs)

-- a list of lists, one behind the other
abbrev pub joined : {A : Type 0} → List (List A) → List A
joined lists = flat_map (λ list. list) lists

-- a whole number where it is not negative, and else 0
abbrev pub natural : ℤ → ℕ
natural z = int_gap (pos 0) z

-- so many numbers, from a given one on
abbrev pub counted_up : ℤ → ℕ → List ℤ
counted_up z zero = []
counted_up z (suc n) = z ∷ counted_up (z +ℤ pos 1) n

-- how many numbers there are from one to another; none where the first is greater
abbrev pub count_between : ℤ → ℤ → ℕ
count_between lo hi = int_gap lo (hi +ℤ pos 1)

-- the numbers from one to another, in ascending order
abbrev pub up_to : ℤ → ℤ → List ℤ
up_to lo hi = counted_up lo (count_between lo hi)

-- the sum of whole numbers
abbrev pub total : List ℤ → ℤ
total [] = pos 0
total (x ∷ xs) = x +ℤ total xs

-- the least or the greatest of numbers, as one of two is chosen; nothing where there is none
abbrev pub extreme : (ℤ → ℤ → ℤ) → List ℤ → Option ℤ
extreme choose [] = None
extreme choose (x ∷ xs) = Some (fold choose x xs)

-- a truth as a number
abbrev pub one_or_zero : Bool → ℤ
one_or_zero true = pos 1
one_or_zero false = pos 0

-- whether a comparison holds of two numbers
abbrev pub compares : CmpOp → ℤ → ℤ → Bool
compares Eq x y = int_eq x y
compares Ne x y = not (int_eq x y)
compares Lt x y = int_lt x y
compares Le x y = int_le x y
compares Gt x y = int_lt y x
compares Ge x y = int_le y x

-- a number times another, or divided by it: `div` cuts towards 0, `mod` has the sign of the first, and neither is by 0
abbrev pub applied : MulOp → ℤ → ℤ → Option ℤ
applied Times x y = Some (x *ℤ y)
applied Div x y = if int_eq y (pos 0) then None else Some (int_div x y)
applied Mod x y = if int_eq y (pos 0) then None else Some (int_rem x y)

-- what a function makes of a number: its negative, or its size
abbrev pub called : Function → ℤ → ℤ
called Negative x = neg_ℤ x
called Size x = pos (unsigned_abs x)

-- no two numbers are the same
abbrev pub all_distinct : List ℤ → Bool
all_distinct [] = true
all_distinct (x ∷ xs) = not (list_any (int_eq x) xs) && all_distinct xs

-- the binary digits of a number: as many as there are powers of 2 up to it; numbers here are below 2 ^ 64
abbrev pub binary_digits : ℕ → ℕ
binary_digits n = length (filter (λ k. nat_le (2 ^ k) n) (range_with_len 0 64))

-- a task: when it starts, how long it takes, and how much it asks for while it runs
pub record Task : Type 0 where
  pub start : ℤ
  pub duration : ℤ
  pub demand : ℤ

-- a task of three numbers that are there
abbrev pub task_of : Option ℤ → Option ℤ → Option ℤ → Option Task
task_of start duration demand =
    option_and_then (λ s. both_of (λ l d. record { start = s; duration = l; demand = d }) duration demand) start

-- a task runs at a time
abbrev pub runs : ℤ → Task → Bool
runs time task = int_le task.start time && int_lt time (task.start +ℤ task.duration)

-- what a task asks for at a time
abbrev pub asked : ℤ → Task → ℤ
asked time task = if runs time task then task.demand else pos 0

-- what tasks ask for together at a time
abbrev pub demanded : ℤ → List Task → ℤ
demanded time tasks = total (map (asked time) tasks)

-- a task's length and demand are at least 0
abbrev pub is_sound : Task → Bool
is_sound task = int_le (pos 0) task.duration && int_le (pos 0) task.demand

-- at the start of each task those that run then ask for the capacity at most
abbrev pub all_fit : ℤ → List Task → Bool
all_fit capacity tasks = list_all (λ (task : Task). int_le (demanded task.start tasks) capacity) tasks

-- no task has a negative length or demand, and at no time do they ask for more than the capacity, which is at least 0; the starts of tasks are
-- times enough to look at
abbrev pub are_within : ℤ → List Task → Bool
are_within capacity tasks = int_le (pos 0) capacity && (list_all is_sound tasks && all_fit capacity tasks)
