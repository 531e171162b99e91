-- What number expressions and conditions are worth at a point: a whole number or undefined, true or false.
use Rattle.std.specs.Prelude.{ℕ, ℤ, pos, ◌+ℤ◌, ◌*ℤ◌, int_lt, int_le, Bool, true, false, not, ◌&&◌, ◌||◌, List, [], ◌∷◌, map, slice_index_or, Option, Some, None, option_map}
use Rattle.std.specs.Prelude.{option_and_then, if◌then◌else◌}
use Rattle.std.specs.List.{fold, list_all, list_any}
use Rattle.std.specs.Ordering.{int_eq}
use Rattle.sopl_base.specs.Extremes.{chosen_by}
use Rattle.sopl_base.specs.declared.comparison.CmpOp.{CmpOp}
use Rattle.sopl_base.specs.declared.comparison.CmpOp.TheVariants.{Eq, Ne, Lt, Le, Gt, Ge}
use Rattle.term_language.specs.Terms.{Item, Fixed, Free, Term, Constant, Cell, Sum, Product, Made, Selected, Element, Number, Terms, no_term, term, Parts}
use Rattle.term_language.specs.Terms.{no_part, part, Cond, Compare, Not, All, Any, Implies, AllDifferent, Cumulative, Conds, no_cond, condition, Tasks, no_task, task}
use Rattle.term_language.specs.Arrays.{item_at}
use Rattle.term_language.specs.Ends.{made_of}
use Rattle.term_language.specs.Forms.{sign}
use Rattle.term_language.specs.Globals.{total}

-- two numbers that are both there, made into one
abbrev pub both_of : {A B C : Type 0} → (A → B → C) → Option A → Option B → Option C
both_of make a b = option_and_then (λ x. option_map (make x) b) a

-- a condition that holds is worth 1, another 0
abbrev pub one_or_zero : Bool → ℤ
one_or_zero true = pos 1
one_or_zero false = pos 0

-- whether two numbers compare so
abbrev pub compares : CmpOp → ℤ → ℤ → Bool
compares Eq x y = int_eq x y
compares Ne x y = not (int_eq x y)
compares Lt x y = int_lt x y
compares Le x y = int_le x y
compares Gt x y = int_lt y x
compares Ge x y = int_le y x

-- a test of what is there; of what is not there it is false
abbrev pub holds_of : {A : Type 0} → (A → Bool) → Option A → Bool
holds_of test None = false
holds_of test (Some x) = test x

-- the value of a cell, and of an item
abbrev pub cell_value : List ℤ → ℕ → ℤ
cell_value point cell = slice_index_or point cell (pos 0)

abbrev pub item_value : List ℤ → Item → ℤ
item_value point (Fixed z) = z
item_value point (Free cell) = cell_value point cell

-- no two numbers are the same
abbrev pub all_distinct : List ℤ → Bool
all_distinct [] = true
all_distinct (x ∷ later) = not (list_any (int_eq x) later) && all_distinct later

-- a task: when it starts, how long it takes, and how much it asks for while it runs
pub record TaskValues : Type 0 where
  pub start : ℤ
  pub duration : ℤ
  pub demand : ℤ

abbrev pub task_values : ℤ → ℤ → ℤ → TaskValues
task_values start duration demand = record { start = start; duration = duration; demand = demand }

-- what a task asks for at a time
abbrev pub asked : ℤ → TaskValues → ℤ
asked time t = if int_le t.start time && int_lt time (t.start +ℤ t.duration) then t.demand else pos 0

-- tasks ask for a capacity at most
abbrev pub is_kept : ℤ → List TaskValues → ℤ → Bool
is_kept capacity tasks time = int_le (total (map (asked time) tasks)) capacity

-- no length, no demand and not the capacity is negative, and at each start the tasks ask for the capacity at most, so at all times
abbrev pub do_fit : List TaskValues → ℤ → Bool
do_fit tasks capacity =
    list_all (λ (t : TaskValues). int_le (pos 0) t.duration && int_le (pos 0) t.demand) tasks
    && (int_le (pos 0) capacity && list_all (λ (t : TaskValues). is_kept capacity tasks t.start) tasks)

abbrev mutual
  -- the value of a number expression; it is undefined where an operand is, and where an index lies outside its array
  pub value : List ℤ → Term → Option ℤ
  value point (Constant z) = Some z
  value point (Cell cell) = Some (cell_value point cell)
  value point (Sum parts) = sum_value point parts
  value point (Product a b) = both_of (λ x y. x *ℤ y) (value point a) (value point b)
  value point (Made op a) = option_map (made_of op) (value point a)
  value point (Selected which a later) = both_of (λ x xs. fold (chosen_by which) x xs) (value point a) (values point later)
  value point (Element table indices) =
      option_map (item_value point) (option_and_then (item_at table) (values point indices))
  value point (Number c) = Some (one_or_zero (holds point c))

  pub values : List ℤ → Terms → Option (List ℤ)
  values point no_term = Some []
  values point (term t later) = both_of (λ x xs. x ∷ xs) (value point t) (values point later)

  pub sum_value : List ℤ → Parts → Option ℤ
  sum_value point no_part = Some (pos 0)
  sum_value point (part subtracted t later) =
      both_of (λ x sum. sign subtracted *ℤ x +ℤ sum) (value point t) (sum_value point later)

  -- the truth of a condition; with an undefined operand a comparison, `allDifferent` and `cumulative` are false
  pub holds : List ℤ → Cond → Bool
  holds point (Compare op a b) = holds_of (λ same. same) (both_of (compares op) (value point a) (value point b))
  holds point (Not c) = not (holds point c)
  holds point (All conds) = all_hold point conds
  holds point (Any conds) = any_holds point conds
  holds point (Implies a c) = not (holds point a) || holds point c
  holds point (AllDifferent terms) = holds_of all_distinct (values point terms)
  holds point (Cumulative tasks capacity) =
      holds_of (λ fit. fit) (both_of do_fit (all_task_values point tasks) (value point capacity))

  pub all_hold : List ℤ → Conds → Bool
  all_hold point no_cond = true
  all_hold point (condition c later) = holds point c && all_hold point later

  pub any_holds : List ℤ → Conds → Bool
  any_holds point no_cond = false
  any_holds point (condition c later) = holds point c || any_holds point later

  pub all_task_values : List ℤ → Tasks → Option (List TaskValues)
  all_task_values point no_task = Some []
  all_task_values point (task start duration demand later) =
      both_of (λ t ts. t ∷ ts)
      (option_and_then (λ s. both_of (task_values s) (value point duration) (value point demand)) (value point start))
      (all_task_values point later)
