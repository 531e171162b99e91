-- Small terms and boxes whose intervals, marks, truths, values and sizes are known.
use Rattle.std.specs.Prelude.{ℕ, ℤ, pos, neg_ℤ, true, false, [], ◌∷◌}
use Rattle.box_problem.specs.Box.{Box}
use Rattle.term_language.specs.declared.answers.Defined.{Defined}
use Rattle.term_language.specs.declared.answers.Truth.{Truth}
use Rattle.sopl_base.specs.declared.comparison.CmpOp.TheVariants.{Eq}
use Rattle.sopl_base.specs.declared.extreme.Extreme.TheVariants.{Least, Greatest}
use Rattle.term_language.specs.declared.made.Operation.TheVariants.{Quotient, Remainder, Size}
use Rattle.term_language.specs.Terms.{Fixed, Free, Table, Term, Constant, Cell, Sum, Made, Selected, Element, Number, Terms, no_term, term, no_part, part, Cond, Compare, Tasks, no_task, task}
use Rattle.term_language.specs.Rules.{Reading, Near, interval, mark, truth}

-- a number below 0
abbrev pub minus : ℕ → ℤ
minus n = neg_ℤ (pos n)

-- a box of three cells
abbrev pub box : ℤ → ℤ → ℤ → ℤ → ℤ → ℤ → Box
box x_low x_high y_low y_high z_low z_high =
    record { lows = x_low ∷ y_low ∷ z_low ∷ []; highs = x_high ∷ y_high ∷ z_high ∷ [] }

-- the cells
abbrev pub x : Term
x = Cell 0

abbrev pub y : Term
y = Cell 1

abbrev pub z : Term
z = Cell 2

abbrev pub number : ℕ → Term
number n = Constant (pos n)

-- sums and differences of two
abbrev pub sum : Term → Term → Term
sum a b = Sum (part false a (part false b no_part))

abbrev pub difference : Term → Term → Term
difference a b = Sum (part false a (part true b no_part))

-- one, two and three operands
abbrev pub one : Term → Terms
one a = term a no_term

abbrev pub two : Term → Term → Terms
two a b = term a (term b no_term)

abbrev pub three : Term → Term → Term → Terms
three a b c = term a (term b (term c no_term))

-- quotients and remainders, and sizes
abbrev pub quotient : Term → ℤ → Term
quotient a c = Made (Quotient (record { number = c })) a

abbrev pub remainder : Term → ℤ → Term
remainder a c = Made (Remainder (record { number = c })) a

abbrev pub absolute : Term → Term
absolute a = Made Size a

-- the least and the greatest of several
abbrev pub least : Term → Terms → Term
least a later = Selected Least a later

abbrev pub greatest : Term → Terms → Term
greatest a later = Selected Greatest a later

-- 1, 2 and 9 at 1, 2 and 3; nothing at all; the cells x and y at 0 and 1
abbrev pub prices : Table
prices = record { sets = (pos 1 ∷ pos 2 ∷ pos 3 ∷ []) ∷ []; items = Fixed (pos 1) ∷ Fixed (pos 2) ∷ Fixed (pos 9) ∷ [] }

abbrev pub empty : Table
empty = record { sets = [] ∷ []; items = [] }

abbrev pub cells : Table
cells = record { sets = (pos 0 ∷ pos 1 ∷ []) ∷ []; items = Free 0 ∷ Free 1 ∷ [] }

-- 1, 2 and 3 at (1, 1), (1, 2) and so on: a row for each of 1 and 2
abbrev pub grid : Table
grid = record {
  sets = (pos 1 ∷ pos 2 ∷ []) ∷ (pos 1 ∷ pos 2 ∷ []) ∷ [];
  items = Fixed (pos 1) ∷ Fixed (pos 2) ∷ Fixed (pos 3) ∷ Fixed (pos 4) ∷ [];
}

abbrev pub price_at : Term → Term
price_at index = Element prices (one index)

-- 1 == 1 as a number
abbrev pub true_number : Term
true_number = Number (Compare Eq (number 1) (number 1))

-- an interval and a mark
pub record Seen : Type 0 where
  pub low : ℤ
  pub high : ℤ
  pub mark : Defined

abbrev pub seen : ℤ → ℤ → Defined → Seen
seen low high mark = record { low = low; high = high; mark = mark }

-- what a term is over a box, which is the root too
abbrev pub seen_by : Reading → Box → Term → Seen
seen_by reading b t = seen (interval reading b b t).low (interval reading b b t).high (mark reading b b t)

abbrev pub over : Box → Term → Seen
over b t = seen_by Near b t

-- the truth of a condition over a box, which is the root too
abbrev pub truth_over : Box → Cond → Truth
truth_over b c = truth Near b b c

-- two tasks: from x for 2, and from y for 3, each asking for as much as is said
abbrev pub two_tasks : ℤ → ℤ → Tasks
two_tasks first second = task x (number 2) (Constant first) (task y (number 3) (Constant second) no_task)
