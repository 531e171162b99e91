-- What evaluating an expression in a constant place answers, step by step, with how many things were counted. These steps are the code's own: no public
-- clause cites them.
use Rattle.std.specs.Prelude.{ℕ, ◌+◌, nat_lt, ℤ, pos, neg_ℤ, ◌+ℤ◌, not, ◌||◌, List, [], ◌∷◌, ◌++◌, drop, nat_le, Option, Some, None, option_and_then, Result, Ok, Err, if◌then◌else◌}
use Rattle.std.specs.Option.{unwrap_or}
use Rattle.std.specs.List.{list_all, list_any}
use Rattle.sopl_base.specs.Extremes.{chosen_by}
use Rattle.sopl_base.specs.declared.fault.Fault.{Fault}
use Rattle.sopl_base.specs.declared.fault.Fault.TheVariants.{Text, Limit}
use Rattle.sopl_base.specs.declared.codes.TheConstants as codes
use Rattle.sopl_ast.specs.declared.operators.MulOp.{MulOp}
use Rattle.sopl_ast.specs.Tree as t
use Rattle.sopl_ast.specs.Tree.{Tree, Shape, Trees, Terms, Factors, Binders, Range, Node, no_tree, tree, no_term, term, no_factor, factor, no_binder, binder, Named, Ends, place_of}
use Rattle.sopl_ast.specs.Lists.{BinderTree, trees, binders}
use Rattle.unfold_tables.specs.Tables.{tasks_of}
use Rattle.sopl_ast.specs.Numbers.{up_to, count_between, total, extreme, one_or_zero, compares, applied, called, all_distinct, are_within}
use Rattle.sopl_ast.specs.Known.{Known, with_bound, known_value, set_named, ascending}
use Rattle.sopl_ast.specs.Constants.{within, is_true}
use Rattle.sopl_ast.specs.UnfoldEvents.{excess, most_counted, most_numbers}

-- a step: what it answers, and how many things were counted behind it, where so many were before
abbrev pub Step : Type 0 → Type 0
Step A = ℕ → Result (A × ℕ) Fault

-- a step goes on behind an answer, and not behind a fault
abbrev pub continued : {A B : Type 0} → Result (A × ℕ) Fault → (A → Step B) → Result (B × ℕ) Fault
continued (Ok answered) next = next answered.0 answered.1
continued (Err fault) next = Err fault

abbrev pub ◌>>=◌ : {A B : Type 0} → Step A → (A → Step B) → Step B
(step >>= next) count = continued (step count) next

infixl 20 ◌>>=◌
-- an answer at once
abbrev pub done : {A : Type 0} → A → Step A
done x count = Ok (x, count)

-- 110: what is not there is refused
abbrev pub given : ℕ → Option ℤ → Step ℤ
given whole None count = Err (Text (record { code = codes.UNDEFINED; at = whole }))
given whole (Some x) count = Ok (x, count)

-- one thing more is counted
abbrev pub count_one : Step (Unit {0})
count_one count = if nat_lt count most_counted then Ok (tt, count + 1) else Err (Limit (excess codes.UNFOLDING (pos (most_counted + 1)) (pos most_counted)))

-- 208: more numbers than a range may have
abbrev pub checked_between : ℤ → ℤ → Step (ℤ × ℤ)
checked_between lo hi count =
    if nat_le (count_between lo hi) most_numbers
    then Ok ((lo, hi), count)
    else Err (Limit (excess codes.NUMBERS (pos (count_between lo hi)) (pos most_numbers)))

-- what is found for each of some numbers, which are counted, behind what was found
abbrev pub for_each : {A : Type 0} → (ℤ → A → Step A) → List ℤ → A → Step A
for_each next [] found = done found
for_each next (n ∷ ns) found = (count_one >>= (λ u. next n found)) >>= (λ xs. for_each next ns xs)

abbrev mutual
  -- the value of an expression, inside the one that begins at `whole`
  pub number : Known → ℕ → Tree → Step ℤ
  number known whole (Node at shape) = untested known whole shape >>= (λ w. given whole (option_and_then within w))

  pub untested : Known → ℕ → Shape → Step (Option ℤ)
  untested known whole (t.Lit z) = done (Some z)
  untested known whole (t.Name name) = done (known_value known name [])
  untested known whole (t.Index name es) = numbers known whole [] es >>= (λ index. done (known_value known name index))
  untested known whole (t.Call f e) = number known whole e >>= (λ x. done (Some (called f x)))
  untested known whole (t.Add parts) = sum known whole (pos 0) parts >>= (λ x. done (Some x))
  untested known whole (t.Mul first others) = (number known whole first >>= (λ x. product known whole x others)) >>= (λ x. done (Some x))
  untested known whole (t.Cmp op a b) = number known whole a >>= (λ x. number known whole b >>= (λ y. done (Some (one_or_zero (compares op x y)))))
  untested known whole (t.Not e) = number known whole e >>= (λ x. done (Some (one_or_zero (not (is_true x)))))
  untested known whole (t.And es) = numbers known whole [] es >>= (λ xs. done (Some (one_or_zero (list_all is_true xs))))
  untested known whole (t.Or es) = numbers known whole [] es >>= (λ xs. done (Some (one_or_zero (list_any is_true xs))))
  untested known whole (t.Implies a b) = number known whole a >>= (λ x. number known whole b >>= (λ y. done (Some (one_or_zero (not (is_true x) || is_true y)))))
  untested known whole (t.Sum bs e) = over known whole bs (λ here found. number here whole e >>= (λ x. done (found ++ x ∷ []))) [] >>= (λ xs. done (Some (total xs)))
  untested known whole (t.Selected which es) = numbers known whole [] es >>= (λ xs. done (extreme (chosen_by which) xs))
  untested known whole (t.AllDifferent bs e) = over known whole bs (λ here found. number here whole e >>= (λ x. done (found ++ x ∷ []))) [] >>= (λ xs. done (Some (one_or_zero (all_distinct xs))))
  untested known whole (t.Cumulative bs start duration demand capacity) =
      over known whole bs (λ here found.
      number here whole start >>= (λ a. number here whole duration >>= (λ b. number here whole demand >>= (λ c. done (((found ++ a ∷ []) ++ b ∷ []) ++ c ∷ []))))) []
      >>= (λ xs. number known whole capacity >>= (λ most. done (Some (one_or_zero (are_within most (tasks_of xs))))))

  -- the values of expressions, behind those that were found
  pub numbers : Known → ℕ → List ℤ → Trees → Step (List ℤ)
  numbers known whole found no_tree = done found
  numbers known whole found (tree e es) = number known whole e >>= (λ x. numbers known whole (found ++ x ∷ []) es)

  -- a sum, with the parts that follow
  pub sum : Known → ℕ → ℤ → Terms → Step ℤ
  sum known whole before no_term = done before
  sum known whole before (term minus e more) = number known whole e >>= (λ x. sum known whole (before +ℤ (if minus then neg_ℤ x else x)) more)

  -- a product, with the factors that follow
  pub product : Known → ℕ → ℤ → Factors → Step ℤ
  product known whole before no_factor = done before
  product known whole before (factor op e more) =
      (number known whole e >>= (λ x. given whole (option_and_then within (applied op before x)))) >>= (λ y. product known whole y more)

  -- what is found for each way in which binders take their values, the last one fastest, behind what was found
  pub over : Known → ℕ → Binders → (Known → List ℤ → Step (List ℤ)) → List ℤ → Step (List ℤ)
  over known whole no_binder body found = body known found
  over known whole (binder name at range more) body found =
      range_numbers known (Some whole) range >>= (λ ns. for_each (λ n xs. over (with_bound name n known) whole more body xs) ns found)

  -- the numbers of a range or a set; the ends belong to the constant expression at `whole`, if there is one
  pub range_numbers : Known → Option ℕ → Range → Step (List ℤ)
  range_numbers known whole (Named name at) = done (ascending (set_named name known.sets))
  range_numbers known whole (Ends lo hi) =
      (number known (unwrap_or whole (place_of lo)) lo >>= (λ a. number known (unwrap_or whole (place_of hi)) hi >>= (λ b. checked_between a b)))
      >>= (λ ends. done (up_to ends.0 ends.1))

-- the ends of a range
abbrev pub range_ends : Known → Option ℕ → Tree → Tree → Step (ℤ × ℤ)
range_ends known whole lo hi =
    number known (unwrap_or whole (place_of lo)) lo >>= (λ a. number known (unwrap_or whole (place_of hi)) hi >>= (λ b. checked_between a b))

-- a product from its first part on
abbrev pub whole_product : Known → ℕ → Tree → Factors → Step ℤ
whole_product known whole first others = number known whole first >>= (λ x. product known whole x others)

-- a product with one factor more
abbrev pub multiplied : Known → ℕ → ℤ → MulOp → Tree → Step ℤ
multiplied known whole before op e = number known whole e >>= (λ x. given whole (option_and_then within (applied op before x)))

-- what expressions are worth, behind what was found
abbrev pub each_of : ℕ → List Tree → Known → List ℤ → Step (List ℤ)
each_of whole body here found = numbers here whole found (trees body)

-- what is found for binders of which so many have values
abbrev pub inside : ℕ → List BinderTree → (Known → List ℤ → Step (List ℤ)) → ℕ → Known → List ℤ → Step (List ℤ)
inside whole bs body depth here found = over here whole (binders (drop depth bs)) body found

-- the starts, lengths and demands of tasks for each way in which binders take their values
abbrev pub task_numbers : Known → ℕ → Binders → Tree → Tree → Tree → Step (List ℤ)
task_numbers known whole bs start duration demand =
    over known whole bs (λ here found. number here whole start >>= (λ a. number here whole duration >>= (λ b. number here whole demand >>= (λ c. done (((found ++ a ∷ []) ++ b ∷ []) ++ c ∷ []))))) []
