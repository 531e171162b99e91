-- What an expression in a constant place is worth: a whole number, or nothing. Every operand counts: a condition spares none of its parts.
use Rattle.std.specs.Prelude.{nat_le, ℤ, pos, neg_ℤ, ◌+ℤ◌, Bool, not, ◌||◌, List, [], ◌∷◌, Option, Some, None, option_map, option_and_then, if◌then◌else◌}
use Rattle.std.specs.List.{list_all, list_any}
use Rattle.std.specs.Int.RustNames.{unsigned_abs}
use Rattle.std.specs.Option.{unwrap_or}
use Rattle.std.specs.Ordering.{int_eq}
use Rattle.sopl_base.specs.Extremes.{chosen_by}
use Rattle.sopl_base.specs.declared.limits.TheConstants as largest
use Rattle.sopl_ast.specs.declared.operators.MulOp.{MulOp}
use Rattle.sopl_ast.specs.Tree as t
use Rattle.sopl_ast.specs.Tree.{Tree, Shape, Trees, Terms, Factors, Binders, Range, Node, no_tree, tree, no_term, term, no_factor, factor, no_binder, binder, Named, Ends}
use Rattle.sopl_ast.specs.Numbers.{both_of, all_of, joined, up_to, total, extreme, one_or_zero, compares, applied, called, all_distinct, task_of, are_within}
use Rattle.sopl_ast.specs.Known.{Known, with_bound, known_value, set_named, ascending}

-- a constant's size is at most 2^40
abbrev pub within : ℤ → Option ℤ
within z = if nat_le (unsigned_abs z) largest.CONSTANT_SIZE then Some z else None

-- whether a number that a condition is worth says that it is true
abbrev pub is_true : ℤ → Bool
is_true x = not (int_eq x (pos 0))

-- the product or quotient of two that are there, of a size that constants have
abbrev pub applied_within : MulOp → Option ℤ → Option ℤ → Option ℤ
applied_within op a b = option_and_then (λ x. option_and_then (λ y. option_and_then within (applied op x y)) b) a

abbrev mutual
  -- what an expression is worth; nothing where its size is too great, and nothing also where a divisor is 0 or an index lies outside its set, in it or
  -- in a part of it
  pub value : Known → Tree → Option ℤ
  value known (Node at shape) = option_and_then within (untested known shape)

  -- what an expression is worth from what its parts are worth, before its own size is tested
  pub untested : Known → Shape → Option ℤ
  untested known (t.Lit z) = Some z
  untested known (t.Name name) = known_value known name []
  untested known (t.Index name es) = option_and_then (known_value known name) (values known es)
  untested known (t.Call f e) = option_map (called f) (value known e)
  untested known (t.Add parts) = sum_of known parts
  untested known (t.Mul first others) = product_of known (value known first) others
  untested known (t.Cmp op a b) = both_of (λ x y. one_or_zero (compares op x y)) (value known a) (value known b)
  untested known (t.Not e) = option_map (λ x. one_or_zero (not (is_true x))) (value known e)
  untested known (t.And es) = option_map (λ xs. one_or_zero (list_all is_true xs)) (values known es)
  untested known (t.Or es) = option_map (λ xs. one_or_zero (list_any is_true xs)) (values known es)
  untested known (t.Implies a b) = both_of (λ x y. one_or_zero (not (is_true x) || is_true y)) (value known a) (value known b)
  untested known (t.Sum bs e) = option_map total (option_and_then (all_of (λ here. value here e)) (bindings known bs))
  untested known (t.Selected which es) = option_and_then (extreme (chosen_by which)) (values known es)
  untested known (t.AllDifferent bs e) =
      option_map (λ xs. one_or_zero (all_distinct xs)) (option_and_then (all_of (λ here. value here e)) (bindings known bs))
  untested known (t.Cumulative bs start duration demand capacity) =
      both_of (λ tasks most. one_or_zero (are_within most tasks))
      (option_and_then (all_of (λ here. task_of (value here start) (value here duration) (value here demand))) (bindings known bs)) (value known capacity)

  -- what expressions are worth, in order
  pub values : Known → Trees → Option (List ℤ)
  values known no_tree = Some []
  values known (tree e es) = both_of (λ x xs. x ∷ xs) (value known e) (values known es)

  -- the sum of a chain of parts, of which some are subtracted
  pub sum_of : Known → Terms → Option ℤ
  sum_of known no_term = Some (pos 0)
  sum_of known (term minus e more) = both_of (λ x y. (if minus then neg_ℤ x else x) +ℤ y) (value known e) (sum_of known more)

  -- the product of what stands before, and the factors that follow it from left to right; each prefix of it is of a size that constants have
  pub product_of : Known → Option ℤ → Factors → Option ℤ
  product_of known before no_factor = before
  product_of known before (factor op e more) = product_of known (applied_within op before (value known e)) more

  -- what is known for each way in which binders take their values, the last one fastest
  pub bindings : Known → Binders → Option (List Known)
  bindings known no_binder = Some (known ∷ [])
  bindings known (binder name at range more) =
      option_and_then (λ numbers. option_map joined (all_of (λ number. bindings (with_bound name number known) more) numbers)) (numbers_of known range)

  -- the numbers of a range or a set; a name that is neither has none
  pub numbers_of : Known → Range → Option (List ℤ)
  numbers_of known (Named name at) = Some (ascending (set_named name known.sets))
  numbers_of known (Ends lo hi) = both_of up_to (value known lo) (value known hi)

-- what an expression is worth, or 0 where it is worth nothing; such a text is refused before by what is met in it (110)
abbrev pub value_or_zero : Known → Tree → ℤ
value_or_zero known e = unwrap_or (value known e) (pos 0)

-- the numbers of a range, or no numbers where an end is worth nothing; such a text is refused before by what is met in it (110)
abbrev pub numbers_in : Known → Range → List ℤ
numbers_in known range = unwrap_or (numbers_of known range) []

-- what is known for each way in which binders take their values, or none where the end of a range is worth nothing; such a text is refused before by
-- what is met in it (110)
abbrev pub all_bindings : Known → Binders → List Known
all_bindings known bs = unwrap_or (bindings known bs) []
