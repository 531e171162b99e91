-- What an expression of a text is as a term or a condition over cells, at a place: its names, its binders and the scenario are put in.
use Rattle.std.specs.Prelude.{ℕ, ℤ, pos, true, false, List, [], ◌∷◌, ◌++◌, length, map, Option, Some, None, get_or, unwrap_or, if◌then◌else◌}
use Rattle.std.specs.BTreeSet.{insert_key}
use Rattle.std.specs.List.{fold, range_with_len}
use Rattle.std.specs.Ordering.{int_cmp, int_eq}
use Rattle.std.specs.Str.{bytes_eq}
use Rattle.sopl_base.specs.declared.extreme.Extreme.{Extreme}
use Rattle.sopl_ast.specs.declared.operators.Function.{Function}
use Rattle.sopl_ast.specs.declared.operators.Function.TheVariants.{Negative, Size}
use Rattle.sopl_ast.specs.declared.operators.MulOp.TheVariants.{Times, Div, Mod}
use Rattle.sopl_ast.specs.Tree as t
use Rattle.sopl_ast.specs.Tree.{Tree, Shape, Trees, Factors, Binders, Node, no_tree, tree, no_factor, factor}
use Rattle.sopl_ast.specs.Known.{Binding, Constant, Known}
use Rattle.sopl_ast.specs.Constants.{value, all_bindings}
use Rattle.sopl_ast.specs.Instances.{Decision, Stochastic}
use Rattle.term_language.specs.Terms as c
use Rattle.term_language.specs.declared.made.Operation.{Operation}
use Rattle.term_language.specs.declared.made.Operation.TheVariants as unary
use Rattle.term_language.specs.declared.made.Divisor.{Divisor}
use Rattle.term_language.specs.Arrays.{Entry, indices, item_in}

-- where an expression is instantiated: what is known, the stochastic variables and the values that the scenario gives them, the decisions and the
-- numbers of their cells in the scenario
pub record Place : Type 0 where
  pub known : Known
  pub stochastics : List Stochastic
  pub scenario : List ℤ
  pub decisions : List Decision
  pub cells : List ℕ

-- a place with other things known
abbrev pub knowing : Place → Known → Place
knowing place known = record place { known = known }

-- the places for each way in which binders take their values
abbrev pub places : Place → Binders → List Place
places place bs = map (knowing place) (all_bindings place.known bs)

-- Names.

-- what binders give a name: an element without an index
abbrev pub bound_elements : List ℕ → List Binding → List Entry
bound_elements name [] = []
bound_elements name (b ∷ later) =
    if bytes_eq name b.name then (record { index = []; item = c.Fixed b.value }) ∷ bound_elements name later else bound_elements name later

-- the elements of a constant
abbrev pub constant_elements : List ℕ → List Constant → List Entry
constant_elements name [] = []
constant_elements name (k ∷ later) =
    if bytes_eq name k.name then (record { index = k.index; item = c.Fixed k.value }) ∷ constant_elements name later else constant_elements name later

-- the elements of a stochastic variable, with the values of the scenario
abbrev pub seen_elements : List ℕ → List Stochastic → List ℤ → List Entry
seen_elements name [] values = []
seen_elements name (s ∷ later) [] = []
seen_elements name (s ∷ later) (v ∷ values) =
    if bytes_eq name s.name then (record { index = s.index; item = c.Fixed v }) ∷ seen_elements name later values else seen_elements name later values

-- the elements of a decision, with their cells in the scenario
abbrev pub decided_elements : List ℕ → List Decision → List ℕ → List Entry
decided_elements name [] cells = []
decided_elements name (d ∷ later) [] = []
decided_elements name (d ∷ later) (cell ∷ cells) =
    if bytes_eq name d.name then (record { index = d.index; item = c.Free cell }) ∷ decided_elements name later cells else decided_elements name later cells

-- the elements of a declared name
abbrev pub elements : Place → List ℕ → List Entry
elements place name =
    constant_elements name place.known.constants
    ++ (seen_elements name place.stochastics place.scenario ++ decided_elements name place.decisions place.cells)

-- the index sets of an array that has these indices: the numbers that stand at each place of them, in ascending order and each once; an array of no
-- element has a set of no number
abbrev pub sets_of : List (List ℤ) → List (List ℤ)
sets_of [] = [] ∷ []
sets_of (first ∷ later) =
    map (λ place. fold (insert_key int_cmp) [] (map (λ index. get_or index place (pos 0)) (first ∷ later))) (range_with_len 0 (length first))

-- the items at all indices of these sets
abbrev pub table_over : List Entry → List (List ℤ) → c.Table
table_over entries sets = record { sets = sets; items = map (λ index. unwrap_or (item_in entries index) (c.Fixed (pos 0))) (indices sets) }

-- the array of these elements
abbrev pub table_of : List Entry → c.Table
table_of entries = table_over entries (sets_of (map (λ (e : Entry). e.index) entries))

-- what is never defined
abbrev pub undefined : c.Term
undefined = c.Element (table_of []) c.no_term

-- an item of an array, where there is one
abbrev pub item_term : Option c.Item → c.Term
item_term None = undefined
item_term (Some (c.Fixed z)) = c.Constant z
item_term (Some (c.Free cell)) = c.Cell cell

-- a name without an index
abbrev pub named_term : Place → List ℕ → c.Term
named_term place name = item_term (item_in (bound_elements name place.known.bound ++ elements place name) [])

-- Lists of terms.

abbrev pub terms_of : List c.Term → c.Terms
terms_of [] = c.no_term
terms_of (x ∷ later) = c.term x (terms_of later)

abbrev pub sum_of : List c.Term → c.Parts
sum_of [] = c.no_part
sum_of (x ∷ later) = c.part false x (sum_of later)

-- a task: its start, its length and its demand
pub record TaskTerms : Type 0 where
  pub start : c.Term
  pub duration : c.Term
  pub demand : c.Term

abbrev pub tasks_of : List TaskTerms → c.Tasks
tasks_of [] = c.no_task
tasks_of (x ∷ later) = c.task x.start x.duration x.demand (tasks_of later)

-- the function of a number: a negative is a sum
abbrev pub function_of : Function → c.Term → c.Term
function_of Negative a = c.Sum (c.part true a c.no_part)
function_of Size a = c.Made unary.Size a

-- the least or the greatest of at least one
abbrev pub extreme_of : Extreme → c.Terms → c.Term
extreme_of which c.no_term = undefined
extreme_of which (c.term first later) = c.Selected which first later

-- a quotient or a remainder by a number that is there and is not 0
abbrev pub divided : (Divisor → Operation) → c.Term → Option ℤ → c.Term
divided make a None = undefined
divided make a (Some z) = if int_eq z (pos 0) then undefined else c.Made (make (record { number = z })) a

-- Expressions.

-- a number expression as a term, and a condition; a number is no condition, and a condition is a number
pub record Instance : Type 0 where
  pub term : c.Term
  pub cond : c.Cond

abbrev pub number : c.Term → Instance
number x = record { term = x; cond = c.Any c.no_cond }

abbrev pub condition : c.Cond → Instance
condition x = record { term = c.Number x; cond = x }

abbrev mutual
  -- what an expression is
  pub instance : Place → Tree → Instance
  instance place (Node at shape) = shape_instance place shape

  -- what an expression of this shape is
  pub shape_instance : Place → Shape → Instance
  shape_instance place (t.Lit z) = number (c.Constant z)
  shape_instance place (t.Name name) = number (named_term place name)
  shape_instance place (t.Index name no_tree) = number (named_term place name)
  shape_instance place (t.Index name (tree e es)) =
      number (c.Element (table_of (elements place name)) (c.term (instance place e).term (instances place es)))
  shape_instance place (t.Call f e) = number (function_of f (instance place e).term)
  shape_instance place (t.Add parts) = number (c.Sum (chain_instance place parts))
  shape_instance place (t.Mul first others) = number (product_instance place (instance place first).term others)
  shape_instance place (t.Cmp op a b) = condition (c.Compare op (instance place a).term (instance place b).term)
  shape_instance place (t.Not e) = condition (c.Not (instance place e).cond)
  shape_instance place (t.And es) = condition (c.All (conditions place es))
  shape_instance place (t.Or es) = condition (c.Any (conditions place es))
  shape_instance place (t.Implies a b) = condition (c.Implies (instance place a).cond (instance place b).cond)
  shape_instance place (t.Sum bs e) = number (c.Sum (sum_of (map (λ here. (instance here e).term) (places place bs))))
  shape_instance place (t.Selected which es) = number (extreme_of which (instances place es))
  shape_instance place (t.AllDifferent bs e) = condition (c.AllDifferent (terms_of (map (λ here. (instance here e).term) (places place bs))))
  shape_instance place (t.Cumulative bs start duration demand capacity) =
      condition (c.Cumulative
      (tasks_of (map (λ here. record { start = (instance here start).term; duration = (instance here duration).term; demand = (instance here demand).term }) (places place bs)))
      (instance place capacity).term)

  -- expressions in order
  pub instances : Place → Trees → c.Terms
  instances place no_tree = c.no_term
  instances place (tree e es) = c.term (instance place e).term (instances place es)

  -- conditions in order
  pub conditions : Place → Trees → c.Conds
  conditions place no_tree = c.no_cond
  conditions place (tree e es) = c.condition (instance place e).cond (conditions place es)

  -- a chain of parts, of which some are subtracted
  pub chain_instance : Place → t.Terms → c.Parts
  chain_instance place t.no_term = c.no_part
  chain_instance place (t.term minus e later) = c.part minus (instance place e).term (chain_instance place later)

  -- the product of what stands before, and the factors that follow it from left to right; a divisor is a constant
  pub product_instance : Place → c.Term → Factors → c.Term
  product_instance place before no_factor = before
  product_instance place before (factor Times e later) = product_instance place (c.Product before (instance place e).term) later
  product_instance place before (factor Div e later) = product_instance place (divided unary.Quotient before (value place.known e)) later
  product_instance place before (factor Mod e later) = product_instance place (divided unary.Remainder before (value place.known e)) later
