-- What evaluating declarations answers, step by step, with how many things were counted. These steps are the code's own: no public clause cites them.
use Rattle.std.specs.Prelude.{ℕ, nat_eq, ℤ, List, [], ◌∷◌, ◌++◌, length, drop, Option, None, Result, Ok, Err}
use Rattle.std.specs.BTreeSet.{insert_key}
use Rattle.std.specs.Ordering.{int_cmp}
use Rattle.sopl_base.specs.declared.fault.Fault.{Fault}
use Rattle.sopl_base.specs.declared.codes.TheConstants as codes
use Rattle.sopl_ast.specs.Tree.{Tree, Trees, no_tree, tree}
use Rattle.sopl_ast.specs.Whole.{DimTree, InitTree, InitTrees, One, Many, no_init, init, inits_list}
use Rattle.sopl_ast.specs.Known.{Known}
use Rattle.sopl_ast.specs.Constants.{value_or_zero, numbers_in}
use Rattle.sopl_ast.specs.UnfoldEvents.{UnfoldEvent, Counted, first_failure, constant_place, range_events, too_many}
use Rattle.sopl_ast.specs.Arrays.{Dimension, taking}
use Rattle.unfold_constants.specs.Evaluation.{Step, ◌>>=◌, done}
use Rattle.unfold_constants.specs.Traversal.{unless}
use Rattle.unfold_declarations.specs.Places.{Place, each_number}

-- an answer behind what was met
abbrev pub behind : {A : Type 0} → A → Result ℕ Fault → Result (A × ℕ) Fault
behind x (Ok count) = Ok (x, count)
behind x (Err fault) = Err fault

-- what is met, and then an answer
abbrev pub reached : {A : Type 0} → List UnfoldEvent → A → Step A
reached events x count = behind x (first_failure count events)

-- the value of an expression that is a constant place of its own
abbrev pub constant : Known → Tree → Step ℤ
constant known e = reached (constant_place known e) (value_or_zero known e)

-- one thing more is counted
abbrev pub count_one : Step (Unit {0})
count_one = reached (Counted ∷ []) tt

-- an index of a constant, and the value there
abbrev pub Entry : Type 0
Entry = List ℤ × ℤ

-- the dimensions of an array, behind those that were found
abbrev pub dimensions : Known → List Dimension → List DimTree → Step (List Dimension)
dimensions known found [] = done found
dimensions known found (d ∷ ds) =
    reached (range_events known None d.range) (numbers_in known d.range) >>= (λ ns. dimensions known (found ++ (record { name = d.binder; numbers = ns }) ∷ []) ds)

-- one element, which is counted
abbrev pub entry : Known → Tree → List ℤ → List Entry → Step (List Entry)
entry known e index found = count_one >>= (λ u. constant known e >>= (λ x. done (found ++ (index, x) ∷ [])))

-- an expression for each index that begins so
abbrev pub fill : Known → List Dimension → Tree → List ℤ → List Entry → Step (List Entry)
fill known [] e index found = entry known e index found
fill known (d ∷ ds) e index found = each_number (λ n more. fill (taking d.name n known) ds e (index ++ n ∷ []) more) d.numbers found

abbrev mutual
  -- initial values for the indices that begin so
  pub part : Known → List Dimension → List ℤ → InitTree → List Entry → Step (List Entry)
  part known ds index (One e) found = fill known ds e index found
  part known [] index (Many at parts) found = done found
  part known (d ∷ ds) index (Many at parts) found =
      unless (nat_eq (length (inits_list parts)) (length d.numbers)) codes.BRACKET_LENGTH at >>= (λ u. parts_in known d.name ds d.numbers index parts found)

  pub parts_in : Known → Option (List ℕ) → List Dimension → List ℤ → List ℤ → InitTrees → List Entry → Step (List Entry)
  parts_in known name ds numbers index no_init found = done found
  parts_in known name ds [] index (init x xs) found = done found
  parts_in known name ds (n ∷ ns) index (init x xs) found =
      part (taking name n known) ds (index ++ n ∷ []) x found >>= (λ more. parts_in known name ds ns index xs more)

-- the elements of a constant
abbrev pub entries : Known → List DimTree → InitTree → Step (List Entry)
entries known dims x = dimensions known [] dims >>= (λ ds. part known ds [] x [])

-- one of the parts of a bracket
abbrev pub part_at : Known → Option (List ℕ) → ℤ → List Dimension → List ℤ → InitTree → List Entry → Step (List Entry)
part_at known name n ds index x found = part (taking name n known) ds (index ++ n ∷ []) x found

-- what is found behind a place where so many dimensions have numbers
abbrev pub inside : List Dimension → Tree → ℕ → Place → List Entry → Step (List Entry)
inside ds e depth place found = fill place.known (drop depth ds) e place.index found

-- the elements of a set, with those that were found
abbrev pub elements : Known → List ℤ → Trees → Step (List ℤ)
elements known found no_tree = done found
elements known found (tree e es) = constant known e >>= (λ x. elements known (insert_key int_cmp found x) es)

-- a set
abbrev pub set_numbers : Known → Trees → Step (List ℤ)
set_numbers known es = elements known [] es >>= (λ ns. reached (too_many codes.NUMBERS (length ns)) ns)
