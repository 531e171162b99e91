-- What each declaration states, and what is met in it.
use Rattle.std.specs.Prelude.{ℕ, nat_eq, ℤ, pos, int_le, not, ◌&&◌, List, [], ◌∷◌, ◌++◌, length, map, Option, Some, None}
use Rattle.std.specs.BTreeSet.{insert_key}
use Rattle.std.specs.List.{flat_map, fold, list_any}
use Rattle.std.specs.Ordering.{int_cmp, int_eq}
use Rattle.sopl_base.specs.declared.codes.TheConstants as codes
use Rattle.sopl_base.specs.declared.limits.TheConstants as largest
use Rattle.sopl_ast.specs.Tree.{Tree, Trees, no_tree, tree, Range, Named, Ends, place_of}
use Rattle.sopl_ast.specs.Lists.{trees_list}
use Rattle.sopl_ast.specs.Whole.{DimTree, InitTree, InitTrees, One, Many, no_init, init, inits_list, Declaration, IntDecl, RangeDecl, SetDecl, DvarDecl, StochDecl}
use Rattle.sopl_ast.specs.Numbers.{natural, count_between}
use Rattle.sopl_ast.specs.Known.{Constant, Between, Listed, Known, nothing_known, set_named, ends_of}
use Rattle.sopl_ast.specs.Constants.{value_or_zero}
use Rattle.sopl_ast.specs.UnfoldEvents.{UnfoldEvent, Counted, refused_unless, too_many, constant_place, range_events}
use Rattle.sopl_ast.specs.Instances.{Decision, Outcome, Stochastic, independent}
use Rattle.sopl_ast.specs.Arrays.{Dimension, dimensions_of, indices, taking, with_index, array_of, dimension_events, array_events}

-- what was found in the declarations so far: what is known, the decisions, and the stochastic variables, each in text order
pub record Declared : Type 0 where
  pub known : Known
  pub decisions : List Decision
  pub stochastics : List Stochastic

-- nothing was found yet
abbrev pub nothing_declared : Declared
nothing_declared = record { known = nothing_known; decisions = []; stochastics = [] }

-- Constants.

abbrev mutual
  -- the indices of an array with the initial values there: one expression gives all of them, and a bracket gives them in order
  pub values_from : Known → List Dimension → InitTree → List (List ℤ × ℤ)
  values_from known ds (One e) = map (λ index. (index, value_or_zero (with_index ds index known) e)) (indices ds)
  values_from known [] (Many at parts) = []
  values_from known (d ∷ ds) (Many at parts) = values_in known d.name ds d.numbers parts

  -- the parts of a bracket go with the numbers of its index set, side by side
  pub values_in : Known → Option (List ℕ) → List Dimension → List ℤ → InitTrees → List (List ℤ × ℤ)
  values_in known name ds numbers no_init = []
  values_in known name ds [] (init x xs) = []
  values_in known name ds (number ∷ numbers) (init x xs) =
      map (λ (entry : List ℤ × ℤ). (number ∷ entry.0, entry.1)) (values_from (taking name number known) ds x) ++ values_in known name ds numbers xs

-- the elements of a constant
abbrev pub constants_of : Known → List ℕ → List DimTree → InitTree → List Constant
constants_of known name dims x =
    map (λ (entry : List ℤ × ℤ). record { name = name; index = entry.0; value = entry.1 }) (values_from known (dimensions_of known dims) x)

abbrev mutual
  -- initial values: each element is counted; a bracket is refused by 112 where it has another number of parts than its index set has elements
  pub init_events : Known → List Dimension → InitTree → List UnfoldEvent
  init_events known ds (One e) = flat_map (λ index. Counted ∷ constant_place (with_index ds index known) e) (indices ds)
  init_events known [] (Many at parts) = []
  init_events known (d ∷ ds) (Many at parts) =
      refused_unless (nat_eq (length (inits_list parts)) (length d.numbers)) codes.BRACKET_LENGTH at ++ inits_events known d.name ds d.numbers parts

  -- the parts of a bracket
  pub inits_events : Known → Option (List ℕ) → List Dimension → List ℤ → InitTrees → List UnfoldEvent
  inits_events known name ds numbers no_init = []
  inits_events known name ds [] (init x xs) = []
  inits_events known name ds (number ∷ numbers) (init x xs) = init_events (taking name number known) ds x ++ inits_events known name ds numbers xs

-- the declaration of a constant
abbrev pub int_events : Known → List DimTree → InitTree → List UnfoldEvent
int_events known dims x = dimension_events known dims ++ init_events known (dimensions_of known dims) x

-- Ranges and sets.

-- the elements of a set, in ascending order, each once
abbrev pub set_of : Known → Trees → List ℤ
set_of known elements = fold (insert_key int_cmp) [] (map (value_or_zero known) (trees_list elements))

-- expressions that are constant places of their own
abbrev pub constant_places : Known → Trees → List UnfoldEvent
constant_places known no_tree = []
constant_places known (tree e es) = constant_place known e ++ constant_places known es

-- the declaration of a set, which has 65536 elements at most (208)
abbrev pub set_events : Known → Trees → List UnfoldEvent
set_events known elements = constant_places known elements ++ too_many codes.NUMBERS (length (set_of known elements))

-- Decisions and stochastic variables.

-- a stage, which is 1 where none is written
abbrev pub stage_of : Known → Option Tree → ℕ
stage_of known None = 1
stage_of known (Some e) = natural (value_or_zero known e)

-- 114: a stage is not 1 to 24
abbrev pub stage_events : Known → Option Tree → List UnfoldEvent
stage_events known None = []
stage_events known (Some e) =
    constant_place known e ++ refused_unless (int_le (pos 1) (value_or_zero known e) && int_le (value_or_zero known e) (pos largest.STAGE)) codes.STAGE (place_of e)

-- the ends of a domain
abbrev pub domain_of : Known → Range → ℤ × ℤ
domain_of known (Named name at) = ends_of (set_named name known.sets)
domain_of known (Ends lo hi) = (value_or_zero known lo, value_or_zero known hi)

-- 111: a domain is empty; 203: it has too many values; a range that is named was looked at where it was declared
abbrev pub domain_events : Known → Range → List UnfoldEvent
domain_events known (Named name at) =
    refused_unless (int_le (domain_of known (Named name at)).0 (domain_of known (Named name at)).1) codes.EMPTY_DOMAIN at
domain_events known (Ends lo hi) =
    constant_place known lo
    ++ (constant_place known hi
    ++ (refused_unless (int_le (value_or_zero known lo) (value_or_zero known hi)) codes.EMPTY_DOMAIN (place_of lo)
    ++ too_many codes.DOMAIN (count_between (value_or_zero known lo) (value_or_zero known hi))))

-- a value and its weight
abbrev pub outcome_of : Known → Tree × Tree → Outcome
outcome_of known pair = record { value = value_or_zero known pair.0; weight = value_or_zero known pair.1 }

-- 113: a value stands earlier in its distribution, or a weight is below 1
abbrev pub outcome_events : Known → List ℤ → List (Tree × Tree) → List UnfoldEvent
outcome_events known earlier [] = []
outcome_events known earlier (pair ∷ later) =
    constant_place known pair.0
    ++ (refused_unless (not (list_any (int_eq (value_or_zero known pair.0)) earlier)) codes.OUTCOME (place_of pair.0)
    ++ (constant_place known pair.1
    ++ (refused_unless (int_le (pos 1) (value_or_zero known pair.1)) codes.OUTCOME (place_of pair.1)
    ++ outcome_events known (earlier ++ value_or_zero known pair.0 ∷ []) later)))

-- the decisions of a declaration, in the order of their indices
abbrev pub decisions_of : Known → List ℕ → List DimTree → Range → Option Tree → List Decision
decisions_of known name dims range stage =
    array_of known dims (λ index here.
    record { name = name; index = index; lo = (domain_of here range).0; hi = (domain_of here range).1; stage = stage_of here stage })

-- the stochastic variables of a declaration, in the order of their indices
abbrev pub stochastics_of : Known → List ℕ → List DimTree → List (Tree × Tree) → Option Tree → List Stochastic
stochastics_of known name dims dist stage =
    array_of known dims (λ index here. independent name index (map (outcome_of here) dist) (stage_of here stage))

-- Declarations in order.

-- what was found behind a declaration
abbrev pub behind : Declaration → Declared → Declared
behind (IntDecl name at dims x) found =
    record found { known = record found.known { constants = found.known.constants ++ constants_of found.known name dims x } }
behind (RangeDecl name at lo hi) found =
    record found { known = record found.known { sets = found.known.sets ++ (record { name = name; numbers = Between (value_or_zero found.known lo) (value_or_zero found.known hi) }) ∷ [] } }
behind (SetDecl name at elements) found =
    record found { known = record found.known { sets = found.known.sets ++ (record { name = name; numbers = Listed (set_of found.known elements) }) ∷ [] } }
behind (DvarDecl name at dims range stage) found =
    record found { decisions = found.decisions ++ decisions_of found.known name dims range stage }
behind (StochDecl name at dims dist stage) found =
    record found { stochastics = found.stochastics ++ stochastics_of found.known name dims dist stage }

-- what is met in a declaration
abbrev pub declaration_events : Declared → Declaration → List UnfoldEvent
declaration_events found (IntDecl name at dims x) = int_events found.known dims x
declaration_events found (RangeDecl name at lo hi) = range_events found.known None (Ends lo hi)
declaration_events found (SetDecl name at elements) = set_events found.known elements
declaration_events found (DvarDecl name at dims range stage) =
    array_events found.known dims (λ here. domain_events here range ++ stage_events here stage)
declaration_events found (StochDecl name at dims dist stage) =
    array_events found.known dims (λ here. outcome_events here [] dist ++ stage_events here stage)

-- what was found behind declarations
abbrev pub behind_all : List Declaration → Declared → Declared
behind_all [] found = found
behind_all (d ∷ ds) found = behind_all ds (behind d found)

-- what is met in declarations, each with what was found before it
abbrev pub declarations_events : Declared → List Declaration → List UnfoldEvent
declarations_events found [] = []
declarations_events found (d ∷ ds) = declaration_events found d ++ declarations_events (behind d found) ds
