-- Evaluating declarations step by step agrees with what is met in them and with what they state.
use Rattle.std.proofs.Common.{◌≡◌, refl, sym, ap, subst, ◌∙◌, ℕ, nat_eq, ℤ, pos, List, [], ◌∷◌, ◌++◌, length, map, Option, Some, None, Result, Ok, Err}
use Rattle.std.proofs.lemmas.List.{append_assoc, append-nil, map-append}
use Rattle.std.specs.BTreeSet.{insert_key}
use Rattle.std.specs.List.{flat_map, fold}
use Rattle.std.specs.Option.{unwrap_or}
use Rattle.std.specs.Ordering.{int_cmp}
use Rattle.sopl_base.specs.declared.fault.Fault.{Fault}
use Rattle.sopl_base.proofs.Lists.{map-map, map_same}
use Rattle.sopl_base.specs.declared.codes.TheConstants as codes
use Rattle.sopl_ast.specs.Tree.{Tree, Trees, no_tree, tree}
use Rattle.sopl_ast.specs.Lists.{trees_list}
use Rattle.sopl_ast.specs.Whole.{DimTree, InitTree, InitTrees, One, Many, no_init, init, inits_list}
use Rattle.sopl_ast.specs.Known.{Known}
use Rattle.sopl_ast.specs.Constants.{value_or_zero, numbers_in}
use Rattle.sopl_ast.specs.UnfoldEvents.{UnfoldEvent, Counted, first_failure, constant_place, too_many, range_events}
use Rattle.sopl_ast.specs.Arrays.{Dimension, dimensions_of, indices, taking, with_index, dimension_events}
use Rattle.sopl_ast.specs.Declarations.{values_from, values_in, set_of, init_events, inits_events, constant_places}
use Rattle.unfold_constants.specs.Evaluation.{Step}
use Rattle.unfold_constants.proofs.Steps.{Agrees, At, agree_value, agree_events, agree_done, agree_bind, agree_then}
use Rattle.unfold_constants.proofs.TraversalAgreement.{meets_unless}
use Rattle.unfold_declarations.specs.Declaring as s
use Rattle.unfold_declarations.specs.Declaring.{Entry}
use Rattle.unfold_declarations.specs.Places.{each_number}
use Rattle.unfold_declarations.proofs.Indices.{flat_map_indices, map_indices, one_longer}

-- what is met, and then an answer
pub agree_reached : {A : Type 0} (events : List UnfoldEvent) (x : A) → Agrees (s.reached events x) events (Some x)
agree_reached {A} events x = record { at = λ count. on (first_failure count events) }
  where
    on : (m : Result ℕ Fault) → At m (s.behind x m) (Some x)
    on (Ok n) = (x, refl, refl)
    on (Err f) = refl

-- the dimensions of an array
pub agree_dimensions : (dims : List DimTree) (known : Known) (found : List Dimension)
    → Agrees (s.dimensions known found dims) (dimension_events known dims) (Some (found ++ dimensions_of known dims))
agree_dimensions [] known found = agree_done found (Some (found ++ [])) (ap Some (append-nil found))
agree_dimensions (d ∷ ds) known found =
    agree_bind (agree_reached (range_events known None d.range) (numbers_in known d.range)) (λ ns is.
    agree_value
    (ap Some (append_assoc found ((record { name = d.binder; numbers = ns }) ∷ []) (dimensions_of known ds)
    ∙ ap (λ v. found ++ (record { name = d.binder; numbers = unwrap_or v [] }) ∷ dimensions_of known ds) (sym is)))
    (agree_dimensions ds known (found ++ (record { name = d.binder; numbers = ns }) ∷ [])))

-- an element
agree_entry : (known : Known) (e : Tree) (index : List ℤ) (found : List Entry)
    → Agrees (s.entry known e index found) (Counted ∷ constant_place known e) (Some (found ++ (index, value_or_zero known e) ∷ []))
agree_entry known e index found =
    agree_bind (agree_reached (Counted ∷ []) tt) (λ u is.
    agree_then (λ x. found ++ (index, x) ∷ []) (agree_reached (constant_place known e) (value_or_zero known e)) (λ x is. ap (λ v. Some (found ++ (index, unwrap_or v (pos 0)) ∷ [])) is))

-- something for each of some numbers
agree_each : (next : ℤ → List Entry → Step (List Entry)) (marks : ℤ → List UnfoldEvent) (result : ℤ → List Entry)
    → ((n : ℤ) (found : List Entry) → Agrees (next n found) (marks n) (Some (found ++ result n)))
    → (ns : List ℤ) (found : List Entry) → Agrees (each_number next ns found) (flat_map marks ns) (Some (found ++ flat_map result ns))
agree_each next marks result a [] found = agree_done found (Some (found ++ [])) (ap Some (append-nil found))
agree_each next marks result a (n ∷ ns) found =
    agree_bind (a n found) (λ more is.
    agree_value (ap (λ v. Some (unwrap_or v [] ++ flat_map result ns)) (sym is) ∙ ap Some (append_assoc found (result n) (flat_map result ns)))
    (agree_each next marks result a ns more))

-- an expression for each index that begins so
agree_fill : (ds : List Dimension) (known : Known) (e : Tree) (index : List ℤ) (found : List Entry)
    → Agrees (s.fill known ds e index found) (flat_map (λ later. Counted ∷ constant_place (with_index ds later known) e) (indices ds))
    (Some (found ++ map (λ later. (index ++ later, value_or_zero (with_index ds later known) e)) (indices ds)))
agree_fill [] known e index found =
    agree_events (sym (append-nil (Counted ∷ constant_place known e)))
    (agree_value (ap (λ whole. Some (found ++ (whole, value_or_zero known e) ∷ [])) (sym (append-nil index))) (agree_entry known e index found))
agree_fill (d ∷ ds) known e index found =
    agree_events (flat_map_indices (λ later. Counted ∷ constant_place (with_index (d ∷ ds) later known) e) d ds)
    (agree_value (ap (λ more. Some (found ++ more)) (map_indices (λ later. (index ++ later, value_or_zero (with_index (d ∷ ds) later known) e)) d ds))
    (agree_each _ (λ n. flat_map (λ later. Counted ∷ constant_place (with_index ds later (taking d.name n known)) e) (indices ds))
    (λ n. map (λ later. (index ++ n ∷ later, value_or_zero (with_index ds later (taking d.name n known)) e)) (indices ds))
    (λ n more.
    agree_value
    (ap (λ entries. Some (more ++ entries))
    (map_same (λ later. ((index ++ n ∷ []) ++ later, value_or_zero (with_index ds later (taking d.name n known)) e)) _
    (λ later. ap (λ whole. (whole, value_or_zero (with_index ds later (taking d.name n known)) e)) (one_longer index later n)) (indices ds)))
    (agree_fill ds (taking d.name n known) e (index ++ n ∷ []) more))
    d.numbers found))

-- entries behind the prefix of an index
abbrev behind : List ℤ → List Entry → List Entry
behind index entries = map (λ (entry : Entry). (index ++ entry.0, entry.1)) entries

abbrev from : ℤ → List Entry → List Entry
from n entries = map (λ (entry : Entry). (n ∷ entry.0, entry.1)) entries

behind_from : (index : List ℤ) (n : ℤ) (entries : List Entry) → behind (index ++ n ∷ []) entries ≡ behind index (from n entries)
behind_from index n entries =
    map_same (λ (entry : Entry). ((index ++ n ∷ []) ++ entry.0, entry.1)) (λ (entry : Entry). (index ++ n ∷ entry.0, entry.1))
    (λ entry. ap (λ whole. (whole, entry.1)) (one_longer index entry.0 n)) entries
    ∙ sym (map-map (λ (entry : Entry). (index ++ entry.0, entry.1)) (λ (entry : Entry). (n ∷ entry.0, entry.1)) entries)

mutual
  pub agree_part : (x : InitTree) (known : Known) (ds : List Dimension) (index : List ℤ) (found : List Entry)
      → Agrees (s.part known ds index x found) (init_events known ds x) (Some (found ++ behind index (values_from known ds x)))
  agree_part (One e) known ds index found =
      agree_value
      (ap (λ entries. Some (found ++ entries))
      (sym (map-map (λ (entry : Entry). (index ++ entry.0, entry.1)) (λ later. (later, value_or_zero (with_index ds later known) e)) (indices ds))))
      (agree_fill ds known e index found)
  agree_part (Many at parts) known [] index found = agree_done found (Some (found ++ [])) (ap Some (append-nil found))
  agree_part (Many at parts) known (d ∷ ds) index found =
      agree_bind (meets_unless (nat_eq (length (inits_list parts)) (length d.numbers)) codes.BRACKET_LENGTH at) (λ u is.
      agree_parts parts known d.name ds d.numbers index found)

  agree_parts : (xs : InitTrees) (known : Known) (name : Option (List ℕ)) (ds : List Dimension) (ns index : List ℤ) (found : List Entry)
      → Agrees (s.parts_in known name ds ns index xs found) (inits_events known name ds ns xs) (Some (found ++ behind index (values_in known name ds ns xs)))
  agree_parts no_init known name ds ns index found = agree_done found (Some (found ++ [])) (ap Some (append-nil found))
  agree_parts (init x xs) known name ds [] index found = agree_done found (Some (found ++ [])) (ap Some (append-nil found))
  agree_parts (init x xs) known name ds (n ∷ ns) index found =
      agree_bind (agree_part x (taking name n known) ds (index ++ n ∷ []) found) (λ more is.
      agree_value
      (ap (λ v. Some (unwrap_or v [] ++ behind index (values_in known name ds ns xs))) (sym is)
      ∙ ap Some (append_assoc found (behind (index ++ n ∷ []) (values_from (taking name n known) ds x)) (behind index (values_in known name ds ns xs)))
      ∙ ap (λ prefix. Some (found ++ (prefix ++ behind index (values_in known name ds ns xs)))) (behind_from index n (values_from (taking name n known) ds x))
      ∙ ap (λ all. Some (found ++ all))
      (sym (map-append (λ (entry : Entry). (index ++ entry.0, entry.1)) (from n (values_from (taking name n known) ds x)) (values_in known name ds ns xs))))
      (agree_parts xs known name ds ns index more))

same_entries : (entries : List Entry) → behind [] entries ≡ entries
same_entries [] = refl
same_entries (entry ∷ more) = ap (λ rest. entry ∷ rest) (same_entries more)

-- the elements of a constant
pub agree_entries : (known : Known) (dims : List DimTree) (x : InitTree)
    → Agrees (s.entries known dims x) (dimension_events known dims ++ init_events known (dimensions_of known dims) x) (Some (values_from known (dimensions_of known dims) x))
agree_entries known dims x =
    agree_bind (agree_dimensions dims known []) (λ ds is.
    subst (λ v. Agrees (s.part known ds [] x []) (init_events known (unwrap_or v []) x) (Some (values_from known (unwrap_or v []) x))) (sym is)
    (agree_value (ap Some (same_entries (values_from known ds x))) (agree_part x known ds [] [])))

-- the elements of a set
agree_elements : (es : Trees) (known : Known) (found : List ℤ)
    → Agrees (s.elements known found es) (constant_places known es) (Some (fold (insert_key int_cmp) found (map (value_or_zero known) (trees_list es))))
agree_elements no_tree known found = agree_done found _ refl
agree_elements (tree e es) known found =
    agree_bind (agree_reached (constant_place known e) (value_or_zero known e)) (λ x is.
    agree_value (ap (λ v. Some (fold (insert_key int_cmp) (insert_key int_cmp found (unwrap_or v (pos 0))) (map (value_or_zero known) (trees_list es)))) (sym is))
    (agree_elements es known (insert_key int_cmp found x)))

-- a set
pub agree_set : (known : Known) (es : Trees)
    → Agrees (s.set_numbers known es) (constant_places known es ++ too_many codes.NUMBERS (length (set_of known es))) (Some (set_of known es))
agree_set known es =
    agree_bind (agree_elements es known []) (λ ns is.
    subst (λ v. Agrees (s.reached (too_many codes.NUMBERS (length ns)) ns) (too_many codes.NUMBERS (length (unwrap_or v []))) v) (sym is) (agree_reached (too_many codes.NUMBERS (length ns)) ns))
