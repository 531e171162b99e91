-- The names of a text own the indices of their elements, where the text has no mistake and nothing stops its unfolding.
use Rattle.std.proofs.Common.{◌≡◌, ◌∙◌, refl, sym, ap, subst, arith, ℕ, ℤ, true, List, [], ◌∷◌, ◌++◌, length, map, Option, Some, None, if◌then◌else◌}
use Rattle.std.proofs.lemmas.List.{length-map}
use Rattle.std.proofs.lemmas.Slice.Eq.{bytes_eq-Decides}
use Rattle.std.specs.Cmp.Lexicographic.{nat_list_eq_equiv}
use Rattle.std.specs.List.{flat_map}
use Rattle.std.specs.Str.{bytes_eq}
use Rattle.sopl_ast.specs.Whole.{DimTree, Declaration, IntDecl, RangeDecl, SetDecl, DvarDecl, StochDecl}
use Rattle.sopl_ast.specs.Known.{Constant}
use Rattle.sopl_ast.specs.Mistakes as mistake
use Rattle.sopl_ast.specs.Mistakes.{Entity, Variable, RangeName, SetName, Scope, entity_of, known_name, wrong_depths, first_of, bind_dims, of_dims, of_init, of_declaration}
use Rattle.sopl_ast.specs.Mistakes.{declare, no_names, of_declarations, declare_all}
use Rattle.sopl_ast.specs.Instances.{Decision, Stochastic, independent}
use Rattle.sopl_ast.specs.Arrays as ast
use Rattle.sopl_ast.specs.Arrays.{Dimension, dimensions_of, dimension_events, with_index}
use Rattle.sopl_ast.specs.Declarations.{Declared, nothing_declared, values_from, init_events, constants_of, decisions_of, stochastics_of, domain_of, stage_of, outcome_of}
use Rattle.sopl_ast.specs.Declarations.{behind, behind_all, declaration_events, declarations_events}
use Rattle.unfold_laws.specs.Passing.{NothingFails}
use Rattle.unfold_laws.proofs.Passing.{parts_pass}
use Rattle.term_language.specs.Arrays.{indices}
use Rattle.compile_laws.proofs.Initials.{none_both, first_none, index_of, values_full}
use Rattle.compile_laws.proofs.Owned.{named, named_append, named_map, exactly_those, IsOwned, AreMore, more_last, more_first, more_behind, owned_more, owned_named}

-- the indices of the constants, the stochastic variables and the decisions of a name
abbrev pub of_constants : List ℕ → List Constant → List (List ℤ)
of_constants name ks = named (λ (k : Constant). k.name) (λ (k : Constant). k.index) name ks

abbrev pub of_stochastics : List ℕ → List Stochastic → List (List ℤ)
of_stochastics name ss = named (λ (s : Stochastic). s.name) (λ (s : Stochastic). s.index) name ss

abbrev pub of_decisions : List ℕ → List Decision → List (List ℤ)
of_decisions name ds = named (λ (d : Decision). d.name) (λ (d : Decision). d.index) name ds

-- the indices of all elements of a name
abbrev pub all_named : List ℕ → Declared → List (List ℤ)
all_named name found = of_constants name found.known.constants ++ (of_stochastics name found.stochastics ++ of_decisions name found.decisions)

-- the numbers of the index sets of dimensions
abbrev numbers_of : List Dimension → List (List ℤ)
numbers_of ds = map (λ (d : Dimension). d.numbers) ds

same_indices : (ds : List Dimension) → ast.indices ds ≡ indices (numbers_of ds)
same_indices [] = refl
same_indices (d ∷ ds) = ap (λ is. flat_map (λ number. map (λ later. number ∷ later) is) d.numbers) (same_indices ds)

map_self : (is : List (List ℤ)) → map (λ index. index) is ≡ is
map_self [] = refl
map_self (index ∷ is) = ap (λ later. index ∷ later) (map_self is)

-- a name that is declared was not known
not_known : (o : Option Entity) (at : ℕ) → known_name o at ≡ [] → o ≡ None
not_known None at right = refl
not_known (Some entity) at right = absurd (cc)

new_name : (scope : Scope) (own name : List ℕ) (at : ℕ) → known_name (entity_of scope own) at ≡ [] → bytes_eq own name ≡ true → entity_of scope name ≡ None
new_name scope own name at right same =
    subst (λ n. entity_of scope n ≡ None) ((bytes_eq-Decides own name).0 same) (not_known (entity_of scope own) at right)

-- more things of one name, behind others
grown : {A X : Type 0} (name_of : A → List ℕ) (place_of : A → List ℤ) (own name : List ℕ) (before : List A) (f : X → A) → ((x : X) → name_of (f x) ≡ own) → (xs : List X)
    → named name_of place_of name (before ++ map f xs) ≡ named name_of place_of name before ++ (if bytes_eq own name then map (λ x. place_of (f x)) xs else [])
grown name_of place_of own name before f same xs =
    named_append name_of place_of name before (map f xs)
    ∙ ap (λ is. named name_of place_of name before ++ is)
    (named_map name_of place_of name f (bytes_eq own name) (λ x. ap (bytes_eq name) (same x) ∙ nat_list_eq_equiv.symm name own) xs)

owned_behind : (d : Declaration) (scope : Scope) (found : Declared) (name : List ℕ) → of_declaration scope d ≡ [] → NothingFails (declaration_events found d)
    → IsOwned (entity_of scope name) (all_named name found) → IsOwned (entity_of (declare d scope) name) (all_named name (behind d found))
owned_behind (IntDecl own at dims x) scope found name right passes owned =
    owned_more (bytes_eq own name) (mistake.Constant (length dims)) (entity_of scope name) (all_named name found) (map index_of values) (all_named name (behind (IntDecl own at dims x) found))
    (numbers_of ds) (new_name scope own name at rights.0) owned (exactly_those (numbers_of ds) (map index_of values) (full ∙ same_indices ds))
    (subst (λ is. AreMore (all_named name found) more (is ++ rest)) (sym longer) (more_first (of_constants name found.known.constants) more rest))
  where
    ds : List Dimension
    ds = dimensions_of found.known dims

    values : List (List ℤ × ℤ)
    values = values_from found.known ds x

    rest : List (List ℤ)
    rest = of_stochastics name found.stochastics ++ of_decisions name found.decisions

    more : List (List ℤ)
    more = if bytes_eq own name then map index_of values else []

    rights : (known_name (entity_of scope own) at ≡ [])
        × (of_dims scope scope dims ++ (of_init (bind_dims dims scope) x ++ first_of (wrong_depths (length dims) 0 x)) ≡ [])
    rights = none_both (known_name (entity_of scope own) at) (of_dims scope scope dims ++ (of_init (bind_dims dims scope) x ++ first_of (wrong_depths (length dims) 0 x))) right

    deep : wrong_depths (length dims) 0 x ≡ []
    deep =
        first_none (wrong_depths (length dims) 0 x)
        (none_both (of_init (bind_dims dims scope) x) (first_of (wrong_depths (length dims) 0 x))
        (none_both (of_dims scope scope dims) (of_init (bind_dims dims scope) x ++ first_of (wrong_depths (length dims) 0 x)) rights.1).1).1

    many : length ds ≡ length dims
    many = length-map dims (λ (d : DimTree). record { name = d.binder; numbers = _ })

    full : map index_of values ≡ ast.indices ds
    full =
        values_full x found.known ds (length dims) 0 (let h = many in omega (arith, h)) deep
        (parts_pass (dimension_events found.known dims) (init_events found.known ds x) passes).1

    longer : of_constants name (found.known.constants ++ constants_of found.known own dims x) ≡ of_constants name found.known.constants ++ more
    longer =
        grown (λ (k : Constant). k.name) (λ (k : Constant). k.index) own name found.known.constants
        (λ (entry : List ℤ × ℤ). record { name = own; index = entry.0; value = entry.1 }) (λ entry. refl) values
owned_behind (RangeDecl own at lo hi) scope found name right passes owned = owned_named (bytes_eq own name) RangeName (entity_of scope name) (all_named name found) owned
owned_behind (SetDecl own at elements) scope found name right passes owned = owned_named (bytes_eq own name) SetName (entity_of scope name) (all_named name found) owned
owned_behind (DvarDecl own at dims range stage) scope found name right passes owned =
    owned_more (bytes_eq own name) (Variable (length dims)) (entity_of scope name) (all_named name found) (map (λ index. index) (ast.indices ds))
    (all_named name (behind (DvarDecl own at dims range stage) found)) (numbers_of ds)
    (new_name scope own name at (none_both (known_name (entity_of scope own) at) _ right).0) owned
    (exactly_those (numbers_of ds) (map (λ index. index) (ast.indices ds)) (map_self (ast.indices ds) ∙ same_indices ds))
    (subst (λ is. AreMore (all_named name found) more (of_constants name found.known.constants ++ (of_stochastics name found.stochastics ++ is))) (sym longer)
    (more_behind (of_constants name found.known.constants) (of_stochastics name found.stochastics ++ of_decisions name found.decisions) more _
    (more_behind (of_stochastics name found.stochastics) (of_decisions name found.decisions) more _ (more_last (of_decisions name found.decisions) more))))
  where
    ds : List Dimension
    ds = dimensions_of found.known dims

    more : List (List ℤ)
    more = if bytes_eq own name then map (λ index. index) (ast.indices ds) else []

    longer : of_decisions name (found.decisions ++ decisions_of found.known own dims range stage) ≡ of_decisions name found.decisions ++ more
    longer =
        grown (λ (d : Decision). d.name) (λ (d : Decision). d.index) own name found.decisions
        (λ index. record {
          name = own;
          index = index;
          lo = (domain_of (with_index ds index found.known) range).0;
          hi = (domain_of (with_index ds index found.known) range).1;
          stage =
              stage_of (with_index ds index found.known) stage;
        })
        (λ index. refl) (ast.indices ds)
owned_behind (StochDecl own at dims dist stage) scope found name right passes owned =
    owned_more (bytes_eq own name) (Variable (length dims)) (entity_of scope name) (all_named name found) (map (λ index. index) (ast.indices ds))
    (all_named name (behind (StochDecl own at dims dist stage) found)) (numbers_of ds)
    (new_name scope own name at (none_both (known_name (entity_of scope own) at) _ right).0) owned
    (exactly_those (numbers_of ds) (map (λ index. index) (ast.indices ds)) (map_self (ast.indices ds) ∙ same_indices ds))
    (subst (λ is. AreMore (all_named name found) more (of_constants name found.known.constants ++ (is ++ of_decisions name found.decisions))) (sym longer)
    (more_behind (of_constants name found.known.constants) (of_stochastics name found.stochastics ++ of_decisions name found.decisions) more _
    (more_first (of_stochastics name found.stochastics) more (of_decisions name found.decisions))))
  where
    ds : List Dimension
    ds = dimensions_of found.known dims

    more : List (List ℤ)
    more = if bytes_eq own name then map (λ index. index) (ast.indices ds) else []

    longer : of_stochastics name (found.stochastics ++ stochastics_of found.known own dims dist stage) ≡ of_stochastics name found.stochastics ++ more
    longer =
        grown (λ (s : Stochastic). s.name) (λ (s : Stochastic). s.index) own name found.stochastics
        (λ index. independent own index (map (outcome_of (with_index ds index found.known)) dist) (stage_of (with_index ds index found.known) stage))
        (λ index. refl) (ast.indices ds)

owned_behind_all : (ds : List Declaration) (scope : Scope) (found : Declared) (name : List ℕ) → of_declarations scope ds ≡ [] → NothingFails (declarations_events found ds)
    → IsOwned (entity_of scope name) (all_named name found) → IsOwned (entity_of (declare_all ds scope) name) (all_named name (behind_all ds found))
owned_behind_all [] scope found name right passes owned = owned
owned_behind_all (d ∷ ds) scope found name right passes owned =
    let rights = none_both (of_declaration scope d) (of_declarations (declare d scope) ds) right in
    let both = parts_pass (declaration_events found d) (declarations_events (behind d found) ds) passes in
    owned_behind_all ds (declare d scope) (behind d found) name rights.1 both.1 (owned_behind d scope found name rights.0 both.0 owned)

-- before the first declaration no name has an element
nothing_owned : (name : List ℕ) → IsOwned (entity_of no_names name) (all_named name nothing_declared)
nothing_owned name =
    record { sets = [] ∷ []; exact = record { all = λ index h. absurd h; only = λ index h. absurd h }; absent = λ none index h. absurd h }

pub declared_owned : (ds : List Declaration) (name : List ℕ) → of_declarations no_names ds ≡ [] → NothingFails (declarations_events nothing_declared ds)
    → IsOwned (entity_of (declare_all ds no_names) name) (all_named name (behind_all ds nothing_declared))
declared_owned ds name right passes = owned_behind_all ds no_names nothing_declared name right passes (nothing_owned name)
