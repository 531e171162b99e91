-- What evaluating declarations of decisions and stochastic variables answers, step by step, with how many things were counted. These steps are the code's
-- own: no public clause cites them.
use Rattle.std.specs.Prelude.{ℕ, ℤ, pos, int_le, ◌&&◌, not, List, [], ◌∷◌, ◌++◌, drop, Option, Some, None}
use Rattle.std.specs.BTreeSet.{insert_key}
use Rattle.std.specs.List.{list_any}
use Rattle.std.specs.Ordering.{int_cmp, int_eq}
use Rattle.sopl_base.specs.declared.codes.TheConstants as codes
use Rattle.sopl_base.specs.declared.limits.TheConstants as largest
use Rattle.sopl_ast.specs.Tree.{Tree, Range, Named, Ends, place_of}
use Rattle.sopl_ast.specs.Whole.{DimTree}
use Rattle.sopl_ast.specs.Numbers.{natural, count_between}
use Rattle.sopl_ast.specs.Known.{Known}
use Rattle.sopl_ast.specs.Instances.{Decision, Outcome, Stochastic, independent}
use Rattle.sopl_ast.specs.Arrays.{Dimension, dimensions_of, taking, dimension_events}
use Rattle.sopl_ast.specs.Declarations.{domain_of}
use Rattle.sopl_ast.specs.UnfoldEvents.{too_many}
use Rattle.unfold_constants.specs.Evaluation.{Step, ◌>>=◌, done}
use Rattle.unfold_constants.specs.Traversal.{unless}
use Rattle.unfold_declarations.specs.Declaring.{reached, constant, count_one}
use Rattle.unfold_declarations.specs.Places.{Place, each_number}

-- a stage that stands at a place
abbrev pub placed_stage : ℕ → ℤ → Step ℕ
placed_stage at x = unless (int_le (pos 1) x && int_le x (pos largest.STAGE)) codes.STAGE at >>= (λ u. done (natural x))

-- a stage
abbrev pub stage : Known → Option Tree → Step ℕ
stage known None = done 1
stage known (Some e) = constant known e >>= (λ x. placed_stage (place_of e) x)

-- a domain that stands at a place, which is not empty
abbrev pub not_empty : ℕ → ℤ × ℤ → Step (ℤ × ℤ)
not_empty at ends = unless (int_le ends.0 ends.1) codes.EMPTY_DOMAIN at >>= (λ u. done ends)

-- 203: too many values
abbrev pub checked_values : ℤ → ℤ → Step (Unit {0})
checked_values lo hi = reached (too_many codes.DOMAIN (count_between lo hi)) tt

-- a domain whose lower end stands at a place, which is not empty and not too large
abbrev pub checked_domain : ℕ → ℤ × ℤ → Step (ℤ × ℤ)
checked_domain at ends = unless (int_le ends.0 ends.1) codes.EMPTY_DOMAIN at >>= (λ u. checked_values ends.0 ends.1 >>= (λ v. done ends))

-- the values of two ends
abbrev pub between : Known → Tree → Tree → Step (ℤ × ℤ)
between known lo hi = constant known lo >>= (λ a. constant known hi >>= (λ b. done (a, b)))

-- a domain
abbrev pub domain : Known → Range → Step (ℤ × ℤ)
domain known (Named name at) = not_empty at (domain_of known (Named name at))
domain known (Ends lo hi) = between known lo hi >>= (λ ends. checked_domain (place_of lo) ends)

-- a value that is none of those before it
abbrev pub new_value : Known → List ℤ → Tree → Step ℤ
new_value known earlier e = constant known e >>= (λ x. unless (not (list_any (int_eq x) earlier)) codes.OUTCOME (place_of e) >>= (λ u. done x))

-- a weight, which is 1 at least
abbrev pub weight : Known → Tree → Step ℤ
weight known e = constant known e >>= (λ x. unless (int_le (pos 1) x) codes.OUTCOME (place_of e) >>= (λ u. done x))

-- an outcome, whose value is none of those before it
abbrev pub outcome : Known → List ℤ → Tree × Tree → Step Outcome
outcome known earlier pair = new_value known earlier pair.0 >>= (λ x. weight known pair.1 >>= (λ w. done (record { value = x; weight = w })))

-- outcomes, behind those that were found
abbrev pub outcomes : Known → List ℤ → List Outcome → List (Tree × Tree) → Step (List Outcome)
outcomes known earlier found [] = done found
outcomes known earlier found (pair ∷ later) =
    outcome known earlier pair >>= (λ o. outcomes known (insert_key int_cmp earlier o.value) (found ++ o ∷ []) later)

-- a domain and a stage
abbrev pub decision_parts : Known → Range → Option Tree → Step ((ℤ × ℤ) × ℕ)
decision_parts known range e = domain known range >>= (λ ends. stage known e >>= (λ k. done (ends, k)))

-- the decision at an index
abbrev pub decision : Known → List ℕ → Range → Option Tree → List ℤ → Step Decision
decision known name range e index =
    domain known range >>= (λ ends. stage known e >>= (λ k. done (record { name = name; index = index; lo = ends.0; hi = ends.1; stage = k })))

-- the stochastic variable at an index
abbrev pub stochastic : Known → List ℕ → List (Tree × Tree) → Option Tree → List ℤ → Step Stochastic
stochastic known name dist e index =
    outcomes known [] [] dist >>= (λ os. stage known e >>= (λ k. done (independent name index os k)))

-- what stands at each index that begins so, behind what was found; each is counted
abbrev pub listed : {A : Type 0} → (Known → List ℤ → Step A) → Known → List Dimension → List ℤ → List A → Step (List A)
listed element known [] index found = count_one >>= (λ u. element known index >>= (λ x. done (found ++ x ∷ [])))
listed element known (d ∷ ds) index found =
    each_number (λ n more. listed element (taking d.name n known) ds (index ++ n ∷ []) more) d.numbers found

-- what is found behind a place where so many dimensions have numbers
abbrev pub inside : {A : Type 0} → (Known → List ℤ → Step A) → List Dimension → ℕ → Place → List A → Step (List A)
inside element ds depth place found = listed element place.known (drop depth ds) place.index found

-- what stands at each index of an array
abbrev pub array : {A : Type 0} → (Known → List ℤ → Step A) → Known → List DimTree → Step (List A)
array element known dims = reached (dimension_events known dims) (dimensions_of known dims) >>= (λ ds. listed element known ds [] [])
