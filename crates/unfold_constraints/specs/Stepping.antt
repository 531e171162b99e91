-- What walking through constraints answers, step by step, with how many things were counted. These steps are the code's own: no public clause cites them.
use Rattle.std.specs.Prelude.{ℕ, ◌+◌, ℤ, List, [], ◌∷◌, ◌++◌, drop, length, None}
use Rattle.sopl_base.specs.declared.codes.TheConstants as codes
use Rattle.sopl_ast.specs.Instances.{Hard, Chance}
use Rattle.sopl_ast.specs.Known.{Binding, Known, with_bound}
use Rattle.sopl_ast.specs.Lists.{BinderTree, binders}
use Rattle.sopl_ast.specs.Tree.{Tree, Binders, no_binder, binder, place_of}
use Rattle.sopl_ast.specs.Unfolding.{conditions_of, is_threshold}
use Rattle.sopl_ast.specs.Whole.{ConsTree, ConsTrees, ForallTree, BlockTree, HardTree, ChanceTree, no_cons, cons}
use Rattle.unfold_constants.specs.Evaluation.{Step, ◌>>=◌, done, count_one, for_each, number, range_numbers}
use Rattle.unfold_constants.specs.Traversal.{walk, unless}

-- the instances that were found, hard ones and chance ones
pub record Found : Type 0 where
  pub hards : List Hard
  pub chances : List Chance

-- no instance was found
abbrev pub nothing_found : Found
nothing_found = record { hards = []; chances = [] }

-- an instance of a hard constraint behind those that were found
abbrev pub with_hard : Found → ℕ → List Binding → Found
with_hard found text bound = record found { hards = found.hards ++ (record { text = text; bound = bound }) ∷ [] }

-- an instance of a chance constraint behind those that were found
abbrev pub with_chance : Found → ℕ → List Binding → ℤ → ℤ → Found
with_chance found text bound p q = record found { chances = found.chances ++ (record { text = text; bound = bound; p = p; q = q }) ∷ [] }

-- an instance is counted, and its condition is met
abbrev pub condition : Known → Tree → Step (Unit {0})
condition known e = count_one >>= (λ u. walk known e)

-- the parts of a threshold, and then the threshold
abbrev pub threshold : Known → Tree → Tree → Step (ℤ × ℤ)
threshold known part whole =
    number known (place_of part) part >>= (λ p. number known (place_of whole) whole >>= (λ q. unless (is_threshold p q) codes.THRESHOLD (place_of part) >>= (λ u. done (p, q))))

-- a hard constraint, of which the condition has this number
abbrev pub hard : Known → ℕ → Tree → Found → Step Found
hard known text e found = condition known e >>= (λ u. done (with_hard found text known.bound))

-- a chance constraint, of which the condition has this number
abbrev pub chance : Known → ℕ → Tree → Tree → Tree → Found → Step Found
chance known text e p q found = condition known e >>= (λ u. threshold known p q >>= (λ t. done (with_chance found text known.bound t.0 t.1)))

-- what is found for each way in which binders take their values, the last one fastest
abbrev pub over : Known → Binders → (Known → Found → Step Found) → Found → Step Found
over known no_binder body found = body known found
over known (binder name at range more) body found =
    range_numbers known None range >>= (λ ns. for_each (λ n more_found. over (with_bound name n known) more body more_found) ns found)

abbrev mutual
  -- a constraint, of which the first condition has this number
  pub constraint : Known → ℕ → ConsTree → Found → Step Found
  constraint known first (ForallTree bs c) found = over known bs (λ here more. constraint here first c more) found
  constraint known first (BlockTree cs) found = constraints known first cs found
  constraint known first (HardTree e) found = hard known first e found
  constraint known first (ChanceTree e p q) found = chance known first e p q found

  -- constraints, of which the first condition has this number
  pub constraints : Known → ℕ → ConsTrees → Found → Step Found
  constraints known first no_cons found = done found
  constraints known first (cons c cs) found =
      constraint known first c found >>= (λ more. constraints known (first + length (conditions_of c)) cs more)

-- a constraint at each place
abbrev pub part : ℕ → ConsTree → Known → Found → Step Found
part first c here found = constraint here first c found

-- what is found for binders of which so many have values
abbrev pub inside : List BinderTree → (Known → Found → Step Found) → ℕ → Known → Found → Step Found
inside bs body depth here found = over here (binders (drop depth bs)) body found
