-- Constraints that are added one by one.
use Rattle.std.proofs.Common.{◌≡◌, ◌∙◌, refl, ap, sym, ℕ, ◌+◌, ◌<◌, List, [], ◌∷◌, map, length, get_or, drop, None, Result, Ok, Err, OnOk}
use Rattle.std.proofs.lemmas.List.{append_assoc, at_drop_more}
use Rattle.std.specs.List.{flat_map}
use Rattle.term_language.specs.Terms.{Cond, Term}
use Rattle.compile_names.specs.declared.setting.Scenarios.{Scenarios}
use Rattle.term_problem.specs.Problems.{ChanceTerms, ProblemTerms}
use Rattle.compile_laws.specs.Measured.{first_large}
use Rattle.compile_scene.specs.Scenes.{root_in}
use Rattle.compile_scene.specs.Works.{Extends, IsReady}
use Rattle.compile_scene.specs.declared.work.Lowering.{Lowering}
use Rattle.sopl_compile.proofs.Sizes.{sizes_more}
use Rattle.sopl_compile.specs.Adding.{Adds, HasWeights, with_chances, with_hards}
use Rattle.sopl_term.specs.Built.{asked_direction, asked_worst, problem_built}

-- several more behind a problem's constraints
pub record IsAppended {X : Type 0} (add : ProblemTerms → List X → ProblemTerms) : Type 0 where
  pub more : (t : ProblemTerms) (x : X) (xs : List X) → add (add t (x ∷ [])) xs ≡ add t (x ∷ xs)
  pub weights : (t : ProblemTerms) (xs : List X) → length (add t xs).weights ≡ length t.weights

pub hards_appended : IsAppended with_hards
hards_appended = record {
  more = λ t x xs. ap (λ (hards : List (List Cond)). record t { hards = hards }) (append_assoc t.hards (x ∷ []) xs);
  weights = λ t xs. refl;
}

pub chances_appended : IsAppended with_chances
chances_appended = record {
  more = λ t x xs. ap (λ (chances : List ChanceTerms). record t { chances = chances }) (append_assoc t.chances (x ∷ []) xs);
  weights = λ t xs. refl;
}

-- what was added gives with what is left what all give, and so do the sizes
pub record AreToAdd {X : Type 0} (add : ProblemTerms → List X → ProblemTerms) (sub : X → List Term) (setting : Scenarios) (before now : Lowering) (left all : List X) : Type 0 where
  pub ready : IsReady setting now
  pub weights : HasWeights setting now
  pub problem : add (problem_built now.builder) left ≡ add (problem_built before.builder) all
  pub direction : asked_direction now.builder ≡ asked_direction before.builder
  pub worst : asked_worst now.builder ≡ asked_worst before.builder
  pub sizes : first_large (root_in setting) (flat_map sub left) ≡ first_large (root_in setting) (flat_map sub all)

-- the weights stay
pub weights_stay : {X : Type 0} (add : ProblemTerms → List X → ProblemTerms) (setting : Scenarios) (before after : Lowering) (xs : List X) → IsAppended add → HasWeights setting before
    → Adds setting before after (add (problem_built before.builder) xs) → HasWeights setting after
weights_stay add setting before after xs appended has adds =
    ap (λ (t : ProblemTerms). length t.weights) adds.problem ∙ (appended.weights (problem_built before.builder) xs ∙ has)

module _ {X : Type 0} (add : ProblemTerms → List X → ProblemTerms) (sub : X → List Term) (setting : Scenarios) (before : Lowering) (appended : IsAppended add) where
  pub to_add_more : (now then : Lowering) (x : X) (left later all : List X) → left ≡ x ∷ later → AreToAdd add sub setting before now left all
      → Adds setting now then (add (problem_built now.builder) (x ∷ [])) → first_large (root_in setting) (sub x) ≡ None → AreToAdd add sub setting before then later all
  to_add_more now then x left later all next so_far adds small = record {
    ready = adds.ready;
    weights = weights_stay add setting now then (x ∷ []) appended so_far.weights adds;
    problem =
        ap (λ (t : ProblemTerms). add t later) adds.problem
        ∙ (appended.more (problem_built now.builder) x later ∙ (sym (ap (add (problem_built now.builder)) next) ∙ so_far.problem));
    direction = adds.direction ∙ so_far.direction;
    worst = adds.worst ∙ so_far.worst;
    sizes = sizes_more (root_in setting) sub left all so_far.sizes x later next small;
  }

-- the first of what is left
pub next_item : {A B : Type 0} (g : A → B) (xs : List A) (i : ℕ) (x d : A) → i < length xs → x ≡ get_or xs i d → map g (drop i xs) ≡ g x ∷ map g (drop (i + 1) xs)
next_item g xs i x d below at = at_drop_more (map g) xs i d below ∙ ap (λ y. g y ∷ map g (drop (i + 1) xs)) (sym at)

-- Additions in a row.

pub adds_then : (setting : Scenarios) (before mid after : Lowering) (terms : ProblemTerms) → Adds setting before mid terms → Extends setting mid after → Adds setting before after terms
adds_then setting before mid after terms adds extends = record {
  ready = extends.ready;
  problem = extends.problem ∙ adds.problem;
  direction = extends.direction ∙ adds.direction;
  worst = extends.worst ∙ adds.worst;
}

pub adds_twice : {X : Type 0} (add : ProblemTerms → List X → ProblemTerms) (setting : Scenarios) (before mid after : Lowering) (terms : ProblemTerms) (xs : List X) → Adds setting before mid terms
    → Adds setting mid after (add (problem_built mid.builder) xs) → Adds setting before after (add terms xs)
adds_twice add setting before mid after terms xs once twice = record {
  ready = twice.ready;
  problem = twice.problem ∙ ap (λ (t : ProblemTerms). add t xs) once.problem;
  direction = twice.direction ∙ once.direction;
  worst = twice.worst ∙ once.worst;
}

pub adds_either : {A E : Type 0} (result : Result A E) (setting : Scenarios) (before mid after : Lowering) (terms : ProblemTerms) → Adds setting before mid terms
    → OnOk result (Extends setting mid after)
    → OnOk result (Adds setting before after terms)
adds_either (Ok x) setting before mid after terms adds extends = adds_then setting before mid after terms adds extends
adds_either (Err e) setting before mid after terms adds extends = tt
