-- The scenarios in which a condition mentions a cell.
use Rattle.std.proofs.Common.{◌≡◌, ◌∙◌, ℕ, ◌+◌, ◌<◌, Bool, List, [], ◌∷◌, ◌++◌, Option, Some, if◌then◌else◌, length, get_or, arith, ap, subst, sym}
use Rattle.std.specs.List.{filter, range_with_len}
use Rattle.std.specs.Option.{option_map_or}
use Rattle.std.proofs.lemmas.List.Elements.{All-filter, filter-append}
use Rattle.std.proofs.lemmas.List.FromFn.{get_or-range_with_len, length-range_with_len}
use Rattle.sopl_base.proofs.Lists.{range_more}
use Rattle.box_problem.specs.Box.{Box}
use Rattle.term_language.specs.Terms.{Cond}
use Rattle.term_language.specs.Mentions.{cond_mentions}
use Rattle.term_problem.specs.Problems.{ProblemTerms}
use Rattle.term_program.specs.Mentions.{IsListOf}
use Rattle.prop_shave.proofs.Mentioned.{listed_is}
use Rattle.prop_shave.specs.Sums.{has_cell}
use Rattle.prop_shave.specs.ChanceSums.{condition_in, is_touched}

-- a scenario whose condition's cells are listed
pub touched_is : (root : Box) (terms : ProblemTerms) (instance scenario cell : ℕ) (cond : Cond) (cells : List ℕ) (answer : Bool) → condition_in terms instance scenario ≡ Some cond
    → IsListOf (cond_mentions root cond) cells → answer ≡ has_cell cell cells → answer ≡ is_touched root terms instance cell scenario
touched_is root terms instance scenario cell cond cells answer at listed is =
    is
    ∙ listed_is cell (cond_mentions root cond) cells listed
    ∙ sym (ap (λ (o : Option Cond). has_cell cell (option_map_or (cond_mentions root) o [])) at)

-- one scenario more
pub touched_more : (test : ℕ → Bool) (n : ℕ) (old new : List ℕ) (wanted : Bool) → old ≡ filter test (range_with_len 0 n) → wanted ≡ test n → new ≡ old ++ (if wanted then n ∷ [] else [])
    → new ≡ filter test (range_with_len 0 (n + 1))
touched_more test n old new wanted so_far is put =
    put
    ∙ ap (λ (list : List ℕ). list ++ (if wanted then n ∷ [] else [])) so_far
    ∙ ap (λ (b : Bool). filter test (range_with_len 0 n) ++ (if b then n ∷ [] else [])) is
    ∙ sym (ap (filter test) (range_more n) ∙ filter-append test (range_with_len 0 n) (n ∷ []))

-- each of them is one of all
pub below_all : (test : ℕ → Bool) (n : ℕ) (list : List ℕ) (i d : ℕ) → list ≡ filter test (range_with_len 0 n) → i < length list → get_or list i d < n
below_all test n list i d is exists =
    subst (λ (xs : List ℕ). i < length xs → get_or xs i d < n) (sym is)
    (λ below. All-filter test (λ k. k < n) (range_with_len 0 n) each i d below) exists
  where
    each : (k e : ℕ) → k < length (range_with_len 0 n) → get_or (range_with_len 0 n) k e < n
    each k e below =
        let count = length-range_with_len 0 n in
        let at = get_or-range_with_len 0 n k e (omega (arith, below, count)) in
        omega (arith, at, below, count)
