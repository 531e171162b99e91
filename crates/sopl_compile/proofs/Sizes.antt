-- Which sizes are left where those so far are small.
use Rattle.std.proofs.Common.{◌≡◌, ◌∙◌, ap, sym, List, [], ◌∷◌, ◌++◌, None}
use Rattle.std.specs.List.{flat_map}
use Rattle.sopl_base.specs.declared.fault.Fault.{Fault}
use Rattle.sopl_ast.specs.Numbers.{or_else}
use Rattle.box_problem.specs.Box.{Box}
use Rattle.term_language.specs.Terms.{Term}
use Rattle.compile_laws.specs.Measured.{IsSizeFault, first_large}
use Rattle.compile_laws.proofs.Measuring.{faults_end, large_in_turn, same_fault}

-- behind small ones
pub behind_small : (root : Box) (xs ys : List Term) → first_large root xs ≡ None → first_large root (xs ++ ys) ≡ first_large root ys
behind_small root xs ys small = large_in_turn root xs ys ∙ ap (λ o. or_else o (first_large root ys)) small

module _ {A : Type 0} (root : Box) (sub : A → List Term) (left all : List A) (so_far : first_large root (flat_map sub left) ≡ first_large root (flat_map sub all)) where
  pub sizes_more : (x : A) (later : List A) → left ≡ x ∷ later → first_large root (sub x) ≡ None → first_large root (flat_map sub later) ≡ first_large root (flat_map sub all)
  sizes_more x later next small =
      sym (behind_small root (sub x) (flat_map sub later) small) ∙ (sym (ap (λ xs. first_large root (flat_map sub xs)) next) ∙ so_far)

  pub sizes_none : left ≡ [] → first_large root (flat_map sub all) ≡ None
  sizes_none none = sym so_far ∙ ap (λ xs. first_large root (flat_map sub xs)) none

  pub sizes_fault : (x : A) (later : List A) (fault : Fault) → left ≡ x ∷ later → IsSizeFault root (sub x) fault → IsSizeFault root (flat_map sub all) fault
  sizes_fault x later fault next large =
      same_fault root (sub x ++ flat_map sub later) (flat_map sub all) fault (sym (ap (λ xs. first_large root (flat_map sub xs)) next) ∙ so_far)
      (faults_end root (sub x) (flat_map sub later) fault large)
