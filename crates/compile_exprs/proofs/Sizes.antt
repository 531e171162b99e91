-- Which of several terms is too large first.
use Rattle.std.proofs.Common.{◌≡◌, ◌∙◌, ap, subst, List, ◌++◌, None}
use Rattle.sopl_base.specs.declared.fault.Fault.{Fault}
use Rattle.sopl_ast.specs.Numbers.{or_else}
use Rattle.box_problem.specs.Box.{Box}
use Rattle.term_language.specs.Terms.{Term}
use Rattle.compile_laws.specs.Measured.{first_large}
use Rattle.compile_laws.proofs.Measuring.{faults_end, faults_in_turn, large_in_turn}
use Rattle.compile_exprs.specs.Made.{SizesFail}

-- none of these
abbrev pub AreSmall : Box → List Term → Type 0
AreSmall root xs = first_large root xs ≡ None

-- behind others that are not
pub large_behind : (root : Box) (xs ys : List Term) → AreSmall root xs → first_large root (xs ++ ys) ≡ first_large root ys
large_behind root xs ys small = large_in_turn root xs ys ∙ ap (λ o. or_else o (first_large root ys)) small

pub both_small : (root : Box) (xs ys : List Term) → AreSmall root xs → AreSmall root ys → AreSmall root (xs ++ ys)
both_small root xs ys small more = large_behind root xs ys small ∙ more

-- a fault that some of them give is one that all give, where those before are small
pub fails_first : (root : Box) (xs ys : List Term) (fault : Fault) → SizesFail root xs fault → SizesFail root (xs ++ ys) fault
fails_first root xs ys fault f = record { large = faults_end root xs ys fault f.large }

pub fails_later : (root : Box) (xs ys : List Term) (fault : Fault) → AreSmall root xs → SizesFail root ys fault → SizesFail root (xs ++ ys) fault
fails_later root xs ys fault small f = record { large = faults_in_turn root xs ys fault small f.large }

-- those of the same terms
pub listed_fault : (root : Box) (xs ys : List Term) (fault : Fault) → xs ≡ ys → SizesFail root xs fault → SizesFail root ys fault
listed_fault root xs ys fault same is = subst (λ l. SizesFail root l fault) same is
