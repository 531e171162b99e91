-- Choices that are open inside one another, each among the numbers that it has not had yet; the innermost is listed first, and takes its numbers fastest. What
-- is known at a place is a state: `give` is the state where a choice has taken a number, and `leave` the one where it has given its number up. Only contracts of
-- code that walks through choices cite this, and none that speaks of texts alone.
use Rattle.std.specs.Prelude.{◌≡◌, ℕ, ℤ, List, [], ◌∷◌, length, map, reverse, Option, Some, None, Result, Ok, Err}
use Rattle.sopl_base.specs.declared.fault.Fault.{Fault}
use Rattle.sopl_ast.specs.Known.{Known, with_bound}
use Rattle.unfold_tables.specs.Tables.{shown}
use Rattle.unfold_constants.specs.declared.binder_walk.OpenBinder as declared
use Rattle.unfold_constants.specs.declared.binder_walk.BinderWalk as declared_all
use Rattle.unfold_constants.specs.CountedAnswers.{Fails}
use Rattle.unfold_constants.specs.Evaluation.{Step, ◌>>=◌, done, for_each}
use Rattle.unfold_constants.specs.Here.{without_last}

-- a choice that is open, among the numbers that it has not had yet
pub data OpenChoice (F : Type 0) : Type 0 where
  Among : F → List ℤ → OpenChoice F

-- the state where the innermost choice has given its number up, if one is open
abbrev pub left : {S F : Type 0} → (F → S → S) → S → List (OpenChoice F) → S
left leave here [] = here
left leave here (Among f ns ∷ outer) = leave f here

-- the state with the next number, and the choices that are open there; none where no choice has a number left
abbrev pub advanced : {S F : Type 0} → (F → ℤ → S → S) → (F → S → S) → S → List (OpenChoice F) → Option (S × List (OpenChoice F))
advanced give leave here [] = None
advanced give leave here (Among f [] ∷ outer) = advanced give leave (left leave here outer) outer
advanced give leave here (Among f (n ∷ ns) ∷ outer) = Some (give f n here, Among f ns ∷ outer)

-- what is left to do for the choices that are open: what is done inside each, at its depth, for each number that it has not had yet
abbrev pub remaining : {S F A : Type 0} → (F → ℤ → S → S) → (F → S → S) → (ℕ → S → A → Step A) → S → List (OpenChoice F) → A → Step A
remaining give leave inside here [] found = done found
remaining give leave inside here (Among f ns ∷ outer) found =
    for_each (λ n more. inside (length (Among f ns ∷ outer)) (give f n here) more) ns found >>= (λ more. remaining give leave inside (left leave here outer) outer more)

-- what is left to do where the innermost choice has just taken a number: what is done inside it, and the rest
abbrev pub entered : {S F A : Type 0} → (F → ℤ → S → S) → (F → S → S) → (ℕ → S → A → Step A) → S → List (OpenChoice F) → A → Step A
entered give leave inside here opened found = inside (length opened) here found >>= (λ more. remaining give leave inside (left leave here opened) opened more)

-- what was left to do is what is left now; or it ends in the fault
abbrev pub Leads : {A B : Type 0} → Result B Fault → Result B Fault → Result A Fault → Type 0
Leads before behind (Ok x) = before ≡ behind
Leads before behind (Err fault) = Fails fault before

-- a binder's name takes a number, and gives it up
abbrev pub give_name : List ℕ → ℤ → Known → Known
give_name name n known = with_bound name n known

abbrev pub leave_name : List ℕ → Known → Known
leave_name name known = without_last known

-- the name of a binder that is open, as it is kept
abbrev pub choice_in : declared.OpenBinder → OpenChoice (List ℕ)
choice_in choice = Among choice.name.now (shown choice.left)

-- the names that are open
abbrev pub open_in : declared_all.BinderWalk → List (OpenChoice (List ℕ))
open_in choices = reverse (map choice_in choices.open.items)
