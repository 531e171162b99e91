-- The places of binders, one entered after the other. A place is what is known there, with the binders that have no value yet.
use Rattle.std.specs.Prelude.{ℕ, List, [], ◌∷◌, ◌++◌, drop, length, map}
use Rattle.sopl_ast.specs.Tree.{Binders, no_binder, binder}
use Rattle.sopl_ast.specs.Lists.{BinderTree, binders}
use Rattle.sopl_ast.specs.Known.{Known, with_bound}
use Rattle.sopl_ast.specs.Constants.{numbers_in}
use Rattle.unfold_constants.specs.Choosing.{OpenChoice, Among, left, leave_name}

abbrev pub Place : Type 0
Place = Known × Binders

-- the places where the next binder has taken a number
abbrev pub inside : Known → Binders → List Place
inside here no_binder = []
inside here (binder name at range more) = map (λ n. (with_bound name n here, more)) (numbers_in here range)

-- what is known at a place where all binders have values
abbrev pub ended : Known → Binders → List Known
ended here no_binder = here ∷ []
ended here (binder name at range more) = []

-- the places that are still to be entered, where these names of binders are open
abbrev pub waiting : List BinderTree → Known → List (OpenChoice (List ℕ)) → List Place
waiting over here [] = []
waiting over here (Among name ns ∷ outer) =
    map (λ n. (with_bound name n here, binders (drop (length (Among name ns ∷ outer)) over))) ns ++ waiting over (left leave_name here outer) outer
