-- The variables that values come from are there.
use Rattle.std.proofs.Common.{◌≡◌, sym, ap, subst, ℕ, zero, suc, List, [], ◌∷◌, ◌++◌, Some, slice_get, Result, Ok, Err, IfOk}
use Rattle.std.specs.List.{AllByRecursion}
use Rattle.std.specs.Option.{unwrap_or}
use Rattle.compile_names.specs.declared.arrays.Array.{Array}
use Rattle.compile_names.specs.declared.origins.Origin.{Origin}
use Rattle.compile_names.specs.declared.origins.Source.{Source}
use Rattle.compile_names.specs.Variables.{AreThere, OriginExists}

one_more : {A : Type 0} (P : A → Type 0) (xs : List A) (x : A) → P x → AllByRecursion P xs → AllByRecursion P (xs ++ x ∷ [])
one_more P [] x is all = (is, tt)
one_more P (y ∷ xs) x is all = (all.0, one_more P xs x is all.1)

-- an element more
pub there_more : (drawn decided : ℕ) (old new : List Source) (source : Source) → new ≡ old ++ source ∷ [] → OriginExists drawn decided source.origin
    → AreThere drawn decided old → AreThere drawn decided new
there_more drawn decided old new source is there all =
    subst (AreThere drawn decided) (sym is) (one_more (λ (s : Source). OriginExists drawn decided s.origin) old source there all)

-- a value more
pub exists_more : (drawn decided : ℕ) (old new : List Origin) (origin : Origin) → new ≡ old ++ origin ∷ [] → OriginExists drawn decided origin
    → AllByRecursion (OriginExists drawn decided) old → AllByRecursion (OriginExists drawn decided) new
exists_more drawn decided old new origin is there all =
    subst (AllByRecursion (OriginExists drawn decided)) (sym is) (one_more (OriginExists drawn decided) old origin there all)

-- one of several elements
pub there_at : (drawn decided : ℕ) (sources : List Source) (place : ℕ) (source : Source) → slice_get sources place ≡ Some source → AreThere drawn decided sources
    → OriginExists drawn decided source.origin
there_at drawn decided [] place source at all = absurd (cc)
there_at drawn decided (x ∷ sources) zero source at all = subst (λ (s : Source). OriginExists drawn decided s.origin) (ap (λ o. unwrap_or o x) at) all.0
there_at drawn decided (x ∷ sources) (suc place) source at all = there_at drawn decided sources place source at all.1

-- those of an array, whatever comes
pub there_either : {E : Type 0} (result : Result Array E) (drawn decided : ℕ) (sources : List Source)
    → IfOk result (λ array. (n m : ℕ) → AreThere n m sources → AllByRecursion (OriginExists n m) array.origins.items)
    → AreThere drawn decided sources → IfOk result (λ array. AllByRecursion (OriginExists drawn decided) array.origins.items)
there_either (Ok array) drawn decided sources made all = made drawn decided all
there_either (Err e) drawn decided sources made all = tt
