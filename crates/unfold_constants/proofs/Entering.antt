-- The next binder, where so many have values.
use Rattle.std.proofs.Common.{◌≡◌, sym, ap, ◌∙◌, ℕ, suc, ◌+◌, ◌<◌, ℤ, List, ◌∷◌, length, drop, get_or, None, Some, arith}
use Rattle.std.proofs.lemmas.List.{at_drop_more}
use Rattle.sopl_ast.specs.Known.{Known, with_bound}
use Rattle.sopl_ast.specs.Lists.{BinderTree, binders}
use Rattle.unfold_constants.specs.Evaluation as w
use Rattle.unfold_constants.specs.Evaluation.{Step, ◌>>=◌, for_each, range_numbers}
use Rattle.unfold_constants.specs.Traversal as k

-- what stands behind so many
pub next_binder : (bs : List BinderTree) (d : ℕ) (b : BinderTree) → d < length bs → b ≡ get_or bs d b → binders (drop d bs) ≡ binders (b ∷ drop (suc d) bs)
next_binder bs d b below at =
    let one_more : d + 1 ≡ suc d = omega arith in
    at_drop_more binders bs d b below ∙ (λ i. binders (sym at i ∷ drop (one_more i) bs))

module _ (whole : ℕ) (bs : List BinderTree) (body : Known → List ℤ → Step (List ℤ)) (here : Known) (found : List ℤ) (d : ℕ) where
  pub number_next : (b : BinderTree) → d < length bs → b ≡ get_or bs d b
      → w.inside whole bs body d here found
      ≡ range_numbers here (Some whole) b.range >>= (λ ns. for_each (λ n more. w.inside whole bs body (suc d) (with_bound b.name n here) more) ns found)
  number_next b below at = ap (λ rest. w.over here whole rest body found) (next_binder bs d b below at)

module _ (bs : List BinderTree) (body : Known → Step (Unit {0})) (here : Known) (d : ℕ) where
  pub walk_next : (b : BinderTree) → d < length bs → b ≡ get_or bs d b
      → k.inside bs body d here tt
      ≡ range_numbers here None b.range >>= (λ ns. for_each (λ n more. k.inside bs body (suc d) (with_bound b.name n here) more) ns tt)
  walk_next b below at = ap (λ rest. k.over here rest body) (next_binder bs d b below at)
