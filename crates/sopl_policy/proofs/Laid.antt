-- Where the cells of each decision begin, one decision after the other.
use native.Mathlib.Omega.{arith}
use Rattle.std.proofs.Common.{◌≡◌, ◌∙◌, ◌+◌, ◌<◌, ◌≤◌, ◌^◌, ℕ, zero, suc, List, [], ◌∷◌, length, drop, get_or, sym, ap}
use Rattle.std.proofs.lemmas.List.{drop_more}
use Rattle.sopl_ast.specs.Instances.{Decision}
use Rattle.sopl_scen.specs.Layout.{Layout, histories_in}
use Rattle.sopl_policy.specs.Laid.{cells_end, laid_firsts}

-- the cells end no earlier than they begin
pub end_behind : (tree : Layout) (first : ℕ) (ds : List Decision) → first ≤ cells_end tree first ds
end_behind tree first [] = omega arith
end_behind tree first (d ∷ ds) = omega (arith, end_behind tree (first + histories_in tree d.stage) ds)

-- and each decision's begin no later than they end
pub each_before_end : (tree : Layout) (first : ℕ) (ds : List Decision) (k : ℕ) → get_or (laid_firsts tree first ds) k 0 ≤ cells_end tree first ds
each_before_end tree first [] zero = omega arith
each_before_end tree first [] (suc k) = omega arith
each_before_end tree first (d ∷ ds) zero = end_behind tree first (d ∷ ds)
each_before_end tree first (d ∷ ds) (suc k) = each_before_end tree (first + histories_in tree d.stage) ds k

module _ (tree : Layout) (ds : List Decision) (i first : ℕ) where
  module _ (d : Decision) (below : i < length ds) (at : d ≡ get_or ds i d) where
    next : drop i ds ≡ d ∷ drop (i + 1) ds
    next = drop_more ds i d below ∙ ap (λ x. x ∷ drop (i + 1) ds) (sym at)

    pub end_next : cells_end tree first (drop i ds) ≡ cells_end tree 0 ds → cells_end tree (first + histories_in tree d.stage) (drop (i + 1) ds) ≡ cells_end tree 0 ds
    end_next so = sym (ap (cells_end tree first) next) ∙ so

    pub room_next : cells_end tree first (drop i ds) ≡ cells_end tree 0 ds → cells_end tree 0 ds < 2 ^ 64 → first + histories_in tree d.stage < 2 ^ 64
    room_next so few =
        omega (arith, few, end_next so, end_behind tree (first + histories_in tree d.stage) (drop (i + 1) ds))
