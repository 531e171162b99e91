-- The domains of cells are the roots.
use Rattle.std.proofs.Common.{◌≡◌, ◌+◌, ◌-◌, ◌≤ℤ◌, ◌^◌, ℕ, ℤ, pos, negsuc, List, [], ◌∷◌, map, arith, sym, ap, subst, ◌∙◌, Result, Ok, Err, IfOk}
use Rattle.std.specs.List.{AllByRecursion, enumerate_from, flat_map}
use Rattle.std.proofs.lemmas.Int.{ints}
use Rattle.std.proofs.lemmas.List.{map-append}
use Rattle.std.proofs.lemmas.Simd.{map-map}
use Rattle.std.specs.declared.alloc.AllocError.{AllocError}
use Rattle.std.specs.declared.alloc.Global.{Global}
use Rattle.std.specs.declared.vec.Vec.{Vec}
use Rattle.sopl_base.specs.declared.interval.Interval.{Interval}
use Rattle.sopl_base.proofs.Lists.{all_append}
use Rattle.sopl_ast.specs.Cells.{Cell, cells_of}
use Rattle.sopl_ast.specs.Histories.{histories}
use Rattle.sopl_ast.specs.Instances.{Decision, Stochastic}
use Rattle.box_problem.specs.Box.{Box, box_of}
use Rattle.compile_laws.specs.Root.{root_box}
use Rattle.compile_names.specs.declared.setting.Scenarios.{Scenarios}
use Rattle.sopl_scen.specs.Domains.{cell_ends, decision_ends, ends_of}
use Rattle.sopl_scen.specs.Layout.{IsTreeOf, cell_at, cells_for}
use Rattle.compile_scene.specs.Scenes.{IsLaid, root_in}
use Rattle.sopl_term.specs.Built.{IsNear}
use Rattle.unfold_laws.specs.Bounds.{IsBoundedDecision}
use Rattle.unfold_laws.specs.Passing.{IsConstant}

-- domains are those of the cells of a setting
abbrev pub AreDomains : Scenarios → Vec Interval Global → Type 0
AreDomains setting domains =
    (ss : List Stochastic) → IsTreeOf setting.decisions.now ss setting.tree.now → map ends_of domains.items ≡ map cell_ends (cells_for setting.decisions.now ss)

-- The root.

-- the box of these ends
abbrev ends_box : List (ℤ × ℤ) → Box
ends_box ends = record { lows = map (λ (e : ℤ × ℤ). e.0) ends; highs = map (λ (e : ℤ × ℤ). e.1) ends }

domains_box : (domains : List Interval) → ends_box (map ends_of domains) ≡ box_of domains
domains_box domains = λ k. record {
  lows = map-map (λ (e : ℤ × ℤ). e.0) ends_of domains k;
  highs = map-map (λ (e : ℤ × ℤ). e.1) ends_of domains k;
}

cells_box : (cells : List Cell) → ends_box (map cell_ends cells) ≡ root_box cells
cells_box cells = λ k. record {
  lows = map-map (λ (e : ℤ × ℤ). e.0) cell_ends cells k;
  highs = map-map (λ (e : ℤ × ℤ). e.1) cell_ends cells k;
}

pub root_either : (result : Result (Vec Interval Global) AllocError) (setting : Scenarios) → IsLaid setting → IfOk result (AreDomains setting)
    → IfOk result (λ (domains : Vec Interval Global). box_of domains.items ≡ root_in setting)
root_either (Ok domains) setting laid are =
    sym (domains_box domains.items) ∙ (ap ends_box (are setting.stochs.now laid) ∙ cells_box (cells_for setting.decisions.now setting.stochs.now))
root_either (Err y) setting laid are = tt

-- Near.

-- the ends lie within 2^40
record AreNear (ends : ℤ × ℤ) : Type 0 where
  low : negsuc (2 ^ 40 - 1) ≤ℤ ends.0
  high : ends.1 ≤ℤ pos (2 ^ 40)

low_near : (z : ℤ) → IsConstant z → negsuc (2 ^ 40 - 1) ≤ℤ z
low_near (pos n) small = omega (arith, ints)
low_near (negsuc n) small = omega (arith, ints, small)

high_near : (z : ℤ) → IsConstant z → z ≤ℤ pos (2 ^ 40)
high_near (pos n) small = omega (arith, ints, small)
high_near (negsuc n) small = omega (arith, ints)

-- cells of one decision lie so
same_near : (n : ℕ) (d : Decision) (hs : List (List ℤ)) → AreNear (decision_ends d) → AllByRecursion AreNear (map cell_ends (map (cell_at n d) hs))
same_near n d [] near = tt
same_near n d (h ∷ hs) near = (near, same_near n d hs near)

cells_near : (ss : List Stochastic) (n : ℕ) (ds : List Decision) → AllByRecursion IsBoundedDecision ds
    → AllByRecursion AreNear (map cell_ends (flat_map (cells_of ss) (enumerate_from n ds)))
cells_near ss n [] bounded = tt
cells_near ss n (d ∷ ds) bounded =
    let near : AreNear (decision_ends d) = record { low = low_near d.lo bounded.0.least; high = high_near d.hi bounded.0.greatest } in
    let others : List Cell = flat_map (cells_of ss) (enumerate_from (n + 1) ds) in
    subst (AllByRecursion AreNear) (sym (map-append cell_ends (cells_of ss (n, d)) others))
    (all_append AreNear (map cell_ends (cells_of ss (n, d))) (map cell_ends others) (same_near n d (histories d.stage ss) near) (cells_near ss (n + 1) ds bounded.1))

intervals_near : (domains : List Interval) → AllByRecursion AreNear (map ends_of domains) → AllByRecursion IsNear domains
intervals_near [] near = tt
intervals_near (i ∷ domains) near = (record { low = near.0.low; high = near.0.high }, intervals_near domains near.1)

pub near_either : (result : Result (Vec Interval Global) AllocError) (setting : Scenarios) → IsLaid setting → AllByRecursion IsBoundedDecision setting.decisions.now
    → IfOk result (AreDomains setting) → IfOk result (λ (domains : Vec Interval Global). AllByRecursion IsNear domains.items)
near_either (Ok domains) setting laid bounded are =
    intervals_near domains.items (subst (AllByRecursion AreNear) (sym (are setting.stochs.now laid)) (cells_near setting.stochs.now 0 setting.decisions.now bounded))
near_either (Err y) setting laid bounded are = tt
