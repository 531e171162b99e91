-- The domains of cells are those that a tree lays out.
use Rattle.std.proofs.Common.{◌≡◌, ◌+◌, ◌<◌, ◌≤◌, ◌≤ℤ◌, ◌∙◌, ℕ, ℤ, List, [], ◌∷◌, ◌++◌, length, map, get_or, drop, All, Result, Ok, Err, IfOk, append_assoc, refl, sym, ap}
use Rattle.std.proofs.Math.ListN.{replicate}
use Rattle.std.specs.List.{AllByRecursion, enumerate_from, flat_map}
use Rattle.std.proofs.lemmas.List.{append-nil, at_drop_all, at_drop_more, map-append, replicate_more}
use Rattle.std.specs.declared.alloc.AllocError.{AllocError}
use Rattle.std.specs.declared.alloc.Global.{Global}
use Rattle.std.specs.declared.vec.Vec.{Vec}
use Rattle.sopl_base.specs.declared.interval.Interval.{Interval}
use Rattle.sopl_base.proofs.Lists.{each_of}
use Rattle.sopl_ast.specs.Cells.{cells_of}
use Rattle.sopl_ast.specs.Histories.{histories}
use Rattle.sopl_ast.specs.Instances.{Decision, Stochastic}
use Rattle.unfold_laws.specs.Bounds.{IsBoundedDecision, IsStage}
use Rattle.sopl_scen.specs.Domains.{cell_ends, decision_ends, domains_in, ends_of}
use Rattle.sopl_scen.specs.Layout.{IsTreeOf, Layout, cell_at, cells_for, histories_in}

-- In loops.

-- no domain was added yet
pub none_yet : (start : List (ℤ × ℤ)) (ends : ℤ × ℤ) → start ≡ start ++ replicate 0 ends
none_yet start ends = sym (append-nil start)

-- one domain more
pub one_more : (start : List (ℤ × ℤ)) (done new : List Interval) (i : ℕ) (domain : Interval) → map ends_of done ≡ start ++ replicate i (ends_of domain)
    → new ≡ done ++ domain ∷ [] → map ends_of new ≡ start ++ replicate (i + 1) (ends_of domain)
one_more start done new i domain so_far pushed =
    ap (map ends_of) pushed
    ∙ (map-append ends_of done (domain ∷ [])
    ∙ (ap (λ ends. ends ++ ends_of domain ∷ []) so_far
    ∙ (append_assoc start (replicate i (ends_of domain)) (ends_of domain ∷ [])
    ∙ ap (λ ends. start ++ ends) (replicate_more i (ends_of domain)))))

-- the domains of one decision more
pub next_domains : (tree : Layout) (ds : List Decision) (i : ℕ) (d : Decision) (count : ℕ) (ends : ℤ × ℤ) (done new : List (ℤ × ℤ)) → i < length ds → d ≡ get_or ds i d
    → count ≡ histories_in tree d.stage → ends ≡ decision_ends d → new ≡ done ++ replicate count ends → done ++ domains_in tree (drop i ds) ≡ domains_in tree ds
    → new ++ domains_in tree (drop (i + 1) ds) ≡ domains_in tree ds
next_domains tree ds i d count ends done new below at counted same added so_far =
    ap (λ list. list ++ domains_in tree (drop (i + 1) ds)) (added ∙ (λ k. done ++ replicate (counted k) (same k)))
    ∙ (append_assoc done (replicate (histories_in tree d.stage) (decision_ends d)) (domains_in tree (drop (i + 1) ds))
    ∙ (ap (λ (e : Decision). done ++ domains_in tree (e ∷ drop (i + 1) ds)) at
    ∙ (sym (ap (λ list. done ++ list) (at_drop_more (domains_in tree) ds i d below)) ∙ so_far)))

-- no decision is left
pub all_domains : (tree : Layout) (ds : List Decision) (i : ℕ) (done : List (ℤ × ℤ)) → length ds ≤ i → done ++ domains_in tree (drop i ds) ≡ domains_in tree ds → done ≡ domains_in tree ds
all_domains tree ds i done past so_far =
    sym (append-nil done) ∙ (sym (ap (λ list. done ++ list) (at_drop_all (domains_in tree) ds i past)) ∙ so_far)

-- Of bounded decisions.

pub ordered_all : (ds : List Decision) → AllByRecursion IsBoundedDecision ds → All (λ (d : Decision). d.lo ≤ℤ d.hi) ds
ordered_all ds bounded i d below = (each_of IsBoundedDecision ds i d bounded below).ordered

pub staged_all : (ds : List Decision) → AllByRecursion IsBoundedDecision ds → All (λ (d : Decision). IsStage d.stage) ds
staged_all ds bounded i d below = (each_of IsBoundedDecision ds i d bounded below).stage

-- cells of one decision have its domain
same_ends : (n : ℕ) (d : Decision) (hs : List (List ℤ)) → replicate (length hs) (decision_ends d) ≡ map cell_ends (map (cell_at n d) hs)
same_ends n d [] = refl
same_ends n d (h ∷ hs) = ap (λ ends. decision_ends d ∷ ends) (same_ends n d hs)

ends_from : (tree : Layout) (ss : List Stochastic) → ((stage : ℕ) → IsStage stage → histories_in tree stage ≡ length (histories stage ss)) → (n : ℕ) (ds : List Decision)
    → AllByRecursion IsBoundedDecision ds → domains_in tree ds ≡ map cell_ends (flat_map (cells_of ss) (enumerate_from n ds))
ends_from tree ss counted n [] bounded = refl
ends_from tree ss counted n (d ∷ ds) bounded =
    (λ i. (ap (λ k. replicate k (decision_ends d)) (counted d.stage bounded.0.stage) ∙ same_ends n d (histories d.stage ss)) i ++ ends_from tree ss counted (n + 1) ds bounded.1 i)
    ∙ sym (map-append cell_ends (cells_of ss (n, d)) (flat_map (cells_of ss) (enumerate_from (n + 1) ds)))

pub domains_are : (result : Result (Vec Interval Global) AllocError) (tree : Layout) (ds : List Decision) → AllByRecursion IsBoundedDecision ds
    → IfOk result (λ (domains : Vec Interval Global). map ends_of domains.items ≡ domains_in tree ds)
    → IfOk result (λ (domains : Vec Interval Global). (ss : List Stochastic) → IsTreeOf ds ss tree → map ends_of domains.items ≡ map cell_ends (cells_for ds ss))
domains_are (Ok domains) tree ds bounded are = λ ss laid. are ∙ ends_from tree ss laid.counted 0 ds bounded
domains_are (Err y) tree ds bounded are = tt
