-- The best end over open nodes.
use Rattle.std.proofs.Common.{◌≡◌, ℕ, ◌+◌, ◌<◌, ◌≤◌, ℤ, List, length, get_or, drop, Option, Some, None, IfSome, refl, sym, subst}
use Rattle.std.proofs.lemmas.List.{drop_all}
use Rattle.sopl_base.proofs.Lists.{drop_next, each_of}
use Rattle.box_problem.specs.Box.{Inside}
use Rattle.box_problem.specs.BoxProblem.{BoxProblem}
use Rattle.box_problem.specs.Opens.{IsBetterOf, IsBound}
use Rattle.box_problem.proofs.Bounds.{bound_at_last, bound_grows}
use Rattle.log_rows.specs.declared.rows.Row.{Row}
use Rattle.open_nodes.specs.declared.seats.OpenNode.{OpenNode}
use Rattle.open_nodes.specs.declared.walk.BoxWalk.{BoxWalk}
use Rattle.sopl_search.specs.Frontiers.{AreEnterable, IsEnterable, IsOnRows, IsSplitRow, boxes, pendings}
use Rattle.sopl_search.specs.Lines.{pending_of, split_above}

-- each of these nodes may be gone to
pub enterable_at : (problem : BoxProblem) (rows : List Row) (walk now : BoxWalk) (nodes : List OpenNode) (i : ℕ) (x : OpenNode) → AreEnterable problem rows walk nodes
    → IsOnRows problem.root rows now → i < length nodes → x ≡ get_or nodes i x → IsEnterable problem rows now x
enterable_at problem rows walk now nodes i x able at exists is = record {
  nodes = pendings problem.root nodes;
  best = able.best;
  logs = able.logs;
  way = subst (λ (y : OpenNode). IsSplitRow rows (split_above y)) (sym is) (each_of (λ (y : OpenNode). IsSplitRow rows (split_above y)) nodes i x able.ways exists);
  at = at;
}

pub inside_at : (problem : BoxProblem) (rows : List Row) (walk : BoxWalk) (nodes : List OpenNode) (i : ℕ) (x : OpenNode) → AreEnterable problem rows walk nodes → i < length nodes
    → x ≡ get_or nodes i x → Inside (pending_of problem.root x).at problem.root
inside_at problem rows walk nodes i x able exists is =
    subst (λ (y : OpenNode). Inside (pending_of problem.root y).at problem.root) (sym is)
    (each_of (λ (y : OpenNode). Inside (pending_of problem.root y).at problem.root) nodes i x able.inside exists)

-- one more end
pub end_on : (problem : BoxProblem) (nodes : List OpenNode) (i : ℕ) (x : OpenNode) (end best : Option ℤ) (whole : ℤ → Type 0) → i < length nodes → x ≡ get_or nodes i x
    → IfSome best (IsBetterOf problem.direction end (problem.end (pending_of problem.root x).at)) → (¬ best ≡ None)
    → ((bound : ℤ) → IsBound problem end (boxes (pendings problem.root (drop i nodes))) bound → whole bound)
    → (bound : ℤ) → IsBound problem best (boxes (pendings problem.root (drop (i + 1) nodes))) bound → whole bound
end_on problem nodes i x end None whole exists is better some grows bound later = absurd (some refl)
end_on problem nodes i x end (Some best) whole exists is better some grows bound later =
    grows bound
    (subst (λ (ys : List OpenNode). IsBound problem end (boxes (pendings problem.root ys)) bound) (sym (drop_next nodes i x exists is))
    (bound_grows problem end (pending_of problem.root x).at (boxes (pendings problem.root (drop (i + 1) nodes))) best bound better later))

-- and no more
pub end_last : (problem : BoxProblem) (nodes : List OpenNode) (i : ℕ) (end : Option ℤ) (whole : ℤ → Type 0) → length nodes ≤ i
    → ((bound : ℤ) → IsBound problem end (boxes (pendings problem.root (drop i nodes))) bound → whole bound) → IfSome end whole
end_last problem nodes i None whole all grows = tt
end_last problem nodes i (Some best) whole all grows =
    grows best (subst (λ (ys : List OpenNode). IsBound problem (Some best) (boxes (pendings problem.root ys)) best) (sym (drop_all i nodes all)) (bound_at_last problem best))
