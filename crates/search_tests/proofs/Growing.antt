-- A program under construction keeps what it has.
use Rattle.std.proofs.Common.{◌∙◌, sym, subst, arith, ℕ, ◌<◌, ◌≤◌, List, length, Result, Ok}
use Rattle.box_problem.specs.Box.{Box}
use Rattle.term_nodes.specs.Things.{Thing}
use Rattle.sopl_base.specs.declared.fault.Fault.{Fault}
use Rattle.term_store.specs.declared.additions.NewTerm.{NewTerm}
use Rattle.term_store.specs.declared.ids.TermId.{TermId}
use Rattle.sopl_term.specs.declared.builder.Builder.{Builder}
use Rattle.sopl_term.specs.Built.{Grows, HasAddedTerm, IsKept, built, root_built}

grows_twice : {xs ys zs : List Thing} → Grows xs ys → Grows ys zs → Grows xs zs
grows_twice first second = record {
  more = let m = first.more in let n = second.more in omega (arith, m, n);
  same = λ id below. second.same id (let m = first.more in omega (arith, below, m)) ∙ first.same id below;
}

-- what was kept twice is kept
pub kept_twice : (a b c : Builder) → IsKept a b → IsKept b c → IsKept a c
kept_twice a b c first second = record {
  building = second.building;
  root = second.root ∙ first.root;
  problem = second.problem ∙ first.problem;
  grows = grows_twice first.grows second.grows;
  direction = second.direction ∙ first.direction;
  worst = second.worst ∙ first.worst;
}

-- a cell that is there stays there
pub cells_kept : (a b : Builder) (cell : ℕ) → IsKept a b → cell < length (root_built a).lows → cell < length (root_built b).lows
cells_kept a b cell kept there = subst (λ (root : Box). cell < length root.lows) (sym kept.root) there

-- what was added is there, and so is what was there before
pub there : (before after : Builder) (new : NewTerm) (id : TermId) → HasAddedTerm before after new (Ok id) → id.0 < length (built after)
there before after new id added = added.adds.stands.exists

pub still : (before after : Builder) (new : NewTerm) (r : Result TermId Fault) (k : ℕ) → HasAddedTerm before after new r → k < length (built before) → k < length (built after)
still before after new r k added was = omega (arith, was, added.adds.grows.more)

pub grown : (before after : Builder) (new : NewTerm) (r : Result TermId Fault) → HasAddedTerm before after new r → length (built before) ≤ length (built after)
grown before after new r added = added.adds.grows.more
