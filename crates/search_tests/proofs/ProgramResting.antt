-- The box with which propagators begin, and those that watch its cells.
use Rattle.std.proofs.Common.{◌≡◌, ◌∙◌, ℕ, List, length, map, subst, sym}
use Rattle.sopl_base.specs.declared.interval.Interval.{Interval}
use Rattle.box_problem.specs.Box.{Box, Inside, box_of}
use Rattle.box_problem.proofs.Boxes.{intervals_make_a_box, part_of_itself}
use Rattle.prop_core.specs.Waking.{IsWatchOf}
use Rattle.prop_core.specs.declared.watch.Watch.{Watch}
use Rattle.term_program.specs.Programs.{root_in}
use Rattle.term_program.specs.Stated.{box_problem_of}
use Rattle.term_program.specs.declared.program.Program.{Program}

pub root_inside : (root : Box) (roots : List Interval) (b : Box) → box_of roots ≡ root → b ≡ box_of roots → Inside b root
root_inside root roots b is_root is =
    subst (λ (whole : Box). Inside b whole) is_root
    (subst (λ (part : Box). Inside part (box_of roots)) (sym is) (part_of_itself (box_of roots) (intervals_make_a_box roots)))

pub watched : {C : Type 0} (f : C → List ℕ) (before after : List C) (watch : Watch) (cells : ℕ) (program : Program) (b : Box) → IsWatchOf (map f before) watch cells → before ≡ after
    → cells ≡ length (root_in program).lows → Inside b (box_problem_of program).root → IsWatchOf (map f after) watch (length b.lows)
unfolding box_problem_of
watched f before after watch cells program b is same count inside =
    subst (IsWatchOf (map f after) watch) (count ∙ sym inside.same_cells) (subst (λ (list : List _). IsWatchOf (map f list) watch cells) same is)
