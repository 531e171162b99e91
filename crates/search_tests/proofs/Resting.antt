-- A list of one propagator, and the box that it begins with.
use Rattle.std.proofs.Common.{◌≡◌, List, [], ◌∷◌, sym, subst}
use Rattle.std.specs.List.{All}
use Rattle.std.proofs.lemmas.List.Elements.{All-cons, All-nil}
use Rattle.sopl_base.specs.declared.interval.Interval.{Interval}
use Rattle.box_problem.specs.Box.{Box, Inside, box_of}
use Rattle.box_problem.proofs.Boxes.{intervals_make_a_box, part_of_itself}
use Rattle.term_program.specs.Stated.{box_problem_of}
use Rattle.term_program.specs.declared.program.Program.{Program}
use Rattle.term_program.specs.Programs.{root_in}

pub one_fits : {A : Type 0} (P : A → Type 0) (x : A) (xs : List A) → xs ≡ x ∷ [] → P x → All P xs
one_fits P x xs is holds = subst (All P) (sym is) (All-cons P x [] holds (All-nil P))

pub root_inside : (program : Program) (intervals : List Interval) (b : Box) → root_in program ≡ box_of intervals → b ≡ box_of intervals → Inside b (box_problem_of program).root
unfolding box_problem_of
root_inside program intervals b root is =
    subst (λ (whole : Box). Inside b whole) (sym root)
    (subst (λ (part : Box). Inside part (box_of intervals)) (sym is) (part_of_itself (box_of intervals) (intervals_make_a_box intervals)))
