-- The problem of a program, by what its calls tell of a box.
use Rattle.std.proofs.Common.{◌≡◌, ◌∙◌, ℕ, ◌<◌, ℤ, pos, ◌-ℤ◌, Bool, false, List, [], ◌∷◌, length, length-set, Option, None, Some, refl, sym, ap, subst, arith}
use Rattle.std.proofs.lemmas.Int.{ints}
use Rattle.std.proofs.lemmas.List.{get_or-set_other}
use Rattle.sopl_base.specs.declared.direction.Direction.{Direction}
use Rattle.sopl_base.specs.declared.reason.Reason.{Reason}
use Rattle.sopl_base.specs.declared.reason.Reason.TheVariants.{Bound, Chance}
use Rattle.sopl_base.specs.declared.reason.Side.{Side}
use Rattle.sopl_base.specs.declared.reason.Side.TheVariants.{Le, Ge}
use Rattle.sopl_base.specs.declared.reason.Step.{Step}
use Rattle.sopl_base.proofs.Lists.{contains_one}
use Rattle.box_problem.specs.Box.{Box, Inside, with_high, with_low}
use Rattle.box_problem.specs.Steps.{IsCut, cut_away, narrowed, removed}
use Rattle.box_problem.proofs.Boxes.{parts_of_parts}
use Rattle.box_problem.proofs.Cuts.{cuts_make_parts}
use Rattle.box_store.specs.Store.{AgreesOutside, HoldsChanges, IsUndone, Mark, Store}
use Rattle.term_problem.specs.Problems.{direction_in}
use Rattle.term_problem.specs.Refuted.{refutes}
use Rattle.term_program.specs.declared.program.Program.{Program}
use Rattle.term_program.specs.Programs.{no_better, problem_in, root_in}
use Rattle.term_program.specs.Stated.{box_problem_of}
use Rattle.term_program.proofs.Ending as ending

pub refutes_is : (program : Program) (reason : Reason) (b : Box) (v : Option ℤ) (result : Bool) → result ≡ refutes (root_in program) (problem_in program) reason b v
    → result ≡ (box_problem_of program).refutes reason b v
unfolding box_problem_of
refutes_is program reason b v result is = is

-- the best value has no part in a chance constraint, and without one the bound closes nothing
pub against_any : (program : Program) (reason : Reason) (instance : ℕ) (b : Box) (v : Option ℤ) (result : Bool) → reason ≡ Chance instance
    → result ≡ (box_problem_of program).refutes (Chance instance) b None → result ≡ (box_problem_of program).refutes reason b v
unfolding box_problem_of
against_any program reason instance b v result same is = is ∙ sym (ap (λ (r : Reason). refutes (root_in program) (problem_in program) r b v) same)

pub by_bound : (program : Program) (reason : Reason) (b : Box) (v : Option ℤ) (result : Bool) → reason ≡ Bound → result ≡ (box_problem_of program).refutes Bound b v
    → result ≡ (box_problem_of program).refutes reason b v
by_bound program reason b v result same is = is ∙ sym (ap (λ (r : Reason). (box_problem_of program).refutes r b v) same)

pub unbounded : (program : Program) (b : Box) (best : Option ℤ) → best ≡ None → false ≡ (box_problem_of program).refutes Bound b best
unfolding box_problem_of
unbounded program b best none = sym (ap (λ (v : Option ℤ). refutes (root_in program) (problem_in program) Bound b v) none)

pub by_end : (program : Program) (b : Box) (best : Option ℤ) (direction : Direction) (end v : ℤ) (result : Bool) → best ≡ Some v → direction ≡ direction_in (problem_in program)
    → end ≡ (box_problem_of program).end b → result ≡ no_better direction end v → result ≡ (box_problem_of program).refutes Bound b best
unfolding box_problem_of
by_end program b best direction end v result some toward is told = ending.bound_closes (root_in program) b (problem_in program) best direction end v result some toward is told

-- what a step removes
pub low_cut : (b : Box) (cell : ℕ) (k next : ℤ) → next ≡ k -ℤ pos 1 → IsCut b cell Ge k → IsCut b cell Le next
low_cut b cell k next is there = record {
  exists = there.exists;
  between = (omega (arith, ints, is, there.between.0), omega (arith, ints, is, there.between.1));
}

pub same_cut : (b : Box) (s : Step) (side : Side) → IsCut b s.cell s.side s.k → s.side ≡ side → IsCut b s.cell side s.k
same_cut b s side cut same = subst (λ x. IsCut b s.cell x s.k) same cut

pub removed_by : (b c : Box) (s : Step) (side : Side) → s.side ≡ side → c ≡ cut_away b s.cell side s.k → c ≡ removed b s
removed_by b c s side same is = is ∙ sym (ap (λ x. cut_away b s.cell x s.k) same)

pub part_within : (root b c : Box) (s : Step) → IsCut b s.cell s.side s.k → Inside b root → c ≡ removed b s → Inside c root
part_within root b c s cut inside is =
    subst (λ (x : Box). Inside x root) (sym is) (parts_of_parts (removed b s) b root (cuts_make_parts b s.cell s.side s.k inside.is_box cut).1 inside)

-- one end of a cell is another, and no other cell has changed
raised : (b : Box) (cell : ℕ) (k : ℤ) → cell < length b.lows → AgreesOutside (cell ∷ []) b (with_low b cell k)
raised b cell k exists = record {
  same_lows = length-set b.lows cell k;
  same_highs = refl;
  exist = λ n has. omega (arith, exists, length-set b.lows cell k, contains_one cell n has);
  same_low = λ n other. get_or-set_other b.lows cell n k (pos 0) (λ same. other (0, omega arith, sym same));
  same_high = λ n other. refl;
}

lowered : (b : Box) (cell : ℕ) (k : ℤ) → cell < length b.lows → AgreesOutside (cell ∷ []) b (with_high b cell k)
lowered b cell k exists = record {
  same_lows = refl;
  same_highs = length-set b.highs cell k;
  exist = λ n has. omega (arith, exists, contains_one cell n has);
  same_low = λ n other. refl;
  same_high = λ n other. get_or-set_other b.highs cell n k (pos 0) (λ same. other (0, omega arith, sym same));
}

pub narrowed_outside : (b c : Box) (cell : ℕ) (side : Side) (k : ℤ) → cell < length b.lows → c ≡ narrowed b cell side k → AgreesOutside (cell ∷ []) b c
narrowed_outside b c cell side k exists is = subst (AgreesOutside (cell ∷ []) b) (sym is) (here side)
  where
    here : (x : Side) → AgreesOutside (cell ∷ []) b (narrowed b cell x k)
    here Le = lowered b cell k exists
    here Ge = raised b cell k exists

pub cut_outside : (b c : Box) (cell : ℕ) (side : Side) (k : ℤ) → cell < length b.lows → c ≡ cut_away b cell side k → AgreesOutside (cell ∷ []) b c
cut_outside b c cell side k exists is = subst (AgreesOutside (cell ∷ []) b) (sym is) (here side)
  where
    here : (x : Side) → AgreesOutside (cell ∷ []) b (cut_away b cell x k)
    here Le = raised b cell _ exists
    here Ge = lowered b cell _ exists

pub removed_outside : (b c : Box) (s : Step) → s.cell < length b.lows → c ≡ removed b s → AgreesOutside (s.cell ∷ []) b c
removed_outside b c s exists is = cut_outside b c s.cell s.side s.k exists is

pub outside_back : (cells : List ℕ) (b c : Box) → AgreesOutside cells b c → AgreesOutside cells c b
outside_back cells b c agree = record {
  same_lows = sym agree.same_lows;
  same_highs = sym agree.same_highs;
  exist = λ n has. omega (arith, agree.exist n has, agree.same_lows);
  same_low = λ n other. sym (agree.same_low n other);
  same_high = λ n other. sym (agree.same_high n other);
}

pub undone_outside : (marks : List Mark) (now : Box) (cells : List ℕ) (after : Store) → HoldsChanges marks now cells → IsUndone marks after → AgreesOutside cells now after.box
undone_outside [] now cells after held undone = absurd held
undone_outside (mark ∷ older) now cells after held undone = subst (AgreesOutside cells now) (sym undone.box) (outside_back cells mark.box now held)
