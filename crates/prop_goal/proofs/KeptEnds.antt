-- The better end of an expected objective that is kept, and how it is mended.
use Rattle.std.proofs.Common.{◌≡◌, ℕ, ◌<◌, ℤ, pos, ◌+ℤ◌, ◌-ℤ◌, Bool, true, false, List, Option, None, length, get_or, set, arith, refl, sym, ap, subst, ◌∙◌}
use Rattle.std.specs.Option.{option_map_or}
use Rattle.std.proofs.lemmas.Grind.{get_or-set_at}
use Rattle.std.proofs.lemmas.Int.{ints}
use Rattle.std.proofs.lemmas.List.{get_or_default, get_or-set_other}
use Rattle.sopl_base.specs.declared.wide.Wide.{Wide}
use Rattle.box_problem.specs.Box.{Box, Inside}
use Rattle.term_problem.specs.Objective.{better_end, goal_ends}
use Rattle.term_problem.specs.Problems.{direction_in}
use Rattle.term_problem.specs.Search.{numbers_to}
use Rattle.term_goals.specs.declared.sums.Atom.{Atom}
use Rattle.term_program.specs.declared.program.Program.{Program}
use Rattle.term_program.specs.Programs.{IsMade, problem_in, root_in, things_in}
use Rattle.prop_shave.proofs.Ending.{all_parts}
use Rattle.prop_shave.proofs.Leaving.{some_there}
use Rattle.prop_shave.specs.GoalSums.{AreParts, part_at, part_over}
use Rattle.prop_shave.specs.Sums.{sum_over}
use Rattle.prop_shave.specs.declared.part_ends.PartEnds.{PartEnds}
use Rattle.prop_chance.specs.KeptWeights.{IfSo}
use Rattle.prop_chance.proofs.KeptWeights.{one_turned, same_to, sum_none}
use Rattle.prop_goal.specs.KeptEnds.{AreEndsSeen, FitsEnds, IsEndSummed, constant_of}
use Rattle.prop_goal.specs.KeptParts.{AreAlike, AreCalm, AreOneEach, IsPartPut, better_by}
use Rattle.prop_goal.specs.declared.kept_ends.KeptEnds.{KeptEnds}
use Rattle.prop_goal.proofs.KeptParts.{all_fresh, one_each_on}

abbrev nothing_seen : PartEnds
nothing_seen = record { better = record { value = pos 0 }; worse = None }

-- the sum of no ends, and of ends that have not changed
pub none_summed : (program : Program) (k : KeptEnds) → ((number : ℕ) → better_by k.parts.ends.items number ≡ pos 0) → k.end.value ≡ constant_of program → IsEndSummed program k
none_summed program k none is =
    let zero_sum = sum_none (better_by k.parts.ends.items) (length k.parts.atoms.items) none in
    omega (arith, ints, zero_sum, is)

pub same_sum : (program : Program) (old new : KeptEnds) → new.parts.atoms ≡ old.parts.atoms → new.parts.ends ≡ old.parts.ends → new.end ≡ old.end → IsEndSummed program old → IsEndSummed program new
same_sum program old new atoms ends end summed =
    ap (λ (w : Wide). w.value) end
    ∙ (summed
    ∙ sym (ap (λ xs. constant_of program +ℤ sum_over (better_by xs.items) (numbers_to (length old.parts.atoms.items))) ends)
    ∙ sym (ap (λ parts. constant_of program +ℤ sum_over (better_by new.parts.ends.items) (numbers_to (length parts.items))) atoms))

-- one part is put, and the sum with it
pub sum_put : (program : Program) (old new : KeptEnds) (number : ℕ) (e d : PartEnds) (less : Wide) → number < length old.parts.atoms.items → AreOneEach old.parts
    → IsPartPut old.parts new.parts number e → less.value ≡ old.end.value -ℤ (get_or old.parts.ends.items number d).better.value → new.end.value ≡ less.value +ℤ e.better.value
    → IsEndSummed program old → IsEndSummed program new
sum_put program old new number e d less exists one put minus plus summed =
    let was = old.parts.ends.items in
    let count = length old.parts.atoms.items in
    let there : number < length was = omega (arith, exists, one.ends) in
    let turned_sum =
    one_turned (better_by was) (better_by (set was number e)) number 0 count (omega arith) (omega (arith, exists))
    (λ k other. ap (λ (x : PartEnds). x.better.value) (get_or-set_other was number k e nothing_seen other)) in
    let here : better_by (set was number e) number ≡ e.better.value = ap (λ (x : PartEnds). x.better.value) (get_or-set_at was number number e nothing_seen refl there) in
    let before : (get_or was number d).better.value ≡ better_by was number = ap (λ (x : PartEnds). x.better.value) (get_or_default was number d nothing_seen there) in
    let moved : new.end.value ≡ constant_of program +ℤ sum_over (better_by (set was number e)) (numbers_to count) = omega (arith, ints, turned_sum, here, before, minus, plus, summed) in
    moved
    ∙ sym (ap (λ (xs : List PartEnds). constant_of program +ℤ sum_over (better_by xs) (numbers_to count)) put.ends)
    ∙ sym (ap (λ parts. constant_of program +ℤ sum_over (better_by new.parts.ends.items) (numbers_to (length parts.items))) put.atoms)

-- then the end is that of the objective over the box
pub end_seen : (program : Program) (b : Box) (k : KeptEnds) → IsMade program → AreParts program k.parts.atoms.items → Inside b (root_in program)
    → AreEndsSeen program b k → AreCalm k.parts → k.end.value ≡ better_end (direction_in (problem_in program)) (goal_ends (root_in program) b (problem_in program))
end_seen program b k made are inside is calm =
    let atoms = k.parts.atoms.items in
    let same =
    same_to (better_by k.parts.ends.items) (part_at program atoms b) (length atoms)
    (λ number below.
    let there = some_there atoms number below in
    (all_fresh program b k.parts (record { seen = is.parts; calm = calm }) number there.0 nothing_seen below there.1).better
    ∙ sym (ap (λ (o : Option Atom). option_map_or (part_over (direction_in (problem_in program)) (root_in program) (things_in program) b) o (pos 0)) there.1)) in
    all_parts program atoms b (constant_of program) k.end.value made.problem are inside refl (is.summed ∙ ap (λ (z : ℤ). constant_of program +ℤ z) same)

-- what fits still does where other ends are kept
pub ends_fit : (old new : KeptEnds) → AreAlike old.parts new.parts → length new.turns.known.items ≡ length old.turns.known.items → (program : Program) (cells : ℕ) → FitsEnds old program cells
    → FitsEnds new program cells
ends_fit old new alike turns = λ program cells fits.
    record {
      expected = fits.expected;
      are = subst (λ list. AreParts program list.items) (sym alike.atoms) fits.are;
      one_each = one_each_on old.parts new.parts alike fits.one_each;
      turns = turns ∙ fits.turns;
    }

-- what follows where a call succeeds
pub if_so_map : (t : Bool) (P Q : Type 0) → (P → Q) → IfSo t P → IfSo t Q
if_so_map true P Q each is = each is
if_so_map false P Q each is = tt
