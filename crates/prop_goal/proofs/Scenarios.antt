-- Cells with which the bound stays open in each scenario.
use Rattle.std.proofs.Common.{◌≡◌, ◌∙◌, inl, inr, ℕ, ◌+◌, ◌<◌, ℤ, pos, ◌-ℤ◌, ◌≤ℤ◌, Bool, true, false, List, Option, Some, length, get_or, take, slice_get, arith, refl, ap, ap₂, subst, sym}
use Rattle.std.specs.List.{All, Contains}
use Rattle.std.specs.Option.{option_map_or}
use Rattle.std.proofs.lemmas.Int.{ints}
use Rattle.std.proofs.lemmas.List.{get_or_default}
use Rattle.std.proofs.lemmas.List.Elements.{All-contains}
use Rattle.sopl_base.specs.declared.direction.Direction.{Direction}
use Rattle.sopl_base.specs.declared.interval.Interval.{Interval}
use Rattle.sopl_base.specs.declared.reason.Reason.{Reason}
use Rattle.sopl_base.specs.declared.reason.Reason.TheVariants.{Bound}
use Rattle.sopl_base.specs.declared.reason.Side.{Side}
use Rattle.sopl_base.specs.declared.reason.Side.TheVariants.{Ge}
use Rattle.box_problem.specs.Box.{Box, Inside, IsBox, high, low}
use Rattle.box_problem.proofs.Cuts.{high_lowered, low_raised}
use Rattle.term_language.specs.Ends.{Ends, ends}
use Rattle.term_language.specs.Rules.{Near, interval}
use Rattle.term_goals.specs.declared.sums.Atom.{Atom}
use Rattle.term_nodes.specs.Things.{term_at}
use Rattle.term_problem.specs.Objective.{better_end}
use Rattle.term_problem.specs.Problems.{direction_in}
use Rattle.term_problem.specs.Refuted.{refutes}
use Rattle.term_program.specs.declared.over.Range.{Range}
use Rattle.term_program.specs.declared.program.Program.{Program}
use Rattle.term_program.specs.Programs.{ends_in, no_better, problem_in, root_in, things_in, with_interval}
use Rattle.prop_core.proofs.Onward.{has_or_not}
use Rattle.prop_shave.proofs.AtEnds.{open_at_ends}
use Rattle.prop_shave.proofs.Ending.{with_inside}
use Rattle.prop_shave.proofs.GoalMentioned.{part_found, part_is}
use Rattle.prop_shave.proofs.Leaving.{some_there}
use Rattle.prop_shave.proofs.Parts.{part_high, part_low}
use Rattle.prop_shave.proofs.Reaching.{part_better}
use Rattle.prop_shave.specs.Ends.{highest, highest_at, lowest, lowest_at, upper_of}
use Rattle.prop_shave.specs.GoalKnown.{AreEndsOf}
use Rattle.prop_shave.specs.GoalSums.{part_at, part_over, touched_by}
use Rattle.prop_shave.specs.Opened.{IsOpen, IsWhole}
use Rattle.prop_shave.specs.Probes.{IsAsked, closes}
use Rattle.prop_shave.specs.Turns.{at_high, at_low}
use Rattle.prop_shave.specs.declared.part_ends.PartEnds.{PartEnds}
use Rattle.prop_shave.specs.declared.probes.Probe.{Probe}
use Rattle.prop_shave.specs.declared.shave_steps.CellEnd.{CellEnd}
use Rattle.prop_chance.proofs.Outdating.{not_kept}
use Rattle.prop_goal.specs.KeptParts.{AreAllSeen, AreOneEach, touches}
use Rattle.prop_goal.specs.KeptWorst.{AreWorst, IsBetterWith}
use Rattle.prop_goal.specs.declared.kept_parts.KeptParts.{KeptParts}
use Rattle.prop_goal.proofs.KeptParts.{ends_seen}
use Rattle.prop_goal.proofs.Objectives.{more_tried}
use Rattle.prop_goal.proofs.Worst.{apart_same, closed_by_scenario, each_better, open_by_scenarios, part_once}

-- the box with a cell at an end is a part of the box
low_part : (b : Box) (cell : ℕ) → IsBox b → cell < length b.lows → Inside (at_low b cell) b
low_part b cell is_box exists =
    let k = low b cell in
    subst (λ (x : Box). Inside x b) (sym (part_low b cell k k k refl refl)) (high_lowered b cell k is_box exists (omega (arith, ints)) (is_box.ordered cell exists))

high_part : (b : Box) (cell : ℕ) → IsBox b → cell < length b.lows → Inside (at_high b cell) b
high_part b cell is_box exists =
    let k = high b cell in
    subst (λ (x : Box). Inside x b) (sym (part_high b cell k k k refl refl)) (low_raised b cell k is_box exists (is_box.ordered cell exists) (omega (arith, ints)))

-- and is the one in which it has the outermost value alone
pub low_box : (b : Box) (end : CellEnd) → end.side ≡ Ge → end.lo ≡ low b end.cell → with_interval b end.cell (lowest end (pos 1)) (highest end (pos 1)) ≡ at_low b end.cell
low_box b end side is =
    let first : lowest end (pos 1) ≡ low b end.cell = ap (λ (s : Side). lowest_at s end.lo end.hi (pos 1)) side ∙ is in
    let alone : highest_at Ge end.lo end.hi (pos 1) ≡ low b end.cell = omega (arith, ints, is) in
    let last : highest end (pos 1) ≡ low b end.cell = ap (λ (s : Side). highest_at s end.lo end.hi (pos 1)) side ∙ alone in
    ap₂ (λ (x y : ℤ). with_interval b end.cell x y) first last

pub high_box : (b : Box) (end upper : CellEnd) → upper ≡ upper_of end → end.hi ≡ high b end.cell → with_interval b upper.cell (lowest upper (pos 1)) (highest upper (pos 1)) ≡ at_high b end.cell
high_box b end upper same is =
    let first : (end.hi -ℤ (pos 1 -ℤ pos 1)) ≡ high b end.cell = omega (arith, ints, is) in
    ap (λ (u : CellEnd). with_interval b u.cell (lowest u (pos 1)) (highest u (pos 1))) same
    ∙ ap₂ (λ (x y : ℤ). with_interval b end.cell x y) first is

-- the better end of a term there
pub ended : (q : Probe) (a : Atom) (end : CellEnd) (direction : Direction) (part : Interval) (range : Range) (x : ℤ) → IsAsked q → a.k ≡ pos 1 → part.lo ≡ lowest end (pos 1)
    → part.hi ≡ highest end (pos 1) → low (root_in q.program.now) end.cell ≤ℤ part.lo → part.lo ≤ℤ part.hi → part.hi ≤ℤ high (root_in q.program.now) end.cell
    → ends_in range.interval ≡ interval Near (root_in q.program.now) (with_interval q.store.now.box end.cell part.lo part.hi) (term_at (things_in q.program.now) a.term)
    → direction ≡ direction_in (problem_in q.program.now) → x ≡ better_end direction (ends range.interval.lo range.interval.hi) → x
    ≡ part_over (direction_in (problem_in q.program.now)) (root_in q.program.now) (things_in q.program.now) (with_interval q.store.now.box end.cell (lowest end (pos 1)) (highest end (pos 1))) a
ended q a end direction part range x asked once lo_is hi_is from ordered to seen same told =
    let program = q.program.now in
    let root = root_in program in
    let b = q.store.now.box in
    let mine = direction_in (problem_in program) in
    told
    ∙ ap (λ (d : Direction). better_end d (ends range.interval.lo range.interval.hi)) same
    ∙ ap (λ (e : Ends). better_end mine e) seen
    ∙ sym (part_once program (with_interval b end.cell part.lo part.hi) a asked.made (with_inside root b end.cell part.lo part.hi asked.inside from ordered to) once)
    ∙ ap₂ (λ (lo hi : ℤ). part_over mine root (things_in program) (with_interval b end.cell lo hi) a) lo_is hi_is

-- a scenario whose term's worse end is better than a value, and one whose term was evaluated at both ends
pub surely_with : (q : Probe) (k : KeptParts) (number cell : ℕ) (v : ℤ) (seen : PartEnds) → IsAsked q → AreOneEach k → AreAllSeen q.program.now q.store.now.box k
    → number < length k.atoms.items → seen ≡ get_or k.ends.items number seen → cell < length q.store.now.box.lows
    → ((part : Box) (a : Atom) → AreEndsOf q.program.now q.store.now.box a seen → Inside part q.store.now.box
    → no_better (direction_in (problem_in q.program.now)) (part_over (direction_in (problem_in q.program.now)) (root_in q.program.now) (things_in q.program.now) part a) v ≡ false)
    → IsBetterWith q.program.now k.atoms.items q.store.now.box v cell number
surely_with q k number cell v seen asked one known below is exists each =
    let program = q.program.now in
    let b = q.store.now.box in
    let mine = direction_in (problem_in program) in
    let there = some_there k.atoms.items number below in
    let fact = subst (AreEndsOf program b there.0) (sym is) ((ends_seen program b k asked.made asked.inside one.ends known).each number there.0 seen below there.1) in
    let over : (part : Box) → Inside part b
    → no_better mine (option_map_or (part_over mine (root_in program) (things_in program) part) (slice_get k.atoms.items number) (pos 0)) v ≡ false =
    λ part within.
    ap (λ (o : Option Atom). no_better mine (option_map_or (part_over mine (root_in program) (things_in program) part) o (pos 0)) v) there.1 ∙ each part there.0 fact within in
    record {
      to_low = over (at_low b cell) (low_part b cell asked.inside.is_box exists);
      to_high = over (at_high b cell) (high_part b cell asked.inside.is_box exists);
    }

pub tried_with : (q : Probe) (atoms : List Atom) (number cell : ℕ) (v : ℤ) (a : Atom) → number < length atoms → a ≡ get_or atoms number a
    → no_better (direction_in (problem_in q.program.now))
    (part_over (direction_in (problem_in q.program.now)) (root_in q.program.now) (things_in q.program.now) (at_low q.store.now.box cell) a) v ≡ false
    → no_better (direction_in (problem_in q.program.now))
    (part_over (direction_in (problem_in q.program.now)) (root_in q.program.now) (things_in q.program.now) (at_high q.store.now.box cell) a) v ≡ false
    → IsBetterWith q.program.now atoms q.store.now.box v cell number
tried_with q atoms number cell v a below is low_better high_better =
    let program = q.program.now in
    let mine = direction_in (problem_in program) in
    let moved : (box : Box) → no_better mine (part_over mine (root_in program) (things_in program) box a) v ≡ false → no_better mine (part_over mine (root_in program) (things_in program) box (get_or atoms number a)) v ≡ false =
    λ box better. subst (λ (x : Atom). no_better mine (part_over mine (root_in program) (things_in program) box x) v ≡ false) is better in
    record {
      to_low = ap (λ (z : ℤ). no_better mine z v) (sym (part_is program atoms (at_low q.store.now.box cell) number a below)) ∙ moved (at_low q.store.now.box cell) low_better;
      to_high = ap (λ (z : ℤ). no_better mine z v) (sym (part_is program atoms (at_high q.store.now.box cell) number a below)) ∙ moved (at_high q.store.now.box cell) high_better;
    }

-- one scenario more of those that mention the cell
pub more_with : (q : Probe) (atoms : List Atom) (v : ℤ) (cell : ℕ) (numbers : List ℕ) (i d : ℕ) → All (IsBetterWith q.program.now atoms q.store.now.box v cell) (take i numbers) → i < length numbers
    → IsBetterWith q.program.now atoms q.store.now.box v cell (get_or numbers i d) → All (IsBetterWith q.program.now atoms q.store.now.box v cell) (take (i + 1) numbers)
more_with q atoms v cell numbers i d before exists here =
    more_tried (IsBetterWith q.program.now atoms q.store.now.box v cell) numbers i (get_or numbers i d) before exists (get_or_default numbers i d (get_or numbers i d) exists) here

-- where each of these is better than the best value, so is each other one as over the box, and the cell is open
pub scenarios_open : (q : Probe) (atoms : List Atom) (v : ℤ) (cell : ℕ) (numbers : List ℕ) → IsAsked q → q.reason ≡ Bound → q.best ≡ Some v → AreWorst q.program.now atoms → IsWhole q
    → numbers ≡ touched_by (root_in q.program.now) (things_in q.program.now) atoms cell → All (IsBetterWith q.program.now atoms q.store.now.box v cell) numbers → IsOpen q cell
scenarios_open q atoms v cell numbers asked reason best are whole touched each =
    let program = q.program.now in
    let root = root_in program in
    let terms = problem_in program in
    let b = q.store.now.box in
    let closed : (c : Box) → closes q c ≡ refutes root terms Bound c (Some v) =
    λ c. ap (λ (r : Reason). refutes root terms r c q.best) reason ∙ ap (λ (o : Option ℤ). refutes root terms Bound c o) best in
    let before = each_better program atoms b v asked.made are asked.inside (sym (closed b) ∙ whole) in
    let over : (k : ℤ) → Inside (with_interval b cell k k) root
    → ((i : ℕ) → Contains numbers i
    → no_better (direction_in terms) (option_map_or (part_over (direction_in terms) root (things_in program) (with_interval b cell k k)) (slice_get atoms i) (pos 0)) v ≡ false)
    → closes q (with_interval b cell k k) ≡ false =
    λ k inside listed.
    closed (with_interval b cell k k)
    ∙ open_by_scenarios program atoms (with_interval b cell k k) v asked.made are inside
    (λ i below. elim (has_or_not numbers i) [
      | inl there ↦ listed i there
      | inr nowhere ↦
          ap (λ (z : ℤ). no_better (direction_in terms) z v)
          (apart_same program atoms b cell k k i (not_kept (touches program atoms cell) (length atoms) i below (λ has. nowhere (subst (λ (ks : List ℕ). Contains ks i) (sym touched) has))))
          ∙ before i below
    ])
    in
    open_at_ends q cell
    (λ exists.
    let k = low b cell in
    let bottom = asked.inside.from_low cell exists in
    let order = asked.inside.is_box.ordered cell exists in
    let top = asked.inside.to_high cell exists in
    over k (with_inside root b cell k k asked.inside bottom (omega (arith, ints)) (omega (arith, ints, order, top)))
    (λ i there. (All-contains (IsBetterWith program atoms b v cell) numbers i each there).to_low))
    (λ exists.
    let k = high b cell in
    let bottom = asked.inside.from_low cell exists in
    let order = asked.inside.is_box.ordered cell exists in
    let top = asked.inside.to_high cell exists in
    over k (with_inside root b cell k k asked.inside (omega (arith, ints, bottom, order)) (omega (arith, ints)) top)
    (λ i there. (All-contains (IsBetterWith program atoms b v cell) numbers i each there).to_high))

-- a part is a term once
pub once_at : (program : Program) (atoms : List Atom) (number : ℕ) (a : Atom) → AreWorst program atoms → number < length atoms → a ≡ get_or atoms number a → a.k ≡ pos 1
once_at program atoms number a are below is =
    (are.terms.each number a (part_found atoms number a below ∙ ap (λ x. Some x) (sym is))).once

-- the bound closes the box, or does not, by the better ends that are kept
pub end_kept : (q : Probe) (k : KeptParts) (number : ℕ) (v : ℤ) (seen : PartEnds) (direction : Direction) (closed : Bool) → IsAsked q → AreOneEach k
    → AreAllSeen q.program.now q.store.now.box k → number < length k.atoms.items → seen ≡ get_or k.ends.items number seen → direction ≡ direction_in (problem_in q.program.now)
    → closed ≡ no_better direction seen.better.value v
    → no_better (direction_in (problem_in q.program.now)) (part_at q.program.now k.atoms.items q.store.now.box number) v ≡ closed
end_kept q k number v seen direction closed asked one known below is same told =
    let program = q.program.now in
    let are = ends_seen program q.store.now.box k asked.made asked.inside one.ends known in
    ap (λ (z : ℤ). no_better (direction_in (problem_in program)) z v)
    (sym (ap (λ (e : PartEnds). e.better.value) is ∙ part_better program q.store.now.box k.atoms.items k.ends.items number seen are below))
    ∙ ap (λ (d : Direction). no_better d seen.better.value v) (sym same)
    ∙ sym told

pub one_more : (q : Probe) (atoms : List Atom) (i number : ℕ) (v : ℤ) → i ≡ number
    → no_better (direction_in (problem_in q.program.now)) (part_at q.program.now atoms q.store.now.box number) v ≡ false
    → no_better (direction_in (problem_in q.program.now)) (part_at q.program.now atoms q.store.now.box i) v ≡ false
one_more q atoms i number v same better = ap (λ (n : ℕ). no_better (direction_in (problem_in q.program.now)) (part_at q.program.now atoms q.store.now.box n) v) same ∙ better

closes_at : (q : Probe) (v : ℤ) → q.reason ≡ Bound → q.best ≡ Some v → closes q q.store.now.box ≡ refutes (root_in q.program.now) (problem_in q.program.now) Bound q.store.now.box (Some v)
closes_at q v reason best =
    ap (λ (r : Reason). refutes (root_in q.program.now) (problem_in q.program.now) r q.store.now.box q.best) reason
    ∙ ap (λ (o : Option ℤ). refutes (root_in q.program.now) (problem_in q.program.now) Bound q.store.now.box o) best

pub beaten_whole : (q : Probe) (atoms : List Atom) (v : ℤ) (number : ℕ) → IsAsked q → q.reason ≡ Bound → q.best ≡ Some v → AreWorst q.program.now atoms → number < length atoms
    → no_better (direction_in (problem_in q.program.now)) (part_at q.program.now atoms q.store.now.box number) v ≡ true → true ≡ closes q q.store.now.box
beaten_whole q atoms v number asked reason best are below beaten =
    sym (closes_at q v reason best ∙ closed_by_scenario q.program.now atoms q.store.now.box v asked.made are asked.inside number below beaten)

pub open_whole : (q : Probe) (atoms : List Atom) (v : ℤ) → IsAsked q → q.reason ≡ Bound → q.best ≡ Some v → AreWorst q.program.now atoms
    → ((i : ℕ) → i < length atoms → no_better (direction_in (problem_in q.program.now)) (part_at q.program.now atoms q.store.now.box i) v ≡ false) → false ≡ closes q q.store.now.box
open_whole q atoms v asked reason best are each =
    sym (closes_at q v reason best ∙ open_by_scenarios q.program.now atoms q.store.now.box v asked.made are asked.inside each)
