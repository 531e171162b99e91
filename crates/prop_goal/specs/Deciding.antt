-- The cells that decide the ends of the parts of an objective's sum, and whether its reasons close a box.
use Rattle.std.proofs.Common.{◌≡◌, inl, inr, ℕ, zero, suc, List, [], ◌∷◌, ◌++◌, Option, Some, None, IfSome, slice_get, get_or, length, map, arith, refl, ap, subst, ◌∙◌}
use Rattle.std.specs.List.{Contains, flat_map}
use Rattle.std.specs.List.Sorted.{IsStrictlyIncreasing}
use Rattle.std.specs.Option.{option_map_or}
use Rattle.std.proofs.lemmas.Map.Keys.{IsStrictlyIncreasing-from_sorted}
use Rattle.std.proofs.lemmas.Option.{slice_get_within}
use Rattle.std.proofs.lemmas.List.Elements.{Contains-append_cases, Contains-append_left, Contains-append_right}
use Rattle.sopl_base.specs.declared.reason.Reason.{Reason}
use Rattle.sopl_base.specs.declared.reason.Reason.TheVariants.{Bound, Undefined}
use Rattle.box_problem.specs.Box.{Box, Inside}
use Rattle.term_language.specs.declared.answers.Defined.{Defined}
use Rattle.term_language.specs.declared.answers.Defined.TheVariants.{Always}
use Rattle.term_language.specs.Ends.{Ends, cell_ends, scaled}
use Rattle.term_language.specs.Mentions.{mentions}
use Rattle.term_language.specs.Rules.{Near, interval, mark}
use Rattle.term_language.specs.Terms.{Term}
use Rattle.term_language.proofs.Agreement.{intervals_agree, marks_agree}
use Rattle.term_goals.specs.declared.sums.Atom.{Atom}
use Rattle.term_nodes.specs.Things.{term_at}
use Rattle.term_problem.specs.Objective.{better_end}
use Rattle.term_problem.specs.Problems.{GoalTerms, direction_in}
use Rattle.term_problem.specs.Search.{numbers_to}
use Rattle.term_problem.specs.Reasons.{reason_mentions}
use Rattle.term_problem.proofs.Reasons.{all_of}
use Rattle.term_program.specs.declared.program.Program.{Program}
use Rattle.term_program.specs.Programs.{problem_in, root_in, things_in}
use Rattle.term_program.specs.Stated.{box_problem_of}
use Rattle.prop_core.specs.Alike.{rested_alike}
use Rattle.prop_core.specs.Watches.{AgreeOnCells, LooksAt}
use Rattle.prop_shave.proofs.AtEnds.{goal_turns_alike, part_cells}
use Rattle.prop_shave.specs.GoalKnown.{IsPartSeen}
use Rattle.prop_shave.specs.GoalSums.{parts_over, worse_end}
use Rattle.prop_shave.specs.Probes.{HasAll}
use Rattle.prop_shave.specs.declared.part_ends.PartEnds.{PartEnds}
use Rattle.prop_chance.specs.Deciding.{decided, ends_agree, for_one, turns_alike}
use Rattle.prop_goal.specs.Cells.{ArePartsWithin}
use Rattle.prop_goal.specs.Goals.{Fits, InStep, KeepsGoal, atoms_of, reasons_of}
use Rattle.prop_goal.specs.KeptParts.{KeepsParts, touches}
use Rattle.prop_goal.specs.declared.goals.Goal.{Goal}
use Rattle.prop_goal.specs.declared.kept_goal.KeptGoal.{KeptGoal}
use Rattle.prop_goal.specs.declared.kept_goal.KeptGoal.TheVariants.{Expected, Worst}
use Rattle.prop_goal.specs.declared.kept_parts.KeptParts.{KeptParts}

-- the ends of a part are decided by the cells that it mentions
pub part_agrees : (program : Program) (b c : Box) (a : Atom) (e : PartEnds)
    → ((n : ℕ) → Contains (mentions (root_in program) (term_at (things_in program) a.term)) n → cell_ends b n ≡ cell_ends c n) → IsPartSeen program b a e → IsPartSeen program c a e
part_agrees program b c a e same seen =
    let root = root_in program in
    let t = term_at (things_in program) a.term in
    let direction = direction_in (problem_in program) in
    let agree = all_of (λ n. cell_ends b n ≡ cell_ends c n) (mentions root t) same in
    let marks = marks_agree Near root b c t agree in
    let intervals = intervals_agree Near root b c t agree in
    record {
      better = seen.better ∙ ap (λ (x : Ends). better_end direction (scaled a.k x)) intervals;
      worse = subst (λ (m : Defined). IfSome e.worse (λ w. (m ≡ Always) × (w.value ≡ worse_end direction (scaled a.k (interval Near root c t))))) marks
          (subst (λ (x : Ends). IfSome e.worse (λ w. (mark Near root b t ≡ Always) × (w.value ≡ worse_end direction (scaled a.k x)))) intervals seen.worse);
    }

parts_alike : (program : Program) (b c : Box) (cells : List ℕ) (k : KeptParts) → ArePartsWithin program k.atoms.items (length k.atoms.items) cells → AgreeOnCells cells b c → KeepsParts program b k
    → KeepsParts program c k
parts_alike program b c cells k within agree keeps = record {
  ends = record {
    each = λ number a e at fresh.
        part_agrees program b c a (get_or k.ends.items number e)
        (λ n mentioned. ends_agree cells b c agree n (within number a (slice_get_within k.atoms.items number a at) at n mentioned)) (keeps.ends.each number a e at fresh);
  };
  listed = keeps.listed;
}

-- the objective: its terms are among those that the bound mentions
term_within : (root : Box) (terms : List Term) (scenario : ℕ) → HasAll (flat_map (mentions root) terms) (option_map_or (mentions root) (slice_get terms scenario) [])
term_within root [] scenario = λ cell here. here
term_within root (t ∷ terms) zero = λ cell here. Contains-append_left (mentions root t) (flat_map (mentions root) terms) cell here
term_within root (t ∷ terms) (suc scenario) = λ cell here.
    Contains-append_right (mentions root t) (flat_map (mentions root) terms) cell (term_within root terms scenario cell here)

pub lack_within : (root : Box) (goal : Option GoalTerms) (scenario : ℕ) → HasAll (option_map_or (λ (g : GoalTerms). flat_map (mentions root) g.terms) goal [])
    (option_map_or (λ (g : GoalTerms). option_map_or (mentions root) (slice_get g.terms scenario) []) goal [])
lack_within root None scenario = λ cell here. here
lack_within root (Some goal) scenario = term_within root goal.terms scenario

for_lacks : (P : Reason → Type 0) → ((scenario : ℕ) → P (Undefined scenario)) → P Bound → (numbers : List ℕ) (reason : Reason) → Contains (map Undefined numbers ++ Bound ∷ []) reason → P reason
for_lacks P lack bound [] reason own = for_one P Bound bound reason own
for_lacks P lack bound (n ∷ numbers) reason own =
    elim (Contains-append_cases (Undefined n ∷ []) (map Undefined numbers ++ Bound ∷ []) reason own) [
      | inl first ↦ for_one P (Undefined n) (lack n) reason first
      | inr later ↦ for_lacks P lack bound numbers reason later
    ]

-- the laws
pub goal_ascends : (p : Goal) (program : Program) → Fits p program → IsStrictlyIncreasing p.watched.cells.items
goal_ascends p program fits = IsStrictlyIncreasing-from_sorted p.watched.cells.items fits.watched.ascend

pub goal_looks : (p : Goal) (program : Program) → Fits p program → LooksAt (box_problem_of program) (reasons_of p) p.watched.cells.items
goal_looks p program fits =
    decided program (reasons_of p) p.watched.cells.items
    (for_lacks (λ reason. HasAll p.watched.cells.items (reason_mentions (root_in program) (problem_in program) reason))
    (λ scenario cell here. fits.watched.all cell (lack_within (root_in program) (problem_in program).goal scenario cell here)) fits.watched.all (numbers_to p.scenarios))

-- the cells of a part are among those of all parts
part_within : (program : Program) (atoms : List Atom) (cells : List ℕ) (number : ℕ) → ArePartsWithin program atoms (length atoms) cells → HasAll cells (part_cells program atoms number)
part_within program atoms cells number within = by_atom (slice_get atoms number) refl
  where
    by_atom : (o : Option Atom) → slice_get atoms number ≡ o → HasAll cells (option_map_or (λ (a : Atom). mentions (root_in program) (term_at (things_in program) a.term)) o [])
    by_atom None at = λ cell here. absurd (omega (arith, here.1))
    by_atom (Some a) at = within number a (slice_get_within atoms number a at) at

kept_steps : (k : KeptGoal) (program : Program) (b c : Box) (cells : List ℕ) → ArePartsWithin program (atoms_of k) (length (atoms_of k)) cells → AgreeOnCells cells b c → KeepsGoal k program cells b
    → KeepsGoal k program cells c
kept_steps (Expected k) program b c cells within agree keeps =
    let atoms = k.parts.atoms.items in
    record {
      parts = parts_alike program b c cells k.parts within agree keeps.parts;
      summed = keeps.summed;
      turns = turns_alike (parts_over program atoms) (touches program atoms) (part_cells program atoms) (length atoms) b c k.parts.outdated cells k.turns
          (λ x y cell turns. goal_turns_alike program x y atoms cell turns) (λ number. part_within program atoms cells number within) agree keeps.turns;
    }
kept_steps (Worst k) program b c cells within agree keeps = parts_alike program b c cells k.parts within agree keeps

pub goal_steps : (p : Goal) (program : Program) (b c : Box) → Fits p program → Inside b (box_problem_of program).root → Inside c (box_problem_of program).root
    → AgreeOnCells p.watched.cells.items b c → InStep p program b → InStep p program c
goal_steps p program b c fits b_in c_in agree step = record {
  keeps = kept_steps p.kept program b c p.watched.cells.items fits.watched.within agree step.keeps;
  rested = rested_alike (box_problem_of program) (reasons_of p) p.watched.cells.items p.rested b c (goal_looks p program fits) b_in c_in agree step.rested;
}
