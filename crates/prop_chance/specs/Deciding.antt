-- The cells that decide whether reasons close a box, and the truth of a chance constraint's condition in each scenario.
use Rattle.std.proofs.Common.{◌≡◌, ℕ, zero, suc, ◌<◌, ℤ, Bool, true, List, [], ◌∷◌, Option, Some, None, IfSome, slice_get, get_or, length, arith, refl, ap₂, subst, ◌∙◌}
use Rattle.std.specs.List.{Contains, flat_map}
use Rattle.std.specs.List.Sorted.{IsStrictlyIncreasing}
use Rattle.std.specs.Option.{option_and_then, option_map_or}
use Rattle.std.proofs.lemmas.List.Elements.{Contains-append_left, Contains-append_right}
use Rattle.std.proofs.lemmas.Map.Keys.{IsStrictlyIncreasing-from_sorted}
use Rattle.sopl_base.specs.declared.reason.Reason.{Reason}
use Rattle.sopl_base.specs.declared.reason.Reason.TheVariants.{Chance}
use Rattle.box_problem.specs.Box.{Box, Inside}
use Rattle.term_language.specs.declared.answers.Truth.TheVariants.{False}
use Rattle.term_language.specs.Ends.{cell_ends, ends}
use Rattle.term_language.specs.Mentions.{cond_mentions}
use Rattle.term_language.specs.Rules.{Near, truth}
use Rattle.term_language.specs.Terms.{Cond}
use Rattle.term_language.proofs.Agreement.{truths_agree}
use Rattle.term_problem.specs.Problems.{ChanceTerms, ProblemTerms}
use Rattle.term_problem.specs.Reasons.{reason_mentions}
use Rattle.term_problem.proofs.Reasons.{all_of, reasons_agree}
use Rattle.term_program.specs.declared.program.Program.{Program}
use Rattle.term_program.specs.Programs.{problem_in, root_in}
use Rattle.term_program.specs.Stated.{box_problem_of}
use Rattle.prop_core.specs.Alike.{rested_alike}
use Rattle.prop_core.specs.Watches.{AgreeElsewhere, AgreeOnCells, AreAsLong, LooksAt}
use Rattle.prop_shave.proofs.AtEnds.{condition_cells, weight_turns_alike}
use Rattle.prop_shave.specs.ChanceSums.{condition_in, is_touched, left_over}
use Rattle.prop_shave.specs.Probes.{HasAll}
use Rattle.prop_shave.specs.Turns.{AreEndTurns}
use Rattle.prop_shave.specs.declared.end_turns.EndTurns.{EndTurns}
use Rattle.prop_chance.specs.Chances.{Fits, InStep, reasons_of}
use Rattle.prop_chance.specs.KeptTurns.{KeepsTurns, turns_of}
use Rattle.prop_chance.specs.KeptWeights.{KeepsWeight}
use Rattle.prop_chance.specs.declared.chances.Chance.{Chance as Kind}
use Rattle.prop_chance.specs.declared.kept_turns.KeptTurns.{KeptTurns}
use Rattle.prop_chance.specs.declared.kept_weight.KeptWeight.{KeptWeight}
use Rattle.prop_chance.specs.declared.outdated.Outdated.{Outdated}

-- a condition's truth is decided by the cells that it mentions
pub over_agrees : (root b c : Box) (found : Option Cond) → ((n : ℕ) → Contains (option_map_or (cond_mentions root) found []) n → cell_ends b n ≡ cell_ends c n)
    → option_map_or (truth Near root b) found False ≡ option_map_or (truth Near root c) found False
over_agrees root b c None same = refl
over_agrees root b c (Some cond) same =
    truths_agree Near root b c cond (all_of (λ n. cell_ends b n ≡ cell_ends c n) (cond_mentions root cond) same)

-- the cells of a condition are among those of all conditions
cond_within : (root : Box) (conditions : List Cond) (k : ℕ) → HasAll (flat_map (cond_mentions root) conditions) (option_map_or (cond_mentions root) (slice_get conditions k) [])
cond_within root [] k = λ cell here. here
cond_within root (cond ∷ conditions) zero = λ cell here. Contains-append_left (cond_mentions root cond) (flat_map (cond_mentions root) conditions) cell here
cond_within root (cond ∷ conditions) (suc k) = λ cell here.
    Contains-append_right (cond_mentions root cond) (flat_map (cond_mentions root) conditions) cell (cond_within root conditions k cell here)

pub chance_within : (root : Box) (found : Option ChanceTerms) (k : ℕ) → HasAll (option_map_or (λ (chance : ChanceTerms). flat_map (cond_mentions root) chance.conditions) found [])
    (option_map_or (cond_mentions root) (option_and_then (λ (chance : ChanceTerms). slice_get chance.conditions k) found) [])
chance_within root None k = λ cell here. here
chance_within root (Some chance) k = cond_within root chance.conditions k

-- boxes that agree on some cells agree on those that are among them
pub ends_agree : (cells : List ℕ) (b c : Box) → AgreeOnCells cells b c → (n : ℕ) → Contains cells n → cell_ends b n ≡ cell_ends c n
ends_agree cells b c agree n there = ap₂ ends (agree.lows n there) (agree.highs n there)

-- or on all but one
pub ends_elsewhere : (cell : ℕ) (b c : Box) → AgreeElsewhere cell b c → (n : ℕ) → (¬ n ≡ cell) → cell_ends b n ≡ cell_ends c n
ends_elsewhere cell b c agree n other = ap₂ ends (agree.lows n other) (agree.highs n other)

-- what is kept is right for both or for neither
keeps_alike : (root b c : Box) (terms : ProblemTerms) (instance : ℕ) (cells : List ℕ) (w : KeptWeight) → HasAll cells (reason_mentions root terms (Chance instance)) → AgreeOnCells cells b c
    → KeepsWeight root terms instance b w → KeepsWeight root terms instance c w
keeps_alike root b c terms instance cells w all agree keeps = record {
  truths = record {
    summed = keeps.truths.summed;
    each = λ k d below fresh. keeps.truths.each k d below fresh
        ∙ over_agrees root b c (condition_in terms instance k)
        (λ n mentioned. ends_agree cells b c agree n (all n (chance_within root (slice_get terms.chances instance) k n mentioned)));
  };
  listed = keeps.listed;
}

-- the turns of a cell are decided by the cells that are mentioned together with it
abbrev pub AreDecided : (Box → ℤ) → (ℕ → ℕ → Bool) → (ℕ → List ℕ) → ℕ → Type 0
AreDecided number mentions within count =
    (b c : Box) (cell : ℕ) (turns : EndTurns) → AreAsLong b c
    → ((thing : ℕ) → thing < count → mentions cell thing ≡ true → (n : ℕ) → Contains (within thing) n → cell_ends b n ≡ cell_ends c n) → AreEndTurns number b cell turns
    → AreEndTurns number c cell turns

pub if_some_map : {A : Type 0} (o : Option A) (P Q : A → Type 0) → ((x : A) → P x → Q x) → IfSome o P → IfSome o Q
if_some_map None P Q each is = tt
if_some_map (Some x) P Q each is = each x is

pub turns_alike : (number : Box → ℤ) (mentions : ℕ → ℕ → Bool) (within : ℕ → List ℕ) (count : ℕ) (b c : Box) (o : Outdated) (cells : List ℕ) (k : KeptTurns)
    → AreDecided number mentions within count → ((thing : ℕ) → HasAll cells (within thing)) → AgreeOnCells cells b c → KeepsTurns number mentions count b o cells k
    → KeepsTurns number mentions count c o cells k
turns_alike number mentions within count b c o cells k decided all agree keeps = record {
  each = λ place below fresh.
      if_some_map (turns_of k place) (AreEndTurns number b (get_or cells place 0)) (AreEndTurns number c (get_or cells place 0))
      (λ turns. decided b c (get_or cells place 0) turns agree.as_long (λ thing there touched n mentioned. ends_agree cells b c agree n (all thing n mentioned)))
      (keeps.each place below fresh);
}

-- reasons are decided by all cells that they mention
pub decided : (program : Program) (reasons : List Reason) (cells : List ℕ)
    → ((reason : Reason) → Contains reasons reason → HasAll cells (reason_mentions (root_in program) (problem_in program) reason)) → LooksAt (box_problem_of program) reasons cells
unfolding box_problem_of
decided program reasons cells all = λ b c v reason b_in c_in agree own.
    reasons_agree (root_in program) b c (problem_in program) reason v
    (all_of (λ n. cell_ends b n ≡ cell_ends c n) (reason_mentions (root_in program) (problem_in program) reason) (λ n mentioned. ends_agree cells b c agree n (all reason own n mentioned)))

-- one reason alone
pub for_one : (P : Reason → Type 0) (x : Reason) → P x → (y : Reason) → Contains (x ∷ []) y → P y
for_one P x holds y (zero, below, is) = subst P is holds
for_one P x holds y (suc at, below, is) = absurd (omega (arith, below))

pub one_decided : (program : Program) (reason : Reason) (cells : List ℕ) → HasAll cells (reason_mentions (root_in program) (problem_in program) reason)
    → LooksAt (box_problem_of program) (reason ∷ []) cells
one_decided program reason cells all =
    decided program (reason ∷ []) cells (for_one (λ each. HasAll cells (reason_mentions (root_in program) (problem_in program) each)) reason all)

-- the laws
pub chance_ascends : (p : Kind) (program : Program) → Fits p program → IsStrictlyIncreasing p.constraint.cells.items
chance_ascends p program fits = IsStrictlyIncreasing-from_sorted p.constraint.cells.items fits.constraint.ascend

pub chance_looks : (p : Kind) (program : Program) → Fits p program → LooksAt (box_problem_of program) (reasons_of p) p.constraint.cells.items
chance_looks p program fits = one_decided program (Chance p.constraint.instance) p.constraint.cells.items fits.constraint.all

pub chance_steps : (p : Kind) (program : Program) (b c : Box) → Fits p program → Inside b (box_problem_of program).root → Inside c (box_problem_of program).root
    → AgreeOnCells p.constraint.cells.items b c → InStep p program b → InStep p program c
chance_steps p program b c fits b_in c_in agree step =
    let root = root_in program in
    let terms = problem_in program in
    let instance = p.constraint.instance in
    let cells = p.constraint.cells.items in
    record {
      weight = keeps_alike root b c terms instance cells p.weight fits.constraint.all agree step.weight;
      turns = turns_alike (left_over root terms instance) (is_touched root terms instance) (condition_cells root terms instance) (length terms.weights) b c p.weight.outdated cells p.turns
          (λ x y cell turns. weight_turns_alike root x y terms instance cell turns)
          (λ scenario n mentioned. fits.constraint.all n (chance_within root (slice_get terms.chances instance) scenario n mentioned)) agree step.turns;
      rested = rested_alike (box_problem_of program) (reasons_of p) cells p.rested b c (chance_looks p program fits) b_in c_in agree step.rested;
    }
