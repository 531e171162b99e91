-- What a propagator of a hard constraint finds.
use Rattle.std.proofs.Common.{◌≡◌, ◌∙◌, ℕ, ℤ, false, List, [], ◌∷◌, Option, None, Some, slice_get, arith, ap, refl, subst, sym}
use Rattle.std.specs.List.{AllByRecursion, Contains}
use Rattle.std.specs.Option.{option_and_then, option_map_or}
use Rattle.std.proofs.lemmas.Int.{ints}
use Rattle.sopl_base.proofs.Lists.{all_at}
use Rattle.sopl_base.specs.declared.reason.Reason.{Reason}
use Rattle.sopl_base.specs.declared.reason.Reason.TheVariants.{Hard}
use Rattle.box_problem.specs.Box.{Box, Inside, high, low, with_high, with_low}
use Rattle.box_problem.specs.Rightness.{Quiets}
use Rattle.box_problem.proofs.Boxes.{part_of_itself}
use Rattle.box_problem.proofs.Cuts.{high_lowered, low_raised}
use Rattle.term_language.specs.declared.answers.Truth.{Truth}
use Rattle.term_language.specs.declared.answers.Truth.TheVariants.{False, Unknown, True}
use Rattle.term_language.specs.Laws.{IsProperCond}
use Rattle.term_language.specs.Rules.{Near, truth}
use Rattle.term_language.specs.Terms.{Cond}
use Rattle.term_language.specs.Mentions.{cond_mentions}
use Rattle.term_program.specs.Stated.{box_problem_of}
use Rattle.prop_core.specs.Findings.{Closes, Finds}
use Rattle.prop_core.proofs.OneReason.{for_each, itself}
use Rattle.prop_core.specs.declared.finding.Finding.{Finding}
use Rattle.term_problem.specs.Problems.{ProblemTerms}
use Rattle.term_problem.specs.Reasons.{reason_mentions}
use Rattle.term_program.specs.Mentions.{IsListOf}
use Rattle.term_problem.specs.Refuted.{is_false, refutes}
use Rattle.term_program.specs.declared.program.Program.{Program}
use Rattle.term_program.specs.Programs.{IsMade, problem_in, root_in}
use Rattle.prop_shave.specs.declared.probes.Probe.{Probe}
use Rattle.prop_shave.specs.Opened.{IsWhole}
use Rattle.prop_shave.proofs.Surely.{true_there}
use Rattle.prop_shave.specs.Probes.{HasAll}

-- the cells that the condition mentions are all that the reason mentions
pub hard_cells : (root : Box) (terms : ProblemTerms) (instance scenario : ℕ) (reason : Reason) (cond : Cond) (cells : List ℕ) → reason ≡ Hard instance scenario
    → option_and_then (λ conditions. slice_get conditions scenario) (slice_get terms.hards instance) ≡ Some cond → IsListOf (cond_mentions root cond) cells
    → HasAll cells (reason_mentions root terms reason)
hard_cells root terms instance scenario reason cond cells is at listed =
    subst (λ (r : Reason). HasAll cells (reason_mentions root terms r)) (sym is)
    (subst (λ (found : Option Cond). HasAll cells (option_map_or (cond_mentions root) found [])) (sym at)
    (λ cell here. (listed.mentions cell).1 here))

-- and what is found for that reason is found for the list of it alone
pub found_so : (program : Program) (own reason : Reason) (v : Option ℤ) (b : Box) (finding : Finding) → reason ≡ own → Finds (box_problem_of program) (reason ∷ []) v b finding
    → Finds (box_problem_of program) (own ∷ []) v b finding
found_so program own reason v b finding is found =
    subst (λ (r : Reason). Finds (box_problem_of program) (r ∷ []) v b finding) is found

-- whether the reason closes a box, by the truth of the condition there
refuted_by : (root b : Box) (terms : ProblemTerms) (instance scenario : ℕ) (v : Option ℤ) (cond : Cond)
    → option_and_then (λ conditions. slice_get conditions scenario) (slice_get terms.hards instance) ≡ Some cond → refutes root terms (Hard instance scenario) b v
    ≡ is_false (truth Near root b cond)
refuted_by root b terms instance scenario v cond at =
    ap (λ (o : Option Cond). option_map_or (λ c. is_false (truth Near root b c)) o false) at

pub false_dead : (program : Program) (b : Box) (instance scenario : ℕ) (v : Option ℤ) (cond : Cond) (reason : Reason) (found : Truth) → reason ≡ Hard instance scenario
    → option_and_then (λ conditions. slice_get conditions scenario) (slice_get (problem_in program).hards instance) ≡ Some cond → found ≡ truth Near (root_in program) b cond → found ≡ False
    → Closes (box_problem_of program) (Hard instance scenario ∷ []) v b reason
unfolding box_problem_of
false_dead program b instance scenario v cond reason found same at is closed = record {
  own = subst (Contains (Hard instance scenario ∷ [])) (sym same) (itself (Hard instance scenario));
  closed = ap (λ (r : Reason). refutes (root_in program) (problem_in program) r b v) same
      ∙ refuted_by (root_in program) b (problem_in program) instance scenario v cond at
      ∙ ap is_false (sym is ∙ closed);
}

pub unknown_whole : (q : Probe) (instance scenario : ℕ) (cond : Cond) (found : Truth) → q.reason ≡ Hard instance scenario
    → option_and_then (λ conditions. slice_get conditions scenario) (slice_get (problem_in q.program.now).hards instance) ≡ Some cond
    → found ≡ truth Near (root_in q.program.now) q.store.now.box cond → found ≡ Unknown → IsWhole q
unknown_whole q instance scenario cond found same at is open_ =
    ap (λ (r : Reason). refutes (root_in q.program.now) (problem_in q.program.now) r q.store.now.box q.best) same
    ∙ refuted_by (root_in q.program.now) q.store.now.box (problem_in q.program.now) instance scenario q.best cond at
    ∙ ap is_false (sym is ∙ open_)

-- a condition that is True over a box is closed with no cell at an end
proper_there : (terms : ProblemTerms) (instance scenario : ℕ) (cond : Cond) → AllByRecursion (AllByRecursion IsProperCond) terms.hards
    → option_and_then (λ conditions. slice_get conditions scenario) (slice_get terms.hards instance) ≡ Some cond → IsProperCond cond
proper_there terms instance scenario cond all at = by_conditions (slice_get terms.hards instance) refl at
  where
    by_conditions : (o : Option (List Cond)) → slice_get terms.hards instance ≡ o → option_and_then (λ conditions. slice_get conditions scenario) o ≡ Some cond → IsProperCond cond
    by_conditions None there is = absurd (cc)
    by_conditions (Some conditions) there is =
        all_at IsProperCond conditions scenario cond (all_at (AllByRecursion IsProperCond) terms.hards instance conditions all there) is

pub true_rests : (program : Program) (b : Box) (instance scenario : ℕ) (v : Option ℤ) (cond : Cond) (found : Truth) → IsMade program → Inside b (root_in program)
    → option_and_then (λ conditions. slice_get conditions scenario) (slice_get (problem_in program).hards instance) ≡ Some cond → found ≡ truth Near (root_in program) b cond → found ≡ True
    → Quiets (box_problem_of program) (Hard instance scenario ∷ []) v b
unfolding box_problem_of
true_rests program b instance scenario v cond found made inside at is holds =
    let root = root_in program in
    let terms = problem_in program in
    let is_box = inside.is_box in
    let proper = proper_there terms instance scenario cond made.problem.proper.hards at in
    let over : (c : Box) → Inside c b → refutes root terms (Hard instance scenario) c v ≡ false =
    λ c within. refuted_by root c terms instance scenario v cond at ∙ true_there root b c cond is_box within proper (sym is ∙ holds)
    in
    record {
      whole = for_each (Hard instance scenario) (λ reason. refutes root terms reason b v ≡ false) (over b (part_of_itself b is_box));
      at_low = λ reason cell own exists.
          for_each (Hard instance scenario) (λ other. refutes root terms other (with_high b cell (low b cell)) v ≡ false)
          (over (with_high b cell (low b cell)) (high_lowered b cell (low b cell) is_box exists (omega (arith, ints)) (is_box.ordered cell exists))) reason own;
      at_high = λ reason cell own exists.
          for_each (Hard instance scenario) (λ other. refutes root terms other (with_low b cell (high b cell)) v ≡ false)
          (over (with_low b cell (high b cell)) (low_raised b cell (high b cell) is_box exists (is_box.ordered cell exists) (omega (arith, ints)))) reason own;
    }
