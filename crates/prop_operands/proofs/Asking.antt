-- What the intervals of operands tell of a box.
use Rattle.std.proofs.Common.{◌≡◌, ◌∙◌, refl, ap, sym, subst, ℕ, ℤ, Bool, true, false, List, [], ◌∷◌, Option, Some, slice_get}
use Rattle.std.specs.List.{All, Contains}
use Rattle.std.specs.Option.{option_and_then, option_map_or}
use Rattle.sopl_base.specs.declared.reason.Reason.{Reason}
use Rattle.sopl_base.specs.declared.reason.Reason.TheVariants.{Hard}
use Rattle.box_problem.specs.Box.{Box, Inside}
use Rattle.box_problem.specs.Rightness.{Quiets}
use Rattle.term_crowds.specs.Crowds.{AllOrdered}
use Rattle.term_crowds.proofs.Truths.{ordered_intervals}
use Rattle.term_language.specs.Ends as rule
use Rattle.term_language.specs.Marks.{judged}
use Rattle.term_language.specs.Mentions.{cond_mentions}
use Rattle.term_language.specs.Rules.{Near, intervals, truth}
use Rattle.term_language.specs.Terms.{Cond}
use Rattle.term_language.specs.declared.answers.Defined.{Defined}
use Rattle.term_language.specs.declared.answers.Defined.TheVariants.{Never, Maybe, Always}
use Rattle.term_math.specs.declared.ends.Ends.{Ends}
use Rattle.term_nodes.proofs.Ready.{terms_proper}
use Rattle.term_problem.specs.Problems.{ProblemTerms}
use Rattle.term_problem.specs.Reasons.{reason_mentions}
use Rattle.term_problem.specs.Refuted.{is_false, refutes}
use Rattle.term_program.specs.Mentions.{IsListOf}
use Rattle.term_program.specs.Programs.{IsMade, problem_in, root_in}
use Rattle.term_program.specs.Stated.{box_problem_of}
use Rattle.term_program.specs.declared.program.Program.{Program}
use Rattle.term_windows.specs.Windows.{spans}
use Rattle.prop_shave.specs.Opened.{IsOpen, IsWhole}
use Rattle.prop_shave.specs.Probes.{closes}
use Rattle.prop_shave.specs.declared.probes.Probe.{Probe}
use Rattle.prop_shave.proofs.Finding.{found_quiet}
use Rattle.prop_operands.specs.Kept.{AreSeen, operand_ids, operand_terms, operands_mark}
use Rattle.prop_operands.specs.Questions.{IsAbout, is_refuted}
use Rattle.prop_operands.specs.declared.operands.Operand.{Operand}
use Rattle.prop_operands.specs.declared.operands.Operands.{Operands}

-- an operand that is Never defined closes the box
pub never_closes : (fails : List rule.Ends → Bool) (o : Operands) (q : Probe) (b : Box) → IsAbout fails o q → operands_mark q.program.now o.list.items b ≡ Never → true ≡ closes q b
never_closes fails o q b about never =
    sym (about.tells b ∙ ap (λ (m : Defined). is_refuted m (fails (intervals Near (root_in q.program.now) b (operand_terms q.program.now o.list.items)))) never)

-- else the question tells it
pub ever_refuted : (m : Defined) (fails : Bool) → ¬ m ≡ Never → is_refuted m fails ≡ fails
ever_refuted Never fails ever = absurd (ever refl)
ever_refuted Maybe fails ever = refl
ever_refuted Always fails ever = refl

pub asked_closes : (fails : List rule.Ends → Bool) (o : Operands) (q : Probe) (b : Box) (es : List Ends) (answer : Bool) → IsAbout fails o q → AreSeen q.program.now b o.list.items es
    → answer ≡ fails (spans es) → answer ≡ closes q b
asked_closes fails o q b es answer about seen is =
    is ∙ ap fails seen.spans
    ∙ sym (about.tells b ∙ ever_refuted (operands_mark q.program.now o.list.items b) _ seen.defined)

-- no interval is empty
pub ordered_seen : (program : Program) (b : Box) (list : List Operand) (es : List Ends) → IsMade program → Inside b (root_in program) → AreSeen program b list es → AllOrdered (spans es)
ordered_seen program b list es made inside seen =
    subst AllOrdered (sym seen.spans)
    (ordered_intervals Near (root_in program) b (operand_terms program list) made.draft.store.root_is_box inside
    (terms_proper (root_in program) program.draft.store.items.items (operand_ids list) made.draft.store.built))

-- what is judged
pub judged_refuted : (m : Defined) (fails holds : Bool) → is_false (judged m fails holds) ≡ is_refuted m fails
judged_refuted Never fails holds = refl
judged_refuted Maybe true holds = refl
judged_refuted Maybe false holds = refl
judged_refuted Always true holds = refl
judged_refuted Always false true = refl
judged_refuted Always false false = refl

-- a hard constraint closes a box where its condition is False
pub hard_closes : (root : Box) (terms : ProblemTerms) (instance scenario : ℕ) (reason : Reason) (c : Cond) (b : Box) (v : Option ℤ) → reason ≡ Hard instance scenario
    → option_and_then (λ conditions. slice_get conditions scenario) (slice_get terms.hards instance) ≡ Some c → refutes root terms reason b v ≡ is_false (truth Near root b c)
hard_closes root terms instance scenario reason c b v is at =
    ap (λ (r : Reason). refutes root terms r b v) is
    ∙ ap (λ (o : Option Cond). option_map_or (λ condition. is_false (truth Near root b condition)) o false) at

-- and it mentions what its condition does
pub hard_mentions : (root : Box) (terms : ProblemTerms) (instance scenario : ℕ) (reason : Reason) (c : Cond) → reason ≡ Hard instance scenario
    → option_and_then (λ conditions. slice_get conditions scenario) (slice_get terms.hards instance) ≡ Some c → reason_mentions root terms reason ≡ cond_mentions root c
hard_mentions root terms instance scenario reason c is at =
    ap (λ (r : Reason). reason_mentions root terms r) is ∙ ap (λ (o : Option Cond). option_map_or (cond_mentions root) o []) at

-- so nothing is left where all cells were tried that the condition mentions
pub tried_quiet : (q : Probe) (instance scenario : ℕ) (cells : List ℕ) (c : Cond) → q.reason ≡ Hard instance scenario
    → option_and_then (λ conditions. slice_get conditions scenario) (slice_get (problem_in q.program.now).hards instance) ≡ Some c
    → IsListOf (cond_mentions (root_in q.program.now) c) cells → IsWhole q → All (IsOpen q) cells → Quiets (box_problem_of q.program.now) (q.reason ∷ []) q.best q.store.now.box
tried_quiet q instance scenario cells c own at listed whole opened =
    let is = hard_mentions (root_in q.program.now) (problem_in q.program.now) instance scenario q.reason c own at in
    found_quiet q cells (λ cell there. (listed.mentions cell).1 (subst (λ (ns : List ℕ). Contains ns cell) is there)) whole opened
