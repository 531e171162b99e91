-- Where a term is always defined, its lack of a value closes no part of a box.
use Rattle.std.proofs.Common.{◌≡◌, ◌∙◌, inl, inr, ℕ, ◌+◌, ◌≤◌, ℤ, Bool, true, false, List, [], ◌∷◌, ◌++◌, Option, Some, None, IfSome, slice_get, if◌then◌else◌, append-nil, arith, refl, ap, subst, sym}
use Rattle.std.specs.List.{AllByRecursion, Contains}
use Rattle.std.proofs.lemmas.Bool.{cases_lt}
use Rattle.std.proofs.lemmas.List.Elements.{Contains-append_cases, Contains-append_left, Contains-append_right}
use Rattle.sopl_base.proofs.Lists.{contains_one}
use Rattle.std.specs.Option.{option_and_then, option_map_or}
use Rattle.std.proofs.lemmas.Int.{ints}
use Rattle.sopl_base.specs.declared.reason.Reason.TheVariants.{Undefined}
use Rattle.box_problem.specs.Box.{Box, Inside, IsBox, high, low, with_high, with_low}
use Rattle.box_problem.specs.Rightness.{Quiets}
use Rattle.box_problem.proofs.Boxes.{part_of_itself, parts_of_parts, points_of_parts}
use Rattle.box_problem.proofs.Cuts.{high_lowered, low_raised}
use Rattle.box_problem.proofs.Shared.{lows_inside}
use Rattle.term_language.specs.declared.answers.Defined.{Defined}
use Rattle.term_language.specs.declared.answers.Defined.TheVariants.{Never, Maybe, Always}
use Rattle.term_language.specs.Laws.{IsProper, Marks}
use Rattle.term_language.specs.Rules.{Near, mark}
use Rattle.term_language.specs.Terms.{Term}
use Rattle.term_language.specs.Values.{value}
use Rattle.term_language.proofs.Soundness.{marks_tell}
use Rattle.prop_shave.specs.declared.probes.Probe.{Probe}
use Rattle.prop_shave.specs.Probes.{IsAsked}
use Rattle.term_program.specs.Stated.{box_problem_of}
use Rattle.term_problem.specs.Problems.{GoalTerms, ProblemTerms}
use Rattle.term_problem.specs.Refuted.{is_never, refutes}
use Rattle.term_program.specs.declared.program.Program.{Program}
use Rattle.term_program.specs.Programs.{IsMade, problem_in, root_in}
use Rattle.prop_core.proofs.OneReason.{for_each}
use Rattle.prop_goal.specs.Cells.{term_in}
use Rattle.prop_goal.specs.Goals.{ArePartial, IsDefined}
use Rattle.prop_chance.proofs.Reached.{at_place}

by_marks : (m : Defined) (v : Option ℤ) → Marks m v → Marks Always v → is_never m ≡ false
by_marks Never None here there = absurd there
by_marks Never (Some x) here there = absurd here
by_marks Maybe v here there = refl
by_marks Always v here there = refl

never_there : (root b c : Box) (t : Term) → IsBox b → Inside c b → IsProper t → mark Near root b t ≡ Always → is_never (mark Near root c t) ≡ false
never_there root b c t is_box inside proper always =
    let within = lows_inside c inside.is_box in
    by_marks (mark Near root c t) (value c.lows t) (marks_tell Near root c c.lows t inside.is_box within proper)
    (subst (λ (m : Defined). Marks m (value c.lows t)) always (marks_tell Near root b c.lows t is_box (points_of_parts c b c.lows inside within) proper))

-- the terms of an objective are proper
proper_at : (goal : Option GoalTerms) (scenario : ℕ) (t : Term) → IfSome goal (λ (g : GoalTerms). AllByRecursion IsProper g.terms) → Some t
    ≡ option_and_then (λ (g : GoalTerms). slice_get g.terms scenario) goal → IsProper t
proper_at None scenario t all at = absurd (cc)
proper_at (Some goal) scenario t all at =
    subst (λ (found : Option Term). IfSome found IsProper) (sym at) (at_place IsProper goal.terms scenario all)

by_goal : (root b : Box) (goal : Option GoalTerms) (scenario : ℕ) → option_map_or (λ (g : GoalTerms). option_map_or (λ t. is_never (mark Near root b t)) (slice_get g.terms scenario) false) goal false
    ≡ option_map_or (λ t. is_never (mark Near root b t)) (option_and_then (λ (g : GoalTerms). slice_get g.terms scenario) goal) false
by_goal root b None scenario = refl
by_goal root b (Some g) scenario = refl

closed_where_never : (root b : Box) (terms : ProblemTerms) (scenario : ℕ) (v : Option ℤ) (t : Term) → Some t ≡ term_in terms scenario → is_never (mark Near root b t) ≡ false
    → refutes root terms (Undefined scenario) b v ≡ false
closed_where_never root b terms scenario v t at defined =
    by_goal root b terms.goal scenario
    ∙ sym (ap (λ (found : Option Term). option_map_or (λ u. is_never (mark Near root b u)) found false) at)
    ∙ defined

-- so the reason rests
pub always_rests : (q : Probe) (scenario : ℕ) (t : Term) → IsAsked q → q.reason ≡ Undefined scenario → Some t ≡ term_in (problem_in q.program.now) scenario
    → mark Near (root_in q.program.now) q.store.now.box t ≡ Always → Quiets (box_problem_of q.program.now) (Undefined scenario ∷ []) q.best q.store.now.box
unfolding box_problem_of
always_rests q scenario t asked is at always =
    let root = root_in q.program.now in
    let terms = problem_in q.program.now in
    let b = q.store.now.box in
    let is_box = asked.inside.is_box in
    let proper = proper_at terms.goal scenario t asked.made.problem.proper.goal at in
    let over : (c : Box) → Inside c b → refutes root terms (Undefined scenario) c q.best ≡ false =
    λ c inside. closed_where_never root c terms scenario q.best t at (never_there root b c t is_box inside proper always)
    in
    record {
      whole = for_each (Undefined scenario) (λ reason. refutes root terms reason b q.best ≡ false) (over b (part_of_itself b is_box));
      at_low = λ reason cell own exists.
          for_each (Undefined scenario) (λ other. refutes root terms other (with_high b cell (low b cell)) q.best ≡ false)
          (over (with_high b cell (low b cell)) (high_lowered b cell (low b cell) is_box exists (omega (arith, ints)) (is_box.ordered cell exists))) reason own;
      at_high = λ reason cell own exists.
          for_each (Undefined scenario) (λ other. refutes root terms other (with_low b cell (high b cell)) q.best ≡ false)
          (over (with_low b cell (high b cell)) (low_raised b cell (high b cell) is_box exists (is_box.ordered cell exists) (omega (arith, ints)))) reason own;
    }

-- where the term has a value all over the root, or there is none
pub defined_none : (root : Box) (terms : ProblemTerms) (scenario : ℕ) → None ≡ term_in terms scenario → IsDefined root terms scenario
defined_none root terms scenario at =
    subst (λ (found : Option Term). IfSome found (λ t. mark Near root root t ≡ Always)) at tt

pub defined_some : (root b : Box) (terms : ProblemTerms) (scenario : ℕ) (t : Term) (m : Defined) → Some t ≡ term_in terms scenario → b ≡ root → m ≡ mark Near root b t → m ≡ Always → IsDefined root terms scenario
defined_some root b terms scenario t m at same is always =
    subst (λ (found : Option Term). IfSome found (λ u. mark Near root root u ≡ Always)) at
    (sym (ap (λ (c : Box). mark Near root c t) same) ∙ (sym is ∙ always))

over_part : (program : Program) (b : Box) (scenario : ℕ) (v : Option ℤ) (found : Option Term) → IsMade program → Inside b (root_in program) → found ≡ term_in (problem_in program) scenario → IfSome found (λ t. mark Near (root_in program) (root_in program) t ≡ Always) → refutes (root_in program) (problem_in program) (Undefined scenario) b v ≡ false
over_part program b scenario v None made inside at always =
    by_goal (root_in program) b (problem_in program).goal scenario
    ∙ sym (ap (λ (found : Option Term). option_map_or (λ u. is_never (mark Near (root_in program) b u)) found false) at)
over_part program b scenario v (Some t) made inside at always =
    closed_where_never (root_in program) b (problem_in program) scenario v t at
    (never_there (root_in program) (root_in program) b t made.draft.store.root_is_box inside (proper_at (problem_in program).goal scenario t made.problem.proper.goal at) always)

pub defined_open : (program : Program) (b : Box) (scenario : ℕ) (v : Option ℤ) → IsMade program → Inside b (root_in program) → IsDefined (root_in program) (problem_in program) scenario → refutes (root_in program) (problem_in program) (Undefined scenario) b v ≡ false
defined_open program b scenario v made inside defined =
    over_part program b scenario v (term_in (problem_in program) scenario) made inside refl defined

pub defined_rests : (program : Program) (b : Box) (scenario : ℕ) (v : Option ℤ) → IsMade program → Inside b (root_in program) → IsDefined (root_in program) (problem_in program) scenario → Quiets (box_problem_of program) (Undefined scenario ∷ []) v b
unfolding box_problem_of
defined_rests program b scenario v made inside defined =
    let root = root_in program in
    let terms = problem_in program in
    let is_box = inside.is_box in
    let over : (c : Box) → Inside c b → refutes root terms (Undefined scenario) c v ≡ false =
    λ c part. defined_open program c scenario v made (parts_of_parts c b root part inside) defined
    in
    record {
      whole = for_each (Undefined scenario) (λ reason. refutes root terms reason b v ≡ false) (over b (part_of_itself b is_box));
      at_low = λ reason cell own exists.
          for_each (Undefined scenario) (λ other. refutes root terms other (with_high b cell (low b cell)) v ≡ false)
          (over (with_high b cell (low b cell)) (high_lowered b cell (low b cell) is_box exists (omega (arith, ints)) (is_box.ordered cell exists))) reason own;
      at_high = λ reason cell own exists.
          for_each (Undefined scenario) (λ other. refutes root terms other (with_low b cell (high b cell)) v ≡ false)
          (over (with_low b cell (high b cell)) (low_raised b cell (high b cell) is_box exists (is_box.ordered cell exists) (omega (arith, ints)))) reason own;
    }

-- the scenarios in which it may have none
pub no_partial : (root : Box) (terms : ProblemTerms) → ArePartial root terms 0 []
no_partial root terms = record {
  below = λ scenario here. absurd (omega (arith, here.1));
  others = λ scenario under. absurd (omega (arith, under));
}

pub partial_more : (root : Box) (terms : ProblemTerms) (n : ℕ) (old new : List ℕ) (defined : Bool) → ArePartial root terms n old → (defined ≡ true → IsDefined root terms n) → new ≡ old ++ (if defined then [] else n ∷ []) → ArePartial root terms (n + 1) new
partial_more root terms n old new true before is put =
    subst (ArePartial root terms (n + 1)) (sym (put ∙ append-nil old))
    (record {
      below = λ scenario here. let under = before.below scenario here in omega (arith, under);
      others = λ scenario under nowhere.
          elim (cases_lt scenario n) [
            | inl earlier ↦ before.others scenario earlier nowhere
            | inr later ↦ subst (IsDefined root terms) (let same : n ≡ scenario = omega (arith, under, later) in same) (is refl)
          ];
    })
partial_more root terms n old new false before is put =
    subst (ArePartial root terms (n + 1)) (sym put)
    (record {
      below = λ scenario here.
          elim (Contains-append_cases old (n ∷ []) scenario here) [
            | inl there ↦ let under = before.below scenario there in omega (arith, under)
            | inr last ↦ let same = contains_one n scenario last in omega (arith, same)
          ];
      others = λ scenario under nowhere.
          elim (cases_lt scenario n) [
            | inl earlier ↦ before.others scenario earlier (λ there. nowhere (Contains-append_left old (n ∷ []) scenario there))
            | inr later ↦
                let same : n ≡ scenario = omega (arith, under, later) in
                absurd (nowhere (subst (Contains (old ++ n ∷ [])) same (Contains-append_right old (n ∷ []) n (0, omega arith, refl))))
          ];
    })

pub partial_all : (root : Box) (terms : ProblemTerms) (n i : ℕ) (list : List ℕ) → n ≤ i → i ≤ n → ArePartial root terms i list → ArePartial root terms n list
partial_all root terms n i list past within are =
    subst (λ (k : ℕ). ArePartial root terms k list) (let same : i ≡ n = omega (arith, past, within) in same) are
