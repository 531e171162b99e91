-- The cells that the objective's terms mention, and what is found for the objective.
use Rattle.std.proofs.Common.{◌≡◌, ◌∙◌, inl, inr, ap, take, get_or, ℕ, suc, zero, ◌+◌, ◌<◌, ◌≤◌, ℤ, Bool, true, false, List, [], ◌∷◌, ◌++◌, Option, Some, None, IfSome, slice_get, length, map, Result, Ok, Err, OnOk, arith, refl, subst, sym}
use Rattle.std.specs.List.{All, Contains, flat_map, range_with_len}
use Rattle.std.proofs.lemmas.Bool.{cases_eq}
use Rattle.std.proofs.lemmas.Option.{same_Some}
use Rattle.std.specs.Option.{option_and_then, option_map_or}
use Rattle.std.proofs.lemmas.List.{take_all, take_more}
use Rattle.std.proofs.lemmas.List.Elements.{All-append, All-cons, All-contains, All-nil, Contains-append_left, Contains-append_right}
use Rattle.std.proofs.lemmas.List.FromFn.{get_or-map-range_with_len, length-map-range_with_len}
use Rattle.sopl_base.specs.declared.direction.Direction.{Direction}
use Rattle.sopl_base.specs.declared.direction.Direction.TheVariants.{Nothing}
use Rattle.sopl_base.specs.declared.reason.Reason.{Reason}
use Rattle.sopl_base.specs.declared.reason.Reason.TheVariants.{Bound, Undefined}
use Rattle.sopl_base.specs.declared.reason.Step.{Step}
use Rattle.box_problem.specs.Box.{Box, high, low, with_high, with_low}
use Rattle.box_problem.specs.BoxProblem.{BoxProblem}
use Rattle.box_problem.specs.Rightness.{IsRight, Quiets}
use Rattle.term_language.specs.Terms.{Term}
use Rattle.term_language.specs.Mentions.{mentions}
use Rattle.prop_core.proofs.Onward.{has_or_not}
use Rattle.prop_shave.specs.declared.probes.Probe.{Probe}
use Rattle.prop_shave.specs.Opened.{IsOpen, IsWhole}
use Rattle.prop_shave.specs.Probes.{HasAll, HasOnly, closes}
use Rattle.prop_shave.proofs.Finding.{found_quiet}
use Rattle.prop_shave.proofs.GoalMentioned as parts
use Rattle.prop_shave.proofs.GoalMentioned.{part_found}
use Rattle.prop_shave.proofs.Mentioned.{found}
use Rattle.prop_shave.specs.Sums.{has_cell}
use Rattle.prop_shave.specs.GoalSums.{touches_at}
use Rattle.term_goals.specs.declared.sums.Atom.{Atom}
use Rattle.term_nodes.specs.Things.{Thing, term_at}
use Rattle.term_program.specs.Stated.{box_problem_of}
use Rattle.term_problem.specs.Objective.{better_end, goal_ends}
use Rattle.term_problem.specs.Problems.{GoalTerms, IsProblem, ProblemTerms, direction_in}
use Rattle.term_problem.specs.Refuted.{refutes}
use Rattle.prop_core.specs.Findings.{Closes, Narrows}
use Rattle.term_problem.specs.Reasons.{reason_mentions}
use Rattle.term_program.specs.declared.program.Program.{Program}
use Rattle.term_program.specs.Mentions.{IsListOf}
use Rattle.term_program.specs.Programs.{no_better, problem_in, root_in, things_in}
use Rattle.term_program.proofs.Ending.{bound_closes}
use Rattle.prop_core.proofs.OneReason.{for_each, itself}
use Rattle.prop_goal.specs.Cells.{AreGoalCells, ArePartsWithin, parts_mention, term_in}
use Rattle.prop_goal.specs.Goals.{Fits, FitsKept, HasLooked, IsOpenTo, KeepsGoal, RestsFor, atoms_of}
use Rattle.prop_goal.specs.declared.goals.Goal.{Goal}
use Rattle.prop_goal.specs.declared.kept_goal.KeptGoal.{KeptGoal}
use Rattle.prop_chance.proofs.Reached.{AreIn, flat_in, none_mentioned}

-- the cells that the term in a scenario mentions
by_goal : (root : Box) (goal : Option GoalTerms) (scenario : ℕ) → option_map_or (λ (g : GoalTerms). option_map_or (mentions root) (slice_get g.terms scenario) []) goal []
    ≡ option_map_or (mentions root) (option_and_then (λ (g : GoalTerms). slice_get g.terms scenario) goal) []
by_goal root None scenario = refl
by_goal root (Some g) scenario = refl

pub undefined_cells : (root : Box) (terms : ProblemTerms) (scenario : ℕ) (term : Term) (cells : List ℕ) → Some term ≡ term_in terms scenario → IsListOf (mentions root term) cells
    → HasAll cells (reason_mentions root terms (Undefined scenario))
undefined_cells root terms scenario term cells at listed =
    subst (HasAll cells) (sym (by_goal root terms.goal scenario))
    (subst (λ (found : Option Term). HasAll cells (option_map_or (mentions root) found [])) at
    (λ cell here. (listed.mentions cell).1 here))

pub nothing_undefined : (root : Box) (terms : ProblemTerms) (scenario : ℕ) (set : List ℕ) → None ≡ term_in terms scenario → HasAll set (reason_mentions root terms (Undefined scenario))
nothing_undefined root terms scenario set at =
    subst (HasAll set) (sym (by_goal root terms.goal scenario))
    (subst (λ (found : Option Term). HasAll set (option_map_or (mentions root) found [])) at (none_mentioned set))

-- what has the cells of a list has them too
pub put_through : {A B : Type 0} (r : Result A B) (new cells mentioned : List ℕ) → HasAll cells mentioned → OnOk r (HasAll new cells) → OnOk r (HasAll new mentioned)
put_through (Ok x) new cells mentioned all put = λ cell here. put cell (all cell here)
put_through (Err e) new cells mentioned all put = tt

pub only_through : {A B : Type 0} (r : Result A B) (new old cells mentioned : List ℕ) → HasAll mentioned cells → OnOk r (HasOnly new old cells) → OnOk r (HasOnly new old mentioned)
only_through (Ok x) new old cells mentioned all only = λ cell here.
    elim (only cell here) [
      | inl earlier ↦ inl earlier
      | inr now ↦ inr (all cell now)
    ]
only_through (Err e) new old cells mentioned all only = tt

pub only_itself : (set mentioned : List ℕ) → HasOnly set set mentioned
only_itself set mentioned = λ cell here. inl here

pub undefined_only : (root : Box) (terms : ProblemTerms) (scenario : ℕ) (term : Term) (cells : List ℕ) → Some term ≡ term_in terms scenario → IsListOf (mentions root term) cells
    → HasAll (reason_mentions root terms (Undefined scenario)) cells
undefined_only root terms scenario term cells at listed =
    subst (λ (list : List ℕ). HasAll list cells) (sym (by_goal root terms.goal scenario))
    (subst (λ (found : Option Term). HasAll (option_map_or (mentions root) found []) cells) at
    (λ cell here. (listed.mentions cell).0 here))

-- those of all terms
abbrev pub scenario_of : Box → ProblemTerms → ℕ → List ℕ
scenario_of root terms scenario = reason_mentions root terms (Undefined scenario)

all_of : (root : Box) (goal : Option GoalTerms) (n : ℕ) (set : List ℕ) → IfSome goal (λ (g : GoalTerms). (length g.terms ≡ n) × (¬ g.direction ≡ Nothing))
    → AreIn (λ k. option_map_or (λ (g : GoalTerms). option_map_or (mentions root) (slice_get g.terms k) []) goal []) n set
    → HasAll set (option_map_or (λ (g : GoalTerms). flat_map (mentions root) g.terms) goal [])
all_of root None n set few each = none_mentioned set
all_of root (Some goal) n set few each = flat_in (mentions root) goal.terms set (λ k below. each k (omega (arith, below, few.0)))

pub scenarios_all : (root : Box) (terms : ProblemTerms) (n : ℕ) (set list : List ℕ) → IsProblem terms → length terms.weights ≤ n → n ≤ length terms.weights → AreIn (scenario_of root terms) n set
    → list ≡ set → HasAll list (reason_mentions root terms Bound)
scenarios_all root terms n set list problem past within each is =
    let same : n ≡ length terms.weights = omega (arith, past, within) in
    subst (λ (cells : List ℕ). HasAll cells (reason_mentions root terms Bound)) (sym is)
    (all_of root terms.goal (length terms.weights) set problem.goal (subst (λ (k : ℕ). AreIn (scenario_of root terms) k set) same each))

-- a scenario in which there is no term
pub quiet_without : (q : Probe) (scenario : ℕ) → q.reason ≡ Undefined scenario → None ≡ term_in (problem_in q.program.now) scenario → IsWhole q
    → Quiets (box_problem_of q.program.now) (Undefined scenario ∷ []) q.best q.store.now.box
quiet_without q scenario is at whole =
    subst (λ (reason : Reason). Quiets (box_problem_of q.program.now) (reason ∷ []) q.best q.store.now.box) is
    (found_quiet q []
    (subst (λ (reason : Reason). HasAll [] (reason_mentions (root_in q.program.now) (problem_in q.program.now) reason)) (sym is)
    (nothing_undefined (root_in q.program.now) (problem_in q.program.now) scenario [] at))
    whole (All-nil (IsOpen q)))

pub has_scenario : (f : ℕ → Reason) (n k : ℕ) (last : Reason) → k < n → Contains (map f (range_with_len 0 n) ++ last ∷ []) (f k)
has_scenario f n k last below =
    let count = length-map-range_with_len f 0 n in
    Contains-append_left (map f (range_with_len 0 n)) (last ∷ []) (f k)
    (k, omega (arith, below, count), get_or-map-range_with_len f 0 n k k (f k) below (omega arith))

pub has_last : (f : ℕ → Reason) (n : ℕ) (last : Reason) → Contains (map f (range_with_len 0 n) ++ last ∷ []) last
has_last f n last = Contains-append_right (map f (range_with_len 0 n)) (last ∷ []) last (itself last)

-- what closes a box of a program
pub open_to : (program : Program) (v : Option ℤ) (b : Box) (reason : Reason) → refutes (root_in program) (problem_in program) reason b v ≡ false → IsOpenTo (box_problem_of program) v b reason
unfolding box_problem_of
open_to program v b reason is = is

pub closed_by : (program : Program) (v : Option ℤ) (b : Box) (reasons : List Reason) (reason : Reason) → Contains reasons reason → refutes (root_in program) (problem_in program) reason b v
    ≡ true → Closes (box_problem_of program) reasons v b reason
unfolding box_problem_of
closed_by program v b reasons reason own is = record { own = own; closed = is }

pub whole_for : (q : Probe) (reasons : List Reason) → All (IsOpenTo (box_problem_of q.program.now) q.best q.store.now.box) reasons → Contains reasons q.reason → IsWhole q
unfolding box_problem_of
whole_for q reasons all own = All-contains (IsOpenTo (box_problem_of q.program.now) q.best q.store.now.box) reasons q.reason all own

-- all reasons together
pub rest_together : (problem : BoxProblem) (v : Option ℤ) (b : Box) (reasons : List Reason) → All (RestsFor problem v b) reasons → Quiets problem reasons v b
rest_together problem v b reasons all = record {
  whole = λ reason own. (All-contains (RestsFor problem v b) reasons reason all own).whole reason (itself reason);
  at_low = λ reason cell own exists. (All-contains (RestsFor problem v b) reasons reason all own).at_low reason cell (itself reason) exists;
  at_high = λ reason cell own exists. (All-contains (RestsFor problem v b) reasons reason all own).at_high reason cell (itself reason) exists;
}

pub narrows_by : (problem : BoxProblem) (v : Option ℤ) (b : Box) (reasons : List Reason) (step : Step) → All (IsOpenTo problem v b) reasons → Contains reasons step.reason
    → IsRight problem v b step → Narrows problem reasons v b step
narrows_by problem v b reasons step whole own right = record {
  own = own;
  right = right;
  whole = λ reason here. All-contains (IsOpenTo problem v b) reasons reason whole here;
}

-- some of the scenarios, one after the other
pub more_tried : (P : ℕ → Type 0) (xs : List ℕ) (i x : ℕ) → All P (take i xs) → i < length xs → x ≡ get_or xs i x → P x → All P (take (i + 1) xs)
more_tried P xs i x before exists is here =
    subst (All P) (sym (take_more xs i x exists))
    (All-append P (take i xs) (get_or xs i x ∷ []) before (All-cons P (get_or xs i x) [] (subst P is here) (All-nil P)))

pub all_tried : (P : ℕ → Type 0) (xs : List ℕ) (i : ℕ) → length xs ≤ i → All P (take i xs) → All P xs
all_tried P xs i past before = subst (All P) (take_all i xs past) before

-- the scenario at a place is one of them
pub one_of : (xs : List ℕ) (i x : ℕ) → i < length xs → x ≡ get_or xs i x → Contains xs x
one_of xs i x exists is = (i, exists, sym is)

all_numbers : (P : Reason → Type 0) (f : ℕ → Reason) (n : ℕ) → ((k : ℕ) → k < n → P (f k)) → All P (map f (range_with_len 0 n))
all_numbers P f n each = λ k d exists.
    let count = length-map-range_with_len f 0 n in
    let below : k < n = omega (arith, exists, count) in
    subst P (sym (get_or-map-range_with_len f 0 n k k d below (omega arith))) (each k below)

-- what holds of some scenarios by a trial and of the others by what they are
pub every : (P : Reason → Type 0) (f : ℕ → Reason) (n : ℕ) (tried : List ℕ) → All (λ k. P (f k)) tried → ((k : ℕ) → k < n → ¬ Contains tried k → P (f k)) → All P (map f (range_with_len 0 n))
every P f n tried all others =
    all_numbers P f n
    (λ k below.
    elim (has_or_not tried k) [ inl there ↦ All-contains (λ i. P (f i)) tried k all there | inr nowhere ↦ others k below nowhere ])

pub and_last : (P : Reason → Type 0) (reasons : List Reason) (last : Reason) → All P reasons → P last → All P (reasons ++ last ∷ [])
and_last P reasons last all here = All-append P reasons (last ∷ []) all (All-cons P last [] here (All-nil P))

pub has_lack : (f : ℕ → Reason) (n k : ℕ) → k < n → Contains (map f (range_with_len 0 n)) (f k)
has_lack f n k below =
    let count = length-map-range_with_len f 0 n in
    (k, omega (arith, below, count), get_or-map-range_with_len f 0 n k k (f k) below (omega arith))

-- where there is no best value, the bound closes nothing
pub rests_alone : (q : Probe) → q.reason ≡ Bound → q.best ≡ None → Quiets (box_problem_of q.program.now) (q.reason ∷ []) q.best q.store.now.box
unfolding box_problem_of
rests_alone q is none =
    let root = root_in q.program.now in
    let terms = problem_in q.program.now in
    let open_ : (b : Box) → refutes root terms q.reason b q.best ≡ false =
    λ b. ap (λ (r : Reason). refutes root terms r b q.best) is ∙ ap (λ (v : Option ℤ). refutes root terms Bound b v) none
    in
    record {
      whole = for_each q.reason (λ reason. refutes root terms reason q.store.now.box q.best ≡ false) (open_ q.store.now.box);
      at_low = λ reason cell own exists.
          for_each q.reason (λ other. refutes root terms other (with_high q.store.now.box cell (low q.store.now.box cell)) q.best ≡ false)
          (open_ (with_high q.store.now.box cell (low q.store.now.box cell))) reason own;
      at_high = λ reason cell own exists.
          for_each q.reason (λ other. refutes root terms other (with_low q.store.now.box cell (high q.store.now.box cell)) q.best ≡ false)
          (open_ (with_low q.store.now.box cell (high q.store.now.box cell))) reason own;
    }

pub closed_alone : (q : Probe) (closed : Bool) → q.reason ≡ Bound → q.best ≡ None → closed ≡ false → closed ≡ closes q q.store.now.box
closed_alone q closed is none open_ =
    open_
    ∙ sym (ap (λ (r : Reason). refutes (root_in q.program.now) (problem_in q.program.now) r q.store.now.box q.best) is
    ∙ ap (λ (v : Option ℤ). refutes (root_in q.program.now) (problem_in q.program.now) Bound q.store.now.box v) none)

pub closed_against : (q : Probe) (end v : ℤ) (direction : Direction) (closed : Bool) → q.reason ≡ Bound → q.best ≡ Some v
    → end ≡ better_end (direction_in (problem_in q.program.now)) (goal_ends (root_in q.program.now) q.store.now.box (problem_in q.program.now)) → direction
    ≡ direction_in (problem_in q.program.now) → closed ≡ no_better direction end v → closed ≡ closes q q.store.now.box
closed_against q end v direction closed is best same mine told =
    bound_closes (root_in q.program.now) q.store.now.box (problem_in q.program.now) q.best direction end v closed best mine same told
    ∙ sym (ap (λ (r : Reason). refutes (root_in q.program.now) (problem_in q.program.now) r q.store.now.box q.best) is)

-- nothing was seen anew
pub not_looked : (p : Goal) (program : Program) (b : Box) → KeepsGoal p.kept program p.watched.cells.items b → HasLooked p p program b
not_looked p program b keeps = record {
  keeps = keeps;
  fits = λ q fits. fits;
  fitted = λ q fits. fits;
  scenarios = refl;
  watched = refl;
}

-- what fits still does where something else is kept of the same parts
pub fits_kept : (p : Goal) (k : KeptGoal) (rested : Option (Option ℤ)) → atoms_of k ≡ atoms_of p.kept → ((q : Program) (cells : ℕ) → FitsKept p.kept q cells → FitsKept k q cells) → (q : Program)
    → Fits p q → Fits (record { scenarios = p.scenarios; partial = p.partial; watched = p.watched; kept = k; rested = rested }) q
fits_kept p k rested atoms kept = λ q fits.
    record {
      made = fits.made;
      scenarios = fits.scenarios;
      partial = fits.partial;
      watched = subst (AreGoalCells p.watched q) (sym atoms) fits.watched;
      kept = kept q (length p.watched.cells.items) fits.kept;
    }

-- and did before
pub kept_fitted : (p : Goal) (k : KeptGoal) (rested : Option (Option ℤ)) → atoms_of k ≡ atoms_of p.kept → ((q : Program) (cells : ℕ) → FitsKept k q cells → FitsKept p.kept q cells) → (q : Program)
    → Fits (record { scenarios = p.scenarios; partial = p.partial; watched = p.watched; kept = k; rested = rested }) q → Fits p q
kept_fitted p k rested atoms kept = λ q fits.
    record {
      made = fits.made;
      scenarios = fits.scenarios;
      partial = fits.partial;
      watched = subst (AreGoalCells p.watched q) atoms fits.watched;
      kept = kept q (length p.watched.cells.items) fits.kept;
    }

-- the cells of one part more, and of none
pub no_part_yet : (program : Program) (atoms : List Atom) (cells : List ℕ) → ArePartsWithin program atoms 0 cells
no_part_yet program atoms cells = λ number a below. absurd (omega (arith, below))

pub part_within : (program : Program) (atoms : List Atom) (number : ℕ) (d : Atom) (old new mentioned : List ℕ) → number < length atoms → IsListOf (mentions (root_in program) (term_at (things_in program) (get_or atoms number d).term)) mentioned
    → HasAll new old → HasAll new mentioned → ArePartsWithin program atoms number old → ArePartsWithin program atoms (number + 1) new
part_within program atoms number d old new mentioned exists listed kept put before = λ k a below at.
    elim (cases_eq k number) [
      | inl same ↦
          let is : get_or atoms number d ≡ a = same_Some (get_or atoms number d) a (sym (part_found atoms number d exists) ∙ sym (ap (slice_get atoms) same) ∙ at) in
          subst (λ (x : Atom). HasAll new (mentions (root_in program) (term_at (things_in program) x.term))) is (λ cell here. put cell ((listed.mentions cell).1 here))
      | inr other ↦ λ cell here. kept cell (before k a (omega (arith, below, other)) at cell here)
    ]

-- those of a part are among those of all
pub part_mentioned : (program : Program) (atoms : List Atom) (number : ℕ) (d : Atom) (mentioned : List ℕ) → number < length atoms
    → IsListOf (mentions (root_in program) (term_at (things_in program) (get_or atoms number d).term)) mentioned → HasAll (parts_mention program atoms) mentioned
part_mentioned program [] number d mentioned exists listed = absurd (omega (arith, exists))
part_mentioned program (a ∷ atoms) zero d mentioned exists listed = λ cell here.
    Contains-append_left (mentions (root_in program) (term_at (things_in program) a.term)) (parts_mention program atoms) cell ((listed.mentions cell).0 here)
part_mentioned program (a ∷ atoms) (suc number) d mentioned exists listed = λ cell here.
    Contains-append_right (mentions (root_in program) (term_at (things_in program) a.term)) (parts_mention program atoms) cell
    (part_mentioned program atoms number d mentioned (omega (arith, exists)) listed cell here)

-- terms and parts were put into no cells
pub goal_only : (bound parts first mid last : List ℕ) → first ≡ [] → HasOnly mid first bound → HasOnly last mid parts → HasAll (bound ++ parts) last
goal_only bound parts first mid last none of_terms of_parts = λ cell here.
    elim (of_parts cell here) [
      | inl earlier ↦ elim (of_terms cell earlier) [
        | inl start ↦ absurd (no_cell cell (subst (λ (set : List ℕ). Contains set cell) none start))
        | inr term ↦ Contains-append_left bound parts cell term
      ]
      | inr part ↦ Contains-append_right bound parts cell part
    ]
  where
    no_cell : (cell : ℕ) → Contains [] cell → ⊥
    no_cell cell here = omega (arith, here.1)

-- a part mentions the cells that are listed for it
pub part_listed : (root : Box) (all : List Thing) (atoms : List Atom) (cell number : ℕ) (d : Atom) (list : List ℕ) → number < length atoms
    → IsListOf (mentions root (term_at all (get_or atoms number d).term)) list → touches_at root all atoms cell number ≡ true → Contains list cell
part_listed root all atoms cell number d list below listed touched =
    found cell list (parts.touched_is root all cell (get_or atoms number d) list (has_cell cell list) listed refl ∙ (parts.touches_is root all atoms cell number d below ∙ touched))
