-- The sums that are kept go with the box.
use Rattle.std.proofs.Common.{◌≡◌, ◌∙◌, inl, inr, ℕ, ◌+◌, ◌<◌, ℤ, pos, ◌+ℤ◌, List, [], Option, None, Some, IfSome, length, get_or, set, slice_get, length-set, refl, sym, ap, ap₂, subst, arith}
use Rattle.std.specs.List.{Contains}
use Rattle.std.specs.Option.{option_map_or}
use Rattle.std.proofs.lemmas.Bool.{cases_eq}
use Rattle.std.proofs.lemmas.List.{get_or-set_other, get_or-set_same}
use Rattle.sopl_base.specs.declared.wide.Wide.{Wide}
use Rattle.box_problem.specs.Box.{Box, Inside}
use Rattle.box_store.specs.Store.{AgreesOutside}
use Rattle.term_language.specs.declared.answers.Truth.{Truth}
use Rattle.term_language.specs.Ends.{Ends, cell_ends, ends, scaled}
use Rattle.term_language.specs.Mentions.{cond_mentions, mentions}
use Rattle.term_language.specs.Rules.{Near, truth}
use Rattle.term_language.specs.Terms.{Cond}
use Rattle.term_language.proofs.Agreement.{intervals_agree, truths_agree}
use Rattle.term_goals.specs.declared.sums.Atom.{Atom}
use Rattle.term_nodes.specs.Things.{term_at}
use Rattle.term_problem.specs.Objective.{better_end, goal_ends}
use Rattle.term_problem.specs.Problems.{ProblemTerms, direction_in}
use Rattle.term_problem.specs.Refuted.{is_false}
use Rattle.term_problem.specs.Search.{numbers_to}
use Rattle.term_problem.proofs.Reasons.{all_of}
use Rattle.term_program.specs.declared.program.Program.{Program}
use Rattle.term_program.specs.Mentions.{IsListOf}
use Rattle.term_program.specs.Programs.{IsMade, kept, problem_in, root_in, summed_form, things_in}
use Rattle.prop_shave.proofs.Ending.{all_parts}
use Rattle.prop_shave.proofs.GoalMentioned.{part_found}
use Rattle.prop_shave.specs.Sums.{sum_over}
use Rattle.prop_shave.specs.ChanceSums.{condition_cells, condition_in, weight_at, weight_over}
use Rattle.prop_shave.specs.GoalSums.{AreParts, part_at, part_cells, part_over}
use Rattle.log_check.specs.declared.changes.Changes.{Changes}
use Rattle.log_check.specs.declared.seen_sum.SeenSum.{SeenSum}
use Rattle.log_check.specs.declared.sums.Sums.{Sums}
use Rattle.log_check.specs.KeptSums.{AreChanged, AreGoalParts, IsLater, KeepsSum, KeepsSums, SumsFollow, cells_of_part}
use Rattle.log_check.proofs.Changing.{changed_apart}
use Rattle.log_check.proofs.Seeing.{kept_later, unseen}

-- a sum of which no part mentions a cell that has changed, or which is not current
follows : (old new : Changes) (cells : List ℕ) (mention : ℕ → List ℕ) (count : ℕ) (f g : ℕ → ℤ) (k : SeenSum) → AreChanged cells old new
    → ((cell : ℕ) → Contains cells cell → cell < length old.last.items) → ((part : ℕ) → ((cell : ℕ) → Contains cells cell → ¬ Contains (mention part) cell) → g part ≡ f part)
    → KeepsSum old mention count f k → KeepsSum new mention count g k
follows old new cells mention count f g k changed exist same keeps some =
    let is = keeps some in
    record {
      listed = is.listed;
      before = omega (arith, is.before, changed.time);
      summed = is.summed;
      each = λ part below current.
          let was = changed_apart cells (cells_of_part k part) k.seen old new changed exist is.before current.unchanged in
          is.each part below (record { seen = current.seen; unchanged = was.0 })
          ∙ sym (same part (λ cell told mentioned. was.1 cell told (is.listed.all part cell below mentioned)));
    }

-- what a part is over boxes that agree on the cells that it mentions
same_ends : (cells : List ℕ) (b c : Box) (n : ℕ) → AgreesOutside cells b c → ¬ Contains cells n → cell_ends c n ≡ cell_ends b n
same_ends cells b c n agree other = ap₂ ends (agree.same_low n other) (agree.same_high n other)

same_weight : (root b c : Box) (weight : ℤ) (cells : List ℕ) (found : Option Cond) → AgreesOutside cells b c
    → ((cell : ℕ) → Contains cells cell → ¬ Contains (option_map_or (cond_mentions root) found []) cell)
    → option_map_or (λ cond. kept (is_false (truth Near root c cond)) weight) found (pos 0) ≡ option_map_or (λ cond. kept (is_false (truth Near root b cond)) weight) found (pos 0)
same_weight root b c weight cells None agree apart = refl
same_weight root b c weight cells (Some cond) agree apart =
    ap (λ (t : Truth). kept (is_false t) weight)
    (truths_agree Near root c b cond
    (all_of (λ n. cell_ends c n ≡ cell_ends b n) (cond_mentions root cond) (λ n mentioned. same_ends cells b c n agree (λ told. apart n told mentioned))))

same_part : (program : Program) (b c : Box) (cells : List ℕ) (found : Option Atom) → AgreesOutside cells b c
    → ((cell : ℕ) → Contains cells cell → ¬ Contains (option_map_or (λ (a : Atom). mentions (root_in program) (term_at (things_in program) a.term)) found []) cell)
    → option_map_or (part_over (direction_in (problem_in program)) (root_in program) (things_in program) c) found (pos 0)
    ≡ option_map_or (part_over (direction_in (problem_in program)) (root_in program) (things_in program) b) found (pos 0)
same_part program b c cells None agree apart = refl
same_part program b c cells (Some a) agree apart =
    let term = term_at (things_in program) a.term in
    ap (λ (e : Ends). better_end (direction_in (problem_in program)) (scaled a.k e))
    (intervals_agree Near (root_in program) c b term
    (all_of (λ n. cell_ends c n ≡ cell_ends b n) (mentions (root_in program) term) (λ n mentioned. same_ends cells b c n agree (λ told. apart n told mentioned))))

-- the cells that a part mentions are listed
pub condition_listed : (root : Box) (terms : ProblemTerms) (instance scenario : ℕ) (cond : Cond) (cells : List ℕ) → condition_in terms instance scenario ≡ Some cond
    → IsListOf (cond_mentions root cond) cells → (cell : ℕ) → Contains (condition_cells root terms instance scenario) cell → Contains cells cell
condition_listed root terms instance scenario cond cells at listed cell has =
    (listed.mentions cell).1 (subst (λ (found : Option Cond). Contains (option_map_or (cond_mentions root) found []) cell) at has)

pub part_listed : (program : Program) (atoms : List Atom) (at : ℕ) (d : Atom) (cells : List ℕ) → at < length atoms
    → IsListOf (mentions (root_in program) (term_at (things_in program) (get_or atoms at d).term)) cells → (cell : ℕ) → Contains (part_cells program atoms at) cell → Contains cells cell
part_listed program atoms at d cells below listed cell has =
    (listed.mentions cell).1
    (subst (λ (found : Option Atom). Contains (option_map_or (λ (a : Atom). mentions (root_in program) (term_at (things_in program) a.term)) found []) cell) (part_found atoms at d below) has)

-- the sum of the parts is the better end
pub end_of : (program : Program) (b : Box) (atoms lent : List Atom) (result : Option Wide) (constant sum : ℤ) → IsMade program → Inside b (root_in program) → AreGoalParts program atoms
    → atoms ≡ lent → constant ≡ (summed_form (root_in program) (problem_in program)).constant → sum ≡ sum_over (part_at program lent b) (numbers_to (length lent))
    → IfSome result (λ (w : Wide). w.value ≡ constant +ℤ sum)
    → IfSome result (λ (w : Wide). w.value ≡ better_end (direction_in (problem_in program)) (goal_ends (root_in program) b (problem_in program)))
end_of program b atoms lent None constant sum made inside parts same is summed plus = tt
end_of program b atoms lent (Some w) constant sum made inside parts same is summed plus =
    all_parts program lent b constant w.value made.problem (subst (AreParts program) same parts.are) inside is (plus ∙ ap (λ (z : ℤ). constant +ℤ z) summed)

-- cells were told, and the box has changed in them alone
pub sums_follow : (b c : Box) (cells : List ℕ) (old new : Sums) → AreChanged cells old.changes new.changes → new.weights ≡ old.weights → new.atoms ≡ old.atoms → new.ends ≡ old.ends
    → AgreesOutside cells b c → SumsFollow b c old new
sums_follow b c cells old new changed weights atoms ends agree program keeps = record {
  cells = changed.count ∙ (keeps.cells ∙ sym agree.same_lows);
  weights = λ instance d exists.
      subst (λ xs. KeepsSum new.changes (condition_cells (root_in program) (problem_in program) instance) (length (problem_in program).weights)
      (weight_over (root_in program) (problem_in program) instance c) (get_or xs.items instance d)) (sym weights)
      (follows old.changes new.changes cells (condition_cells (root_in program) (problem_in program) instance) (length (problem_in program).weights)
      (weight_over (root_in program) (problem_in program) instance b) (weight_over (root_in program) (problem_in program) instance c) (get_or old.weights.items instance d) changed exist
      (λ scenario apart. same_weight (root_in program) b c (weight_at (problem_in program) scenario) cells (condition_in (problem_in program) instance scenario) agree apart)
      (keeps.weights instance d (subst (λ xs. instance < length xs.items) weights exists)));
  atoms = λ some.
      subst (λ xs. AreGoalParts program xs.items) (sym atoms) (keeps.atoms (subst (λ (k : SeenSum). 0 < k.seen) ends some));
  ends =
      subst (λ xs. KeepsSum new.changes (part_cells program xs.items) (length xs.items) (part_at program xs.items c) new.ends) (sym atoms)
      (subst (λ (k : SeenSum). KeepsSum new.changes (part_cells program old.atoms.items) (length old.atoms.items) (part_at program old.atoms.items c) k) (sym ends)
      (follows old.changes new.changes cells (part_cells program old.atoms.items) (length old.atoms.items) (part_at program old.atoms.items b) (part_at program old.atoms.items c) old.ends changed
      exist (λ part apart. same_part program b c cells (slice_get old.atoms.items part) agree apart) keeps.ends));
}
  where
    exist : (cell : ℕ) → Contains cells cell → cell < length old.changes.last.items
    exist cell told = omega (arith, agree.exist cell told, agree.same_lows, keeps.cells)

-- one sum is renewed
abbrev KeepsLeft : Program → Box → Changes → ℕ → SeenSum → Type 0
KeepsLeft program b changes instance k =
    KeepsSum changes (condition_cells (root_in program) (problem_in program) instance) (length (problem_in program).weights)
    (weight_over (root_in program) (problem_in program) instance b) k

pub weight_renewed : (program : Program) (b : Box) (old new : Sums) (at : ℕ) (k : SeenSum) → at < length old.weights.items → IsLater old.changes new.changes → new.weights.items
    ≡ set old.weights.items at k → new.atoms ≡ old.atoms → new.ends ≡ old.ends
    → KeepsSum new.changes (condition_cells (root_in program) (problem_in program) at) (length (problem_in program).weights) (weight_over (root_in program) (problem_in program) at b) k
    → KeepsSums program b old → KeepsSums program b new
weight_renewed program b old new at k exists later put atoms ends is keeps = record {
  cells = ap (λ xs. length xs.items) later.last ∙ keeps.cells;
  weights = λ instance d below.
      elim (cases_eq instance at) [
        | inl same ↦ subst (λ (n : ℕ). KeepsLeft program b new.changes n (get_or new.weights.items n d)) (sym same)
            (subst (KeepsLeft program b new.changes at) (sym (ap (λ (xs : List SeenSum). get_or xs at d) put ∙ get_or-set_same old.weights.items at k d exists)) is)
        | inr other ↦ subst (KeepsLeft program b new.changes instance) (sym (ap (λ (xs : List SeenSum). get_or xs instance d) put ∙ get_or-set_other old.weights.items at instance k d other))
            (kept_later old.changes new.changes _ _ _ _ later (keeps.weights instance d (omega (arith, below, ap length put, length-set old.weights.items at k))))
      ];
  atoms = λ some. subst (λ xs. AreGoalParts program xs.items) (sym atoms) (keeps.atoms (subst (λ (s : SeenSum). 0 < s.seen) ends some));
  ends =
      subst (λ xs. KeepsSum new.changes (part_cells program xs.items) (length xs.items) (part_at program xs.items b) new.ends) (sym atoms)
      (subst (λ (s : SeenSum). KeepsSum new.changes (part_cells program old.atoms.items) (length old.atoms.items) (part_at program old.atoms.items b) s) (sym ends)
      (kept_later old.changes new.changes _ _ _ _ later keeps.ends));
}

pub end_renewed : (program : Program) (b : Box) (old new : Sums) → IsLater old.changes new.changes → new.weights ≡ old.weights → (0 < new.ends.seen → AreGoalParts program new.atoms.items)
    → KeepsSum new.changes (part_cells program new.atoms.items) (length new.atoms.items) (part_at program new.atoms.items b) new.ends → KeepsSums program b old
    → KeepsSums program b new
end_renewed program b old new later weights are is keeps = record {
  cells = ap (λ xs. length xs.items) later.last ∙ keeps.cells;
  weights = λ instance d below.
      subst (λ xs. KeepsSum new.changes (condition_cells (root_in program) (problem_in program) instance) (length (problem_in program).weights)
      (weight_over (root_in program) (problem_in program) instance b) (get_or xs.items instance d)) (sym weights)
      (kept_later old.changes new.changes _ _ _ _ later (keeps.weights instance d (subst (λ xs. instance < length xs.items) weights below)));
  atoms = are;
  ends = is;
}

-- nothing was seen of any
pub all_unseen : (program : Program) (b : Box) (sums : Sums) → length sums.changes.last.items ≡ length b.lows
    → ((instance : ℕ) (d : SeenSum) → instance < length sums.weights.items → (get_or sums.weights.items instance d).seen ≡ 0) → sums.ends.seen ≡ 0 → KeepsSums program b sums
all_unseen program b sums cells none end = record {
  cells = cells;
  weights = λ instance d below. unseen sums.changes _ _ _ _ (none instance d below);
  atoms = λ some. absurd (omega (arith, some, end));
  ends = unseen sums.changes _ _ _ _ end;
}

pub forgot_more : (old : List SeenSum) (at : ℕ) (k : SeenSum) → k.seen ≡ 0 → ((instance : ℕ) (d : SeenSum) → instance < at → instance < length old → (get_or old instance d).seen ≡ 0)
    → (instance : ℕ) (d : SeenSum) → instance < at + 1 → instance < length (set old at k) → (get_or (set old at k) instance d).seen ≡ 0
forgot_more old at k none before instance d below exists =
    let count = length-set old at k in
    elim (cases_eq instance at) [
      | inl same ↦ subst (λ (n : ℕ). (get_or (set old at k) n d).seen ≡ 0) (sym same)
          (ap (λ (s : SeenSum). s.seen) (get_or-set_same old at k d (omega (arith, exists, count, same))) ∙ none)
      | inr other ↦ ap (λ (s : SeenSum). s.seen) (get_or-set_other old at instance k d other) ∙ before instance d (omega (arith, below, other)) (omega (arith, exists, count))
    ]
