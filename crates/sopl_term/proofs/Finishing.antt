-- The objective of a program.
use Rattle.std.proofs.Common.{◌≡◌, ◌∙◌, refl, ap, sym, subst, arith, ℕ, ◌^◌, ℤ, pos, ◌*ℤ◌, ◌≤ℤ◌, Bool, List, [], ◌∷◌, map, length, Option, Some, None}
use Rattle.std.proofs.lemmas.Int.{ints}
use Rattle.std.proofs.Math.IntN.{*ℤ_comm}
use Rattle.term_language.proofs.Products.{one-*ℤ}
use Rattle.std.proofs.lemmas.List.{length-map}
use Rattle.std.specs.List.{AllByRecursion}
use Rattle.sopl_base.specs.declared.direction.Direction.{Direction}
use Rattle.sopl_base.specs.declared.direction.Direction.TheVariants.{Minimize, Maximize, Nothing}
use Rattle.term_language.specs.Globals.{total}
use Rattle.term_language.specs.Laws.{IsProper}
use Rattle.term_language.specs.Terms.{Term}
use Rattle.term_problem.specs.Problems.{GoalTerms, ProblemTerms, IsChance, IsProblem}
use Rattle.term_nodes.specs.declared.items.Item.{Item}
use Rattle.term_nodes.specs.Built.{AllBelow}
use Rattle.term_nodes.specs.Things.{Thing, term_at, things}
use Rattle.term_nodes.proofs.Reading.{length_things}
use Rattle.term_nodes.proofs.Ready.{terms_proper}
use Rattle.term_goals.specs.Goals.{goal_of, goal_size, terms_of}
use Rattle.term_goals.specs.declared.goal.Goal.{Goal}
use Rattle.term_store.specs.declared.ids.TermId.{TermId}
use Rattle.term_program.specs.declared.draft.Draft.{Draft}
use Rattle.sopl_term.specs.declared.builder.Builder.{Builder}
use Rattle.term_program.specs.declared.program.Program.{Program}
use Rattle.term_program.specs.Drafts.{IsDraft, draft_root, draft_things}
use Rattle.term_program.specs.Programs.{problem_in, with_goal}
use Rattle.sopl_term.specs.Built.{FitsDirection, IsBuilding, built, goal_asked, problem_built, root_built, term_ids}
use Rattle.sopl_term.proofs.Hards.{all_so, same_chance}

-- what is there among things is there among nodes
pub exist_here : (items : List Item) (all : List Thing) (ids xs : List ℕ) → things items ≡ all → ids ≡ xs → AllBelow (length all) xs → AllBelow (length items) ids
exist_here items all ids xs is same exist =
    subst (AllBelow (length items)) (sym same) (subst (λ (n : ℕ). AllBelow n xs) (sym (ap length is) ∙ length_things items) exist)

-- each term is proper
proper_terms : (p : Draft) (ids : List ℕ) → IsDraft p → AllByRecursion IsProper (map (term_at (draft_things p)) ids)
proper_terms p [] made = tt
proper_terms p (id ∷ ids) made = ((terms_proper (draft_root p) p.store.items.items (id ∷ []) made.store.built).0, proper_terms p ids made)

-- where there are terms there is a direction, and a term for each scenario
directed : (direction : Direction) (scenarios : ℕ) (first : TermId) (later : List TermId) → FitsDirection direction scenarios (first ∷ later)
    → (length (first ∷ later) ≡ scenarios) × (¬ direction ≡ Nothing)
directed Minimize scenarios first later fits = (fits, λ e. cc)
directed Maximize scenarios first later fits = (fits, λ e. cc)
directed Nothing scenarios first later fits = absurd (omega (arith, fits))

abbrev of : Direction → Bool → List Term → GoalTerms
of d w ts = record { direction = d; worst = w; terms = ts }

goal_same : (g h : GoalTerms) → g.direction ≡ h.direction → g.worst ≡ h.worst → g.terms ≡ h.terms → g ≡ h
goal_same g h direction worst terms =
    ap (λ (d : Direction). of d g.worst g.terms) direction ∙ ap (λ (w : Bool). of h.direction w g.terms) worst ∙ ap (λ (ts : List Term). of h.direction h.worst ts) terms

module _ (b : Builder) (g : Goal) (building : IsBuilding b) where
  -- the objective is the one that is asked for, if there is a term
  pub asked_so : (terms : List TermId) → ¬ length terms ≡ 0 → (goal_of (built b) g).direction ≡ b.direction → (goal_of (built b) g).worst ≡ b.worst → (goal_of (built b) g).terms
      ≡ terms_of (built b) (term_ids terms) → Some (goal_of (built b) g) ≡ goal_asked b terms
  asked_so [] some direction worst listed = absurd (some refl)
  asked_so (first ∷ later) some direction worst listed =
      ap Some (goal_same (goal_of (built b) g) (record { direction = b.direction; worst = b.worst; terms = terms_of (built b) (term_ids (first ∷ later)) }) direction worst listed)

  pub ended_problem : (p : Program) (terms : List TermId) → ¬ length terms ≡ 0 → (goal_of (built b) g).direction ≡ b.direction → (goal_of (built b) g).worst ≡ b.worst → (goal_of (built b) g).terms
      ≡ terms_of (built b) (term_ids terms) → problem_in p ≡ with_goal (problem_built b) (Some (goal_of (built b) g)) → problem_in p ≡ with_goal (problem_built b) (goal_asked b terms)
  ended_problem p terms some direction worst listed is =
      is ∙ ap (λ (goal : Option GoalTerms). with_goal (problem_built b) goal) (asked_so terms some direction worst listed)

  -- and it makes a problem
  sound : (first : TermId) (later : List TermId) → FitsDirection b.direction (length b.draft.weights.items) (first ∷ later) → (goal_of (built b) g).direction ≡ b.direction
      → (goal_of (built b) g).terms ≡ terms_of (built b) (term_ids (first ∷ later)) → IsProblem (with_goal (problem_built b) (Some (goal_of (built b) g)))
  sound first later fits direction terms =
      let before : ProblemTerms = problem_built b in
      let other : ProblemTerms = with_goal (problem_built b) (Some (goal_of (built b) g)) in
      let there = directed b.direction (length b.draft.weights.items) first later fits in
      record {
        first = building.problem.first;
        weighs = building.problem.weighs;
        whole = building.problem.whole;
        hards = building.problem.hards;
        chances = all_so (IsChance before) (IsChance other) before.chances (same_chance before other refl) building.problem.chances;
        goal = (ap length terms ∙ length-map (term_ids (first ∷ later)) (term_at (built b)) ∙ length-map (first ∷ later) (λ (id : TermId). id.0) ∙ there.0, λ is. there.1 (sym direction ∙ is));
        proper =
            record {
              hards = building.problem.proper.hards;
              chances = building.problem.proper.chances;
              goal = subst (AllByRecursion IsProper) (sym terms) (proper_terms b.draft (term_ids (first ∷ later)) building);
            };
      }

  pub ended_sound : (terms : List TermId) → ¬ length terms ≡ 0 → FitsDirection b.direction (length b.draft.weights.items) terms → (goal_of (built b) g).direction ≡ b.direction
      → (goal_of (built b) g).terms ≡ terms_of (built b) (term_ids terms) → IsProblem (with_goal (problem_built b) (Some (goal_of (built b) g)))
  ended_sound [] some fits direction listed = absurd (some refl)
  ended_sound (first ∷ later) some fits direction listed = sound first later fits direction listed

-- without terms
pub empty : (terms : List TermId) → length terms ≡ 0 → terms ≡ []
empty [] none = refl
empty (first ∷ later) none = absurd (omega (arith, none))

module _ (b : Builder) (building : IsBuilding b) where
  pub none_problem : (p : Program) (terms : List TermId) → length terms ≡ 0 → problem_in p ≡ with_goal (problem_built b) None → problem_in p ≡ with_goal (problem_built b) (goal_asked b terms)
  none_problem p terms none is = is ∙ sym (ap (λ (ts : List TermId). with_goal (problem_built b) (goal_asked b ts)) (empty terms none))

  pub none_size : (terms : List TermId) → length terms ≡ 0 → goal_size (root_built b) b.draft.weights.items (terms_of (built b) (term_ids terms)) ≤ℤ pos (2 ^ 126)
  none_size terms none =
      let is : terms ≡ [] = empty terms none in
      let one : total b.draft.weights.items *ℤ pos 1 ≡ total b.draft.weights.items = times_one (total b.draft.weights.items) in
      let light = building.light in
      let whole = building.problem.whole in
      subst (λ (ts : List TermId). goal_size (root_built b) b.draft.weights.items (terms_of (built b) (term_ids ts)) ≤ℤ pos (2 ^ 126)) (sym is)
      (omega (arith, ints, one, light, whole))
    where
      times_one : (z : ℤ) → z *ℤ pos 1 ≡ z
      times_one z = *ℤ_comm z (pos 1) ∙ one-*ℤ z
