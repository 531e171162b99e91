-- What is asked of an objective over a box.
use Rattle.std.proofs.Common.{◌≡◌, ◌∙◌, refl, ap, sym, subst, ℕ, ◌<◌, ◌≤◌, ℤ, pos, Bool, false, if◌then◌else◌, List, [], length, get_or, Option, Some, None}
use Rattle.std.proofs.Common.{IfSome, IfNone, option_map, slice_get}
use Rattle.std.proofs.lemmas.Option.{slice_get-map, slice_get_read, slice_get_past}
use Rattle.std.specs.Option.{option_map_or}
use Rattle.sopl_base.specs.declared.direction.Direction.{Direction}
use Rattle.sopl_base.specs.declared.direction.Direction.TheVariants.{Nothing}
use Rattle.box_problem.specs.Box.{Box, Inside}
use Rattle.term_language.specs.Rules.{Near, mark}
use Rattle.term_language.specs.Terms.{Term}
use Rattle.term_problem.specs.Problems.{GoalTerms, direction_in, denominator_in}
use Rattle.term_problem.specs.Refuted.{is_never}
use Rattle.term_program.specs.declared.draft.Draft.{Draft}
use Rattle.term_program.specs.declared.program.Program.{Program}
use Rattle.term_program.specs.Drafts.{AreAtomsOf, IsDraft, IsGoalOf, draft_problem, draft_root, draft_things}
use Rattle.term_program.specs.Programs.{IsMade, problem_in, root_in, summed_form, things_in, with_goal}
use Rattle.term_language.specs.Ends.{Ends, exactly, plus}
use Rattle.term_problem.specs.Objective.{expected_ends, expected_form, goal_ends, goal_ends_of, worst_ends}
use Rattle.term_nodes.specs.Things.{Thing, term_at}
use Rattle.term_goals.specs.Goals.{AtomsExist, IsSummed, IsWeighted, constant_of, goal_of, is_none, listed_ends, terms_of}
use Rattle.term_goals.specs.declared.sums.Atom.{Atom}
use Rattle.term_goals.specs.declared.sums.Summed.{Summed}
use Rattle.term_language.specs.Forms.{Form, number_form}
use Rattle.term_goals.specs.declared.goal.Goal.{Goal}

-- over the same root and things
pub ends_of_goal : (root view b c : Box) (things all : List Thing) (weights : List ℤ) (g : Goal) (ends : Ends) → root ≡ b → view ≡ c → things ≡ all → ends
    ≡ goal_ends_of root view weights (goal_of things g) → ends ≡ goal_ends_of b c weights (goal_of all g)
ends_of_goal root view b c things all weights g ends root_is view_is things_are is =
    is ∙ ap (λ (r : Box). goal_ends_of r view weights (goal_of things g)) root_is
    ∙ ap (λ (v : Box). goal_ends_of b v weights (goal_of things g)) view_is
    ∙ ap (λ (ts : List Thing). goal_ends_of b c weights (goal_of ts g)) things_are

-- the objective of a program
module _ (p : Program) (g : Goal) (is : p.goal ≡ Some g) where
  of_kept : {A : Type 0} (f : GoalTerms → A) (other : A) → option_map_or f (problem_in p).goal other ≡ f (goal_of (things_in p) g)
  of_kept f other = ap (λ (o : Option Goal). option_map_or f (option_map (goal_of (things_in p)) o) other) is

  pub direction_kept : (d : Direction) → ((all : List Thing) → d ≡ (goal_of all g).direction) → d ≡ direction_in (problem_in p)
  direction_kept d tells = tells (things_in p) ∙ sym (of_kept (λ goal. goal.direction) Nothing)

  pub worst_kept : (w : Bool) → ((all : List Thing) → w ≡ (goal_of all g).worst) → w ≡ option_map_or (λ (goal : GoalTerms). goal.worst) (problem_in p).goal false
  worst_kept w tells = tells (things_in p) ∙ sym (of_kept (λ goal. goal.worst) false)

  pub denominator_kept : (w : Bool) → ((all : List Thing) → w ≡ (goal_of all g).worst) → (if w then pos 1 else p.draft.whole) ≡ denominator_in (problem_in p)
  denominator_kept w tells =
      ap (λ (b : Bool). if b then pos 1 else p.draft.whole) (tells (things_in p)) ∙ sym (of_kept (λ goal. if goal.worst then pos 1 else p.draft.whole) (pos 1))

-- the constant of what is summed
constant_of_sum : (root : Box) (all : List Thing) (weights : List ℤ) (ids : List ℕ) (s : Option Summed) → IfSome s (IsSummed root all weights ids) → is_none s ≡ false
    → option_map_or (λ (x : Summed). x.form.constant) s (pos 0) ≡ (expected_form root weights (terms_of all ids)).constant
constant_of_sum root all weights ids (Some s) is expected = ap (λ (f : Form). f.constant) is.form
constant_of_sum root all weights ids None is expected = cc

pub constant_kept : (p : Program) (g : Goal) (z : ℤ) → p.goal ≡ Some g → IsMade p → option_map_or (λ (goal : GoalTerms). goal.worst) (problem_in p).goal false ≡ false → z ≡ constant_of g
    → z ≡ (summed_form (root_in p) (problem_in p)).constant
constant_kept p g z is made expected tells =
    tells
    ∙ constant_of_sum (root_in p) (things_in p) p.draft.weights.items g.terms.items g.summed (subst (λ (o : Option Goal). IfSome o (IsGoalOf p.draft)) is made.goal).weighted.summed
    (sym (of_kept p g is (λ goal. goal.worst) false) ∙ expected)
    ∙ sym (ap (λ (o : Option Goal). (option_map_or (λ (goal : GoalTerms). expected_form (root_in p) p.draft.weights.items goal.terms) (option_map (goal_of (things_in p)) o)
    (number_form (pos 0))).constant) is)

-- the atoms of what is summed
module _ (d : Draft) (g : Goal) (draft : IsDraft d) (of : IsGoalOf d g) (root : Box) (all : List Thing) (root_is : root ≡ draft_root d) (all_is : all ≡ draft_things d) where
  ended : (b : Box) → (goal_of (draft_things d) g).worst ≡ false → expected_ends (draft_root d) b d.weights.items (goal_of (draft_things d) g).terms
      ≡ goal_ends_of (draft_root d) b d.weights.items (goal_of (draft_things d) g)
  ended b expected = sym (ap (λ (w : Bool). if w then worst_ends g.direction (draft_root d) b (terms_of (draft_things d) g.terms.items) else expected_ends (draft_root d) b d.weights.items
      (terms_of (draft_things d) g.terms.items)) expected)

  pub atoms_sum :
      (atoms : List Atom)
      → ((weights : List ℤ) → IsWeighted root all weights g → (goal_of all g).worst ≡ false → (b : Box) → Inside b root → plus (exactly (constant_of g)) (listed_ends root b all atoms)
      ≡ expected_ends root b weights (goal_of all g).terms)
      → AtomsExist (length (draft_things d)) atoms → AreAtomsOf d g atoms
  atoms_sum atoms each exist =
      let moved : (weights : List ℤ) → IsWeighted (draft_root d) (draft_things d) weights g → (goal_of (draft_things d) g).worst ≡ false → (b : Box) → Inside b (draft_root d)
      → plus (exactly (constant_of g)) (listed_ends (draft_root d) b (draft_things d) atoms) ≡ expected_ends (draft_root d) b weights (goal_of (draft_things d) g).terms =
      subst (λ (ts : List Thing). (weights : List ℤ) → IsWeighted (draft_root d) ts weights g → (goal_of ts g).worst ≡ false → (b : Box) → Inside b (draft_root d)
      → plus (exactly (constant_of g)) (listed_ends (draft_root d) b ts atoms) ≡ expected_ends (draft_root d) b weights (goal_of ts g).terms) all_is
      (subst (λ (r : Box). (weights : List ℤ) → IsWeighted r all weights g → (goal_of all g).worst ≡ false → (b : Box) → Inside b r → plus (exactly (constant_of g)) (listed_ends r b all atoms)
      ≡ expected_ends r b weights (goal_of all g).terms) root_is each) in
      record {
        sum = λ expected b inside. moved d.weights.items of.weighted expected b inside ∙ ended b expected;
        exist = exist;
      }

there : {A : Type 0} (P : A → Type 0) (o : Option A) (x : A) → o ≡ Some x → IfSome o P → P x
there P o x is all = subst (λ (p : Option _). IfSome p P) is all

atoms_by : (p : Program) (o : Option Goal) → p.goal ≡ o → IsMade p → option_map_or (λ (goal : GoalTerms). goal.worst) (problem_in p).goal false ≡ false → (b : Box) → Inside b (root_in p)
    → plus (exactly (summed_form (root_in p) (problem_in p)).constant) (listed_ends (root_in p) b (things_in p) p.atoms.items) ≡ goal_ends (root_in p) b (problem_in p)
atoms_by p (Some g) is made expected b inside =
    ap (λ (z : ℤ). plus (exactly z) (listed_ends (root_in p) b (things_in p) p.atoms.items)) (sym (constant_kept p g (constant_of g) is made expected refl))
    ∙ (there (λ (h : Goal). AreAtomsOf p.draft h p.atoms.items) p.goal g is made.atoms).sum (sym (of_kept p g is (λ goal. goal.worst) false) ∙ expected) b inside
    ∙ sym (of_kept p g is (goal_ends_of (root_in p) b p.draft.weights.items) (exactly (pos 0)))
atoms_by p None is made expected b inside =
    let none : p.atoms.items ≡ [] = subst (λ (o : Option Goal). IfNone o (p.atoms.items ≡ [])) is made.no_atoms in
    ap (λ (atoms : List Atom). plus (exactly (summed_form (root_in p) (problem_in p)).constant) (listed_ends (root_in p) b (things_in p) atoms)) none
    ∙ ap (λ (o : Option Goal). plus (exactly (summed_form (root_in p) (with_goal (draft_problem p.draft) (option_map (goal_of (things_in p)) o))).constant) (exactly (pos 0))) is
    ∙ sym (ap (λ (o : Option Goal). goal_ends (root_in p) b (with_goal (draft_problem p.draft) (option_map (goal_of (things_in p)) o))) is)

pub atoms_kept : (p : Program) → IsMade p → option_map_or (λ (goal : GoalTerms). goal.worst) (problem_in p).goal false ≡ false → (b : Box) → Inside b (root_in p)
    → plus (exactly (summed_form (root_in p) (problem_in p)).constant) (listed_ends (root_in p) b (things_in p) p.atoms.items) ≡ goal_ends (root_in p) b (problem_in p)
atoms_kept p made expected b inside = atoms_by p p.goal refl made expected b inside

exist_by : (p : Program) (o : Option Goal) → p.goal ≡ o → IsMade p → AtomsExist (length (things_in p)) p.atoms.items
exist_by p (Some g) is made = (there (λ (h : Goal). AreAtomsOf p.draft h p.atoms.items) p.goal g is made.atoms).exist
exist_by p None is made =
    let none : p.atoms.items ≡ [] = subst (λ (o : Option Goal). IfNone o (p.atoms.items ≡ [])) is made.no_atoms in
    subst (AtomsExist (length (things_in p))) (sym none) tt

pub atoms_exist : (p : Program) → IsMade p → AtomsExist (length (things_in p)) p.atoms.items
atoms_exist p made = exist_by p p.goal refl made

-- the terms of an objective in a scenario
pub never_there : (root b : Box) (all : List Thing) (g : Goal) (ids : List ℕ) (i x : ℕ) → ids ≡ g.terms.items → i < length ids → x ≡ get_or ids i x → is_never (mark Near root b (term_at all x))
    ≡ option_map_or (λ term. is_never (mark Near root b term)) (slice_get (goal_of all g).terms i) false
never_there root b all g ids i x listed below at =
    sym (ap (λ (ts : List Term). option_map_or (λ term. is_never (mark Near root b term)) (slice_get ts i) false) (sym (ap (terms_of all) listed))
    ∙ ap (λ (o : Option Term). option_map_or (λ term. is_never (mark Near root b term)) o false) (slice_get-map (term_at all) ids i
    ∙ ap (λ (o : Option ℕ). option_map (term_at all) o) (slice_get_read ids (length ids) i x refl below at)))

pub never_missing : (root b : Box) (all : List Thing) (g : Goal) (ids : List ℕ) (i : ℕ) → ids ≡ g.terms.items → length ids ≤ i → false
    ≡ option_map_or (λ term. is_never (mark Near root b term)) (slice_get (goal_of all g).terms i) false
never_missing root b all g ids i listed past =
    sym (ap (λ (ts : List Term). option_map_or (λ term. is_never (mark Near root b term)) (slice_get ts i) false) (sym (ap (terms_of all) listed))
    ∙ ap (λ (o : Option Term). option_map_or (λ term. is_never (mark Near root b term)) o false) (slice_get-map (term_at all) ids i
    ∙ ap (λ (o : Option ℕ). option_map (term_at all) o) (slice_get_past ids i past)))
