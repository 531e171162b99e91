-- The steps of a row.
use Rattle.std.proofs.Common.{◌≡◌, ◌∙◌, ◌<◌, ◌≤◌, ◌+◌, ℕ, ℤ, Bool, true, false, List, [], ◌∷◌, ◌++◌, length, take, get_or, Option, Some, sym, ap, subst, lt-ltb}
use Rattle.std.specs.Prelude.{slice_get}
use Rattle.std.specs.Bool.{Decides}
use Rattle.std.proofs.lemmas.Bool.{and_parts, and_from}
use Rattle.std.proofs.lemmas.List.{take_all, take_more}
use Rattle.std.proofs.lemmas.Option.{slice_get-get_or}
use Rattle.sopl_base.specs.declared.reason.Side.{Side}
use Rattle.sopl_base.specs.declared.reason.Side.TheVariants.{Le, Ge}
use Rattle.sopl_base.specs.declared.reason.Step.{Step}
use Rattle.sopl_base.proofs.Tests.{le_test, le_tested, lt_test, lt_tested, nat_tested}
use Rattle.box_problem.specs.Box.{Box, Inside, low, high}
use Rattle.box_problem.specs.Steps.{IsCut, CutsBetween, after_step, after_steps, removed}
use Rattle.box_problem.specs.BoxProblem.{BoxProblem}
use Rattle.box_problem.specs.Rightness.{IsRight, AllRight}
use Rattle.box_problem.proofs.Boxes.{parts_of_parts}
use Rattle.box_problem.proofs.Steps.{after_append, right_append, steps_narrow}
use Rattle.log_check.specs.Judged.{cuts_between, cuts_at, IsFirstBad}

between_tells : (side : Side) (lo k hi : ℤ) → cuts_between side lo k hi ≡ true → CutsBetween side lo k hi
between_tells Le lo k hi is = let parts = and_parts _ _ is in (le_tested lo k parts.0, lt_tested k hi parts.1)
between_tells Ge lo k hi is = let parts = and_parts _ _ is in (lt_tested lo k parts.0, le_tested k hi parts.1)

between_told : (side : Side) (lo k hi : ℤ) → CutsBetween side lo k hi → cuts_between side lo k hi ≡ true
between_told Le lo k hi is = and_from _ _ (le_test lo k is.0) (lt_test k hi is.1)
between_told Ge lo k hi is = and_from _ _ (lt_test lo k is.0) (le_test k hi is.1)

pub cut_tells : (b : Box) (cell : ℕ) (side : Side) (k : ℤ) → cuts_at b cell side k ≡ true → IsCut b cell side k
cut_tells b cell side k is = let parts = and_parts _ _ is in record { exists = nat_tested cell (length b.lows) parts.0; between = between_tells side (low b cell) k (high b cell) parts.1 }

pub cut_told : (b : Box) (cell : ℕ) (side : Side) (k : ℤ) → IsCut b cell side k → cuts_at b cell side k ≡ true
cut_told b cell side k is = and_from _ _ (lt-ltb cell (length b.lows) is.exists) (between_told side (low b cell) k (high b cell) is.between)

-- whether a step is right
module _ (problem : BoxProblem) (v : Option ℤ) (b : Box) (s : Step) where
  pub not_cut : (result : Bool) → result ≡ cuts_at b s.cell s.side s.k → result ≡ false → Decides false (IsRight problem v b s)
  not_cut result is fails = (λ holds. absurd (cc), λ right. sym (sym is ∙ fails) ∙ cut_told b s.cell s.side s.k right.cut)

  pub right_where : (result : Bool) → IsCut b s.cell s.side s.k → result ≡ problem.refutes s.reason (removed b s) v → Decides result (IsRight problem v b s)
  right_where result cut is = (λ holds. record { cut = cut; refuted = sym is ∙ holds }, λ right. is ∙ right.refuted)

  pub step_cuts : (result : Bool) → Decides result (IsRight problem v b s) → result ≡ true → IsCut b s.cell s.side s.k
  step_cuts result decides holds = (decides.0 holds).cut

  still : IsRight problem v b s → Inside b problem.root → Inside (after_step b s) problem.root
  still right inside = parts_of_parts (after_step b s) b problem.root (steps_narrow problem v b s inside.is_box right).0 inside

  pub inside_more : (result : Bool) (next : Box) → Decides result (IsRight problem v b s) → result ≡ true → Inside b problem.root → next ≡ after_step b s → Inside next problem.root
  inside_more result next decides holds inside is = subst (λ (x : Box). Inside x problem.root) (sym is) (still (decides.0 holds) inside)

pub cut_there : (problem : BoxProblem) (v : Option ℤ) (b c : Box) (s : Step) (result : Bool) → c ≡ b → Decides result (IsRight problem v b s) → result ≡ true → IsCut c s.cell s.side s.k
cut_there problem v b c s result same decides holds = subst (λ (x : Box). IsCut x s.cell s.side s.k) (sym same) (step_cuts problem v b s result decides holds)

pub step_moved : (problem : BoxProblem) (v : Option ℤ) (b c next : Box) (s : Step) (result : Bool) → Decides result (IsRight problem v b s) → c ≡ b → next ≡ after_step c s → next ≡ after_step b s
step_moved problem v b c next s result decides same goes = goes ∙ ap (λ (x : Box). after_step x s) same

-- one step more
step_at : (steps : List Step) (at : ℕ) (s : Step) → at < length steps → s ≡ get_or steps at s → take (at + 1) steps ≡ take at steps ++ s ∷ []
step_at steps at s exists is = take_more steps at s exists ∙ ap (λ (x : Step). take at steps ++ x ∷ []) (sym is)

module _ (problem : BoxProblem) (v : Option ℤ) (start b : Box) (steps : List Step) (at : ℕ) (s : Step) (exists : at < length steps) (is : s ≡ get_or steps at s) (leads : b ≡ after_steps start (take at steps)) where
  pub leads_more : (next : Box) → next ≡ after_step b s → next ≡ after_steps start (take (at + 1) steps)
  leads_more next goes =
      goes
      ∙ ap (λ (x : Box). after_step x s) leads
      ∙ sym (after_append start (take at steps) (s ∷ []))
      ∙ ap (after_steps start) (sym (step_at steps at s exists is))

  pub right_more : (result : Bool) → Decides result (IsRight problem v b s) → result ≡ true → AllRight problem v start (take at steps) → AllRight problem v start (take (at + 1) steps)
  right_more result decides holds before =
      subst (AllRight problem v start) (sym (step_at steps at s exists is))
      (right_append problem v start (take at steps) (s ∷ []) before (subst (λ (x : Box). IsRight problem v x s) leads (decides.0 holds), tt))

  pub first_bad_here : (result : Bool) → Decides result (IsRight problem v b s) → result ≡ false → AllRight problem v start (take at steps) → IsFirstBad problem v start steps at
  first_bad_here result decides fails before = record {
    step = s;
    is = found steps at exists is;
    before = before;
    wrong = λ right. let clash : true ≡ false = sym (decides.1 (subst (λ (x : Box). IsRight problem v x s) (sym leads) right)) ∙ fails in absurd (cc);
  }
    where
      found : (steps : List Step) (at : ℕ) → at < length steps → s ≡ get_or steps at s → slice_get steps at ≡ Some s
      found steps at exists is = slice_get-get_or steps at s exists ∙ ap Some (sym is)

-- all of them
pub right_all : (problem : BoxProblem) (v : Option ℤ) (start : Box) (steps : List Step) (at : ℕ) → length steps ≤ at → AllRight problem v start (take at steps) → AllRight problem v start steps
right_all problem v start steps at all before = subst (AllRight problem v start) (take_all at steps all) before

pub leads_all : (start b : Box) (steps : List Step) (at : ℕ) → length steps ≤ at → b ≡ after_steps start (take at steps) → b ≡ after_steps start steps
leads_all start b steps at all leads = leads ∙ ap (after_steps start) (take_all at steps all)
