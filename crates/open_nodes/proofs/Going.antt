-- Steps that are made again.
use Rattle.std.proofs.Common.{◌≡◌, ℕ, ◌+◌, ◌<◌, ◌≤◌, List, ◌∷◌, length, drop, get_or, sym, ap, subst, ◌∙◌}
use Rattle.std.proofs.lemmas.List.{drop_more, at_drop_all}
use Rattle.sopl_base.specs.declared.reason.Step.{Step}
use Rattle.box_problem.specs.Box.{Box}
use Rattle.box_problem.specs.Steps.{IsCut, after_step, after_steps}
use Rattle.open_nodes.specs.Ways.{StepsCut}

cuts_from : (b : Box) (steps : List Step) (i : ℕ) (d : Step) → i < length steps → StepsCut b (drop i steps) → StepsCut b (get_or steps i d ∷ drop (i + 1) steps)
cuts_from b steps i d exists cuts = subst (StepsCut b) (drop_more steps i d exists) cuts

-- the next step cuts
pub step_cuts : (b : Box) (steps : List Step) (i : ℕ) (d : Step) → i < length steps → StepsCut b (drop i steps)
    → IsCut b (get_or steps i d).cell (get_or steps i d).side (get_or steps i d).k
step_cuts b steps i d exists cuts = (cuts_from b steps i d exists cuts).0

-- and behind it the others do
pub cuts_on : (b after : Box) (steps : List Step) (i : ℕ) (d : Step) → i < length steps → after ≡ after_step b (get_or steps i d) → StepsCut b (drop i steps)
    → StepsCut after (drop (i + 1) steps)
cuts_on b after steps i d exists is cuts =
    subst (λ (x : Box). StepsCut x (drop (i + 1) steps)) (sym is) (cuts_from b steps i d exists cuts).1

pub leads_on : (b after stop : Box) (steps : List Step) (i : ℕ) (d : Step) → i < length steps → after ≡ after_step b (get_or steps i d)
    → after_steps b (drop i steps) ≡ stop → after_steps after (drop (i + 1) steps) ≡ stop
leads_on b after stop steps i d exists is leads =
    ap (λ (x : Box). after_steps x (drop (i + 1) steps)) is
    ∙ (sym (ap (after_steps b) (drop_more steps i d exists)) ∙ leads)

pub led : (b stop : Box) (steps : List Step) (i : ℕ) → length steps ≤ i → after_steps b (drop i steps) ≡ stop → b ≡ stop
led b stop steps i all leads = sym (at_drop_all (after_steps b) steps i all) ∙ leads
