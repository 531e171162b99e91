-- The steps of the program's nodes.
use Rattle.std.proofs.Common.{◌≡◌, ◌+◌, ◌-◌, ◌<◌, ◌++◌, ℕ, zero, suc, List, [], ◌∷◌, length, map, arith, zero-add, sym, ap, ◌∙◌}
use Rattle.std.proofs.lemmas.List.{length-append}
use Rattle.std.specs.List.{range_with_len}
use Rattle.serde_json.specs.Data.{Data}
use Rattle.policy_json.specs.Nodes.{branch_of, node_of}
use Rattle.policy_json.specs.Steps.{Parts, branch_in, branches_in, decide_in, first_in, node_in, seen_in}
use Rattle.policy_json.proofs.StageSteps.{shown_more}

-- what is seen after a stage, and the node that follows
pub branch_made : (parts : Parts) (later stage scenario i first : ℕ) (seen : List Data) (node made : Data) → first ≡ first_in parts.tree stage scenario i
    → seen ≡ seen_in parts stage first → node ≡ node_in parts later (stage + 1) first → made ≡ branch_of seen node → made ≡ branch_in parts later stage scenario i
branch_made parts later stage scenario i first seen node made at shown follows by =
    by ∙ (λ k. branch_of (shown k) (follows k)) ∙ ap (λ n. branch_of (seen_in parts stage n) (node_in parts later (stage + 1) n)) at

pub one_longer : {X : Type 0} (old new : List X) (x : X) → new ≡ old ++ x ∷ [] → length new ≡ length old + 1
one_longer old new x made = ap length made ∙ length-append old (x ∷ [])

-- one more of the things that are made, which are as many as their list is long
pub more_shown : {X : Type 0} (v : X → Data) (f : ℕ → Data) (old new : List X) (x : X) → map v old ≡ map f (range_with_len 0 (length old)) → v x ≡ f (length old)
    → new ≡ old ++ x ∷ [] → map v new ≡ map f (range_with_len 0 (length new))
more_shown v f old new x so_far next made =
    shown_more v f 0 (length old) (length old) old new x (zero-add (length old)) so_far next made ∙ ap (λ n. map f (range_with_len 0 n)) (sym (one_longer old new x made))

-- a node with all its branches
pub node_made : (parts : Parts) (later stage scenario i : ℕ) (decide next : List Data) → 0 < later → decide ≡ decide_in parts stage scenario
    → next ≡ map (branch_in parts (later - 1) stage scenario) (range_with_len 0 i) → i ≡ branches_in parts.tree stage
    → node_of decide next ≡ node_in parts later stage scenario
node_made parts zero stage scenario i decide next above decided branches all = absurd (omega (arith, above))
node_made parts (suc later) stage scenario i decide next above decided branches all =
    λ k. node_of (decided k) ((branches ∙ (λ j. map (branch_in parts (one_less later j) stage scenario) (range_with_len 0 (all j)))) k)
  where
    one_less : (n : ℕ) → suc n - 1 ≡ n
    one_less n = omega arith
