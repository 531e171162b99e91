-- What was built stays where more is added.
use Rattle.std.proofs.Common.{◌≡◌, ◌∙◌, refl, ap, sym, subst, arith, ℕ, None, ◌<◌, ◌≤◌, List, [], ◌∷◌, map, length, get_or, inl, inr}
use Rattle.std.proofs.lemmas.Bool.{cases_lt}
use Rattle.std.proofs.lemmas.List.{get_or_past}
use Rattle.std.specs.List.{AllByRecursion}
use Rattle.box_problem.specs.Box.{Box}
use Rattle.box_problem.specs.Near.{IsNearBox}
use Rattle.term_language.specs.Terms.{Cond}
use Rattle.term_problem.specs.Problems.{ChanceTerms, ProblemTerms, IsProblem}
use Rattle.term_nodes.specs.Built.{AllBelow}
use Rattle.term_language.specs.Terms.{Cell}
use Rattle.term_goals.specs.Goals.{AreCells}
use Rattle.term_nodes.specs.Things.{Thing, nothing, cond_at, cond_in, term_at, term_in}
use Rattle.term_store.specs.Stores.{IsSoundStore, root_of, all}
use Rattle.term_store.specs.declared.store.TermStore.{TermStore}
use Rattle.term_program.specs.declared.draft.Conditions.{Conditions}
use Rattle.term_program.specs.declared.draft.ChanceConditions.{ChanceConditions}
use Rattle.term_program.specs.declared.draft.Draft.{Draft}
use Rattle.sopl_term.specs.declared.builder.Builder.{Builder}
use Rattle.term_program.specs.Drafts.{HasConditions, IsDraft, conditions_of, chance_of, draft_problem, draft_root, draft_things}
use Rattle.sopl_term.specs.Built.{Grows, IsBuilding, IsKept, built}

-- conditions
same_conds : (before after : List Thing) (ids : List ℕ) → Grows before after → AllBelow (length before) ids → map (cond_at after) ids ≡ map (cond_at before) ids
same_conds before after [] grows below = refl
same_conds before after (id ∷ ids) grows below =
    ap (λ (t : Thing). cond_in t ∷ map (cond_at after) ids) (grows.same id below.0)
    ∙ ap (λ (cs : List Cond). cond_at before id ∷ cs) (same_conds before after ids grows below.1)

same_hards : (before after : List Thing) (hards : List Conditions) → Grows before after → AllByRecursion (HasConditions (length before)) hards → map (conditions_of after) hards
    ≡ map (conditions_of before) hards
same_hards before after [] grows there = refl
same_hards before after (c ∷ hards) grows there =
    ap (λ (cs : List Cond). cs ∷ map (conditions_of after) hards) (same_conds before after c.ids.items grows there.0)
    ∙ ap (λ (css : List (List Cond)). conditions_of before c ∷ css) (same_hards before after hards grows there.1)

abbrev chance_with : ChanceConditions → List Cond → ChanceTerms
chance_with c conditions = record { conditions = conditions; p = c.p; q = c.q }

same_chances : (before after : List Thing) (chances : List ChanceConditions) → Grows before after → AllByRecursion (λ (c : ChanceConditions). HasConditions (length before) c.conditions) chances
    → map (chance_of after) chances ≡ map (chance_of before) chances
same_chances before after [] grows there = refl
same_chances before after (c ∷ chances) grows there =
    ap (λ (cs : List Cond). chance_with c cs ∷ map (chance_of after) chances) (same_conds before after c.conditions.ids.items grows there.0)
    ∙ ap (λ (cs : List ChanceTerms). chance_of before c ∷ cs) (same_chances before after chances grows there.1)

-- what is there is there among more
pub all_below : (n m : ℕ) (ids : List ℕ) → n ≤ m → AllBelow n ids → AllBelow m ids
all_below n m [] most below = tt
all_below n m (id ∷ ids) most below = (omega (arith, most, below.0), all_below n m ids most below.1)

more_hards : (n m : ℕ) (hards : List Conditions) → n ≤ m → AllByRecursion (HasConditions n) hards → AllByRecursion (HasConditions m) hards
more_hards n m [] most there = tt
more_hards n m (c ∷ hards) most there = (all_below n m c.ids.items most there.0, more_hards n m hards most there.1)

more_chances : (n m : ℕ) (chances : List ChanceConditions) → n ≤ m → AllByRecursion (λ (c : ChanceConditions). HasConditions n c.conditions) chances
    → AllByRecursion (λ (c : ChanceConditions). HasConditions m c.conditions) chances
more_chances n m [] most there = tt
more_chances n m (c ∷ chances) most there = (all_below n m c.conditions.ids.items most there.0, more_chances n m chances most there.1)

-- what is a cell exists, and stays one
pub node_exists : (all : List Thing) (node cell : ℕ) → term_at all node ≡ Cell cell → node < length all
node_exists all node cell is =
    elim (cases_lt node (length all)) [
      | inl there ↦ there
      | inr past ↦ absurd (no_cell cell (sym (ap term_in (get_or_past all node nothing past)) ∙ is))
    ]
  where
    no_cell : (cell : ℕ) → ¬ term_in nothing ≡ Cell cell
    no_cell cell e = cc

cells_kept : (root other : Box) (before after : List Thing) (nodes : List ℕ) → other ≡ root → Grows before after → AreCells root before nodes → AreCells other after nodes
cells_kept root other before after nodes is grows are = record {
  each_cell = are.each_cell ∙ sym (ap (λ (b : Box). length b.lows) is);
  is_cell = λ cell there.
      let node : ℕ = get_or nodes cell 0 in
      ap term_in (grows.same node (node_exists before node cell (are.is_cell cell there))) ∙ are.is_cell cell there;
}

-- a draft over another store
abbrev pub over : Draft → TermStore → Draft
over p s = record p { store = s }

-- a problem of these constraints, without an objective
abbrev of_constraints : Draft → List (List Cond) → List ChanceTerms → ProblemTerms
of_constraints p hards chances = record { weights = p.weights.items; whole = p.whole; hards = hards; chances = chances; goal = None }

same_problem : (p : Draft) (s : TermStore) → IsDraft p → Grows (draft_things p) (all s) → draft_problem (over p s) ≡ draft_problem p
same_problem p s made grows =
    ap (λ (hs : List (List Cond)). of_constraints p hs (map (chance_of (all s)) p.chances.items)) (same_hards (draft_things p) (all s) p.hards.items grows made.hards)
    ∙ ap (λ (cs : List ChanceTerms). of_constraints p (map (conditions_of (draft_things p)) p.hards.items) cs) (same_chances (draft_things p) (all s) p.chances.items grows made.chances)

still_made : (p : Draft) (s : TermStore) → IsDraft p → IsSoundStore s → root_of s ≡ draft_root p → Grows (draft_things p) (all s) → IsDraft (over p s)
still_made p s made sound root grows = record {
  store = sound;
  nodes = cells_kept (draft_root p) (root_of s) (draft_things p) (all s) p.nodes.items root grows made.nodes;
  cells = made.cells ∙ sym (ap (λ (b : Box). length b.lows) root);
  near = subst IsNearBox (sym root) made.near;
  problem = subst IsProblem (sym (same_problem p s made grows)) made.problem;
  light = made.light;
  few_scenarios = made.few_scenarios;
  few_hards = made.few_hards;
  few_chances = made.few_chances;
  hards = more_hards (length (draft_things p)) (length (all s)) p.hards.items grows.more made.hards;
  chances = more_chances (length (draft_things p)) (length (all s)) p.chances.items grows.more made.chances;
  thresholds = made.thresholds;
}

pub kept_grown : (b : Builder) (s : TermStore) → IsBuilding b → IsSoundStore s → root_of s ≡ draft_root b.draft → Grows (built b) (all s) → IsKept b (record b { draft = over b.draft s })
kept_grown b s building sound root grows = record {
  building = still_made b.draft s building sound root grows;
  root = root;
  problem = same_problem b.draft s building grows;
  grows = grows;
  direction = refl;
  worst = refl;
}
