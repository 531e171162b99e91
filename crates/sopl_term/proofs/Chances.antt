-- A chance constraint more.
use Rattle.std.proofs.Common.{◌≡◌, ◌∙◌, refl, ap, sym, subst, arith, ℕ, ◌<◌, ◌^◌, ℤ, List, [], ◌∷◌, ◌++◌, map, length, length-append, Vec, Global, Result, Ok, Err, OnOk, OnErr}
use Rattle.std.proofs.lemmas.List.{length-map}
use Rattle.std.specs.List.{AllByRecursion}
use Rattle.term_language.specs.Laws.{IsProperCond}
use Rattle.term_problem.specs.Problems.{ChanceTerms, ProblemTerms, IsProblem, IsChance}
use Rattle.term_nodes.specs.Built.{AllBelow}
use Rattle.term_nodes.specs.Things.{cond_at}
use Rattle.term_store.specs.declared.ids.CondId.{CondId}
use Rattle.term_program.specs.declared.draft.ChanceConditions.{ChanceConditions}
use Rattle.term_program.specs.declared.draft.Draft.{Draft}
use Rattle.sopl_term.specs.declared.builder.Builder.{Builder}
use Rattle.term_program.specs.Drafts.{HasConditions, IsDraft, IsThreshold, chance_of, draft_problem}
use Rattle.sopl_term.specs.Built.{IsBuilding, IsUnder, built, cond_ids, conds_of, with_chance}
use Rattle.sopl_term.proofs.Hards.{map_more, all_more, all_so, proper_conds, same_chance}

-- a program with other chance constraints
abbrev pub of_chances : Draft → Vec ChanceConditions Global → Draft
of_chances p cs = record p { chances = cs }

-- its conditions are there, and proper
abbrev HasProper : ChanceTerms → Type 0
HasProper chance = AllByRecursion IsProperCond chance.conditions

abbrev IsThere : ℕ → ChanceConditions → Type 0
IsThere count c = HasConditions count c.conditions

module _ (b : Builder) (cs : Vec ChanceConditions Global) (c : ChanceConditions) (building : IsBuilding b) (added : cs.items ≡ b.draft.chances.items ++ c ∷ []) where
  pub listed : map (chance_of (built b)) cs.items ≡ map (chance_of (built b)) b.draft.chances.items ++ chance_of (built b) c ∷ []
  listed = ap (map (chance_of (built b))) added ∙ map_more (chance_of (built b)) b.draft.chances.items c

  pub problem_more : draft_problem (of_chances b.draft cs) ≡ with_chance (draft_problem b.draft) (map (cond_at (built b)) c.conditions.ids.items) c.p c.q
  problem_more = ap (λ (chances : List ChanceTerms). record (draft_problem b.draft) { chances = chances }) listed

  made_more : length c.conditions.ids.items ≡ length b.draft.weights.items → AllBelow (length (built b)) c.conditions.ids.items → IsThreshold c → length b.draft.chances.items < 4294967295
      → IsDraft (of_chances b.draft cs)
  made_more each exist threshold few =
      let made : IsDraft b.draft = building in
      let terms : ProblemTerms = draft_problem b.draft in
      let other : ProblemTerms = draft_problem (of_chances b.draft cs) in
      record {
        store = made.store;
        cells = made.cells;
        near = made.near;
        nodes = made.nodes;
        problem =
            record {
              first = made.problem.first;
              weighs = made.problem.weighs;
              whole = made.problem.whole;
              hards = made.problem.hards;
              chances =
                  subst (AllByRecursion (IsChance other)) (sym listed)
                  (all_more (IsChance other) terms.chances (chance_of (built b) c) (all_so (IsChance terms) (IsChance other) terms.chances (same_chance terms other refl) made.problem.chances)
                  (record { each = length-map c.conditions.ids.items (cond_at (built b)) ∙ each; positive = threshold.positive }));
              goal = made.problem.goal;
              proper =
                  record {
                    hards = made.problem.proper.hards;
                    chances =
                        subst (AllByRecursion HasProper) (sym listed)
                        (all_more HasProper terms.chances (chance_of (built b) c) made.problem.proper.chances (proper_conds b.draft c.conditions.ids.items made));
                    goal = made.problem.proper.goal;
                  };
            };
        light = made.light;
        few_scenarios = made.few_scenarios;
        few_hards = made.few_hards;
        few_chances = omega (arith, few, ap length added, length-append b.draft.chances.items (c ∷ []));
        hards = made.hards;
        chances = subst (AllByRecursion (IsThere (length (built b)))) (sym added) (all_more (IsThere (length (built b))) b.draft.chances.items c made.chances exist);
        thresholds = subst (AllByRecursion IsThreshold) (sym added) (all_more IsThreshold b.draft.chances.items c made.thresholds threshold);
      }

-- the constraint is there
pub chance_under : (b : Builder) (cs : Vec ChanceConditions Global) (c : ChanceConditions) (conds : List CondId) → IsBuilding b → c.conditions.ids.items ≡ cond_ids conds → length conds
    ≡ length b.draft.weights.items → AllBelow (length (built b)) (cond_ids conds) → IsThreshold c → length b.draft.chances.items < 4294967295 → cs.items ≡ b.draft.chances.items ++ c ∷ []
    → IsUnder b (record b { draft = of_chances b.draft cs })
chance_under b cs c conds building ids each exist threshold few added = record {
  building =
      made_more b cs c building added (ap length ids ∙ length-map conds (λ (id : CondId). id.0) ∙ each) (subst (AllBelow (length (built b))) (sym ids) exist)
      threshold few;
  root = refl;
  things = refl;
  direction = refl;
  worst = refl;
}

pub chance_problem : (b : Builder) (cs : Vec ChanceConditions Global) (c : ChanceConditions) (conds : List CondId) (p q : ℤ) → IsBuilding b → c.p ≡ p → c.q ≡ q → c.conditions.ids.items
    ≡ cond_ids conds → cs.items ≡ b.draft.chances.items ++ c ∷ [] → draft_problem (of_chances b.draft cs) ≡ with_chance (draft_problem b.draft) (conds_of b conds) p q
chance_problem b cs c conds p q building p_is q_is ids added =
    problem_more b cs c building added ∙ ap (λ (xs : List ℕ). with_chance (draft_problem b.draft) (map (cond_at (built b)) xs) c.p c.q) ids
    ∙ ap (λ (z : ℤ). with_chance (draft_problem b.draft) (conds_of b conds) z c.q) p_is ∙ ap (λ (z : ℤ). with_chance (draft_problem b.draft) (conds_of b conds) p z) q_is

-- it is not there
module _ (b : Builder) (cs : Vec ChanceConditions Global) (building : IsBuilding b) (same : cs.items ≡ b.draft.chances.items) where
  pub chance_same : draft_problem (of_chances b.draft cs) ≡ draft_problem b.draft
  chance_same = ap (λ (xs : List ChanceConditions). record (draft_problem b.draft) { chances = map (chance_of (built b)) xs }) same

  pub chance_refused : IsUnder b (record b { draft = of_chances b.draft cs })
  chance_refused =
      let made : IsDraft b.draft = building in
      record {
        building =
            record {
              store = made.store;
              cells = made.cells;
              near = made.near;
              nodes = made.nodes;
              problem = subst IsProblem (sym chance_same) made.problem;
              light = made.light;
              few_scenarios = made.few_scenarios;
              few_hards = made.few_hards;
              few_chances = subst (λ (xs : List ChanceConditions). length xs < 2 ^ 32) (sym same) made.few_chances;
              hards = made.hards;
              chances = subst (AllByRecursion (IsThere (length (built b)))) (sym same) made.chances;
              thresholds = subst (AllByRecursion IsThreshold) (sym same) made.thresholds;
            };
        root = refl;
        things = refl;
        direction = refl;
        worst = refl;
      }

-- either of them
pub chance_either : {A B : Type 0} (b : Builder) (cs : Vec ChanceConditions Global) (c : ChanceConditions) (conds : List CondId) (r : Result A B) → IsBuilding b → c.conditions.ids.items
    ≡ cond_ids conds → length conds ≡ length b.draft.weights.items → AllBelow (length (built b)) (cond_ids conds) → IsThreshold c → OnOk r (length b.draft.chances.items < 4294967295)
    → OnOk r (cs.items ≡ b.draft.chances.items ++ c ∷ []) → OnErr r (cs.items ≡ b.draft.chances.items) → IsUnder b (record b { draft = of_chances b.draft cs })
chance_either b cs c conds (Ok x) building ids each exist threshold few added same = chance_under b cs c conds building ids each exist threshold few added
chance_either b cs c conds (Err e) building ids each exist threshold few added same = chance_refused b cs building same
