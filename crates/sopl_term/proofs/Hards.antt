-- A hard constraint more.
use Rattle.std.proofs.Common.{◌≡◌, ◌∙◌, refl, ap, sym, subst, arith, ℕ, ◌<◌, ◌^◌, List, [], ◌∷◌, ◌++◌, map, length, length-append, Vec, Global, Result, Ok, Err, OnOk, OnErr}
use Rattle.std.proofs.lemmas.List.{length-map}
use Rattle.std.specs.List.{AllByRecursion}
use Rattle.term_language.specs.Laws.{IsProperCond}
use Rattle.term_language.specs.Terms.{Cond}
use Rattle.term_problem.specs.Problems.{ChanceTerms, ProblemTerms, IsProblem, IsChance}
use Rattle.term_nodes.specs.Built.{AllBelow}
use Rattle.term_nodes.specs.Things.{cond_at}
use Rattle.term_store.proofs.Adding.{proper_at}
use Rattle.term_store.specs.declared.ids.CondId.{CondId}
use Rattle.term_program.specs.declared.draft.Conditions.{Conditions}
use Rattle.term_program.specs.declared.draft.Draft.{Draft}
use Rattle.sopl_term.specs.declared.builder.Builder.{Builder}
use Rattle.term_program.specs.Drafts.{HasConditions, IsDraft, conditions_of, draft_problem, draft_root, draft_things}
use Rattle.sopl_term.specs.Built.{IsBuilding, IsUnder, built, cond_ids, conds_of, with_hard}

-- one more behind a list
pub map_more : {A B : Type 0} (f : A → B) (xs : List A) (x : A) → map f (xs ++ x ∷ []) ≡ map f xs ++ f x ∷ []
map_more f [] x = refl
map_more f (y ∷ xs) x = ap (λ ys. f y ∷ ys) (map_more f xs x)

pub all_more : {A : Type 0} (P : A → Type 0) (xs : List A) (x : A) → AllByRecursion P xs → P x → AllByRecursion P (xs ++ x ∷ [])
all_more P [] x all here = (here, tt)
all_more P (y ∷ xs) x all here = (all.0, all_more P xs x all.1 here)

pub all_so : {A : Type 0} (P Q : A → Type 0) (xs : List A) → ((x : A) → P x → Q x) → AllByRecursion P xs → AllByRecursion Q xs
all_so P Q [] so all = tt
all_so P Q (x ∷ xs) so all = (so x all.0, all_so P Q xs so all.1)

-- each condition that is there is proper
pub proper_conds : (p : Draft) (ids : List ℕ) → IsDraft p → AllByRecursion IsProperCond (map (cond_at (draft_things p)) ids)
proper_conds p [] made = tt
proper_conds p (id ∷ ids) made = (proper_at (draft_root p) p.store.items.items id made.store.built, proper_conds p ids made)

-- a program with other hard constraints
abbrev pub of_hards : Draft → Vec Conditions Global → Draft
of_hards p hs = record p { hards = hs }

pub same_chance : (terms other : ProblemTerms) → other.weights ≡ terms.weights → (chance : ChanceTerms) → IsChance terms chance → IsChance other chance
same_chance terms other is chance each = record { each = each.each ∙ sym (ap length is); positive = each.positive }

module _ (b : Builder) (hs : Vec Conditions Global) (c : Conditions) (building : IsBuilding b) (added : hs.items ≡ b.draft.hards.items ++ c ∷ []) where
  pub listed : map (conditions_of (built b)) hs.items ≡ map (conditions_of (built b)) b.draft.hards.items ++ conditions_of (built b) c ∷ []
  listed = ap (map (conditions_of (built b))) added ∙ map_more (conditions_of (built b)) b.draft.hards.items c

  pub problem_more : draft_problem (of_hards b.draft hs) ≡ with_hard (draft_problem b.draft) (conditions_of (built b) c)
  problem_more = ap (λ (hards : List (List Cond)). record (draft_problem b.draft) { hards = hards }) listed

  made_more : length c.ids.items ≡ length b.draft.weights.items → AllBelow (length (built b)) c.ids.items → length b.draft.hards.items < 4294967295 → IsDraft (of_hards b.draft hs)
  made_more each exist few =
      let made : IsDraft b.draft = building in
      let terms : ProblemTerms = draft_problem b.draft in
      record {
        store = made.store;
        cells = made.cells;
        near = made.near;
        nodes = made.nodes;
        problem =
            record {
              first = made.problem.first;
              weighs = made.problem.weighs;
              whole = made.problem.whole;
              hards =
                  subst (AllByRecursion (λ (conditions : List Cond). length conditions ≡ length terms.weights)) (sym listed)
                  (all_more (λ (conditions : List Cond). length conditions ≡ length terms.weights) terms.hards (conditions_of (built b) c) made.problem.hards
                  (length-map c.ids.items (cond_at (built b)) ∙ each));
              chances = all_so (IsChance terms) (IsChance (draft_problem (of_hards b.draft hs))) terms.chances (same_chance terms (draft_problem (of_hards b.draft hs)) refl) made.problem.chances;
              goal = made.problem.goal;
              proper =
                  record {
                    hards =
                        subst (AllByRecursion (AllByRecursion IsProperCond)) (sym listed)
                        (all_more (AllByRecursion IsProperCond) terms.hards (conditions_of (built b) c) made.problem.proper.hards (proper_conds b.draft c.ids.items made));
                    chances = made.problem.proper.chances;
                    goal = made.problem.proper.goal;
                  };
            };
        light = made.light;
        few_scenarios = made.few_scenarios;
        few_hards = omega (arith, few, ap length added, length-append b.draft.hards.items (c ∷ []));
        few_chances = made.few_chances;
        hards = subst (AllByRecursion (HasConditions (length (built b)))) (sym added) (all_more (HasConditions (length (built b))) b.draft.hards.items c made.hards exist);
        chances = made.chances;
        thresholds = made.thresholds;
      }

-- the constraint is there
pub hard_under : (b : Builder) (hs : Vec Conditions Global) (c : Conditions) (conds : List CondId) → IsBuilding b → c.ids.items ≡ cond_ids conds → length conds ≡ length b.draft.weights.items
    → AllBelow (length (built b)) (cond_ids conds) → length b.draft.hards.items < 4294967295 → hs.items ≡ b.draft.hards.items ++ c ∷ [] → IsUnder b (record b { draft = of_hards b.draft hs })
hard_under b hs c conds building ids each exist few added = record {
  building =
      made_more b hs c building added (ap length ids ∙ length-map conds (λ (id : CondId). id.0) ∙ each) (subst (AllBelow (length (built b))) (sym ids) exist) few;
  root = refl;
  things = refl;
  direction = refl;
  worst = refl;
}

pub hard_problem : (b : Builder) (hs : Vec Conditions Global) (c : Conditions) (conds : List CondId) → IsBuilding b → c.ids.items ≡ cond_ids conds → hs.items ≡ b.draft.hards.items ++ c ∷ []
    → draft_problem (of_hards b.draft hs) ≡ with_hard (draft_problem b.draft) (conds_of b conds)
hard_problem b hs c conds building ids added =
    problem_more b hs c building added ∙ ap (λ (xs : List ℕ). with_hard (draft_problem b.draft) (map (cond_at (built b)) xs)) ids

-- it is not there
module _ (b : Builder) (hs : Vec Conditions Global) (building : IsBuilding b) (same : hs.items ≡ b.draft.hards.items) where
  pub hard_same : draft_problem (of_hards b.draft hs) ≡ draft_problem b.draft
  hard_same = ap (λ (xs : List Conditions). record (draft_problem b.draft) { hards = map (conditions_of (built b)) xs }) same

  pub hard_refused : IsUnder b (record b { draft = of_hards b.draft hs })
  hard_refused =
      let made : IsDraft b.draft = building in
      record {
        building =
            record {
              store = made.store;
              cells = made.cells;
              near = made.near;
              nodes = made.nodes;
              problem = subst IsProblem (sym hard_same) made.problem;
              light = made.light;
              few_scenarios = made.few_scenarios;
              few_hards = subst (λ (xs : List Conditions). length xs < 2 ^ 32) (sym same) made.few_hards;
              few_chances = made.few_chances;
              hards = subst (AllByRecursion (HasConditions (length (built b)))) (sym same) made.hards;
              chances = made.chances;
              thresholds = made.thresholds;
            };
        root = refl;
        things = refl;
        direction = refl;
        worst = refl;
      }

pub nothing_added : (b : Builder) → IsBuilding b → IsUnder b b
nothing_added b building = record { building = building; root = refl; things = refl; direction = refl; worst = refl }

-- either of them
pub hard_either : {A B : Type 0} (b : Builder) (hs : Vec Conditions Global) (c : Conditions) (conds : List CondId) (r : Result A B) → IsBuilding b → c.ids.items ≡ cond_ids conds
    → length conds ≡ length b.draft.weights.items → AllBelow (length (built b)) (cond_ids conds) → OnOk r (length b.draft.hards.items < 4294967295) → OnOk r (hs.items ≡ b.draft.hards.items ++ c ∷ [])
    → OnErr r (hs.items ≡ b.draft.hards.items) → IsUnder b (record b { draft = of_hards b.draft hs })
hard_either b hs c conds (Ok x) building ids each exist few added same = hard_under b hs c conds building ids each exist few added
hard_either b hs c conds (Err e) building ids each exist few added same = hard_refused b hs building same
