-- An expression is in a scenario what it is in the one before it.
use Rattle.std.proofs.Common.{arith, ◌≡◌, ◌∙◌, ap, sym, subst, ℕ, ◌+◌, ◌<◌, ◌≤◌, ◌-◌, pos, true, List, [], ◌∷◌, map, length, drop, get_or, Option, Some, None, IfSome, slice_get}
use Rattle.std.proofs.lemmas.List.{at_drop_more}
use Rattle.std.proofs.lemmas.List.FromFn.{get_or-map-range_with_len, length-map-range_with_len}
use Rattle.std.proofs.lemmas.Option.{slice_get-get_or}
use Rattle.compile_laws.proofs.Repeating.{instances_repeat}
use Rattle.compile_laws.specs.Instances.{Instance, Place, instance, knowing}
use Rattle.compile_laws.specs.Measured.{first_large}
use Rattle.compile_laws.specs.Repeating.{AgreeOn, IsBy}
use Rattle.compile_laws.specs.Subterms.{condition_subterms, subterms}
use Rattle.compile_laws.specs.Whole as whole
use Rattle.compile_names.proofs.TreePlaces.{places_of_tree}
use Rattle.compile_names.specs.Places.{values_at}
use Rattle.compile_names.specs.declared.setting.Scenarios.{Scenarios}
use Rattle.compile_scene.specs.Scenes.{IsLaid, root_in}
use Rattle.compile_scene.specs.Works.{IsReady, Stands, things_of}
use Rattle.compile_scene.specs.declared.work.Lowering.{Lowering}
use Rattle.sopl_ast.specs.Instances.{Decision}
use Rattle.sopl_ast.specs.Known.{Known}
use Rattle.sopl_ast.specs.Mentions.{mentions}
use Rattle.sopl_ast.specs.Scenarios.{Scenario, scenarios}
use Rattle.sopl_ast.specs.Tree.{Tree}
use Rattle.sopl_scen.specs.Layout.{count_in, value_in}
use Rattle.sopl_compile.specs.Listed.{condition_at, expression_at, place_at}
use Rattle.sopl_compile.specs.Posed.{posed}
use Rattle.sopl_compile.specs.Repeats.{DoRepeat, FollowsFrom, IsAlready, IsLast, Repeats}
use Rattle.term_nodes.specs.Things.{Thing, a_cond, a_term}
use Rattle.term_language.specs.Terms.{Term}
use Rattle.term_store.specs.declared.ids.CondId.{CondId}
use Rattle.term_store.specs.declared.ids.TermId.{TermId}

module _ (setting : Scenarios) (laid : IsLaid setting) (known : Known) where
  -- the place of a scenario, where this is known
  place_is : (i : ℕ) (s : Scenario) → slice_get (scenarios setting.stochs.now) i ≡ Some s → place_at setting known i ≡ knowing (whole.place_at (posed setting []) [] s) known
  place_is i s at = ap (λ (p : Place). knowing p known) (places_of_tree (posed setting []) setting.tree.now [] i s laid at)

  values_are : (i : ℕ) (s : Scenario) → slice_get (scenarios setting.stochs.now) i ≡ Some s → values_at setting.tree.now (length setting.stochs.now) i ≡ s.values
  values_are i s at = ap (λ (p : Place). p.scenario) (places_of_tree (posed setting []) setting.tree.now [] i s laid at)

  -- the value of a variable
  value_is : (i j : ℕ) (s : Scenario) → slice_get (scenarios setting.stochs.now) i ≡ Some s → j < length setting.stochs.now → get_or s.values j (pos 0) ≡ value_in setting.tree.now j i
  value_is i j s at below =
      ap (λ values. get_or values j (pos 0)) (sym (values_are i s at))
      ∙ get_or-map-range_with_len (λ k. value_in setting.tree.now k i) 0 (length setting.stochs.now) j j (pos 0) below (omega arith)

  values_whole : (i : ℕ) (s : Scenario) → slice_get (scenarios setting.stochs.now) i ≡ Some s → length s.values ≡ length setting.stochs.now
  values_whole i s at = sym (ap length (values_are i s at)) ∙ length-map-range_with_len (λ k. value_in setting.tree.now k i) 0 (length setting.stochs.now)

  pub same_instance : (e : Tree) (count i : ℕ) → FollowsFrom setting e count → Repeats setting.tree.now count i → i < count_in setting.tree.now
      → instance (place_at setting known (i - 1)) e ≡ instance (place_at setting known i) e
  same_instance e count i from repeats below = by (at (i - 1)) (at i) (is (i - 1) (omega (arith, below))) (is i below)
    where
      none : Scenario
      none = record { weight = pos 0; values = [] }

      at : ℕ → Scenario
      at k = get_or (scenarios setting.stochs.now) k none

      is : (k : ℕ) → k < count_in setting.tree.now → slice_get (scenarios setting.stochs.now) k ≡ Some (at k)
      is k there = slice_get-get_or (scenarios setting.stochs.now) k none (omega (arith, there, laid.count))

      by : (s t : Scenario) → slice_get (scenarios setting.stochs.now) (i - 1) ≡ Some s → slice_get (scenarios setting.stochs.now) i ≡ Some t
          → instance (place_at setting known (i - 1)) e ≡ instance (place_at setting known i) e
      by s t first second =
          let agree : AgreeOn count s.values t.values = λ j less.
          let there : j < length setting.stochs.now = omega (arith, less, from.few) in
          value_is (i - 1) j s first there ∙ (repeats.same j less ∙ sym (value_is i j t second there)) in
          ap (λ (p : Place). instance p e) (place_is (i - 1) s first)
          ∙ (instances_repeat (posed setting []) known s t e count from.follows (values_whole (i - 1) s first ∙ sym (values_whole i t second)) agree
          ∙ sym (ap (λ (p : Place). instance p e) (place_is i t second)))

-- What is by a stage is by a later one.
pub by_later : (e : Tree) (stage later : ℕ) (ds : List Decision) → stage ≤ later → IsBy e stage ds → IsBy e later ds
by_later e stage later [] less by = tt
by_later e stage later (d ∷ ds) less by = ((λ there. omega (arith, less, by.0 there)), by_later e stage later ds less by.1)

pub last_more : (e : Tree) (stage later : ℕ) (ds : List Decision) (i j : ℕ) (d : Decision) → i + 1 ≡ j → i < length ds → d ≡ get_or ds i d → stage ≤ later
    → (mentions d.name e ≡ true → d.stage ≤ later) → IsBy e stage (drop j ds) → IsBy e later (drop i ds)
last_more e stage later ds i j d next below is less here by =
    subst (IsBy e later) (sym (at_drop_more (λ (l : List Decision). l) ds i d below)) (
      subst (λ (x : Decision). mentions x.name e ≡ true → x.stage ≤ later) is here,
      by_later e stage later (drop (i + 1) ds) less (subst (λ (k : ℕ). IsBy e stage (drop k ds)) (sym next) by),
    )

-- What stands for the last scenario.

pub last_is : (setting : Scenarios) (work : Lowering) (id : ℕ) (thing : ℕ → Thing) (sizes : ℕ → List Term) (i : ℕ) → Stands (things_of work) id (thing i)
    → first_large (root_in setting) (sizes i) ≡ None → IsLast setting work id thing sizes (i + 1)
last_is setting work id thing sizes i stands small = record {
  later = omega arith;
  already = subst (λ (k : ℕ). IsAlready setting work id (thing k) (sizes k)) (omega arith) (record { stands = stands; small = small });
}

pub last_later : {A : Type 0} (number : A → ℕ) (setting : Scenarios) (work : Lowering) (thing : ℕ → Thing) (sizes : ℕ → List Term) (i : ℕ) (before : Option A)
    → IfSome before (λ id. IsLast setting work (number id) thing sizes i) → IfSome before (λ id. 1 ≤ i)
last_later number setting work thing sizes i None last = tt
last_later number setting work thing sizes i (Some id) last = last.later

pub few_needed : (setting : Scenarios) (e : Tree) (needed : Option ℕ) → IfSome needed (FollowsFrom setting e) → IfSome needed (λ count. count ≤ length setting.stochs.now)
few_needed setting e None from = tt
few_needed setting e (Some count) from = from.few

-- What stands for the scenario before this one stands for this one, where the variables repeat.
module _ (setting : Scenarios) (known : Known) (e : Tree) (needed : Option ℕ) (i : ℕ) (from : IfSome needed (FollowsFrom setting e)) (below : i < count_in setting.tree.now)
    (work : Lowering) (ready : IsReady setting work) where
  same_here : DoRepeat setting.tree.now needed i → instance (place_at setting known (i - 1)) e ≡ instance (place_at setting known i) e
  same_here = by needed from
    where
      by : (o : Option ℕ) → IfSome o (FollowsFrom setting e) → DoRepeat setting.tree.now o i → instance (place_at setting known (i - 1)) e ≡ instance (place_at setting known i) e
      by None follows again = absurd again
      by (Some count) follows again = same_instance setting ready.laid known e count i follows again below

  pub condition_already : (result before : Option CondId) → IfSome result (λ id. before ≡ Some id) → IfSome result (λ id. DoRepeat setting.tree.now needed i)
      → IfSome before (λ (id : CondId). IsLast setting work id.0 (λ k. a_cond (condition_at setting known e k)) (λ k. condition_subterms (condition_at setting known e k)) i)
      → IfSome result (λ (id : CondId). IsAlready setting work id.0 (a_cond (condition_at setting known e i)) (condition_subterms (condition_at setting known e i)))
  condition_already None before same again last = tt
  condition_already (Some id) before same again last =
      let there =
      subst
      (λ (o : Option CondId). IfSome o (λ (id : CondId). IsLast setting work id.0 (λ k. a_cond (condition_at setting known e k)) (λ k. condition_subterms (condition_at setting known e k)) i)) same
      last in
      subst (λ (x : Instance). IsAlready setting work id.0 (a_cond x.cond) (condition_subterms x.cond)) (same_here again) there.already

  pub term_already : (result before : Option TermId) → IfSome result (λ id. before ≡ Some id) → IfSome result (λ id. DoRepeat setting.tree.now needed i)
      → IfSome before (λ (id : TermId). IsLast setting work id.0 (λ k. a_term (expression_at setting known e k)) (λ k. subterms (expression_at setting known e k)) i)
      → IfSome result (λ (id : TermId). IsAlready setting work id.0 (a_term (expression_at setting known e i)) (subterms (expression_at setting known e i)))
  term_already None before same again last = tt
  term_already (Some id) before same again last =
      let there =
      subst (λ (o : Option TermId). IfSome o (λ (id : TermId). IsLast setting work id.0 (λ k. a_term (expression_at setting known e k)) (λ k. subterms (expression_at setting known e k)) i)) same
      last in
      subst (λ (x : Instance). IsAlready setting work id.0 (a_term x.term) (subterms x.term)) (same_here again) there.already
