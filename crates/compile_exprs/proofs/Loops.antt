-- What loops keep that add one thing after the other.
use Rattle.std.proofs.Common.{◌≡◌, ◌∙◌, ap, ap₂, sym, subst, arith, Bool, List, [], ◌∷◌, ◌++◌, length}
use Rattle.std.proofs.lemmas.List.{append_assoc, append-nil}
use Rattle.sopl_base.specs.declared.fault.Fault.{Fault}
use Rattle.box_problem.specs.Box.{Box}
use Rattle.term_language.specs.Terms as c
use Rattle.term_language.specs.Terms.{Term, Terms, Cond, Conds, Parts, Tasks}
use Rattle.compile_laws.specs.Instances.{TaskTerms}
use Rattle.compile_names.specs.declared.setting.Scenarios.{Scenarios}
use Rattle.compile_laws.specs.Subterms.{all_condition_subterms, all_subterms, condition_subterms, part_subterms, subterms, task_subterms}
use Rattle.compile_scene.specs.Scenes.{root_in}
use Rattle.compile_scene.specs.Works.{IsReady, things_of}
use Rattle.compile_scene.specs.declared.work.Lowering.{Lowering}
use Rattle.compile_scene.proofs.Growing.{extends_twice}
use Rattle.sopl_term.specs.Built.{Grows}
use Rattle.term_nodes.specs.Built.{AllBelow}
use Rattle.term_nodes.specs.Things.{Thing, a_cond, a_term, term_at, term_in}
use Rattle.term_store.specs.declared.ids.CondId.{CondId}
use Rattle.term_store.specs.declared.ids.TermId.{TermId}
use Rattle.sopl_term.proofs.Keeping.{all_below}
use Rattle.compile_exprs.specs.Made.{SizesFail, AreConds, AreParts, AreTasks, AreTerms, IsMade, IsTask, numbers_of, subterms_of_task, task_at}
use Rattle.compile_exprs.proofs.Sizes.{fails_first, fails_later, AreSmall, both_small}
use Rattle.compile_exprs.proofs.Steps.{later_cond_is, later_is}

-- What was added stands in front of what is left: with what is added for that it makes up all, and what is too large in what is left is too large in all.
pub record Precedes {I T : Type 0} (Are : Lowering → Lowering → List I → T → Type 0) (sizes : T → List Term) (setting : Scenarios) (before now : Lowering) (ids : List I) (left all : T) : Type 0 where
  pub ready : IsReady setting now
  pub joins : (after : Lowering) (more : List I) → Are now after more left → Are before after (ids ++ more) all
  pub fails : (fault : Fault) → SizesFail (root_in setting) (sizes left) fault → SizesFail (root_in setting) (sizes all) fault

-- what is left of a list holds what adding it asks for, and stands behind what was added
pub record IsLeft {A I T : Type 0} (Are : Lowering → Lowering → List I → T → Type 0) (sizes : T → List Term) (Holds : List A → Type 0) (f : List A → T) (setting : Scenarios) (before now : Lowering)
    (ids : List I) (left : List A) (all : T) : Type 0 where
  pub added : Precedes Are sizes setting before now ids (f left) all
  pub holds : Holds left

module _ {A I T : Type 0} {Are : Lowering → Lowering → List I → T → Type 0} {sizes : T → List Term} {Holds : List A → Type 0} {f : List A → T} {setting : Scenarios} {before : Lowering} where
  -- at first, all is left
  pub left_first : (ids : List I) (xs : List A) → Holds xs → IsReady setting before → ids ≡ [] → IsLeft Are sizes Holds f setting before before ids xs (f xs)
  left_first ids xs holds ready none = record {
    added = subst (λ l. Precedes Are sizes setting before before l (f xs) (f xs)) (sym none) (record { ready = ready; joins = λ after more are. are; fails = λ fault large. large });
    holds = holds;
  }

module _ {A I T : Type 0} {Are : Lowering → Lowering → List I → T → Type 0} {sizes : T → List Term} {Holds : List A → Type 0} {f : List A → T} {setting : Scenarios} {before now : Lowering}
    {ids : List I} {left : List A} {all : T} (l : IsLeft Are sizes Holds f setting before now ids left all) where
  -- the first of what is left may be added
  pub left_holds : {x : A} {later : List A} → left ≡ x ∷ later → Holds (x ∷ later)
  left_holds is = subst Holds is l.holds

  -- it was added
  pub left_more : {x : A} {later : List A} → left ≡ x ∷ later → (after : Lowering) (id : I) (new : List I) → new ≡ ids ++ id ∷ [] → (Holds (x ∷ later) → Holds later)
      → Precedes Are sizes setting now after (id ∷ []) (f later) (f (x ∷ later)) → IsLeft Are sizes Holds f setting before after new later all
  left_more is after id new put goes first = record {
    added = record {
      ready = first.ready;
      joins = λ last more are.
          subst (λ ms. Are before last ms all) (sym (ap (λ ms. ms ++ more) put ∙ append_assoc ids (id ∷ []) more))
          (l.added.joins last (id ∷ more) (subst (λ xs. Are now last (id ∷ more) (f xs)) (sym is) (first.joins last more are)));
      fails = λ fault large. l.added.fails fault (subst (λ xs. SizesFail (root_in setting) (sizes (f xs)) fault) (sym is) (first.fails fault large));
    };
    holds = goes (left_holds is);
  }

  -- it is too large
  pub left_fault : {x : A} {later : List A} → left ≡ x ∷ later → (fault : Fault) → SizesFail (root_in setting) (sizes (f (x ∷ later))) fault → SizesFail (root_in setting) (sizes all) fault
  left_fault is fault large = l.added.fails fault (subst (λ xs. SizesFail (root_in setting) (sizes (f xs)) fault) (sym is) large)

  -- nothing is left
  pub left_none : left ≡ [] → (IsReady setting now → Are now now [] (f [])) → Are before now ids all
  left_none is none =
      subst (λ ms. Are before now ms all) (append-nil ids) (l.added.joins now [] (subst (λ xs. Are now now [] (f xs)) (sym is) (none l.added.ready)))

-- One term, one condition, one part of a sum and one task.

pub term_first : (setting : Scenarios) (now after : Lowering) (id : TermId) (x : Term) (xs : Terms) → IsMade setting now after id.0 (a_term x) (subterms x)
    → Precedes (AreTerms setting) all_subterms setting now after (id ∷ []) xs (c.term x xs)
term_first setting now after id x xs made = record {
  ready = made.extends.ready;
  joins = λ last more are. record {
    extends = extends_twice setting now after last made.extends are.extends;
    exist = (omega (arith, made.stands.exists, are.extends.grows.more), are.exist);
    are = ap₂ (λ y ys. c.term y ys) (later_is (things_of after) (things_of last) id.0 x are.extends.grows made.stands) are.are;
    small = both_small (root_in setting) (subterms x) (all_subterms xs) made.small are.small;
  };
  fails = λ fault large. fails_later (root_in setting) (subterms x) (all_subterms xs) fault made.small large;
}

pub cond_first : (setting : Scenarios) (now after : Lowering) (id : CondId) (x : Cond) (xs : Conds) → IsMade setting now after id.0 (a_cond x) (condition_subterms x)
    → Precedes (AreConds setting) all_condition_subterms setting now after (id ∷ []) xs (c.condition x xs)
cond_first setting now after id x xs made = record {
  ready = made.extends.ready;
  joins = λ last more are. record {
    extends = extends_twice setting now after last made.extends are.extends;
    exist = (omega (arith, made.stands.exists, are.extends.grows.more), are.exist);
    are = ap₂ (λ y ys. c.condition y ys) (later_cond_is (things_of after) (things_of last) id.0 x are.extends.grows made.stands) are.are;
    small = both_small (root_in setting) (condition_subterms x) (all_condition_subterms xs) made.small are.small;
  };
  fails = λ fault large. fails_later (root_in setting) (condition_subterms x) (all_condition_subterms xs) fault made.small large;
}

pub part_first : (setting : Scenarios) (now after : Lowering) (id : Bool × TermId) (x : Term) (xs : Parts) → IsMade setting now after id.1.0 (a_term x) (subterms x)
    → Precedes (AreParts setting) part_subterms setting now after (id ∷ []) xs (c.part id.0 x xs)
part_first setting now after id x xs made = record {
  ready = made.extends.ready;
  joins = λ last more are. record {
    extends = extends_twice setting now after last made.extends are.extends;
    exist = (omega (arith, made.stands.exists, are.extends.grows.more), are.exist);
    are = ap₂ (λ y ys. c.part id.0 y ys) (later_is (things_of after) (things_of last) id.1.0 x are.extends.grows made.stands) are.are;
    small = both_small (root_in setting) (subterms x) (part_subterms xs) made.small are.small;
  };
  fails = λ fault large. fails_later (root_in setting) (subterms x) (part_subterms xs) fault made.small large;
}

abbrev one_task : TaskTerms → Tasks → Tasks
one_task x xs = c.task x.start x.duration x.demand xs

task_sizes : (x : TaskTerms) (rest : List Term) → subterms_of_task x ++ rest ≡ subterms x.start ++ (subterms x.duration ++ (subterms x.demand ++ rest))
task_sizes x rest =
    append_assoc (subterms x.start) (subterms x.duration ++ subterms x.demand) rest ∙ ap (λ l. subterms x.start ++ l) (append_assoc (subterms x.duration) (subterms x.demand) rest)

task_stays : (before after : List Thing) (id : TermId × TermId × TermId) (xs : Tasks) → Grows before after → AllBelow (length before) (numbers_of id)
    → one_task (task_at after id) xs ≡ one_task (task_at before id) xs
task_stays before after id xs grows below =
    ap (λ t. c.task (term_in t) (term_at after id.1.0) (term_at after id.2.0) xs) (grows.same id.0.0 below.0)
    ∙ (ap (λ t. c.task (term_at before id.0.0) (term_in t) (term_at after id.2.0) xs) (grows.same id.1.0 below.1.0)
    ∙ ap (λ t. c.task (term_at before id.0.0) (term_at before id.1.0) (term_in t) xs) (grows.same id.2.0 below.1.1.0))

pub task_first : (setting : Scenarios) (now after : Lowering) (id : TermId × TermId × TermId) (x : TaskTerms) (xs : Tasks) → IsTask setting now after id x
    → Precedes (AreTasks setting) task_subterms setting now after (id ∷ []) xs (one_task x xs)
task_first setting now after id x xs made = record {
  ready = made.extends.ready;
  joins = λ last more are.
      let exist = all_below (length (things_of after)) (length (things_of last)) (numbers_of id) are.extends.grows.more made.exist in
      record {
        extends = extends_twice setting now after last made.extends are.extends;
        exist = ((exist.0, (exist.1.0, exist.1.1.0)), are.exist);
        are = ap (one_task (task_at (things_of last) id)) are.are ∙ (task_stays (things_of after) (things_of last) id xs are.extends.grows made.exist ∙ ap (λ y. one_task y xs) made.is);
        small = subst (AreSmall (root_in setting)) (task_sizes x (task_subterms xs)) (both_small (root_in setting) (subterms_of_task x) (task_subterms xs) made.small are.small);
      };
  fails = λ fault large.
      subst (λ l. SizesFail (root_in setting) l fault) (task_sizes x (task_subterms xs)) (fails_later (root_in setting) (subterms_of_task x) (task_subterms xs) fault made.small large);
}

-- a task in front of others is too large
pub task_fault : (root : Box) (x : TaskTerms) (rest : List Term) (fault : Fault) → SizesFail root (subterms_of_task x) fault
    → SizesFail root (subterms x.start ++ (subterms x.duration ++ (subterms x.demand ++ rest))) fault
task_fault root x rest fault large = subst (λ l. SizesFail root l fault) (task_sizes x rest) (fails_first root (subterms_of_task x) rest fault large)
