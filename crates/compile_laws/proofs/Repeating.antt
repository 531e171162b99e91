-- An expression is the same where all that stands in it is.
use Rattle.std.proofs.Common.{arith, ◌≡◌, ◌∙◌, refl, sym, ap, ℕ, zero, suc, ◌+◌, ◌≤◌, nat_lt, ℤ, Bool, true, false, ◌||◌, List, [], ◌∷◌, ◌++◌, map, length, drop}
use Rattle.std.proofs.Common.{if◌then◌else◌}
use Rattle.std.proofs.lemmas.Slice.Eq.{bytes_eq-Decides}
use Rattle.std.specs.List.{AllByRecursion}
use Rattle.std.specs.Option.{unwrap_or}
use Rattle.std.specs.Str.{bytes_eq}
use Rattle.sopl_base.proofs.Booleans.{impossible}
use Rattle.sopl_base.proofs.Lists.{bytes_same}
use Rattle.sopl_base.proofs.Tests.{nat_untest}
use Rattle.sopl_ast.specs.declared.operators.MulOp.TheVariants.{Times, Div, Mod}
use Rattle.sopl_ast.specs.Constants as constant
use Rattle.sopl_ast.specs.Constants.{all_bindings}
use Rattle.sopl_ast.specs.Histories.{histories, history, number_of}
use Rattle.sopl_ast.specs.Instances.{Decision, Stochastic}
use Rattle.sopl_ast.specs.Known.{Known}
use Rattle.sopl_ast.specs.Mentions.{mentions, shape_mentions, some_mentions, some_term_mentions, some_factor_mentions, some_binder_mentions}
use Rattle.sopl_ast.specs.Tree as t
use Rattle.sopl_ast.specs.Tree.{Tree, Shape, Trees, Factors, Node, no_tree, tree, no_factor, factor}
use Rattle.term_language.specs.Terms as c
use Rattle.term_language.specs.declared.made.Operation.TheVariants as unary
use Rattle.term_language.specs.Arrays.{Entry, item_in}
use Rattle.compile_laws.specs.Instances.{Instance, Place, TaskTerms, bound_elements, function_of, chain_instance, condition, conditions, constant_elements, decided_elements, divided, extreme_of}
use Rattle.compile_laws.specs.Instances.{instance, instances, item_term, knowing, named_term, number, product_instance, seen_elements, shape_instance, sum_of, table_of, tasks_of, terms_of}
use Rattle.compile_laws.specs.Repeating.{AgreeOn, InstancesRepeat, IsBy, IsPast}
use Rattle.compile_laws.specs.Whole.{numbers_from}

-- Names that stand in parts.

or_true : (b : Bool) → (b || true) ≡ true
or_true true = refl
or_true false = refl

module _ (ss : List Stochastic) (ds : List Decision) (v w : List ℤ) (m n : List ℕ) where
  -- two places that know the same, in two scenarios
  abbrev one : Known → Place
  one known = record { known = known; stochastics = ss; scenario = v; decisions = ds; cells = m }

  abbrev other : Known → Place
  other known = record { known = known; stochastics = ss; scenario = w; decisions = ds; cells = n }

  -- a name has the same values and cells
  abbrev pub Same : List ℕ → Type 0
  Same name = (seen_elements name ss v ++ decided_elements name ds m) ≡ (seen_elements name ss w ++ decided_elements name ds n)

  abbrev pub AllSame : (List ℕ → Bool) → Type 0
  AllSame stands = (name : List ℕ) → stands name ≡ true → Same name

  left_of : (f g : List ℕ → Bool) → AllSame (λ name. f name || g name) → AllSame f
  left_of f g all name is = all name (ap (λ b. b || g name) is)

  right_of : (f g : List ℕ → Bool) → AllSame (λ name. f name || g name) → AllSame g
  right_of f g all name is = all name (ap (λ b. f name || b) is ∙ or_true (f name))

  named_same : (known : Known) (name : List ℕ) → Same name → named_term (one known) name ≡ named_term (other known) name
  named_same known name same = ap (λ list. item_term (item_in (bound_elements name known.bound ++ (constant_elements name known.constants ++ list)) [])) same

  -- what stands behind binders
  each_same : (known : Known) (e : Tree) → ((here : Known) → instance (one here) e ≡ instance (other here) e) → (ks : List Known)
      → map (λ here. (instance here e).term) (map (knowing (one known)) ks) ≡ map (λ here. (instance here e).term) (map (knowing (other known)) ks)
  each_same known e each [] = refl
  each_same known e each (k ∷ ks) = λ i. (each k i).term ∷ each_same known e each ks i

  abbrev task : Tree → Tree → Tree → Place → TaskTerms
  task start duration demand here = record { start = (instance here start).term; duration = (instance here duration).term; demand = (instance here demand).term }

  tasks_same : (known : Known) (start duration demand : Tree) → ((here : Known) → instance (one here) start ≡ instance (other here) start)
      → ((here : Known) → instance (one here) duration ≡ instance (other here) duration) → ((here : Known) → instance (one here) demand ≡ instance (other here) demand) → (ks : List Known)
      → map (task start duration demand) (map (knowing (one known)) ks) ≡ map (task start duration demand) (map (knowing (other known)) ks)
  tasks_same known start duration demand starts lasts asks [] = refl
  tasks_same known start duration demand starts lasts asks (k ∷ ks) =
      λ i. (record { start = (starts k i).term; duration = (lasts k i).term; demand = (asks k i).term }) ∷ tasks_same known start duration demand starts lasts asks ks i

  mutual
    pub same : (e : Tree) → AllSame (λ name. mentions name e) → (known : Known) → instance (one known) e ≡ instance (other known) e
    same (Node at shape) all known = shape_same shape all known

    shape_same : (shape : Shape) → AllSame (λ name. shape_mentions name shape) → (known : Known) → shape_instance (one known) shape ≡ shape_instance (other known) shape
    shape_same (t.Lit z) all known = refl
    shape_same (t.Name name) all known = ap number (named_same known name (all name (bytes_same name)))
    shape_same (t.Index name no_tree) all known = ap number (named_same known name (all name (ap (λ b. b || false) (bytes_same name))))
    shape_same (t.Index name (tree e es)) all known =
        let here : Same name = all name (ap (λ b. b || some_mentions name (tree e es)) (bytes_same name)) in
        let inside = right_of (λ n. bytes_eq name n) (λ n. some_mentions n (tree e es)) all in
        let first = same e (left_of (λ n. mentions n e) (λ n. some_mentions n es) inside) known in
        let later = all_same es (right_of (λ n. mentions n e) (λ n. some_mentions n es) inside) known in
        λ i. number (c.Element (table_of (constant_elements name known.constants ++ here i)) (c.term (first i).term (later i)))
    shape_same (t.Call f e) all known = ap (λ (x : Instance). number (function_of f x.term)) (same e all known)
    shape_same (t.Add parts) all known = ap (λ x. number (c.Sum x)) (chain_same parts all known)
    shape_same (t.Mul first others) all known =
        ap number
        (product_same others (right_of (λ n. mentions n first) (λ n. some_factor_mentions n others) all) known (instance (one known) first).term (instance (other known) first).term
        (ap (λ (x : Instance). x.term) (same first (left_of (λ n. mentions n first) (λ n. some_factor_mentions n others) all) known)))
    shape_same (t.Cmp op a b) all known =
        let left = same a (left_of (λ n. mentions n a) (λ n. mentions n b) all) known in
        let right = same b (right_of (λ n. mentions n a) (λ n. mentions n b) all) known in
        λ i. condition (c.Compare op (left i).term (right i).term)
    shape_same (t.Not e) all known = ap (λ (x : Instance). condition (c.Not x.cond)) (same e all known)
    shape_same (t.And es) all known = ap (λ xs. condition (c.All xs)) (all_conditions_same es all known)
    shape_same (t.Or es) all known = ap (λ xs. condition (c.Any xs)) (all_conditions_same es all known)
    shape_same (t.Implies a b) all known =
        let left = same a (left_of (λ n. mentions n a) (λ n. mentions n b) all) known in
        let right = same b (right_of (λ n. mentions n a) (λ n. mentions n b) all) known in
        λ i. condition (c.Implies (left i).cond (right i).cond)
    shape_same (t.Sum bs e) all known =
        ap (λ xs. number (c.Sum (sum_of xs))) (each_same known e (same e (right_of (λ n. some_binder_mentions n bs) (λ n. mentions n e) all)) (all_bindings known bs))
    shape_same (t.Selected which es) all known = ap (λ xs. number (extreme_of which xs)) (all_same es all known)
    shape_same (t.AllDifferent bs e) all known =
        ap (λ xs. condition (c.AllDifferent (terms_of xs))) (each_same known e (same e (right_of (λ n. some_binder_mentions n bs) (λ n. mentions n e) all)) (all_bindings known bs))
    shape_same (t.Cumulative bs start duration demand capacity) all known =
        let over : List ℕ → Bool = λ n. some_binder_mentions n bs in
        let three = left_of (λ n. over n || mentions n start || mentions n duration || mentions n demand) (λ n. mentions n capacity) all in
        let two = left_of (λ n. over n || mentions n start || mentions n duration) (λ n. mentions n demand) three in
        let first = left_of (λ n. over n || mentions n start) (λ n. mentions n duration) two in
        let tasks =
        tasks_same known start duration demand (same start (right_of over (λ n. mentions n start) first))
        (same duration (right_of (λ n. over n || mentions n start) (λ n. mentions n duration) two))
        (same demand (right_of (λ n. over n || mentions n start || mentions n duration) (λ n. mentions n demand) three)) (all_bindings known bs) in
        let most = same capacity (right_of (λ n. over n || mentions n start || mentions n duration || mentions n demand) (λ n. mentions n capacity) all) known in
        λ i. condition (c.Cumulative (tasks_of (tasks i)) (most i).term)

    all_same : (es : Trees) → AllSame (λ name. some_mentions name es) → (known : Known) → instances (one known) es ≡ instances (other known) es
    all_same no_tree all known = refl
    all_same (tree e es) all known =
        let first = same e (left_of (λ n. mentions n e) (λ n. some_mentions n es) all) known in
        let later = all_same es (right_of (λ n. mentions n e) (λ n. some_mentions n es) all) known in
        λ i. c.term (first i).term (later i)

    all_conditions_same : (es : Trees) → AllSame (λ name. some_mentions name es) → (known : Known) → conditions (one known) es ≡ conditions (other known) es
    all_conditions_same no_tree all known = refl
    all_conditions_same (tree e es) all known =
        let first = same e (left_of (λ n. mentions n e) (λ n. some_mentions n es) all) known in
        let later = all_conditions_same es (right_of (λ n. mentions n e) (λ n. some_mentions n es) all) known in
        λ i. c.condition (first i).cond (later i)

    chain_same : (parts : t.Terms) → AllSame (λ name. some_term_mentions name parts) → (known : Known) → chain_instance (one known) parts ≡ chain_instance (other known) parts
    chain_same t.no_term all known = refl
    chain_same (t.term minus e later) all known =
        let first = same e (left_of (λ n. mentions n e) (λ n. some_term_mentions n later) all) known in
        let more = chain_same later (right_of (λ n. mentions n e) (λ n. some_term_mentions n later) all) known in
        λ i. c.part minus (first i).term (more i)

    product_same : (others : Factors) → AllSame (λ name. some_factor_mentions name others) → (known : Known) (before mine : c.Term) → before ≡ mine
        → product_instance (one known) before others ≡ product_instance (other known) mine others
    product_same no_factor all known before mine is = is
    product_same (factor Times e later) all known before mine is =
        let first = same e (left_of (λ n. mentions n e) (λ n. some_factor_mentions n later) all) known in
        product_same later (right_of (λ n. mentions n e) (λ n. some_factor_mentions n later) all) known (c.Product before (instance (one known) e).term)
        (c.Product mine (instance (other known) e).term) (λ i. c.Product (is i) (first i).term)
    product_same (factor Div e later) all known before mine is =
        product_same later (right_of (λ n. mentions n e) (λ n. some_factor_mentions n later) all) known (divided unary.Quotient before (constant.value known e))
        (divided unary.Quotient mine (constant.value known e)) (ap (λ x. divided unary.Quotient x (constant.value known e)) is)
    product_same (factor Mod e later) all known before mine is =
        product_same later (right_of (λ n. mentions n e) (λ n. some_factor_mentions n later) all) known (divided unary.Remainder before (constant.value known e))
        (divided unary.Remainder mine (constant.value known e)) (ap (λ x. divided unary.Remainder x (constant.value known e)) is)

-- Values and histories that agree.

first_value : (x y : ℤ) (v w : List ℤ) (count : ℕ) → AgreeOn (suc count) (x ∷ v) (y ∷ w) → x ≡ y
first_value x y v w count agree = agree 0 (omega arith)

later_values : (x y : ℤ) (v w : List ℤ) (count : ℕ) → AgreeOn (suc count) (x ∷ v) (y ∷ w) → AgreeOn count v w
later_values x y v w count agree j below = agree (suc j) (omega (arith, below))

module _ (e : Tree) (stage : ℕ) (name : List ℕ) (there : mentions name e ≡ true) where
  -- a name that stands in an expression is not that of a variable that does not
  pub differs : (other : List ℕ) → mentions other e ≡ false → bytes_eq name other ≡ false
  differs other apart = by (bytes_eq name other) refl
    where
      by : (b : Bool) → bytes_eq name other ≡ b → b ≡ false
      by true same = absurd (impossible (sym there ∙ ap (λ n. mentions n e) ((bytes_eq-Decides name other).0 same) ∙ apart))
      by false apart = refl

  seen_late : (ss : List Stochastic) (v w : List ℤ) → length v ≡ length w → AllByRecursion (IsPast e stage) ss → seen_elements name ss v ≡ seen_elements name ss w
  seen_late [] v w long past = refl
  seen_late (s ∷ ss) [] [] long past = refl
  seen_late (s ∷ ss) [] (y ∷ w) long past = absurd (omega (arith, long))
  seen_late (s ∷ ss) (x ∷ v) [] long past = absurd (omega (arith, long))
  seen_late (s ∷ ss) (x ∷ v) (y ∷ w) long past =
      let apart = differs s.name past.0.apart in
      ap (λ b. if b then (record { index = s.index; item = c.Fixed x }) ∷ seen_elements name ss v else seen_elements name ss v) apart
      ∙ (seen_late ss v w (omega (arith, long)) past.1
      ∙ sym (ap (λ b. if b then (record { index = s.index; item = c.Fixed y }) ∷ seen_elements name ss w else seen_elements name ss w) apart))

  pub seen_same : (count : ℕ) (ss : List Stochastic) (v w : List ℤ) → length v ≡ length w → AllByRecursion (IsPast e stage) (drop count ss) → AgreeOn count v w
      → seen_elements name ss v ≡ seen_elements name ss w
  seen_same zero ss v w long past agree = seen_late ss v w long past
  seen_same (suc count) [] v w long past agree = refl
  seen_same (suc count) (s ∷ ss) [] [] long past agree = refl
  seen_same (suc count) (s ∷ ss) [] (y ∷ w) long past agree = absurd (omega (arith, long))
  seen_same (suc count) (s ∷ ss) (x ∷ v) [] long past agree = absurd (omega (arith, long))
  seen_same (suc count) (s ∷ ss) (x ∷ v) (y ∷ w) long past agree =
      let here = first_value x y v w count agree in
      let later = seen_same count ss v w (omega (arith, long)) past (later_values x y v w count agree) in
      λ i. if bytes_eq name s.name then (record { index = s.index; item = c.Fixed (here i) }) ∷ later i else later i

module _ (e : Tree) (stage at : ℕ) (by : at ≤ stage) where
  not_before : (s : Stochastic) → stage ≤ s.stage → nat_lt s.stage at ≡ false
  not_before s late = nat_untest s.stage at (omega (arith, by, late))

  history_late : (ss : List Stochastic) (v w : List ℤ) → length v ≡ length w → AllByRecursion (IsPast e stage) ss → history at ss v ≡ history at ss w
  history_late [] v w long past = refl
  history_late (s ∷ ss) [] [] long past = refl
  history_late (s ∷ ss) [] (y ∷ w) long past = absurd (omega (arith, long))
  history_late (s ∷ ss) (x ∷ v) [] long past = absurd (omega (arith, long))
  history_late (s ∷ ss) (x ∷ v) (y ∷ w) long past =
      let later = not_before s past.0.late in
      ap (λ b. if b then x ∷ history at ss v else history at ss v) later
      ∙ (history_late ss v w (omega (arith, long)) past.1
      ∙ sym (ap (λ b. if b then y ∷ history at ss w else history at ss w) later))

  pub history_same : (count : ℕ) (ss : List Stochastic) (v w : List ℤ) → length v ≡ length w → AllByRecursion (IsPast e stage) (drop count ss) → AgreeOn count v w
      → history at ss v ≡ history at ss w
  history_same zero ss v w long past agree = history_late ss v w long past
  history_same (suc count) [] v w long past agree = refl
  history_same (suc count) (s ∷ ss) [] [] long past agree = refl
  history_same (suc count) (s ∷ ss) [] (y ∷ w) long past agree = absurd (omega (arith, long))
  history_same (suc count) (s ∷ ss) (x ∷ v) [] long past agree = absurd (omega (arith, long))
  history_same (suc count) (s ∷ ss) (x ∷ v) (y ∷ w) long past agree =
      let here = first_value x y v w count agree in
      let later = history_same count ss v w (omega (arith, long)) past (later_values x y v w count agree) in
      λ i. if nat_lt s.stage at then here i ∷ later i else later i

-- the cells of a name whose decisions have the same histories
module _ (name : List ℕ) (ss : List Stochastic) (v w : List ℤ) where
  abbrev HasSame : Decision → Type 0
  HasSame d = bytes_eq name d.name ≡ true → history d.stage ss v ≡ history d.stage ss w

  -- the number of a decision's cell, and what is found in later decisions
  abbrev cell : ℕ → Decision → List ℤ → ℕ
  cell first d u = first + unwrap_or (number_of (history d.stage ss u) d.stage ss) 0

  abbrev rest : ℕ → Decision → List Decision → List ℤ → List Entry
  rest first d ds u = decided_elements name ds (numbers_from (first + length (histories d.stage ss)) ss u ds)

  abbrev entry : Decision → ℕ → Entry
  entry d number = record { index = d.index; item = c.Free number }

  decided_same : (first : ℕ) (ds : List Decision) → AllByRecursion HasSame ds → decided_elements name ds (numbers_from first ss v ds) ≡ decided_elements name ds (numbers_from first ss w ds)
  decided_same first [] all = refl
  decided_same first (d ∷ ds) all = by (bytes_eq name d.name) refl (decided_same (first + length (histories d.stage ss)) ds all.1)
    where
      by : (b : Bool) → bytes_eq name d.name ≡ b → rest first d ds v ≡ rest first d ds w
          → (if b then entry d (cell first d v) ∷ rest first d ds v else rest first d ds v) ≡ (if b then entry d (cell first d w) ∷ rest first d ds w else rest first d ds w)
      by true named later =
          let seen = all.0 named in
          λ i. entry d (first + unwrap_or (number_of (seen i) d.stage ss) 0) ∷ later i
      by false apart later = later

histories_same : (e : Tree) (stage : ℕ) (name : List ℕ) → mentions name e ≡ true → (count : ℕ) (ss : List Stochastic) (v w : List ℤ) → length v ≡ length w
    → AllByRecursion (IsPast e stage) (drop count ss) → AgreeOn count v w → (ds : List Decision) → IsBy e stage ds → AllByRecursion (HasSame name ss v w) ds
histories_same e stage name there count ss v w long past agree [] by = tt
histories_same e stage name there count ss v w long past agree (d ∷ ds) by = (
  (λ named. history_same e stage d.stage (by.0 (ap (λ n. mentions n e) (sym ((bytes_eq-Decides name d.name).0 named)) ∙ there)) count ss v w long past agree),
  histories_same e stage name there count ss v w long past agree ds by.1,
)

pub instances_repeat : InstancesRepeat
instances_repeat problem known s t e count follows long agree =
    same problem.stochastics problem.decisions s.values t.values (numbers_from 0 problem.stochastics s.values problem.decisions)
    (numbers_from 0 problem.stochastics t.values problem.decisions) e
    (λ name there.
    let seen = seen_same e follows.stage name there count problem.stochastics s.values t.values long follows.variables agree in
    let decided =
    decided_same name problem.stochastics s.values t.values 0 problem.decisions
    (histories_same e follows.stage name there count problem.stochastics s.values t.values long follows.variables agree problem.decisions follows.decisions) in
    λ i. seen i ++ decided i)
    known
