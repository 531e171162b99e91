-- Each term and condition at points that agree on the cells that it mentions.
use Rattle.std.proofs.Common.{◌≡◌, ℕ, ℤ, ◌+ℤ◌, ◌*ℤ◌, Bool, true, not, ◌&&◌, ◌||◌, List, [], ◌∷◌, ◌++◌, Option, Some, None, option_map, option_and_then, IfSome, if◌then◌else◌}
use Rattle.std.proofs.Common.{arith, refl, sym, subst, ap, ap₂, ◌∙◌}
use Rattle.std.proofs.lemmas.Int.{ints}
use Rattle.std.specs.List.{fold, flat_map, list_all}
use Rattle.sopl_base.specs.Extremes.{chosen_by}
use Rattle.box_problem.specs.Box.{Box, IsBox, InBox}
use Rattle.term_language.specs.Terms.{Item, Fixed, Free, Table, Term, Constant, Cell, Sum, Product, Made, Selected, Element, Number, Terms, no_term, term}
use Rattle.term_language.specs.Terms.{Parts, no_part, part, Cond, Compare, Not, All, Any, Implies, AllDifferent, Cumulative, Conds, no_cond, condition, Tasks, no_task, task}
use Rattle.term_language.specs.Arrays.{Entry, indices, paired, entries, same_index, item_in, item_at}
use Rattle.term_language.specs.Ends.{made_of}
use Rattle.term_language.specs.Forms.{Form, is_constant, sign}
use Rattle.term_language.specs.Rules.{Near, forms}
use Rattle.term_language.specs.Values.{both_of, one_or_zero, compares, holds_of, cell_value, item_value, all_distinct, TaskValues, task_values, do_fit, value, values, sum_value, holds}
use Rattle.term_language.specs.Values.{all_hold, any_holds, all_task_values}
use Rattle.term_language.specs.Laws.{IsProper, AreProper, AreProperParts, IsProperCond, AreProperConds, AreProperTasks}
use Rattle.term_language.proofs.FormValues.{by_if, by_bool}
use Rattle.term_language.proofs.Lists.{constants}
use Rattle.term_language.proofs.Soundness.{read_all}
use Rattle.term_language.specs.Mentions.{item_mentions, named_item, element_mentions, mentions, terms_mention, parts_mention, cond_mentions, conds_mention, tasks_mention}
use Rattle.term_language.specs.MentionLaws.{PointsAgree}
use Rattle.term_language.proofs.Reaching.{Reach, reach_all, first, second, alone}

abbrev Like : List ℤ → List ℤ → ℕ → Type 0
Like p q cell = cell_value p cell ≡ cell_value q cell

-- items of an array
like_item : (p q : List ℤ) (item : Item) → Reach (Like p q) (item_mentions item) → item_value p item ≡ item_value q item
like_item p q (Fixed z) reach = refl
like_item p q (Free cell) reach = alone (Like p q) cell reach

like_one : (p q : List ℤ) (table : Table) (found : Option Item) → Reach (Like p q) (element_mentions table found) → option_map (item_value p) found ≡ option_map (item_value q) found
like_one p q table None reach = refl
like_one p q table (Some item) reach = ap Some (like_item p q item reach)

abbrev LikeEntries : List ℤ → List ℤ → List Entry → Type 0
LikeEntries p q [] = Unit {0}
LikeEntries p q (e ∷ es) = (item_value p e.item ≡ item_value q e.item) × LikeEntries p q es

like_paired : (p q : List ℤ) (lists : List (List ℤ)) (items : List Item) → Reach (Like p q) (flat_map item_mentions items) → LikeEntries p q (paired lists items)
like_paired p q [] items reach = tt
like_paired p q (index ∷ later) [] reach = tt
like_paired p q (index ∷ later) (item ∷ items) reach = (
  like_item p q item (first (Like p q) (item_mentions item) (flat_map item_mentions items) reach),
  like_paired p q later items (second (Like p q) (item_mentions item) (flat_map item_mentions items) reach),
)

like_found : (p q : List ℤ) (es : List Entry) (index : List ℤ) → LikeEntries p q es → option_map (item_value p) (item_in es index) ≡ option_map (item_value q) (item_in es index)
like_found p q [] index like = refl
like_found p q (e ∷ es) index like =
    by_if (λ (found : Option Item). option_map (item_value p) found ≡ option_map (item_value q) found) (same_index e.index index) (Some e.item) (item_in es index)
    (λ same. ap Some like.0) (λ other. like_found p q es index like.1)

-- the element at an index, which is that of the numbers where the indices are numbers
like_at : (p q : List ℤ) (table : Table) (fs : List Form) (index : List ℤ) → Reach (Like p q) (element_mentions table (named_item table fs)) → (list_all is_constant fs ≡ true → index ≡ constants fs)
    → option_map (item_value p) (item_at table index) ≡ option_map (item_value q) (item_at table index)
like_at p q table fs index =
    by_bool (λ constant. Reach (Like p q) (element_mentions table (if constant then item_at table (constants fs) else None)) → (constant ≡ true → index ≡ constants fs)
    → option_map (item_value p) (item_at table index) ≡ option_map (item_value q) (item_at table index)) (list_all is_constant fs)
    (λ all reach fixed.
    subst (λ (at : List ℤ). option_map (item_value p) (item_at table at) ≡ option_map (item_value q) (item_at table at)) (sym (fixed refl)) (like_one p q table (item_at table (constants fs)) reach))
    (λ open_index reach fixed. like_found p q (entries table) index (like_paired p q (indices table.sets) table.items reach))

like_here : (p q : List ℤ) (table : Table) (fs : List Form) (vs : Option (List ℤ)) → Reach (Like p q) (element_mentions table (named_item table fs))
    → (list_all is_constant fs ≡ true → IfSome vs (λ xs. xs ≡ constants fs))
    → option_map (item_value p) (option_and_then (item_at table) vs) ≡ option_map (item_value q) (option_and_then (item_at table) vs)
like_here p q table fs None reach fixed = refl
like_here p q table fs (Some index) reach fixed = like_at p q table fs index reach fixed

like_element : (p q : List ℤ) (table : Table) (fs : List Form) (vs ws : Option (List ℤ)) → Reach (Like p q) (element_mentions table (named_item table fs))
    → (list_all is_constant fs ≡ true → IfSome vs (λ xs. xs ≡ constants fs)) → vs ≡ ws
    → option_map (item_value p) (option_and_then (item_at table) vs) ≡ option_map (item_value q) (option_and_then (item_at table) ws)
like_element p q table fs vs ws reach fixed same =
    like_here p q table fs vs reach fixed ∙ ap (λ (us : Option (List ℤ)). option_map (item_value q) (option_and_then (item_at table) us)) same

-- one task more
abbrev with_task : Option ℤ → Option ℤ → Option ℤ → Option (List TaskValues) → Option (List TaskValues)
with_task s d m later = both_of (λ t ts. t ∷ ts) (option_and_then (λ start. both_of (task_values start) d m) s) later

like_task : (s d m : Option ℤ) (later : Option (List TaskValues)) (t e n : Option ℤ) (others : Option (List TaskValues)) → s ≡ t → d ≡ e → m ≡ n → later ≡ others → with_task s d m later
    ≡ with_task t e n others
like_task s d m later t e n others start duration demand rest =
    ap₂ (λ (x y : Option ℤ). with_task x y m later) start duration ∙ ap₂ (with_task t e) demand rest

-- a point as a box: numbers have the same value at each point
abbrev at : List ℤ → Box
at p = record { lows = p; highs = p }

at_is_box : (p : List ℤ) → IsBox (at p)
at_is_box p = record { paired = refl; ordered = λ cell there. omega (arith, ints) }

lies_at : (p : List ℤ) → InBox (at p) p
lies_at p = record { same_cells = refl; from_low = λ cell there. omega (arith, ints); to_high = λ cell there. omega (arith, ints) }

fixed_values : (root : Box) (p : List ℤ) (ts : Terms) → AreProper ts → list_all is_constant (forms root ts) ≡ true → IfSome (values p ts) (λ xs. xs ≡ constants (forms root ts))
fixed_values root p ts proper = (read_all Near root (at p) p ts (at_is_box p) (lies_at p) proper).fixed

mutual
  like_value : (root : Box) (p q : List ℤ) (t : Term) → IsProper t → Reach (Like p q) (mentions root t) → value p t ≡ value q t
  like_value root p q (Constant z) proper reach = refl
  like_value root p q (Cell cell) proper reach = ap Some (alone (Like p q) cell reach)
  like_value root p q (Sum parts) proper reach = like_sum root p q parts proper reach
  like_value root p q (Product a b) proper reach =
      ap₂ (λ (v w : Option ℤ). both_of (λ x y. x *ℤ y) v w) (like_value root p q a proper.0 (first (Like p q) (mentions root a) (mentions root b) reach))
      (like_value root p q b proper.1 (second (Like p q) (mentions root a) (mentions root b) reach))
  like_value root p q (Made op a) proper reach = ap (option_map (made_of op)) (like_value root p q a proper reach)
  like_value root p q (Selected which a later) proper reach =
      ap₂ (λ (v : Option ℤ) (vs : Option (List ℤ)). both_of (λ x xs. fold (chosen_by which) x xs) v vs)
      (like_value root p q a proper.0 (first (Like p q) (mentions root a) (terms_mention root later) reach))
      (like_values root p q later proper.1 (second (Like p q) (mentions root a) (terms_mention root later) reach))
  like_value root p q (Element table list) proper reach =
      let item = named_item table (forms root list) in
      like_element p q table (forms root list) (values p list) (values q list) (first (Like p q) (element_mentions table item) (terms_mention root list) reach) (fixed_values root p list proper.1)
      (like_values root p q list proper.1 (second (Like p q) (element_mentions table item) (terms_mention root list) reach))
  like_value root p q (Number c) proper reach = ap (λ (holds : Bool). Some (one_or_zero holds)) (like_holds root p q c proper reach)

  like_values : (root : Box) (p q : List ℤ) (ts : Terms) → AreProper ts → Reach (Like p q) (terms_mention root ts) → values p ts ≡ values q ts
  like_values root p q no_term proper reach = refl
  like_values root p q (term t later) proper reach =
      ap₂ (λ (v : Option ℤ) (vs : Option (List ℤ)). both_of (λ x xs. x ∷ xs) v vs) (like_value root p q t proper.0 (first (Like p q) (mentions root t) (terms_mention root later) reach))
      (like_values root p q later proper.1 (second (Like p q) (mentions root t) (terms_mention root later) reach))

  like_sum : (root : Box) (p q : List ℤ) (parts : Parts) → AreProperParts parts → Reach (Like p q) (parts_mention root parts) → sum_value p parts ≡ sum_value q parts
  like_sum root p q no_part proper reach = refl
  like_sum root p q (part subtracted t later) proper reach =
      ap₂ (λ (v w : Option ℤ). both_of (λ x sum. sign subtracted *ℤ x +ℤ sum) v w) (like_value root p q t proper.0 (first (Like p q) (mentions root t) (parts_mention root later) reach))
      (like_sum root p q later proper.1 (second (Like p q) (mentions root t) (parts_mention root later) reach))

  like_holds : (root : Box) (p q : List ℤ) (c : Cond) → IsProperCond c → Reach (Like p q) (cond_mentions root c) → holds p c ≡ holds q c
  like_holds root p q (Compare op a b) proper reach =
      ap₂ (λ (v w : Option ℤ). holds_of (λ same. same) (both_of (compares op) v w)) (like_value root p q a proper.0 (first (Like p q) (mentions root a) (mentions root b) reach))
      (like_value root p q b proper.1 (second (Like p q) (mentions root a) (mentions root b) reach))
  like_holds root p q (Not c) proper reach = ap not (like_holds root p q c proper reach)
  like_holds root p q (All conds) proper reach = like_all root p q conds proper reach
  like_holds root p q (Any conds) proper reach = like_any root p q conds proper reach
  like_holds root p q (Implies a c) proper reach =
      ap₂ (λ (s t : Bool). not s || t) (like_holds root p q a proper.0 (first (Like p q) (cond_mentions root a) (cond_mentions root c) reach))
      (like_holds root p q c proper.1 (second (Like p q) (cond_mentions root a) (cond_mentions root c) reach))
  like_holds root p q (AllDifferent terms) proper reach = ap (λ (vs : Option (List ℤ)). holds_of all_distinct vs) (like_values root p q terms proper reach)
  like_holds root p q (Cumulative tasks capacity) proper reach =
      ap₂ (λ (ts : Option (List TaskValues)) (v : Option ℤ). holds_of (λ fit. fit) (both_of do_fit ts v))
      (like_tasks root p q tasks proper.0 (first (Like p q) (tasks_mention root tasks) (mentions root capacity) reach))
      (like_value root p q capacity proper.1 (second (Like p q) (tasks_mention root tasks) (mentions root capacity) reach))

  like_all : (root : Box) (p q : List ℤ) (conds : Conds) → AreProperConds conds → Reach (Like p q) (conds_mention root conds) → all_hold p conds ≡ all_hold q conds
  like_all root p q no_cond proper reach = refl
  like_all root p q (condition c later) proper reach =
      ap₂ (λ (s t : Bool). s && t) (like_holds root p q c proper.0 (first (Like p q) (cond_mentions root c) (conds_mention root later) reach))
      (like_all root p q later proper.1 (second (Like p q) (cond_mentions root c) (conds_mention root later) reach))

  like_any : (root : Box) (p q : List ℤ) (conds : Conds) → AreProperConds conds → Reach (Like p q) (conds_mention root conds) → any_holds p conds ≡ any_holds q conds
  like_any root p q no_cond proper reach = refl
  like_any root p q (condition c later) proper reach =
      ap₂ (λ (s t : Bool). s || t) (like_holds root p q c proper.0 (first (Like p q) (cond_mentions root c) (conds_mention root later) reach))
      (like_any root p q later proper.1 (second (Like p q) (cond_mentions root c) (conds_mention root later) reach))

  like_tasks : (root : Box) (p q : List ℤ) (tasks : Tasks) → AreProperTasks tasks → Reach (Like p q) (tasks_mention root tasks) → all_task_values p tasks ≡ all_task_values q tasks
  like_tasks root p q no_task proper reach = refl
  like_tasks root p q (task s d m later) proper reach =
      let behind = second (Like p q) (mentions root s) (mentions root d ++ (mentions root m ++ tasks_mention root later)) reach in
      let last = second (Like p q) (mentions root d) (mentions root m ++ tasks_mention root later) behind in
      like_task (value p s) (value p d) (value p m) (all_task_values p later) (value q s) (value q d) (value q m) (all_task_values q later)
      (like_value root p q s proper.0 (first (Like p q) (mentions root s) (mentions root d ++ (mentions root m ++ tasks_mention root later)) reach))
      (like_value root p q d proper.1 (first (Like p q) (mentions root d) (mentions root m ++ tasks_mention root later) behind))
      (like_value root p q m proper.2 (first (Like p q) (mentions root m) (tasks_mention root later) last))
      (like_tasks root p q later proper.3 (second (Like p q) (mentions root m) (tasks_mention root later) last))

-- the laws
pub values_agree : (root : Box) (p q : List ℤ) (t : Term) → IsProper t → PointsAgree (mentions root t) p q → value p t ≡ value q t
values_agree root p q t proper agree = like_value root p q t proper (reach_all (Like p q) (mentions root t) agree)

pub holding_agrees : (root : Box) (p q : List ℤ) (c : Cond) → IsProperCond c → PointsAgree (cond_mentions root c) p q → holds p c ≡ holds q c
holding_agrees root p q c proper agree = like_holds root p q c proper (reach_all (Like p q) (cond_mentions root c) agree)
