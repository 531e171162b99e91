-- The cells that the conditions of a chance constraint mention.
use Rattle.std.proofs.Common.{◌≡◌, ℕ, ◌+◌, ◌<◌, ◌≤◌, List, [], Option, Some, None, IfSome, slice_get, length, map, take, get_or, ◌∷◌, ◌++◌, arith, ap, subst, sym, ◌∙◌}
use Rattle.std.specs.List.{Contains, flat_map}
use Rattle.std.proofs.lemmas.List.{get_or-map, length-map, map-append, take_all, take_more}
use Rattle.std.specs.Option.{option_and_then, option_map_or}
use Rattle.sopl_base.specs.declared.reason.Reason.TheVariants.{Chance}
use Rattle.box_problem.specs.Box.{Box}
use Rattle.term_language.specs.Terms.{Cond}
use Rattle.term_language.specs.Mentions.{cond_mentions}
use Rattle.prop_shave.specs.Probes.{HasAll}
use Rattle.term_problem.specs.Problems.{ChanceTerms, IsChance, IsProblem, ProblemTerms}
use Rattle.term_problem.specs.Reasons.{reason_mentions}
use Rattle.term_program.specs.Mentions.{IsListOf}
use Rattle.prop_chance.specs.Deciding.{chance_within}
use Rattle.prop_chance.proofs.Reached.{AreIn, at_place, flat_in, more_in, none_mentioned}

-- those of its condition in a scenario
abbrev pub part_of : Box → ProblemTerms → ℕ → ℕ → List ℕ
part_of root terms instance scenario =
    option_map_or (cond_mentions root) (option_and_then (λ (chance : ChanceTerms). slice_get chance.conditions scenario) (slice_get terms.chances instance)) []

pub part_more : (root : Box) (terms : ProblemTerms) (instance scenario : ℕ) (cond : Cond) (cells old new : List ℕ)
    → option_and_then (λ (chance : ChanceTerms). slice_get chance.conditions scenario) (slice_get terms.chances instance) ≡ Some cond → IsListOf (cond_mentions root cond) cells
    → AreIn (part_of root terms instance) scenario old → HasAll new old → HasAll new cells → AreIn (part_of root terms instance) (scenario + 1) new
part_more root terms instance scenario cond cells old new at listed before kept put =
    more_in (part_of root terms instance) scenario old new before kept
    (subst (λ (found : Option Cond). HasAll new (option_map_or (cond_mentions root) found [])) (sym at)
    (λ cell here. put cell ((listed.mentions cell).1 here)))

-- they are among those of all its conditions
pub part_within : (root : Box) (terms : ProblemTerms) (instance scenario : ℕ) (cond : Cond) (cells : List ℕ)
    → option_and_then (λ (chance : ChanceTerms). slice_get chance.conditions scenario) (slice_get terms.chances instance) ≡ Some cond → IsListOf (cond_mentions root cond) cells
    → HasAll (reason_mentions root terms (Chance instance)) cells
part_within root terms instance scenario cond cells at listed = λ cell here.
    chance_within root (slice_get terms.chances instance) scenario cell
    (subst (λ (found : Option Cond). Contains (option_map_or (cond_mentions root) found []) cell) (sym at) ((listed.mentions cell).0 here))

-- those of all its conditions
all_of : (root : Box) (found : Option ChanceTerms) (n : ℕ) (set : List ℕ) → IfSome found (λ (chance : ChanceTerms). length chance.conditions ≡ n)
    → AreIn (λ k. option_map_or (cond_mentions root) (option_and_then (λ (chance : ChanceTerms). slice_get chance.conditions k) found) []) n set
    → HasAll set (option_map_or (λ (chance : ChanceTerms). flat_map (cond_mentions root) chance.conditions) found [])
all_of root None n set few each = none_mentioned set
all_of root (Some chance) n set few each =
    flat_in (cond_mentions root) chance.conditions set (λ k below. each k (omega (arith, below, few)))

each_scenario : (terms : ProblemTerms) (found : Option ChanceTerms) → IfSome found (IsChance terms) → IfSome found (λ (chance : ChanceTerms). length chance.conditions ≡ length terms.weights)
each_scenario terms None is = tt
each_scenario terms (Some chance) is = is.each

pub parts_all : (root : Box) (terms : ProblemTerms) (instance n : ℕ) (set list : List ℕ) → IsProblem terms → length terms.weights ≤ n → n ≤ length terms.weights
    → AreIn (part_of root terms instance) n set → list ≡ set → HasAll list (reason_mentions root terms (Chance instance))
parts_all root terms instance n set list problem past within each is =
    let same : n ≡ length terms.weights = omega (arith, past, within) in
    subst (λ (cells : List ℕ). HasAll cells (reason_mentions root terms (Chance instance))) (sym is)
    (all_of root (slice_get terms.chances instance) (length terms.weights) set
    (each_scenario terms (slice_get terms.chances instance) (at_place (IsChance terms) terms.chances instance problem.chances))
    (subst (λ (k : ℕ). AreIn (part_of root terms instance) k set) same each))

-- the scenarios of one cell more, and of all
pub lists_more : {A B : Type 0} (f : A → List B) (g : ℕ → List B) (cells : List ℕ) (i d : ℕ) (old new : List A) (x : A) → i < length cells → map f old ≡ map g (take i cells) → f x
    ≡ g (get_or cells i d) → new ≡ old ++ x ∷ [] → map f new ≡ map g (take (i + 1) cells)
lists_more f g cells i d old new x below so_far is pushed =
    ap (map f) pushed
    ∙ map-append f old (x ∷ [])
    ∙ ap (λ (lists : List (List _)). lists ++ f x ∷ []) so_far
    ∙ ap (λ (list : List _). map g (take i cells) ++ list ∷ []) is
    ∙ sym (ap (map g) (take_more cells i d below) ∙ map-append g (take i cells) (get_or cells i d ∷ []))

pub lists_all : {B : Type 0} (g : ℕ → List B) (cells : List ℕ) (i : ℕ) (lists : List (List B)) → length cells ≤ i → lists ≡ map g (take i cells) → lists ≡ map g cells
lists_all g cells i lists past so_far = so_far ∙ ap (map g) (take_all i cells past)

-- those of a cell at its place
pub list_at : {A B : Type 0} (f : A → List B) (g : ℕ → List B) (lists : List A) (cells : List ℕ) (i d : ℕ) (e : A) → map f lists ≡ map g cells → i < length cells → f (get_or lists i e)
    ≡ g (get_or cells i d)
list_at f g lists cells i d e same below =
    let count = length-map lists f in
    let other = length-map cells g in
    let as_many = ap length same in
    sym (get_or-map f lists i e (f e) (omega (arith, below, count, other, as_many)))
    ∙ ap (λ (xs : List (List _)). get_or xs i (f e)) same
    ∙ get_or-map g cells i d (f e) below

pub as_long : {A B : Type 0} (f : A → List B) (g : ℕ → List B) (lists : List A) (cells : List ℕ) (i : ℕ) → map f lists ≡ map g cells → i < length cells → i < length lists
as_long f g lists cells i same below =
    let count = length-map lists f in
    let other = length-map cells g in
    let as_many = ap length same in
    omega (arith, below, count, other, as_many)

-- of the same lists and cells
pub moved : {A B : Type 0} (f : A → List B) (lists new : List A) (cells now : List ℕ) (g : ℕ → List B) → new ≡ lists → now ≡ cells → map f lists ≡ map g cells → map f new ≡ map g now
moved f lists new cells now g list_same cell_same is = ap (map f) list_same ∙ (is ∙ sym (ap (map g) cell_same))
