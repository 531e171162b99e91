-- What the propagators of several hard constraints have together.
use Rattle.std.proofs.Common.{◌≡◌, ℕ, ◌+◌, ◌≤◌, List, [], ◌∷◌, ◌++◌, Option, Some, IfSome, map, slice_get, arith, ap, refl, sym, subst, ◌∙◌}
use Rattle.std.specs.List.{flat_map, range_with_len}
use Rattle.std.specs.Option.{option_and_then}
use Rattle.std.proofs.lemmas.Grind.{flat_map-append}
use Rattle.std.proofs.lemmas.List.{append-nil, map-append}
use Rattle.std.proofs.lemmas.List.Elements.{All-append, All-cons, All-nil}
use Rattle.std.proofs.lemmas.List.FromFn.{map-range_with_len_more}
use Rattle.std.specs.List.{All}
use Rattle.sopl_base.specs.declared.reason.Reason.{Reason}
use Rattle.sopl_base.proofs.Lists.{range_more}
use Rattle.term_language.specs.Terms.{Cond}
use Rattle.prop_core.specs.Members.{together}
use Rattle.term_program.specs.Stated.{box_problem_of}
use Rattle.prop_alldiff.specs.Kinds.{IsAllDifferent}
use Rattle.prop_cumul.specs.Kinds.{IsCumulative}
use Rattle.prop_linear.specs.Kinds.{IsLinear}
use Rattle.prop_set.specs.Kinds.{chance_reasons, goal_reasons, hard_reasons}
use Rattle.term_program.specs.declared.program.Program.{Program}
use Rattle.term_program.specs.declared.shapes.Form.{Form}
use Rattle.term_program.specs.declared.shapes.Form.TheVariants.{AllDifferent, Cumulative, Linear}
use Rattle.term_program.specs.Comparisons.{shape_in}
use Rattle.term_program.specs.Programs.{problem_in, root_in}

-- one member more
together_append : (xs ys : List (List Reason)) → together (xs ++ ys) ≡ together xs ++ together ys
together_append [] ys = refl
together_append (x ∷ xs) ys = ap (λ (list : List Reason). x ++ list) (together_append xs ys) ∙ sym (append_again x (together xs) (together ys))
  where
    append_again : (xs ys zs : List Reason) → (xs ++ ys) ++ zs ≡ xs ++ (ys ++ zs)
    append_again [] ys zs = refl
    append_again (x ∷ xs) ys zs = ap (λ (list : List Reason). x ∷ list) (append_again xs ys zs)

pub one_more : {P : Type 0} (f : P → List Reason) (xs new : List P) (p : P) (reason : Reason) → f p ≡ reason ∷ [] → new ≡ xs ++ p ∷ [] → together (map f new) ≡ together (map f xs) ++ reason ∷ []
one_more f xs new p reason is pushed =
    ap (λ list. together (map f list)) pushed
    ∙ ap together (map-append f xs (p ∷ []))
    ∙ together_append (map f xs) (f p ∷ [])
    ∙ ap (λ (list : List Reason). together (map f xs) ++ (list ++ [])) is

pub none_yet : (base : List Reason) (f : ℕ → Reason) → base ≡ base ++ map f (range_with_len 0 0)
none_yet base f = sym (append-nil base)

pub reasons_more : {P : Type 0} (of : P → List Reason) (f : ℕ → Reason) (base : List Reason) (xs new : List P) (p : P) (n : ℕ) → together (map of xs) ≡ base ++ map f (range_with_len 0 n)
    → of p ≡ f n ∷ [] → new ≡ xs ++ p ∷ [] → together (map of new) ≡ base ++ map f (range_with_len 0 (n + 1))
reasons_more of f base xs new p n so_far is pushed =
    one_more of xs new p (f n) is pushed
    ∙ ap (λ (list : List Reason). list ++ f n ∷ []) so_far
    ∙ append_three base (map f (range_with_len 0 n)) (f n ∷ [])
    ∙ ap (λ (list : List Reason). base ++ list) (sym (map-range_with_len_more f 0 n n (omega arith)))
  where
    append_three : (xs ys zs : List Reason) → (xs ++ ys) ++ zs ≡ xs ++ (ys ++ zs)
    append_three [] ys zs = refl
    append_three (x ∷ xs) ys zs = ap (λ (list : List Reason). x ∷ list) (append_three xs ys zs)

-- the reasons of the first instances
pub instances_more : (f : ℕ → List Reason) (n : ℕ) (old new : List Reason) → old ≡ flat_map f (range_with_len 0 n) → new ≡ old ++ f n → new ≡ flat_map f (range_with_len 0 (n + 1))
instances_more f n old new so_far next =
    next
    ∙ (ap (λ list. list ++ f n) so_far
    ∙ (ap (λ list. flat_map f (range_with_len 0 n) ++ list) (sym (append-nil (f n)))
    ∙ (sym (flat_map-append f (range_with_len 0 n) (n ∷ [])) ∙ ap (flat_map f) (sym (range_more n)))))

pub instances_all : (all : List Reason) (f : ℕ → List Reason) (n i : ℕ) → n ≤ i → i ≤ n → all ≡ flat_map f (range_with_len 0 i) → all ≡ flat_map f (range_with_len 0 n)
instances_all all f n i past within is =
    subst (λ (k : ℕ). all ≡ flat_map f (range_with_len 0 k)) (let same : i ≡ n = omega (arith, past, within) in same) is

-- the reasons of the objective, and of all together
pub goal_more : {P : Type 0} (of : P → List Reason) (xs new : List P) (p : P) (reasons : List Reason) → of p ≡ reasons → new ≡ xs ++ p ∷ [] → together (map of new) ≡ together (map of xs) ++ reasons
goal_more of xs new p reasons is pushed =
    ap (λ list. together (map of list)) pushed
    ∙ ap together (map-append of xs (p ∷ []))
    ∙ together_append (map of xs) (of p ∷ [])
    ∙ ap (λ (list : List Reason). together (map of xs) ++ list) (append-nil (of p) ∙ is)

in_order : (hards chances undefined : List Reason) (bound : List Reason) → (hards ++ chances) ++ (undefined ++ bound) ≡ ((hards ++ chances) ++ undefined) ++ bound
in_order hards chances undefined bound = sym (append_behind (hards ++ chances) undefined bound)
  where
    append_behind : (xs ys zs : List Reason) → (xs ++ ys) ++ zs ≡ xs ++ (ys ++ zs)
    append_behind [] ys zs = refl
    append_behind (x ∷ xs) ys zs = ap (λ (list : List Reason). x ∷ list) (append_behind xs ys zs)

pub all_reasons : (program : Program) (hards chances all : List Reason) → hards ≡ hard_reasons (problem_in program) → chances ≡ hards ++ chance_reasons (problem_in program) → all ≡ chances
    ++ goal_reasons (problem_in program) → all ≡ (box_problem_of program).reasons
unfolding box_problem_of
all_reasons program hards chances all first second third =
    third
    ∙ ap (λ (list : List Reason). list ++ goal_reasons (problem_in program)) (second ∙ ap (λ (list : List Reason). list ++ chance_reasons (problem_in program)) first)
    ∙ in_order (hard_reasons (problem_in program)) (chance_reasons (problem_in program)) _ _

-- all of them fit
pub fit_more : {P : Type 0} (Fit : P → Type 0) (xs new : List P) (p : P) → All Fit xs → Fit p → new ≡ xs ++ p ∷ [] → All Fit new
fit_more Fit xs new p before here pushed =
    subst (All Fit) (sym pushed) (All-append Fit xs (p ∷ []) before (All-cons Fit p [] here (All-nil Fit)))

-- a condition of the form of linear comparisons
pub linear_there : (program : Program) (instance scenario : ℕ) (cond : Cond) (form : Form)
    → option_and_then (λ conditions. slice_get conditions scenario) (slice_get (problem_in program).hards instance) ≡ Some cond → form ≡ shape_in (root_in program) cond → form ≡ Linear
    → IsLinear program instance scenario
linear_there program instance scenario cond form at is linear =
    subst (λ (o : Option Cond). IfSome o (λ (c : Cond). shape_in (root_in program) c ≡ Linear)) (sym at) (sym is ∙ linear)

-- a condition of the form of `allDifferent`
pub different_there : (program : Program) (instance scenario : ℕ) (cond : Cond) (form : Form)
    → option_and_then (λ conditions. slice_get conditions scenario) (slice_get (problem_in program).hards instance) ≡ Some cond → form ≡ shape_in (root_in program) cond → form ≡ AllDifferent
    → IsAllDifferent program instance scenario
different_there program instance scenario cond form at is different =
    subst (λ (o : Option Cond). IfSome o (λ (c : Cond). shape_in (root_in program) c ≡ AllDifferent)) (sym at) (sym is ∙ different)

-- and one of the form of `cumulative`
pub cumulative_there : (program : Program) (instance scenario : ℕ) (cond : Cond) (form : Form)
    → option_and_then (λ conditions. slice_get conditions scenario) (slice_get (problem_in program).hards instance) ≡ Some cond → form ≡ shape_in (root_in program) cond → form ≡ Cumulative
    → IsCumulative program instance scenario
cumulative_there program instance scenario cond form at is cumulative =
    subst (λ (o : Option Cond). IfSome o (λ (c : Cond). shape_in (root_in program) c ≡ Cumulative)) (sym at) (sym is ∙ cumulative)
