-- One more element of a list of which some are kept.
use Rattle.std.proofs.Common.{◌≡◌, ◌+◌, ◌≤◌, ◌<◌, ◌++◌, refl, ℕ, List, [], ◌∷◌, length, map, filter, get_or, take, Bool, true, false, cond, sym, ap, append-nil, nat_eq, ◌∙◌}
use Rattle.std.proofs.lemmas.Bool.{eq-eqb, ne_eqb}
use Rattle.std.specs.List.{enumerate_from}
use Rattle.sopl_ast.specs.Instances.{Decision}
use Rattle.policy_json.specs.Nodes.{numbered_in_stage}
use Rattle.policy_json.specs.Stages.{number_in, numbers_of}
use Rattle.policy_json.proofs.Numbers.{numbered, numbered_all, numbered_at, numbered_within}
use Rattle.std.proofs.lemmas.List.{map-append, take_more}
use Rattle.std.proofs.lemmas.List.Elements.{filter-append}

-- the elements that are kept of one more
more_kept : {X Y : Type 0} (p : X → Bool) (f : X → Y) (xs : List X) (i : ℕ) (x : X) (b : Bool) → i < length xs → x ≡ get_or xs i x → p x ≡ b → map f (filter p (take (i + 1) xs))
    ≡ map f (filter p (take i xs)) ++ map f (cond b (x ∷ []) [])
more_kept p f xs i x b within is test =
    ap (λ ys. map f (filter p ys)) (take_more xs i x within ∙ ap (λ y. take i xs ++ y ∷ []) (sym is))
    ∙ (ap (map f) (filter-append p (take i xs) (x ∷ []))
    ∙ (map-append f (filter p (take i xs)) (filter p (x ∷ []))
    ∙ ap (λ t. map f (filter p (take i xs)) ++ map f (cond t (x ∷ []) [])) test))

-- one more element that is kept
pub kept_step : {X Y : Type 0} (p : X → Bool) (f : X → Y) (xs : List X) (i : ℕ) (x : X) (ys : List Y) (y : Y) → i < length xs → x ≡ get_or xs i x → p x ≡ true → ys ≡ map f (filter p (take i xs))
    → y ≡ f x → ys ++ y ∷ [] ≡ map f (filter p (take (i + 1) xs))
kept_step p f xs i x ys y within is test so_far next =
    ap (λ zs. zs ++ y ∷ []) so_far ∙ (ap (λ z. map f (filter p (take i xs)) ++ z ∷ []) next ∙ sym (more_kept p f xs i x true within is test))

-- one more element that is not kept
pub passed_step : {X Y : Type 0} (p : X → Bool) (f : X → Y) (xs : List X) (i : ℕ) (x : X) (ys : List Y) → i < length xs → x ≡ get_or xs i x → p x ≡ false → ys ≡ map f (filter p (take i xs))
    → ys ≡ map f (filter p (take (i + 1) xs))
passed_step p f xs i x ys within is test so_far =
    so_far ∙ sym (more_kept p f xs i x false within is test ∙ append-nil (map f (filter p (take i xs))))

-- whether a decision is of a stage
abbrev in_stage : ℕ → ℕ × Decision → Bool
in_stage stage d = nat_eq d.1.stage stage

-- one more decision that is of the stage
pub entry_kept : {Y : Type 0} (f : ℕ × Decision → Y) (stage : ℕ) (ds : List Decision) (i : ℕ) (d : Decision) (ys : List Y) (y : Y) (n : ℕ) → i < length ds → d ≡ get_or ds i d → n ≡ d.stage
    → n ≡ stage → ys ≡ map f (numbered_in_stage stage (take i (enumerate_from 0 ds))) → y ≡ f (numbered i d) → ys ++ y ∷ [] ≡ map f (numbered_in_stage stage (take (i + 1) (enumerate_from 0 ds)))
entry_kept f stage ds i d ys y n within is at here so_far next =
    kept_step (in_stage stage) f (enumerate_from 0 ds) i (numbered i d) ys y (numbered_within ds i within) (numbered_at ds i d within is) (eq-eqb d.stage stage (sym at ∙ here)) so_far next

-- one more decision that is of another stage
pub entry_passed : {Y : Type 0} (f : ℕ × Decision → Y) (stage : ℕ) (ds : List Decision) (i : ℕ) (d : Decision) (ys : List Y) (n : ℕ) → i < length ds → d ≡ get_or ds i d → n ≡ d.stage
    → (n ≡ stage → ⊥) → ys ≡ map f (numbered_in_stage stage (take i (enumerate_from 0 ds))) → ys ≡ map f (numbered_in_stage stage (take (i + 1) (enumerate_from 0 ds)))
entry_passed f stage ds i d ys n within is at elsewhere so_far =
    passed_step (in_stage stage) f (enumerate_from 0 ds) i (numbered i d) ys (numbered_within ds i within) (numbered_at ds i d within is) (ne_eqb d.stage stage (λ e. elsewhere (at ∙ e))) so_far

-- the numbers of the decisions of a stage, so far
abbrev pub numbers_so_far : ℕ → List Decision → ℕ → List ℕ
numbers_so_far stage ds i = map number_in (numbered_in_stage stage (take i (enumerate_from 0 ds)))

-- one more decision that is of the stage
pub number_kept : (stage : ℕ) (ds : List Decision) (i : ℕ) (d : Decision) (old new : List ℕ) (n : ℕ) → i < length ds → d ≡ get_or ds i d → n ≡ d.stage → n ≡ stage
    → old ≡ numbers_so_far stage ds i → new ≡ old ++ i ∷ [] → new ≡ numbers_so_far stage ds (i + 1)
number_kept stage ds i d old new n within is at here so_far made = made ∙ entry_kept number_in stage ds i d old i n within is at here so_far refl

-- one more decision that is of another stage
pub number_passed : (stage : ℕ) (ds : List Decision) (i : ℕ) (d : Decision) (old : List ℕ) (n : ℕ) → i < length ds → d ≡ get_or ds i d → n ≡ d.stage → (n ≡ stage → ⊥)
    → old ≡ numbers_so_far stage ds i → old ≡ numbers_so_far stage ds (i + 1)
number_passed stage ds i d old n within is at elsewhere so_far = entry_passed number_in stage ds i d old n within is at elsewhere so_far

-- all decisions
pub numbers_all : (stage : ℕ) (ds : List Decision) (i : ℕ) (found : List ℕ) → length ds ≤ i → found ≡ numbers_so_far stage ds i → found ≡ numbers_of stage ds
unfolding numbers_of
numbers_all stage ds i found all so_far = so_far ∙ ap (λ some. map number_in (numbered_in_stage stage some)) (numbered_all ds i all)
