-- The values of scenarios of variables in two parts.
use Rattle.std.proofs.Common.{◌≡◌, ◌+◌, ◌*◌, ◌<◌, ◌++◌, ℕ, suc, ℤ, pos, List, [], ◌∷◌, length, map, get_or, take, arith, refl, sym, ap, subst, ◌∙◌, length-append}
use Rattle.std.proofs.lemmas.List.{get_or-map, length-map, length-take-le}
use Rattle.std.proofs.lemmas.List.Concat.{get_or-flat_map}
use Rattle.std.proofs.lemmas.List.Elements.{All-from_recursion}
use Rattle.std.proofs.lemmas.List.Folds.{flat_map-map}
use Rattle.std.specs.List.{AllByRecursion, flat_map}
use Rattle.sopl_base.proofs.Lists.{all_append, map-flat_map, map-map}
use Rattle.sopl_ast.specs.Instances.{Outcome, Stochastic}
use Rattle.sopl_ast.specs.Scenarios.{Scenario, preceded_by, outcomes_after, scenarios_after, scenarios}
use Rattle.scen_laws.specs.Laws.{followed, rows, values_of}
use Rattle.scen_laws.proofs.Splits.{scenarios_split}
use Rattle.scen_laws.specs.BlockLaws.{RowsSplit, rows_behind}

-- Rows in two parts.

each_row : (ys : List Stochastic) (s : Scenario) → map values_of (map (followed s) (scenarios ys)) ≡ rows_behind ys (values_of s)
each_row ys s = map-map values_of (followed s) (scenarios ys) ∙ sym (map-map (λ (other : List ℤ). s.values ++ other) values_of (scenarios ys))

pub rows_split : RowsSplit
rows_split xs ys =
    ap (map values_of) (scenarios_split xs ys)
    ∙ (map-flat_map values_of (λ (s : Scenario). map (followed s) (scenarios ys)) (scenarios xs)
    ∙ ((λ i. flat_map (λ (s : Scenario). each_row ys s i) (scenarios xs)) ∙ sym (flat_map-map (rows_behind ys) values_of (scenarios xs))))

-- Pieces of one length.

pub pieces_long : {X A : Type 0} (f : X → List A) (w : ℕ) → ((x : X) → length (f x) ≡ w) → (xs : List X) → length (flat_map f xs) ≡ length xs * w
pieces_long f w each [] = omega arith
pieces_long f w each (x ∷ xs) = omega (arith, length-append (f x) (flat_map f xs), each x, pieces_long f w each xs)

piece_at : {X A : Type 0} (f : X → List A) (w : ℕ) → ((x : X) → length (f x) ≡ w) → (xs : List X) (i t : ℕ) (e : X) (d : A) → i < length xs → t < w
    → get_or (flat_map f xs) (i * w + t) d ≡ get_or (f (get_or xs i e)) t d
piece_at f w each xs i t e d within inside =
    let before : length (flat_map f (take i xs)) ≡ i * w =
    pieces_long f w each (take i xs) ∙ ap (λ k. k * w) (length-take-le i xs (omega (arith, within))) in
    ap (λ k. get_or (flat_map f xs) (k + t) d) (sym before)
    ∙ get_or-flat_map f xs i t e d within (subst (λ k. t < k) (sym (each (get_or xs i e))) inside)

-- the rows of one part behind a row of another
pub behind_long : (ys : List Stochastic) (row : List ℤ) → length (rows_behind ys row) ≡ length (rows ys)
behind_long ys row = length-map (rows ys) (λ (other : List ℤ). row ++ other)

-- rows behind these rows, by the number of each
pub behind_at : (ys : List Stochastic) (list : List (List ℤ)) (p r : ℕ) → p < length list → r < length (rows ys)
    → get_or (flat_map (rows_behind ys) list) (p * length (rows ys) + r) [] ≡ get_or list p [] ++ get_or (rows ys) r []
behind_at ys list p r within inside =
    piece_at (rows_behind ys) (length (rows ys)) (behind_long ys) list p r [] [] within inside
    ∙ get_or-map (λ (other : List ℤ). get_or list p [] ++ other) (rows ys) r [] [] inside

-- The length of rows.

abbrev Long : ℕ → List Scenario → Type 0
Long n ps = AllByRecursion (λ (p : Scenario). length p.values ≡ n) ps

long_after : (n : ℕ) (o : Outcome) (ps : List Scenario) → Long n ps → Long (suc n) (map (preceded_by o) ps)
long_after n o [] all = tt
long_after n o (p ∷ ps) all = (ap suc all.0, long_after n o ps all.1)

long_each : (n : ℕ) (places : List ℕ) (later : List Stochastic) → ((ps : List ℕ) → Long n (scenarios_after ps later)) → (ds : List (ℕ × Outcome))
    → Long (suc n) (flat_map (λ (drawn : ℕ × Outcome). map (preceded_by drawn.1) (scenarios_after (places ++ drawn.0 ∷ []) later)) ds)
long_each n places later all [] = tt
long_each n places later all (d ∷ ds) =
    let here : List Scenario = scenarios_after (places ++ d.0 ∷ []) later in
    all_append (λ (p : Scenario). length p.values ≡ suc n) (map (preceded_by d.1) here)
    (flat_map (λ (drawn : ℕ × Outcome). map (preceded_by drawn.1) (scenarios_after (places ++ drawn.0 ∷ []) later)) ds)
    (long_after n d.1 here (all (places ++ d.0 ∷ []))) (long_each n places later all ds)

scenarios_long : (ss : List Stochastic) (places : List ℕ) → Long (length ss) (scenarios_after places ss)
scenarios_long [] places = (refl, tt)
scenarios_long (s ∷ ss) places = long_each (length ss) places ss (scenarios_long ss) (outcomes_after places s)

-- no scenario, in place of one that is not there
abbrev nothing : Scenario
nothing = record { values = []; weight = pos 1 }

pub row_long : (ss : List Stochastic) (i : ℕ) → i < length (rows ss) → length (get_or (rows ss) i []) ≡ length ss
row_long ss i within =
    let inside : i < length (scenarios ss) = subst (λ k. i < k) (length-map (scenarios ss) values_of) within in
    ap length (get_or-map values_of (scenarios ss) i nothing [] inside)
    ∙ All-from_recursion (λ (p : Scenario). length p.values ≡ length ss) (scenarios ss) (scenarios_long ss []) i nothing inside
