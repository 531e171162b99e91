-- The names of decisions and of stochastic variables have the form of names.
use Rattle.std.proofs.Common.{◌≡◌, ◌<◌, ℕ, zero, suc, List, [], ◌∷◌, get_or, length, map, true, ◌∙◌, ap, sym, arith}
use Rattle.std.specs.List.{list_all}
use Rattle.std.proofs.lemmas.Bool.{and_parts}
use Rattle.std.proofs.lemmas.List.Folds.{list_all-append}
use Rattle.sopl_ast.specs.Instances.{Decision, Stochastic, names_in}
use Rattle.sopl_ast.specs.Pieces.{is_word}

-- the name of an element has the form of a name, where those of all do
named_word : {X : Type 0} (name : X → List ℕ) (xs : List X) (i : ℕ) (x : X) → i < length xs → x ≡ get_or xs i x → list_all is_word (map name xs) ≡ true
    → is_word (name x) ≡ true
named_word name [] i x within is h = absurd (omega arith)
named_word name (y ∷ xs) zero x within is h = ap (λ z. is_word (name z)) is ∙ (and_parts _ _ h).0
named_word name (y ∷ xs) (suc i) x within is h = named_word name xs i x (omega arith) is (and_parts _ _ h).1

-- the names of the decisions and of the stochastic variables
words_apart : (ds : List Decision) (ss : List Stochastic) → list_all is_word (names_in ds ss) ≡ true
    → (list_all is_word (map (λ (d : Decision). d.name) ds) ≡ true) × (list_all is_word (map (λ (s : Stochastic). s.name) ss) ≡ true)
words_apart ds ss h =
    and_parts _ _ (sym (list_all-append is_word (map (λ (d : Decision). d.name) ds) (map (λ (s : Stochastic). s.name) ss)) ∙ h)

pub decision_word : (ds : List Decision) (ss : List Stochastic) (i : ℕ) (d : Decision) → list_all is_word (names_in ds ss) ≡ true → i < length ds → d ≡ get_or ds i d
    → is_word d.name ≡ true
decision_word ds ss i d h within is = named_word (λ (d : Decision). d.name) ds i d within is (words_apart ds ss h).0

pub stochastic_word : (ds : List Decision) (ss : List Stochastic) (i : ℕ) (s : Stochastic) → list_all is_word (names_in ds ss) ≡ true → i < length ss → s ≡ get_or ss i s
    → is_word s.name ≡ true
stochastic_word ds ss i s h within is = named_word (λ (s : Stochastic). s.name) ss i s within is (words_apart ds ss h).1
