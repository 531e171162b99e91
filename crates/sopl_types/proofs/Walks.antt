-- Walks over lists: what is the first mistake so far, with the next element, and at the end.
use Rattle.std.proofs.Common.{◌≡◌, refl, sym, ap, ◌∙◌, Bool, true, false, ◌||◌, ℕ, ◌+◌, ◌<◌, ◌≤◌, List, [], ◌∷◌, ◌++◌, length, get_or, drop, Option, append_assoc, arith}
use Rattle.std.proofs.lemmas.List.{at_drop_more, at_drop_all}
use Rattle.std.proofs.lemmas.Bool.{or_right}
use Rattle.sopl_base.specs.declared.fault.Refusal.{Refusal}
use Rattle.sopl_ast.specs.declared.operators.MulOp.{MulOp}
use Rattle.sopl_ast.specs.Tree.{Tree}
use Rattle.sopl_ast.specs.Lists.{BinderTree, trees, terms, factors, binders}
use Rattle.sopl_ast.specs.Mistakes.{Scope, with_entity, Constant, entity_of, known_name, count, of_number, of_numbers, of_condition, of_conditions, of_terms, of_factors, of_binders, of_range, bind, asks_constant}
use Rattle.sopl_types.specs.Earliest.{earlier_of, earliest}
use Rattle.sopl_types.proofs.EarliestLemmas.{earlier_none, earlier_three, earliest_both}

-- as many indices as expressions
pub counted : (ts : List Tree) → count (trees ts) ≡ length ts
counted [] = refl
counted (t ∷ ts) = ap (λ n. n + 1) (counted ts) ∙ omega arith

module _ {X : Type 0} (F : List X → List Refusal) (first : Option Refusal) (xs : List X) (i : ℕ) where
  -- the next element
  pub walk_more : (ms : List Refusal) (x : X) → i < length xs → x ≡ get_or xs i x → F (x ∷ drop (i + 1) xs) ≡ ms ++ F (drop (i + 1) xs) →
      earlier_of (earlier_of first (earliest ms)) (earliest (F (drop (i + 1) xs))) ≡ earlier_of first (earliest (F (drop i xs)))
  walk_more ms x below at head =
      earlier_three first (earliest ms) (earliest (F (drop (i + 1) xs)))
      ∙ ap (earlier_of first) (sym (earliest_both ms (F (drop (i + 1) xs))) ∙ ap earliest (sym head)
      ∙ ap (λ y. earliest (F (y ∷ drop (i + 1) xs))) at ∙ sym (ap earliest (at_drop_more F xs i x below)))

  -- the end
  pub walk_end : F [] ≡ [] → length xs ≤ i → earlier_of first (earliest (F (drop i xs))) ≡ first
  walk_end none past = ap (λ ms. earlier_of first (earliest ms)) (at_drop_all F xs i past ∙ none) ∙ earlier_none first

module _ (scope : Scope) (constant : Bool) (first : Option Refusal) where
  pub numbers_more : (xs : List Tree) (i : ℕ) (x : Tree) → i < length xs → x ≡ get_or xs i x →
      earlier_of (earlier_of first (earliest (of_number scope constant x))) (earliest (of_numbers scope constant (trees (drop (i + 1) xs))))
      ≡ earlier_of first (earliest (of_numbers scope constant (trees (drop i xs))))
  numbers_more xs i x below at = walk_more (λ ys. of_numbers scope constant (trees ys)) first xs i (of_number scope constant x) x below at refl

  pub numbers_end : (xs : List Tree) (i : ℕ) → length xs ≤ i → earlier_of first (earliest (of_numbers scope constant (trees (drop i xs)))) ≡ first
  numbers_end xs i past = walk_end (λ ys. of_numbers scope constant (trees ys)) first xs i refl past

  pub conditions_more : (xs : List Tree) (i : ℕ) (x : Tree) → i < length xs → x ≡ get_or xs i x →
      earlier_of (earlier_of first (earliest (of_condition scope constant x))) (earliest (of_conditions scope constant (trees (drop (i + 1) xs))))
      ≡ earlier_of first (earliest (of_conditions scope constant (trees (drop i xs))))
  conditions_more xs i x below at = walk_more (λ ys. of_conditions scope constant (trees ys)) first xs i (of_condition scope constant x) x below at refl

  pub conditions_end : (xs : List Tree) (i : ℕ) → length xs ≤ i → earlier_of first (earliest (of_conditions scope constant (trees (drop i xs)))) ≡ first
  conditions_end xs i past = walk_end (λ ys. of_conditions scope constant (trees ys)) first xs i refl past

  pub terms_more : (xs : List (Bool × Tree)) (i : ℕ) (x : Bool × Tree) → i < length xs → x ≡ get_or xs i x →
      earlier_of (earlier_of first (earliest (of_number scope constant x.1))) (earliest (of_terms scope constant (terms (drop (i + 1) xs))))
      ≡ earlier_of first (earliest (of_terms scope constant (terms (drop i xs))))
  terms_more xs i x below at = walk_more (λ ys. of_terms scope constant (terms ys)) first xs i (of_number scope constant x.1) x below at refl

  pub terms_end : (xs : List (Bool × Tree)) (i : ℕ) → length xs ≤ i → earlier_of first (earliest (of_terms scope constant (terms (drop i xs)))) ≡ first
  terms_end xs i past = walk_end (λ ys. of_terms scope constant (terms ys)) first xs i refl past

  pub factors_more : (xs : List (MulOp × Tree)) (i : ℕ) (x : MulOp × Tree) → i < length xs → x ≡ get_or xs i x →
      earlier_of (earlier_of first (earliest (of_number scope (constant || asks_constant x.0) x.1))) (earliest (of_factors scope constant (factors (drop (i + 1) xs))))
      ≡ earlier_of first (earliest (of_factors scope constant (factors (drop i xs))))
  factors_more xs i x below at = walk_more (λ ys. of_factors scope constant (factors ys)) first xs i (of_number scope (constant || asks_constant x.0) x.1) x below at refl

  pub factors_end : (xs : List (MulOp × Tree)) (i : ℕ) → length xs ≤ i → earlier_of first (earliest (of_factors scope constant (factors (drop i xs)))) ≡ first
  factors_end xs i past = walk_end (λ ys. of_factors scope constant (factors ys)) first xs i refl past

module _ (scope : Scope) (xs : List BinderTree) (i : ℕ) where
  pub bind_more : (x : BinderTree) → i < length xs → x ≡ get_or xs i x →
      bind (binders (drop (i + 1) xs)) (with_entity x.name (Constant 0) scope) ≡ bind (binders (drop i xs)) scope
  bind_more x below at = ap (λ y. bind (binders (drop (i + 1) xs)) (with_entity y.name (Constant 0) scope)) at ∙ sym (at_drop_more (λ ys. bind (binders ys) scope) xs i x below)

  pub bind_end : length xs ≤ i → bind (binders (drop i xs)) scope ≡ scope
  bind_end past = at_drop_all (λ ys. bind (binders ys) scope) xs i past

  pub binders_more : (first : Option Refusal) (x : BinderTree) → i < length xs → x ≡ get_or xs i x →
      earlier_of (earlier_of first (earliest (known_name (entity_of scope x.name) x.at ++ of_range scope true x.range)))
      (earliest (of_binders (with_entity x.name (Constant 0) scope) (binders (drop (i + 1) xs))))
      ≡ earlier_of first (earliest (of_binders scope (binders (drop i xs))))
  binders_more first x below at =
      let known = known_name (entity_of scope x.name) x.at in
      let range = of_range scope true x.range in
      let rest = of_binders (with_entity x.name (Constant 0) scope) (binders (drop (i + 1) xs)) in
      earlier_three first (earliest (known ++ range)) (earliest rest)
      ∙ ap (earlier_of first) (sym (earliest_both (known ++ range) rest) ∙ ap earliest (append_assoc known range rest)
      ∙ ap (λ y. earliest (of_binders scope (binders (y ∷ drop (i + 1) xs)))) at ∙ sym (ap earliest (at_drop_more (λ ys. of_binders scope (binders ys)) xs i x below)))

  pub binders_end : (first : Option Refusal) → length xs ≤ i → earlier_of first (earliest (of_binders scope (binders (drop i xs)))) ≡ first
  binders_end first past = walk_end (λ ys. of_binders scope (binders ys)) first xs i refl past

pub not_asked : (constant asks : Bool) → asks ≡ false → (constant || asks) ≡ constant
not_asked true asks h = refl
not_asked false asks h = h

-- walks over lists
pub ruleset walks = (
  or_right,
  not_asked,
  counted,
  earlier_none,
  earlier_three,
  earliest_both,
  numbers_more,
  numbers_end,
  conditions_more,
  conditions_end,
  terms_more,
  terms_end,
  factors_more,
  factors_end,
  bind_more,
  bind_end,
  binders_more,
  binders_end,
)
