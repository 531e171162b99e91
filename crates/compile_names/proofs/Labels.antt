-- The names of variables, one by one.
use Rattle.std.proofs.Common.{◌≡◌, sym, ap, ◌∙◌, ℕ, ◌+◌, ◌<◌, ◌≤◌, List, [], ◌∷◌, ◌++◌, length, map, get_or, drop, subst, Result, IfOk, Bor}
use Rattle.std.proofs.lemmas.List.{at_drop_more, at_drop_all, append_assoc, append-nil, map-append}
use Rattle.sopl_ast.specs.Instances.{Decision, Stochastic}
use Rattle.sopl_ast.specs.References.{now_of}
use Rattle.compile_names.specs.declared.names.Names.{Names}
use Rattle.compile_names.specs.Grouped.{IsGrouped}
use Rattle.compile_names.specs.Variables.{decided_name, drawn_name}

module _ {A : Type 0} (label : A → List ℕ) (xs : List A) (k : ℕ) where
  label_more : (x : A) (old new : List (Bor (List ℕ))) (pushed : Bor (List ℕ)) → k < length xs → x ≡ get_or xs k x → pushed.now ≡ label x → new ≡ old ++ pushed ∷ []
      → map now_of new ++ map label (drop (k + 1) xs) ≡ map now_of old ++ map label (drop k xs)
  label_more x old new pushed below at shows is =
      ap (λ l. map now_of l ++ map label (drop (k + 1) xs)) is
      ∙ ap (λ l. l ++ map label (drop (k + 1) xs)) (map-append now_of old (pushed ∷ []))
      ∙ append_assoc (map now_of old) (pushed.now ∷ []) (map label (drop (k + 1) xs))
      ∙ ap (λ y. map now_of old ++ y ∷ map label (drop (k + 1) xs)) shows
      ∙ ap (λ rest. map now_of old ++ rest) (ap (λ y. map label (y ∷ drop (k + 1) xs)) at ∙ sym (at_drop_more (λ rest. map label rest) xs k x below))

  labels_end : (names : List (Bor (List ℕ))) → length xs ≤ k → map now_of names ++ map label (drop k xs) ≡ map now_of names
  labels_end names past = ap (λ rest. map now_of names ++ rest) (at_drop_all (λ rest. map label rest) xs k past) ∙ append-nil (map now_of names)

pub drawn_label : (ss : List Stochastic) (k : ℕ) (x : Stochastic) (old new : List (Bor (List ℕ))) (pushed : Bor (List ℕ)) → k < length ss → x ≡ get_or ss k x → pushed.now ≡ x.name
    → new ≡ old ++ pushed ∷ [] → map now_of new ++ map drawn_name (drop (k + 1) ss) ≡ map now_of old ++ map drawn_name (drop k ss)
drawn_label = label_more drawn_name

pub drawn_labels : (ss : List Stochastic) (k : ℕ) (names : List (Bor (List ℕ))) → length ss ≤ k → map now_of names ++ map drawn_name (drop k ss) ≡ map now_of names
drawn_labels = labels_end drawn_name

pub decided_label : (ds : List Decision) (k : ℕ) (x : Decision) (old new : List (Bor (List ℕ))) (pushed : Bor (List ℕ)) → k < length ds → x ≡ get_or ds k x → pushed.now ≡ x.name
    → new ≡ old ++ pushed ∷ [] → map now_of new ++ map decided_name (drop (k + 1) ds) ≡ map now_of old ++ map decided_name (drop k ds)
decided_label = label_more decided_name

pub decided_labels : (ds : List Decision) (k : ℕ) (names : List (Bor (List ℕ))) → length ds ≤ k → map now_of names ++ map decided_name (drop k ds) ≡ map now_of names
decided_labels = labels_end decided_name

-- names are grouped as equal names are
pub grouped_either : {E : Type 0} (result : Result Names E) (names others : List (List ℕ)) → names ≡ others → IfOk result (λ grouped. IsGrouped grouped names)
    → IfOk result (λ grouped. IsGrouped grouped others)
grouped_either result names others same grouped = subst (λ l. IfOk result (λ g. IsGrouped g l)) same grouped
