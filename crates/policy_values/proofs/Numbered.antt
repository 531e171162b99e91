-- Variables are entered one after the other.
use Rattle.std.proofs.Common.{◌≡◌, refl, sym, ap, ◌∙◌, ℕ, ◌+◌, ◌<◌, ◌≤◌, ℤ, pos, List, [], ◌∷◌, ◌++◌, length, get_or, drop, map}
use Rattle.std.proofs.lemmas.List.{append_assoc, append-nil, at_drop_more, at_drop_all}
use Rattle.sopl_ast.specs.Instances.{Decision, Stochastic}
use Rattle.sopl_ast.specs.Known.{Constant}
use Rattle.unfold_tables.specs.Tables.{named}
use Rattle.policy_values.specs.Labels.{Label, decided_label, drawn_label, numbered_from}

named_more : (name : List ℕ) (es : List (List ℤ × ℤ)) (e : List ℤ × ℤ) → named name (es ++ e ∷ []) ≡ named name es ++ (record { name = name; index = e.0; value = e.1 }) ∷ []
named_more name [] e = refl
named_more name (x ∷ es) e = ap (λ rest. (record { name = name; index = x.0; value = x.1 }) ∷ rest) (named_more name es e)

-- one element more under a name, behind others
pub pushed : (before : List Constant) (name : List ℕ) (es after : List (List ℤ × ℤ)) (index : List ℤ) (value : ℤ) → after ≡ es ++ (index, value) ∷ []
    → before ++ named name after ≡ (before ++ named name es) ++ (record { name = name; index = index; value = value }) ∷ []
pushed before name es after index value is =
    ap (λ all. before ++ named name all) is ∙ ap (λ all. before ++ all) (named_more name es (index, value)) ∙ sym (append_assoc before (named name es) _)

-- Variables in a loop.
abbrev pub left_behind : {A : Type 0} → (A → Label) → List Constant → ℕ → List A → List Constant
left_behind label before i xs = before ++ numbered_from i (map label (drop i xs))

more : {A : Type 0} (label : A → Label) (xs : List A) (i : ℕ) (x : A) (before after : List Constant) → i < length xs → x ≡ get_or xs i x
    → after ≡ before ++ (record { name = (label x).0; index = (label x).1; value = pos i }) ∷ [] → left_behind label after (i + 1) xs ≡ left_behind label before i xs
more label xs i x before after below at is =
    ap (λ all. all ++ numbered_from (i + 1) (map label (drop (i + 1) xs))) is
    ∙ append_assoc before ((record { name = (label x).0; index = (label x).1; value = pos i }) ∷ []) (numbered_from (i + 1) (map label (drop (i + 1) xs)))
    ∙ ap (λ y. before ++ numbered_from i (map label (y ∷ drop (i + 1) xs))) at
    ∙ sym (at_drop_more (λ rest. before ++ numbered_from i (map label rest)) xs i x below)

end : {A : Type 0} (label : A → Label) (xs : List A) (i : ℕ) (before : List Constant) → length xs ≤ i → left_behind label before i xs ≡ before
end label xs i before past = at_drop_all (λ rest. before ++ numbered_from i (map label rest)) xs i past ∙ append-nil before

pub drawn_more : (xs : List Stochastic) (i : ℕ) (x : Stochastic) (before after : List Constant) → i < length xs → x ≡ get_or xs i x
    → after ≡ before ++ (record { name = x.name; index = x.index; value = pos i }) ∷ [] → left_behind drawn_label after (i + 1) xs ≡ left_behind drawn_label before i xs
drawn_more xs i x before after below at is = more drawn_label xs i x before after below at is

pub drawn_end : (xs : List Stochastic) (i : ℕ) (before : List Constant) → length xs ≤ i → left_behind drawn_label before i xs ≡ before
drawn_end xs i before past = end drawn_label xs i before past

pub decided_more : (xs : List Decision) (i : ℕ) (x : Decision) (before after : List Constant) → i < length xs → x ≡ get_or xs i x
    → after ≡ before ++ (record { name = x.name; index = x.index; value = pos i }) ∷ [] → left_behind decided_label after (i + 1) xs ≡ left_behind decided_label before i xs
decided_more xs i x before after below at is = more decided_label xs i x before after below at is

pub decided_end : (xs : List Decision) (i : ℕ) (before : List Constant) → length xs ≤ i → left_behind decided_label before i xs ≡ before
decided_end xs i before past = end decided_label xs i before past
