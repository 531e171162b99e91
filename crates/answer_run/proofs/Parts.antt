-- The value of a kind that was found so far, and what is found of the words that are left.
use Rattle.std.proofs.Common.{◌≡◌, ◌∙◌, ℕ, suc, List, [], ◌∷◌, ◌++◌, Bool, true, false, map, filter, length, get_or, take, drop, ◌-◌, ◌≤◌, Option, Some, None, refl, sym, ap, arith, if◌then◌else◌}
use Rattle.std.proofs.lemmas.Bool.{eq-eqb, ne_eqb}
use Rattle.std.proofs.lemmas.List.{take_all}
use Rattle.std.specs.Option.{option_and_then, option_map_or}
use Rattle.answer_run.specs.declared.options.Kind.{Kind}
use Rattle.answer_run.specs.Words.{CommandRow, Part, option_named, part_in, part_of, with_part, parts_of, seen_with, same_kind, values_of, single}
use Rattle.answer_run.specs.Shown.{part_shown}
use Rattle.answer_run.specs.Splits.{first_of, found_with, parts_behind, option_first, word_first}
use Rattle.answer_run.specs.declared.options.Split.{Split}

abbrev pub list_of : Option (List ℕ) → List (List ℕ)
list_of None = []
list_of (Some value) = value ∷ []

abbrev pub given_behind : CommandRow → ℕ → Kind → Option (List ℕ) → List (List ℕ) → Option (Option (List ℕ))
given_behind row seen kind found words = option_and_then (λ parts. single (list_of found ++ values_of kind parts)) (parts_of row seen words)

-- at the end, where there are as many positional words as the row has, and where there are not
abbrev ends_with : Kind → Option (List ℕ) → Bool → Option (Option (List ℕ))
ends_with kind found b = option_and_then (λ parts. single (list_of found ++ values_of kind parts)) (if b then Some [] else None)

all_found : (kind : Kind) (found : Option (List ℕ)) → ends_with kind found true ≡ Some found
all_found kind None = refl
all_found kind (Some value) = refl

pub given_end : (row : CommandRow) (seen : ℕ) (kind : Kind) (found : Option (List ℕ)) → seen ≡ row.positional → given_behind row seen kind found [] ≡ Some found
given_end row seen kind found is = ap (ends_with kind found) (eq-eqb seen row.positional is) ∙ all_found kind found

pub given_few : (row : CommandRow) (seen : ℕ) (kind : Kind) (found : Option (List ℕ)) → ¬ (seen ≡ row.positional) → given_behind row seen kind found [] ≡ None
given_few row seen kind found is = ap (ends_with kind found) (ne_eqb seen row.positional is)

-- with the first part of words
module _ (row : CommandRow) (seen after : ℕ) (kind : Kind) (words later : List (List ℕ)) (part : Part) (is : parts_of row seen words ≡ with_part (Some part) (parts_of row after later)) where
  abbrev shown : Option (List ℕ) → Bool → List Part → Option (Option (List ℕ))
  shown found b parts =
      single (list_of found ++ map (λ (p : Part). p.value) (if b then part ∷ filter (λ (p : Part). same_kind p.kind kind) parts else filter (λ (p : Part). same_kind p.kind kind) parts))

  by_rest : (found : Option (List ℕ)) (b : Bool) (rest : Option (List Part)) → same_kind part.kind kind ≡ b
      → option_and_then (λ parts. single (list_of found ++ values_of kind parts)) (with_part (Some part) rest)
      ≡ option_and_then (λ f. option_and_then (λ parts. single (list_of f ++ values_of kind parts)) rest) (if b then first_of found part.value else Some found)
  by_rest None true None same = refl
  by_rest None false None same = refl
  by_rest (Some value) true None same = refl
  by_rest (Some value) false None same = refl
  by_rest None true (Some parts) same = ap (λ b. shown None b parts) same
  by_rest None false (Some parts) same = ap (λ b. shown None b parts) same
  by_rest (Some value) true (Some parts) same = ap (λ b. shown (Some value) b parts) same
  by_rest (Some value) false (Some parts) same = ap (λ b. shown (Some value) b parts) same

  given_step : (found : Option (List ℕ)) → given_behind row seen kind found words ≡ option_and_then (λ f. given_behind row after kind f later) (found_with kind found part)
  given_step found =
      ap (λ o. option_and_then (λ parts. single (list_of found ++ values_of kind parts)) o) is ∙ by_rest found (same_kind part.kind kind) (parts_of row after later) refl

  pub given_more : (found next : Option (List ℕ)) → found_with kind found part ≡ Some next → given_behind row seen kind found words ≡ given_behind row after kind next later
  given_more found next more = given_step found ∙ ap (λ o. option_and_then (λ f. given_behind row after kind f later) o) more

  pub given_twice : (found : Option (List ℕ)) → found_with kind found part ≡ None → given_behind row seen kind found words ≡ None
  given_twice found more = given_step found ∙ ap (λ o. option_and_then (λ f. given_behind row after kind f later) o) more

-- words that are no parts
pub given_none : (row : CommandRow) (seen : ℕ) (kind : Kind) (found : Option (List ℕ)) (words : List (List ℕ)) → parts_of row seen words ≡ None → given_behind row seen kind found words ≡ None
given_none row seen kind found words none = ap (λ o. option_and_then (λ parts. single (list_of found ++ values_of kind parts)) o) none

-- the first of some words, and those behind it
first_word : (words : List (List ℕ)) (word : List ℕ) → 1 ≤ length words → word ≡ get_or words 0 word → words ≡ word ∷ take (length words - 1) (drop 1 words)
first_word [] word some is = absurd (omega arith)
first_word (w ∷ words) word some is =
    ap (λ x. x ∷ words) (sym is) ∙ ap (λ xs. word ∷ xs) (sym (take_all (suc (length words) - 1) words (omega arith)))

pub split_is : (row : CommandRow) (seen : ℕ) (words : List (List ℕ)) (item word : List ℕ) (split : Split) (o : Option Split) → 1 ≤ length words → item ≡ get_or words 0 item → word ≡ item
    → parts_of row seen (word ∷ take (length words - 1) (drop 1 words)) ≡ parts_behind row o → o ≡ Some split
    → parts_of row seen words ≡ with_part (Some (part_shown split.part)) (parts_of row split.seen split.later.now)
split_is row seen words item word split o some is same parts there =
    ap (parts_of row seen) (first_word words item some is) ∙ ap (λ w. parts_of row seen (w ∷ take (length words - 1) (drop 1 words))) (sym same) ∙ parts ∙ ap (parts_behind row) there

pub split_none : (row : CommandRow) (seen : ℕ) (words : List (List ℕ)) (item word : List ℕ) (o : Option Split) → 1 ≤ length words → item ≡ get_or words 0 item → word ≡ item
    → parts_of row seen (word ∷ take (length words - 1) (drop 1 words)) ≡ parts_behind row o → o ≡ None → parts_of row seen words ≡ None
split_none row seen words item word o some is same parts there =
    ap (parts_of row seen) (first_word words item some is) ∙ ap (λ w. parts_of row seen (w ∷ take (length words - 1) (drop 1 words))) (sym same) ∙ parts ∙ ap (parts_behind row) there

-- the parts of a word and those behind it
pub at_option : (row : CommandRow) (seen : ℕ) (word : List ℕ) (later : List (List ℕ)) (kind : Kind) → Some kind ≡ option_named row word
    → parts_of row seen (word ∷ later) ≡ option_first row seen kind later
at_option row seen word [] kind is = ap (λ o. option_map_or (λ kind. None) o (with_part (part_in row seen word) (parts_of row (seen_with seen word) []))) (sym is)
at_option row seen word (next ∷ later) kind is =
    ap (λ o. option_map_or (λ kind. with_part (part_of kind next) (parts_of row seen later)) o (word_first row seen word (next ∷ later))) (sym is)

pub at_word : (row : CommandRow) (seen : ℕ) (word : List ℕ) (later : List (List ℕ)) → None ≡ option_named row word
    → parts_of row seen (word ∷ later) ≡ word_first row seen word later
at_word row seen word [] is = ap (λ o. option_map_or (λ kind. None) o (word_first row seen word [])) (sym is)
at_word row seen word (next ∷ later) is =
    ap (λ o. option_map_or (λ kind. with_part (part_of kind next) (parts_of row seen later)) o (word_first row seen word (next ∷ later))) (sym is)
