-- What the parts of words are, by the first part and the words behind it.
use Rattle.std.specs.Prelude.{ℕ, List, [], ◌∷◌, Option, Some, None, if◌then◌else◌}
use Rattle.answer_run.specs.Words.{CommandRow, Part, part_in, part_of, parts_of, seen_with, with_part, same_kind}
use Rattle.answer_run.specs.Shown.{part_shown}
use Rattle.answer_run.specs.declared.options.Kind.{Kind}
use Rattle.answer_run.specs.declared.options.Split.{Split}

abbrev pub parts_behind : CommandRow → Option Split → Option (List Part)
parts_behind row None = None
parts_behind row (Some split) = with_part (Some (part_shown split.part)) (parts_of row split.seen split.later.now)

-- a value, where none was found before
abbrev pub first_of : Option (List ℕ) → List ℕ → Option (Option (List ℕ))
first_of None value = Some (Some value)
first_of (Some earlier) value = None

-- what is found of a kind with a part more
abbrev pub found_with : Kind → Option (List ℕ) → Part → Option (Option (List ℕ))
found_with kind found part = if same_kind part.kind kind then first_of found part.value else Some found

-- the parts where the first is an option that takes its value from the words behind it
abbrev pub option_first : CommandRow → ℕ → Kind → List (List ℕ) → Option (List Part)
option_first row seen kind [] = None
option_first row seen kind (next ∷ later) = with_part (part_of kind next) (parts_of row seen later)

-- the parts where the first is one word
abbrev pub word_first : CommandRow → ℕ → List ℕ → List (List ℕ) → Option (List Part)
word_first row seen word later = with_part (part_in row seen word) (parts_of row (seen_with seen word) later)
