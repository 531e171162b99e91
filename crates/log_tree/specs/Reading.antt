-- What a line is read as, if it is a line at all: whether it is one, comparing it with the line of what was read tells.
use Rattle.std.specs.Prelude.{ℕ, ℤ, ◌^◌, ◌==◌, List, Option, Some, None, option_map, if◌then◌else◌}
use Rattle.std.specs.Option.{option_and_then}
use Rattle.sopl_base.specs.declared.reason.Side.{Side}
use Rattle.sopl_base.specs.declared.reason.Side.TheVariants.{Le, Ge}
use Rattle.sopl_base.specs.declared.reason.Reason.{Reason}
use Rattle.sopl_base.specs.declared.reason.Reason.TheVariants.{Hard, Chance, Undefined, Bound}
use Rattle.sopl_base.specs.declared.reason.Step.{Step}
use Rattle.log_rows.specs.declared.rows.Parent.{Parent}
use Rattle.log_rows.specs.declared.rows.Cut.{Cut}
use Rattle.log_rows.specs.declared.rows.EndLine.{EndLine}
use Rattle.log_rows.specs.declared.rows.EndLine.TheVariants.{Refuted, Split, Point, Unfinished}
use Rattle.log_rows.specs.declared.rows.Footer.{Footer}
use Rattle.log_rows.specs.declared.rows.Footer.TheVariants.{Optimal, Infeasible, Bounded}
use Rattle.log_tree.specs.declared.reading.Heading.{Heading}
use Rattle.log_tree.specs.Words.{word_of, rest_of, letter_of}
use Rattle.log_tree.specs.Numbers.{below, size_in_word, wide_in_word, signed_in_word}

-- the first word as a number
abbrev pub small_at : List ℕ → Option ℕ
small_at text = option_and_then (below (2 ^ 32)) (size_in_word (word_of text))

abbrev pub node_number_at : List ℕ → Option ℕ
node_number_at text = option_and_then (below (2 ^ 64)) (size_in_word (word_of text))

-- a reason at the front of a text, and what stands behind it
abbrev pub hard_at : List ℕ → Option Reason
hard_at text = option_and_then (λ instance. option_map (λ scenario. Hard instance scenario) (small_at (rest_of text))) (small_at text)

abbrev pub reason_by : ℕ → List ℕ → Option Reason
reason_by letter text =
    if letter == 104 then hard_at text
    else if letter == 99 then option_map (λ instance. Chance instance) (small_at text)
    else if letter == 117 then option_map (λ scenario. Undefined scenario) (small_at text)
    else Some Bound

abbrev pub behind_by : ℕ → List ℕ → List ℕ
behind_by letter text =
    if letter == 104 then rest_of (rest_of text)
    else if letter == 99 then rest_of text
    else if letter == 117 then rest_of text
    else text

abbrev pub reason_at : List ℕ → Option Reason
reason_at text = reason_by (letter_of text) (rest_of text)

abbrev pub behind_reason : List ℕ → List ℕ
behind_reason text = behind_by (letter_of text) (rest_of text)

-- a side by the first letter of its word
abbrev pub side_by : ℕ → Side
side_by letter = if letter == 108 then Le else Ge

-- a step
abbrev pub step_from : Reason → List ℕ → Option Step
step_from reason text =
    option_and_then (λ cell. option_map (λ k. (record { reason = reason; cell = cell; side = side_by (letter_of (rest_of text)); k = k })) (signed_in_word (word_of (rest_of (rest_of text))))) (small_at text)

abbrev pub step_read : List ℕ → Option Step
step_read line = option_and_then (λ reason. step_from reason (behind_reason (rest_of line))) (reason_at (rest_of line))

-- an end, by the first letter of its line and what stands behind the first word
abbrev pub cut_from : List ℕ → Option Cut
cut_from text = option_and_then (λ cell. option_map (λ k. (record { cell = cell; k = k })) (signed_in_word (word_of (rest_of text)))) (small_at text)

abbrev pub end_by : ℕ → List ℕ → Option EndLine
end_by letter text =
    if letter == 102 then option_map (λ reason. Refuted reason) (reason_at text)
    else if letter == 120 then option_map (λ cut. Split cut) (cut_from text)
    else if letter == 118 then Some Point
    else if letter == 111 then Some Unfinished
    else None

abbrev pub end_read : List ℕ → Option EndLine
end_read line = end_by (letter_of line) (rest_of line)

-- a node: its number, and the split that it is a part of
abbrev pub parent_from : List ℕ → Option Parent
parent_from text = option_map (λ node. (record { node = node; side = side_by (letter_of (rest_of text)) })) (node_number_at text)

abbrev pub heading_from : ℕ → List ℕ → Option Heading
heading_from number text =
    if letter_of text == 114 then Some (record { number = number; parent = None })
    else option_map (λ parent. (record { number = number; parent = Some parent })) (parent_from text)

abbrev pub heading_read : List ℕ → Option Heading
heading_read line = option_and_then (λ number. heading_from number (rest_of (rest_of line))) (node_number_at (rest_of line))

-- what a log claims
abbrev pub value_at : List ℕ → Option ℤ
value_at text = wide_in_word (word_of text)

abbrev pub found_value_at : List ℕ → Option (Option ℤ)
found_value_at text = if letter_of text == 110 then Some None else option_map (λ value. Some value) (value_at text)

abbrev pub bounded_from : List ℕ → Option Footer
bounded_from text = option_and_then (λ found. option_map (λ bound. Bounded found bound) (value_at (rest_of text))) (found_value_at text)

abbrev pub footer_by : ℕ → List ℕ → Option Footer
footer_by letter text =
    if letter == 111 then option_map (λ value. Optimal value) (value_at text)
    else if letter == 105 then Some Infeasible
    else bounded_from text

abbrev pub footer_read : List ℕ → Option Footer
footer_read line = footer_by (letter_of (rest_of line)) (rest_of (rest_of line))
