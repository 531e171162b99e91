use Rattle.std.proofs.Common.{◌≡◌, ◌∙◌, rules, Some, None, option_map, sym, ap}
use Rattle.answer_run.specs.Words.{with_part, parts_of}
use Rattle.answer_run.specs.Shown.{part_shown, row_shown, text_shown}
use Rattle.answer_run.specs.Splits.{found_with}
use Rattle.answer_run.proofs.Parts.{split_is, split_none, given_more, given_twice, given_none}
use Rattle.answer_run.proofs.options.given.Goals as goal

pub returns-in_err-found : goal.returns-in_err-found
returns-in_err-found c =
    let split = c.in_ok-split.split in
    let is : parts_of (row_shown c.args.row) c.parts.seen c.parts.left.now ≡ with_part (Some (part_shown split.part)) (parts_of (row_shown c.args.row) split.seen split.later.now) =
    split_is (row_shown c.args.row) c.parts.seen c.parts.left.now c.word-item.result c.as_str.result.now split c.first_part.result c.in-len1-up.len_at_least c.word-item.is c.as_str.ensures.bytes
    c.first_part.ensures.parts c.in_ok-split.was in
    let more : found_with c.args.kind (option_map text_shown c.parts.found) (part_shown split.part) ≡ None =
    sym c.found_with.ensures ∙ ap (option_map (option_map text_shown)) c.in_err-found.was in
    let none : option_map (option_map text_shown) c.from_residual-in_err-found.result ≡ None = search rules in
    none ∙ sym (given_twice (row_shown c.args.row) c.parts.seen split.seen c.args.kind c.parts.left.now split.later.now (part_shown split.part) is (option_map text_shown c.parts.found) more) ∙ c.parts.invariant

pub parts-preserved : goal.parts-preserved
parts-preserved c =
    let split = c.in_ok-split.split in
    let is : parts_of (row_shown c.args.row) c.parts.seen c.parts.left.now ≡ with_part (Some (part_shown split.part)) (parts_of (row_shown c.args.row) split.seen split.later.now) =
    split_is (row_shown c.args.row) c.parts.seen c.parts.left.now c.word-item.result c.as_str.result.now split c.first_part.result c.in-len1-up.len_at_least c.word-item.is c.as_str.ensures.bytes
    c.first_part.ensures.parts c.in_ok-split.was in
    let more : found_with c.args.kind (option_map text_shown c.parts.found) (part_shown split.part) ≡ Some (option_map text_shown c.in_ok-found.found) =
    sym c.found_with.ensures ∙ ap (option_map (option_map text_shown)) c.in_ok-found.was in
    sym (given_more (row_shown c.args.row) c.parts.seen split.seen c.args.kind c.parts.left.now split.later.now (part_shown split.part) is (option_map text_shown c.parts.found) (option_map text_shown c.in_ok-found.found) more)
    ∙ c.parts.invariant

pub returns-in_err-split : goal.returns-in_err-split
returns-in_err-split c =
    let is : parts_of (row_shown c.args.row) c.parts.seen c.parts.left.now ≡ None =
    split_none (row_shown c.args.row) c.parts.seen c.parts.left.now c.word-item.result c.as_str.result.now c.first_part.result c.in-len1-up.len_at_least c.word-item.is c.as_str.ensures.bytes
    c.first_part.ensures.parts c.in_err-split.was in
    let none : option_map (option_map text_shown) c.from_residual.result ≡ None = search rules in
    none ∙ sym (given_none (row_shown c.args.row) c.parts.seen c.args.kind (option_map text_shown c.parts.found) c.parts.left.now is) ∙ c.parts.invariant
