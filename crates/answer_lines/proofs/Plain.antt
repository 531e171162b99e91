-- No float stands in the answer.
use Rattle.std.proofs.Common.{◌≡◌, ◌+◌, ℕ, pos, List, [], ◌∷◌, false, refl}
use Rattle.std.proofs.lemmas.Bool.{or_from}
use Rattle.serde_json.specs.View.{items_of}
use Rattle.serde_json.specs.Written.{has_float, items_have_float}
use Rattle.sopl_ast.specs.Instances.{Stochastic}
use Rattle.std.specs.List.{range_with_len}
use Rattle.sopl_scen.specs.Layout.{Layout, histories_in, value_in}
use Rattle.policy_json.proofs.EntryPlain.{entry_plain, map_plain, number_plain}
use Rattle.policy_json.specs.Entries.{list_of}
use Rattle.answer_lines.specs.Shown.{count_shown, counts_shown, entries_from, shown}

pub counts_plain : (tree : Layout) (last : ℕ) → has_float (list_of (counts_shown tree last)) ≡ false
counts_plain tree last = map_plain (count_shown tree) (λ stage. number_plain (pos (histories_in tree stage))) (range_with_len 1 last)

entries_plain : (tree : Layout) (scenario j : ℕ) (ss : List Stochastic) → items_have_float (items_of (entries_from tree scenario j ss)) ≡ false
entries_plain tree scenario j [] = refl
entries_plain tree scenario j (s ∷ ss) = or_from _ _ (entry_plain s.name s.index (value_in tree j scenario)) (entries_plain tree scenario (j + 1) ss)

pub shown_plain : (ss : List Stochastic) (tree : Layout) (scenario : ℕ) → has_float (shown ss tree scenario) ≡ false
shown_plain ss tree scenario = or_from _ _ (entries_plain tree scenario 0 ss) refl
