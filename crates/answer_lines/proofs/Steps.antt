-- The steps of the loops that print a tree.
use Rattle.std.proofs.Common.{◌≡◌, ◌∙◌, ◌++◌, ◌+◌, ◌<◌, ℕ, zero, suc, List, [], ◌∷◌, length, map, drop, get_or, true, false, Result, Ok, Err, IfOk, String, codes, nat_lt}
use Rattle.std.proofs.Common.{append_assoc, arith, refl, sym, ap, string_bytes}
use Rattle.std.proofs.lemmas.Bool.{and_parts}
use Rattle.std.proofs.lemmas.List.{at_drop_more, append-nil, length-map}
use Rattle.std.proofs.lemmas.List.FromFn.{length-range_with_len, map-range_with_len_more}
use Rattle.std.specs.List.{list_all, range_with_len}
use Rattle.std.specs.declared.alloc.AllocError.{AllocError}
use Rattle.std.specs.declared.alloc.Global.{Global}
use Rattle.serde_json.specs.Data.{Data}
use Rattle.serde_json.specs.Written.{comma_if, compact_text}
use Rattle.sopl_ast.specs.Instances.{Decision, Stochastic}
use Rattle.sopl_ast.specs.Pieces.{is_word}
use Rattle.sopl_scen.specs.Layout.{IsTreeOf, Layout, count_in, value_in}
use Rattle.policy_json.specs.Entries.{entry_of, list_of}
use Rattle.policy_json.specs.LastStage.{last_stage}
use Rattle.answer_lines.specs.Answer.{digits, tree_data}
use Rattle.answer_lines.specs.Shown.{all_shown, counts_shown, entries_from, prefix_of, pieces, shown}
use Rattle.answer_lines.proofs.Pieces.{answer_text, pieces_more}
use Rattle.answer_lines.proofs.Shows.{tree_shown}

-- the name of a stochastic variable has the form of a name
pub word_at : (ss : List Stochastic) (i : ℕ) (s : Stochastic) → i < length ss → s ≡ get_or ss i s → list_all is_word (map (λ (s : Stochastic). s.name) ss) ≡ true → is_word s.name ≡ true
word_at [] i s within is h = absurd (omega arith)
word_at (t ∷ ss) zero s within is h = ap (λ (s : Stochastic). is_word s.name) is ∙ (and_parts _ _ h).0
word_at (t ∷ ss) (suc i) s within is h = word_at ss i s (omega arith) is (and_parts _ _ h).1

-- one more entry
pub entry_step : (tree : Layout) (scenario : ℕ) (ss : List Stochastic) (i : ℕ) (s : Stochastic) (made whole : List Data) (entry : Data) → i < length ss → s ≡ get_or ss i s
    → entry ≡ entry_of s.name s.index (value_in tree i scenario) → made ++ entries_from tree scenario i (drop i ss) ≡ whole
    → (made ++ entry ∷ []) ++ entries_from tree scenario (i + 1) (drop (i + 1) ss) ≡ whole
entry_step tree scenario ss i s made whole entry within is shows so_far =
    append_assoc made (entry ∷ []) (entries_from tree scenario (i + 1) (drop (i + 1) ss))
    ∙ (ap (λ e. made ++ e ∷ entries_from tree scenario (i + 1) (drop (i + 1) ss)) (shows ∙ ap (λ (s : Stochastic). entry_of s.name s.index (value_in tree i scenario)) is)
    ∙ (ap (λ l. made ++ l) (sym (at_drop_more (entries_from tree scenario i) ss i s within)) ∙ so_far))

-- the text before the scenarios
pub prefix_made : (tree : Layout) (last : ℕ) (weight counts : List ℕ) (result : Result (String Global) AllocError) → weight ≡ compact_text (digits tree.total)
    → counts ≡ compact_text (list_of (counts_shown tree last))
    → IfOk result (λ text. string_bytes text ≡ codes "{\"answer\":\"tree\",\"den\":" ++ (weight ++ (codes ",\"histories\":" ++ (counts ++ codes ",\"scenarios\":["))))
    → IfOk result (λ text. string_bytes text ≡ prefix_of tree last)
prefix_made tree last weight counts (Ok text) weighs counted is =
    is ∙ (λ i. codes "{\"answer\":\"tree\",\"den\":" ++ (weighs i ++ (codes ",\"histories\":" ++ (counted i ++ codes ",\"scenarios\":["))))
prefix_made tree last weight counts (Err error) weighs counted is = tt

-- no scenario yet
pub text_start : (ss : List Stochastic) (tree : Layout) (last other : ℕ) (text : List ℕ) → other ≡ last → text ≡ prefix_of tree other → text ≡ prefix_of tree last ++ pieces false (all_shown ss tree 0)
text_start ss tree last other text same is = is ∙ (ap (prefix_of tree) same ∙ sym (append-nil (prefix_of tree last)))

-- one scenario more
pub text_step : (ss : List Stochastic) (tree : Layout) (prefix old new : List ℕ) (i : ℕ) → old ≡ prefix ++ pieces false (all_shown ss tree i)
    → new ≡ old ++ (comma_if (nat_lt 0 i) ++ compact_text (shown ss tree i)) → new ≡ prefix ++ pieces false (all_shown ss tree (i + 1))
text_step ss tree prefix old new i so_far is =
    is
    ∙ (ap (λ l. l ++ piece) so_far
    ∙ (append_assoc prefix (pieces false (all_shown ss tree i)) piece
    ∙ ap (λ l. prefix ++ l) (sym more)))
  where
    piece : List ℕ
    piece = comma_if (nat_lt 0 i) ++ compact_text (shown ss tree i)

    size : length (all_shown ss tree i) ≡ i
    size = length-map (range_with_len 0 i) (shown ss tree) ∙ length-range_with_len 0 i

    more : pieces false (all_shown ss tree (i + 1)) ≡ pieces false (all_shown ss tree i) ++ piece
    more =
        ap (pieces false) (map-range_with_len_more (shown ss tree) 0 i i (omega arith))
        ∙ (pieces_more (all_shown ss tree i) (shown ss tree i)
        ∙ ap (λ n. pieces false (all_shown ss tree i) ++ (comma_if (nat_lt 0 n) ++ compact_text (shown ss tree i))) size)

-- all of them, and the end
pub text_whole : (ds : List Decision) (ss : List Stochastic) (tree : Layout) → IsTreeOf ds ss tree → last_stage ds < 25 → (old new : List ℕ) (n : ℕ) → n ≡ count_in tree
    → old ≡ prefix_of tree (last_stage ds) ++ pieces false (all_shown ss tree n) → new ≡ old ++ codes "]}" → new ≡ compact_text (tree_data ds ss)
text_whole ds ss tree is few old new n all so_far ended =
    ended
    ∙ (ap (λ l. l ++ codes "]}") so_far
    ∙ (append_assoc (prefix_of tree (last_stage ds)) (pieces false (all_shown ss tree n)) (codes "]}")
    ∙ (ap (λ m. prefix_of tree (last_stage ds) ++ (pieces false (all_shown ss tree m) ++ codes "]}")) all
    ∙ (sym (answer_text tree.total (counts_shown tree (last_stage ds)) (all_shown ss tree (count_in tree)))
    ∙ ap compact_text (tree_shown ds ss tree is (last_stage ds) refl (omega (arith, few)))))))
