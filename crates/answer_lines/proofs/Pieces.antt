-- The text of a list, item by item, and of the answer.
use Rattle.std.proofs.Common.{◌≡◌, ◌++◌, ◌∙◌, arith, ℕ, suc, ℤ, List, [], ◌∷◌, length, Bool, true, false, nat_lt, append_assoc, refl, sym, ap, codes}
use Rattle.std.proofs.lemmas.Bool.{lt-ltb}
use Rattle.std.proofs.lemmas.List.{append-nil}
use Rattle.json.specs.Print.{escape_byte}
use Rattle.serde_json.specs.Data.{Data}
use Rattle.serde_json.specs.View.{items_of}
use Rattle.serde_json.specs.Written.{comma_if, compact_text, items_text}
use Rattle.policy_json.specs.Entries.{list_of}
use Rattle.answer_lines.specs.Answer.{digits, tree_object}
use Rattle.answer_lines.specs.Shown.{pieces}

-- the text of items up to their bracket
pub pieces_end : (later : Bool) (ds : List Data) → items_text later (items_of ds) ≡ pieces later ds ++ 93 ∷ []
pieces_end later [] = refl
pieces_end later (d ∷ ds) =
    ap (λ l. comma_if later ++ (compact_text d ++ l)) (pieces_end true ds)
    ∙ (ap (λ l. comma_if later ++ l) (sym (append_assoc (compact_text d) (pieces true ds) (93 ∷ [])))
    ∙ sym (append_assoc (comma_if later) (compact_text d ++ pieces true ds) (93 ∷ [])))

-- one item more, behind others
behind : (ds : List Data) (d : Data) → pieces true (ds ++ d ∷ []) ≡ pieces true ds ++ (44 ∷ compact_text d)
behind [] d = ap (λ l. 44 ∷ l) (append-nil (compact_text d))
behind (e ∷ ds) d =
    ap (λ l. 44 ∷ (compact_text e ++ l)) (behind ds d)
    ∙ ap (λ l. 44 ∷ l) (sym (append_assoc (compact_text e) (pieces true ds) (44 ∷ compact_text d)))

-- one item more
pub pieces_more : (ds : List Data) (d : Data) → pieces false (ds ++ d ∷ []) ≡ pieces false ds ++ (comma_if (nat_lt 0 (length ds)) ++ compact_text d)
pieces_more [] d = append-nil (compact_text d)
pieces_more (e ∷ ds) d =
    ap (λ l. compact_text e ++ l) (behind ds d)
    ∙ (sym (append_assoc (compact_text e) (pieces true ds) (44 ∷ compact_text d))
    ∙ ap (λ b. pieces false (e ∷ ds) ++ (comma_if b ++ compact_text d)) (sym (lt-ltb 0 (suc (length ds)) (omega arith))))

-- the text of the answer, by its members
pub answer_text : (weight : ℤ) (counts listed : List Data) →
    compact_text (tree_object weight counts listed)
    ≡ (codes "{\"answer\":\"tree\",\"den\":" ++ (compact_text (digits weight) ++ (codes ",\"histories\":" ++ (compact_text (list_of counts) ++ codes ",\"scenarios\":["))))
    ++ (pieces false listed ++ codes "]}")
unfolding escape_byte
answer_text weight counts listed =
    members
    ∙ sym (append_assoc prefix (compact_text (digits weight) ++ (between ++ (compact_text (list_of counts) ++ before))) rest
    ∙ ap (λ l. prefix ++ l) (append_assoc (compact_text (digits weight)) (between ++ (compact_text (list_of counts) ++ before)) rest
    ∙ ap (λ l. compact_text (digits weight) ++ l) (append_assoc between (compact_text (list_of counts) ++ before) rest
    ∙ ap (λ l. between ++ l) (append_assoc (compact_text (list_of counts)) before rest))))
  where
    prefix : List ℕ
    prefix = codes "{\"answer\":\"tree\",\"den\":"

    between : List ℕ
    between = codes ",\"histories\":"

    before : List ℕ
    before = codes ",\"scenarios\":["

    rest : List ℕ
    rest = pieces false listed ++ codes "]}"

    ended : items_text false (items_of listed) ++ 125 ∷ [] ≡ rest
    ended = ap (λ l. l ++ 125 ∷ []) (pieces_end false listed) ∙ append_assoc (pieces false listed) (93 ∷ []) (125 ∷ [])

    members : compact_text (tree_object weight counts listed) ≡ prefix ++ (compact_text (digits weight) ++ (between ++ (compact_text (list_of counts) ++ (before ++ rest))))
    members = ap (λ l. prefix ++ (compact_text (digits weight) ++ (between ++ (compact_text (list_of counts) ++ (before ++ l))))) ended
