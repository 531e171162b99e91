-- The words of a line, byte by byte.
use Rattle.std.proofs.Common.{◌≡◌, ◌∙◌, ◌<◌, ◌≤◌, ◌+◌, ℕ, List, [], ◌∷◌, ◌++◌, length, drop, take, get_or, ◌==◌, if◌then◌else◌, sym, ap, ap₂, arith}
use Rattle.std.proofs.lemmas.List.{at_drop_more, at_drop_all, take_more, take_all, append-nil}
use mathlib.Core.List.{append_assoc}
use Rattle.log_tree.specs.Words.{word_of, rest_of}

-- at a place where a space stands
pub rest_at : (text : List ℕ) (i : ℕ) → i < length text → get_or text i 0 ≡ 32 → rest_of (drop i text) ≡ drop (i + 1) text
rest_at text i below is = at_drop_more rest_of text i 0 below ∙ ap (λ b. if b == 32 then drop (i + 1) text else rest_of (drop (i + 1) text)) is

pub rest_past : (text : List ℕ) (i : ℕ) → i < length text → ¬ (get_or text i 0 ≡ 32) → rest_of (drop i text) ≡ rest_of (drop (i + 1) text)
rest_past text i below isnt = at_drop_more rest_of text i 0 below ∙ passed (get_or text i 0) isnt
  where
    passed : (b : ℕ) → ¬ (b ≡ 32) → (if b == 32 then drop (i + 1) text else rest_of (drop (i + 1) text)) ≡ rest_of (drop (i + 1) text)
    passed b isnt = grind (arith)

pub rest_more : (text : List ℕ) (i : ℕ) → i < length text → ¬ (get_or text i 0 ≡ 32) → rest_of (drop i text) ≡ rest_of text → rest_of (drop (i + 1) text) ≡ rest_of text
rest_more text i below isnt so = sym (rest_past text i below isnt) ∙ so

pub rest_ends : (text : List ℕ) (i : ℕ) → i < length text → get_or text i 0 ≡ 32 → rest_of (drop i text) ≡ rest_of text → drop (i + 1) text ≡ rest_of text
rest_ends text i below is so = sym (rest_at text i below is) ∙ so

pub rest_all : (text : List ℕ) (i : ℕ) → length text ≤ i → rest_of (drop i text) ≡ rest_of text → [] ≡ rest_of text
rest_all text i all so = sym (at_drop_all rest_of text i all) ∙ so

word_past : (text : List ℕ) (i : ℕ) → i < length text → ¬ (get_or text i 0 ≡ 32) → word_of (drop i text) ≡ get_or text i 0 ∷ word_of (drop (i + 1) text)
word_past text i below isnt = at_drop_more word_of text i 0 below ∙ passed (get_or text i 0) isnt
  where
    passed : (b : ℕ) → ¬ (b ≡ 32) → (if b == 32 then [] else b ∷ word_of (drop (i + 1) text)) ≡ b ∷ word_of (drop (i + 1) text)
    passed b isnt = grind (arith)

word_at : (text : List ℕ) (i : ℕ) → i < length text → get_or text i 0 ≡ 32 → word_of (drop i text) ≡ []
word_at text i below is = at_drop_more word_of text i 0 below ∙ ap (λ b. if b == 32 then [] else b ∷ word_of (drop (i + 1) text)) is

pub word_more : (text : List ℕ) (i : ℕ) → i < length text → ¬ (get_or text i 0 ≡ 32) → take i text ++ word_of (drop i text) ≡ word_of text → take (i + 1) text ++ word_of (drop (i + 1) text) ≡ word_of text
word_more text i below isnt so =
    ap (λ front. front ++ word_of (drop (i + 1) text)) (take_more text i 0 below)
    ∙ append_assoc (take i text) (get_or text i 0 ∷ []) (word_of (drop (i + 1) text))
    ∙ ap (λ back. take i text ++ back) (sym (word_past text i below isnt)) ∙ so

pub word_ends : (text : List ℕ) (i : ℕ) → i < length text → get_or text i 0 ≡ 32 → take i text ++ word_of (drop i text) ≡ word_of text → take i text ≡ word_of text
word_ends text i below is so = sym (append-nil (take i text)) ∙ ap (λ back. take i text ++ back) (sym (word_at text i below is)) ∙ so

pub word_all : (text : List ℕ) (i : ℕ) → length text ≤ i → take i text ++ word_of (drop i text) ≡ word_of text → text ≡ word_of text
word_all text i all so = sym (append-nil text) ∙ ap₂ (λ front back. front ++ back) (sym (take_all i text all)) (sym (at_drop_all word_of text i all)) ∙ so
