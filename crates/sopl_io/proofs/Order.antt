-- Texts in order: the next one, and those after it.
use Rattle.std.proofs.Common.{◌≡◌, ℕ, zero, suc, ◌+◌, List, [], ◌∷◌, drop, Some, unwrap_or, Vec, refl, sym}
use Rattle.std.specs.List.{slice_get}
use Rattle.std.proofs.lemmas.List.{drop-drop}
use Rattle.std.specs.declared.alloc.Global.{Global}
use Rattle.sopl_io.specs.Memory.{contents_of, content_at}

-- the text at a place is the first of those from there on
pub first_later : (texts : List (Vec ℕ Global)) (at : ℕ) → content_at texts (Some at) ≡ unwrap_or (slice_get (drop at (contents_of texts)) 0) []
first_later [] zero = refl
first_later [] (suc at) = refl
first_later (t ∷ ts) zero = refl
first_later (t ∷ ts) (suc at) = first_later ts at

-- past one more text
pub after_first : (texts : List (List ℕ)) (at : ℕ) → drop (at + 1) texts ≡ drop 1 (drop at texts)
after_first texts at = sym (drop-drop 1 at texts)
