-- The first line of bytes, found by its line feed.
use Rattle.std.proofs.Common.{◌≡◌, ◌∙◌, ◌<◌, ◌≤◌, ◌+◌, ◌-◌, ℕ, zero, suc, List, [], ◌∷◌, ◌++◌, length, take, drop, get_or, false, ◌==◌, if◌then◌else◌, refl, sym, ap, subst, arith}
use Rattle.std.proofs.lemmas.List.{take_more, take_all, drop_more, take-append-drop, take_rest}
use Rattle.log_tree.specs.Cutting.{bare, lines_in}
use Rattle.log_tree.proofs.Cuts.{Feedless, line_cut, last_cut}

one_more_free : (front : List ℕ) (b : ℕ) → Feedless front → (b == 10) ≡ false → Feedless (front ++ b ∷ [])
one_more_free [] b free isnt = (isnt, tt)
one_more_free (a ∷ front) b free isnt = (free.0, one_more_free front b free.1 isnt)

pub feedless_more_at : (bytes : List ℕ) (i : ℕ) → i < length bytes → ¬ (get_or bytes i 0 ≡ 10) → Feedless (take i bytes) → Feedless (take (i + 1) bytes)
feedless_more_at bytes i below isnt free = subst Feedless (sym (take_more bytes i 0 below)) (one_more_free (take i bytes) (get_or bytes i 0) free (differ (get_or bytes i 0) isnt))
  where
    differ : (b : ℕ) → ¬ (b ≡ 10) → (b == 10) ≡ false
    differ b isnt = grind (arith)

pub cut_at : (bytes line : List ℕ) (i : ℕ) → i < length bytes → get_or bytes i 0 ≡ 10 → Feedless (take i bytes) → line ≡ bare (take i bytes)
    → lines_in bytes ≡ line ∷ lines_in (take (length bytes - (i + 1)) (drop (i + 1) bytes))
cut_at bytes line i below is free bared =
    rw (take_rest bytes (i + 1)) (ap lines_in (sym (take-append-drop i bytes) ∙ ap (λ back. take i bytes ++ back) (drop_more bytes i 0 below ∙ ap (λ b. b ∷ drop (i + 1) bytes) is))
    ∙ line_cut (take i bytes) (drop (i + 1) bytes) free ∙ ap (λ l. l ∷ lines_in (drop (i + 1) bytes)) (sym bared))

pub cut_last : (bytes : List ℕ) (i : ℕ) → 0 < length bytes → length bytes ≤ i → Feedless (take i bytes) → lines_in bytes ≡ bytes ∷ []
cut_last [] i some all free = absurd (omega (arith, some))
cut_last (b ∷ bs) i some all free = last_cut b bs (subst Feedless (take_all i (b ∷ bs) all) free)

-- the carriage return at a line's end
bare_at : (line : List ℕ) (n : ℕ) → length line ≡ suc n → get_or line n 0 ≡ 13 → take n line ≡ bare line
bare_at [] n size is = absurd (omega (arith, size))
bare_at (b ∷ []) zero size is = ap (λ c. if c == 13 then [] else c ∷ []) (sym is) ∙ ap (λ c. if c == 13 then [] else c ∷ []) refl
bare_at (b ∷ []) (suc n) size is = absurd (omega (arith, size))
bare_at (b ∷ a ∷ bs) zero size is = absurd (omega (arith, size))
bare_at (b ∷ a ∷ bs) (suc n) size is = ap (λ xs. b ∷ xs) (bare_at (a ∷ bs) n (omega (arith, size)) is)

stays_at : (line : List ℕ) (n : ℕ) → length line ≡ suc n → ¬ (get_or line n 0 ≡ 13) → line ≡ bare line
stays_at [] n size isnt = refl
stays_at (b ∷ []) zero size isnt = differ b isnt
  where
    differ : (b : ℕ) → ¬ (b ≡ 13) → b ∷ [] ≡ (if b == 13 then [] else b ∷ [])
    differ b isnt = grind (arith)
stays_at (b ∷ []) (suc n) size isnt = absurd (omega (arith, size))
stays_at (b ∷ a ∷ bs) zero size isnt = absurd (omega (arith, size))
stays_at (b ∷ a ∷ bs) (suc n) size isnt = ap (λ xs. b ∷ xs) (stays_at (a ∷ bs) n (omega (arith, size)) isnt)

pub bare_ends : (line : List ℕ) → ¬ (length line ≡ 0) → get_or line (length line - 1) 0 ≡ 13 → take (length line - 1) line ≡ bare line
bare_ends line some is = bare_at line (length line - 1) (omega (arith, some)) is

pub bare_stays : (line : List ℕ) → ¬ (length line ≡ 0) → ¬ (get_or line (length line - 1) 0 ≡ 13) → line ≡ bare line
bare_stays line some isnt = stays_at line (length line - 1) (omega (arith, some)) isnt

pub bare_none : (line : List ℕ) → length line ≡ 0 → line ≡ bare line
bare_none [] none = refl
bare_none (b ∷ bs) none = absurd (omega (arith, none))
