-- Lines one by one.
use Rattle.std.proofs.Common.{◌≡◌, ◌∙◌, ◌<◌, ◌≤◌, ℕ, List, [], ◌∷◌, ◌++◌, length, Bool, true, false, ◌&&◌, ◌==◌, if◌then◌else◌, refl, ap, ap₂, subst, arith, inl, inr, append_assoc}
use Rattle.std.specs.Prelude.{codes}
use Rattle.log_rows.specs.LogText.{AreLines, none, last, one_more}
use Rattle.log_tree.specs.Cutting.{bare, lines_in, onto_line}

-- no byte is a line feed
abbrev pub Feedless : List ℕ → Type 0
Feedless [] = Unit {0}
Feedless (b ∷ bs) = ((b == 10) ≡ false) × Feedless bs

-- a front without a line feed, and then one
pub line_cut : (front rest : List ℕ) → Feedless front → lines_in (front ++ 10 ∷ rest) ≡ bare front ∷ lines_in rest
line_cut [] rest free = refl
line_cut (b ∷ []) rest free = by_byte b free.0
  where
    by_byte : (b : ℕ) → (b == 10) ≡ false → lines_in (b ∷ 10 ∷ rest) ≡ bare (b ∷ []) ∷ lines_in rest
    by_byte b isnt = ap (λ c. if c then [] ∷ lines_in (10 ∷ rest) else if (b == 13) && true then lines_in (10 ∷ rest) else onto_line b (lines_in (10 ∷ rest))) isnt ∙ by_return (b == 13)
      where
        by_return : (c : Bool) → (if c && true then [] ∷ lines_in rest else (b ∷ []) ∷ lines_in rest) ≡ (if c then [] else b ∷ []) ∷ lines_in rest
        by_return true = refl
        by_return false = refl
line_cut (b ∷ a ∷ front) rest free =
    ap (λ c. if c then [] ∷ lines_in (a ∷ front ++ 10 ∷ rest) else if (b == 13) && (a == 10) then lines_in (a ∷ front ++ 10 ∷ rest) else onto_line b (lines_in (a ∷ front ++ 10 ∷ rest))) free.0
    ∙ ap (λ c. if (b == 13) && c then lines_in (a ∷ front ++ 10 ∷ rest) else onto_line b (lines_in (a ∷ front ++ 10 ∷ rest))) free.1.0
    ∙ no_return (b == 13)
    ∙ ap (onto_line b) (line_cut (a ∷ front) rest free.1)
  where
    no_return : (c : Bool) → (if c && false then lines_in (a ∷ front ++ 10 ∷ rest) else onto_line b (lines_in (a ∷ front ++ 10 ∷ rest))) ≡ onto_line b (lines_in (a ∷ front ++ 10 ∷ rest))
    no_return true = refl
    no_return false = refl

-- no line feed at all: one line, which is not empty
pub last_cut : (b : ℕ) (bs : List ℕ) → Feedless (b ∷ bs) → lines_in (b ∷ bs) ≡ (b ∷ bs) ∷ []
last_cut b [] free = ap (λ c. if c then [] ∷ [] else if (b == 13) && false then [] else (b ∷ []) ∷ []) free.0 ∙ no_return (b == 13)
  where
    no_return : (c : Bool) → (if c && false then [] else (b ∷ []) ∷ []) ≡ (b ∷ []) ∷ []
    no_return true = refl
    no_return false = refl
last_cut b (a ∷ bs) free =
    ap (λ c. if c then [] ∷ lines_in (a ∷ bs) else if (b == 13) && (a == 10) then lines_in (a ∷ bs) else onto_line b (lines_in (a ∷ bs))) free.0
    ∙ ap (λ c. if (b == 13) && c then lines_in (a ∷ bs) else onto_line b (lines_in (a ∷ bs))) free.1.0
    ∙ no_return (b == 13)
    ∙ ap (onto_line b) (last_cut a bs free.1)
  where
    no_return : (c : Bool) → (if c && false then lines_in (a ∷ bs) else onto_line b (lines_in (a ∷ bs))) ≡ onto_line b (lines_in (a ∷ bs))
    no_return true = refl
    no_return false = refl

same_byte : (a b : ℕ) → (a == b) ≡ true → b ≡ a
same_byte a b is = grind (arith, is)

-- the lines that are cut are lines of the bytes
onto : (b : ℕ) (bs : List ℕ) (lines : List (List ℕ)) → AreLines lines bs → AreLines (onto_line b lines) (b ∷ bs)
onto b _ _ none = last (b ∷ [])
onto b _ _ (last line) = last (b ∷ line)
onto b _ _ (one_more line ending lines rest is more) = one_more (b ∷ line) ending lines rest is more

returned : (b a : ℕ) (bs : List ℕ) → AreLines (lines_in bs) bs → AreLines (lines_in (a ∷ bs)) (a ∷ bs) → (c d : Bool) → (b == 13) ≡ c → (a == 10) ≡ d
    → AreLines (if c && d then lines_in (a ∷ bs) else onto_line b (lines_in (a ∷ bs))) (b ∷ a ∷ bs)
returned b a bs last_ones more true true is next =
    subst (λ b. AreLines (lines_in (a ∷ bs)) (b ∷ a ∷ bs)) (same_byte b 13 is)
    (subst (λ a. AreLines (lines_in (a ∷ bs)) (13 ∷ a ∷ bs)) (same_byte a 10 next) (one_more [] (codes "\r\n") (lines_in bs) bs (inr refl) last_ones))
returned b a bs last_ones more true false is next = onto b (a ∷ bs) (lines_in (a ∷ bs)) more
returned b a bs last_ones more false d is next = onto b (a ∷ bs) (lines_in (a ∷ bs)) more

fed_more : (b a : ℕ) (bs : List ℕ) → AreLines (lines_in bs) bs → AreLines (lines_in (a ∷ bs)) (a ∷ bs) → (c : Bool) → (b == 10) ≡ c
    → AreLines (if c then [] ∷ lines_in (a ∷ bs) else if (b == 13) && (a == 10) then lines_in (a ∷ bs) else onto_line b (lines_in (a ∷ bs))) (b ∷ a ∷ bs)
fed_more b a bs last_ones more true is = subst (λ b. AreLines ([] ∷ lines_in (a ∷ bs)) (b ∷ a ∷ bs)) (same_byte b 10 is) (one_more [] (codes "\n") (lines_in (a ∷ bs)) (a ∷ bs) (inl refl) more)
fed_more b a bs last_ones more false is = returned b a bs last_ones more (b == 13) (a == 10) refl refl

alone : (b : ℕ) (c d : Bool) → (b == 10) ≡ c → (b == 13) ≡ d → AreLines (if c then [] ∷ [] else if d && false then [] else (b ∷ []) ∷ []) (b ∷ [])
alone b true d is return_is = subst (λ b. AreLines ([] ∷ []) (b ∷ [])) (same_byte b 10 is) (one_more [] (codes "\n") [] [] (inl refl) none)
alone b false true is return_is = last (b ∷ [])
alone b false false is return_is = last (b ∷ [])

pub are_lines : (bytes : List ℕ) → AreLines (lines_in bytes) bytes
are_lines [] = none
are_lines (b ∷ []) = alone b (b == 10) (b == 13) refl refl
are_lines (b ∷ a ∷ bs) = fed_more b a bs (are_lines bs) (are_lines (a ∷ bs)) (b == 10) refl

-- a line that is clean: it is not empty, and has no line feed and no carriage return
abbrev pub Clean : List ℕ → Type 0
Clean [] = Unit {0}
Clean (b ∷ bs) = (32 ≤ b) × Clean bs

clean_feedless : (line : List ℕ) → Clean line → Feedless line
clean_feedless [] clean = tt
clean_feedless (b ∷ bs) clean = (printed b clean.0, clean_feedless bs clean.1)
  where
    printed : (b : ℕ) → 32 ≤ b → (b == 10) ≡ false
    printed b above = grind (arith, above)

feedless_more : (front back : List ℕ) → Feedless front → Feedless back → Feedless (front ++ back)
feedless_more [] back free other = other
feedless_more (b ∷ front) back free other = (free.0, feedless_more front back free.1 other)

clean_bare : (line : List ℕ) → Clean line → bare line ≡ line
clean_bare [] clean = refl
clean_bare (b ∷ []) clean = ap (λ c. if c then [] else b ∷ []) (printed b clean.0)
  where
    printed : (b : ℕ) → 32 ≤ b → (b == 13) ≡ false
    printed b above = grind (arith, above)
clean_bare (b ∷ a ∷ bs) clean = ap (λ xs. b ∷ xs) (clean_bare (a ∷ bs) clean.1)

bare_return : (line : List ℕ) → bare (line ++ 13 ∷ []) ≡ line
bare_return [] = refl
bare_return (b ∷ []) = refl
bare_return (b ∷ a ∷ bs) = ap (λ xs. b ∷ xs) (bare_return (a ∷ bs))

-- bytes have no other lines that are clean and not empty
abbrev pub AllClean : List (List ℕ) → Type 0
AllClean [] = Unit {0}
AllClean (line ∷ lines) = Clean line × (0 < length line) × AllClean lines

pub only_lines : (lines : List (List ℕ)) (bytes : List ℕ) → AreLines lines bytes → AllClean lines → lines_in bytes ≡ lines
only_lines _ _ none clean = refl
only_lines _ _ (last []) clean = absurd (omega (arith, clean.1))
only_lines _ _ (last (b ∷ bs)) clean = last_cut b bs (clean_feedless (b ∷ bs) clean.0)
only_lines _ _ (one_more line ending lines rest (inl is) more) clean =
    ap (λ e. lines_in (line ++ e ++ rest)) is ∙ ap lines_in (append_assoc line (codes "\n") rest) ∙ line_cut line rest (clean_feedless line clean.0)
    ∙ ap₂ (λ l ls. l ∷ ls) (clean_bare line clean.0) (only_lines lines rest more clean.2)
only_lines _ _ (one_more line ending lines rest (inr is) more) clean =
    ap (λ e. lines_in (line ++ e ++ rest)) is ∙ ap lines_in (returns line) ∙ line_cut (line ++ 13 ∷ []) rest (feedless_more line (13 ∷ []) (clean_feedless line clean.0) (refl, tt))
    ∙ ap₂ (λ l ls. l ∷ ls) (bare_return line) (only_lines lines rest more clean.2)
  where
    returns : (line : List ℕ) → line ++ codes "\r\n" ++ rest ≡ (line ++ 13 ∷ []) ++ 10 ∷ rest
    returns [] = refl
    returns (b ∷ bs) = ap (λ xs. b ∷ xs) (returns bs)
