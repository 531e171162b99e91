-- Lists that have a cell, and boxes that differ in it alone.
use Rattle.std.proofs.Common.{◌≡◌, inl, inr, ℕ, ℤ, pos, nat_eq, Bool, true, false, ◌||◌, List, [], ◌∷◌, get_or, arith, refl, ap, ap₂, subst}
use Rattle.std.specs.List.{Contains}
use Rattle.std.proofs.lemmas.Bool.{eq-eqb, or_right}
use Rattle.std.proofs.lemmas.List.{get_or_default, get_or-set_other}
use Rattle.std.proofs.lemmas.List.Elements.{Contains-append_cases, Contains-append_right}
use Rattle.std.proofs.lemmas.Map.Views.{exact_unsigned_eq}
use Rattle.sopl_base.proofs.Booleans.{tests_agree}
use Rattle.sopl_base.proofs.Lists.{contains_one}
use Rattle.box_problem.specs.Box.{Box}
use Rattle.term_language.specs.Ends.{cell_ends, ends}
use Rattle.term_language.proofs.FormValues.{by_bool}
use Rattle.term_language.specs.MentionLaws.{BoxesAgree}
use Rattle.term_program.specs.Mentions.{IsListOf}
use Rattle.term_program.specs.Programs.{with_interval}
use Rattle.prop_shave.specs.Sums.{has_cell}

finds : (cell : ℕ) (cells : List ℕ) → Contains cells cell → has_cell cell cells ≡ true
finds cell [] here = absurd (omega (arith, here.1))
finds cell (x ∷ cells) here =
    elim (Contains-append_cases (x ∷ []) cells cell here) [
      | inl first ↦ ap (λ (b : Bool). b || has_cell cell cells) (eq-eqb x cell (contains_one x cell first))
      | inr later ↦ or_right (nat_eq x cell) (has_cell cell cells) (finds cell cells later)
    ]

pub found : (cell : ℕ) (cells : List ℕ) → has_cell cell cells ≡ true → Contains cells cell
found cell [] is = absurd (cc)
found cell (x ∷ cells) is =
    by_bool (λ t. nat_eq x cell ≡ t → (t || has_cell cell cells) ≡ true → Contains (x ∷ cells) cell) (nat_eq x cell)
    (λ met same there. (0, omega arith, exact_unsigned_eq x cell same))
    (λ unmet other there. Contains-append_right (x ∷ []) cells cell (found cell cells there)) refl is

-- a list of the cells that are mentioned has a cell where it is mentioned
pub listed_is : (cell : ℕ) (mentioned cells : List ℕ) → IsListOf mentioned cells → has_cell cell cells ≡ has_cell cell mentioned
listed_is cell mentioned cells listed =
    tests_agree (has_cell cell cells) (has_cell cell mentioned)
    (λ there. finds cell mentioned ((listed.mentions cell).0 (found cell cells there)))
    (λ there. finds cell cells ((listed.mentions cell).1 (found cell mentioned there)))

-- where the test finds none, the list has no such cell
pub untouched : (cell : ℕ) (cells : List ℕ) → has_cell cell cells ≡ false → ¬ Contains cells cell
untouched cell cells is here =
    no_both (has_cell cell cells) is (finds cell cells here)
  where
    no_both : (b : Bool) → b ≡ false → b ≡ true → ⊥
    no_both true is isnt = absurd (cc)
    no_both false is isnt = absurd (cc)

-- a box with another interval for one cell gives all other cells the same
pub with_agrees : (cells : List ℕ) (b : Box) (cell : ℕ) (lo hi : ℤ) → ¬ Contains cells cell → BoxesAgree cells (with_interval b cell lo hi) b
with_agrees cells b cell lo hi nowhere = λ k d exists. each (get_or cells k d) (k, exists, get_or_default cells k (get_or cells k d) d exists)
  where
    each : (n : ℕ) → Contains cells n → cell_ends (with_interval b cell lo hi) n ≡ cell_ends b n
    each n there =
        let other : ¬ n ≡ cell = λ same. nowhere (subst (Contains cells) same there) in
        ap₂ ends (get_or-set_other b.lows cell n lo (pos 0) other) (get_or-set_other b.highs cell n hi (pos 0) other)
