-- A term whose form is a number has that number alone as its interval over each box.
use Rattle.std.proofs.Common.{◌≡◌, ℤ, pos, true, List, [], ◌∷◌, map, arith, refl, ap, ◌∙◌}
use Rattle.std.specs.List.{list_all}
use Rattle.std.proofs.lemmas.Int.{ints}
use Rattle.box_problem.specs.Box.{Box, IsBox}
use Rattle.box_problem.proofs.Shared.{lows_inside}
use Rattle.term_language.specs.Ends as ends
use Rattle.term_language.specs.Terms.{Term, Terms, no_term, term}
use Rattle.term_language.specs.Forms.{Coefficient, Form, is_empty, is_constant, cells_ends, whole}
use Rattle.term_language.specs.Rules.{Reading, form, forms, atoms, interval, intervals}
use Rattle.term_language.specs.Laws.{IsProper, AreProper}
use Rattle.term_language.proofs.FormValues.{and_first, and_second, constant_plain}
use Rattle.term_language.proofs.Layers.{IsClear}
use Rattle.term_language.proofs.Soundness.{read}

empty_ends : (b : Box) (cells : List Coefficient) → is_empty cells ≡ true → cells_ends b cells ≡ ends.exactly (pos 0)
empty_ends b [] empty = refl
empty_ends b (c ∷ later) empty = absurd (cc)

same_ends : (x y k : ℤ) → x ≡ k → y ≡ k → ends.ends x y ≡ ends.exactly k
same_ends x y k low high = ap (λ (z : ℤ). ends.ends z y) low ∙ ap (λ (z : ℤ). ends.ends k z) high

constant_whole : (b : Box) (f : Form) (a : ends.Ends) → is_constant f ≡ true → IsClear a → whole b f a ≡ ends.exactly f.constant
constant_whole b f a constant clear =
    let none = empty_ends b f.cells (and_second f.plain (is_empty f.cells) constant) in
    let low : (cells_ends b f.cells).low ≡ pos 0 = ap (λ (e : ends.Ends). e.low) none in
    let high : (cells_ends b f.cells).high ≡ pos 0 = ap (λ (e : ends.Ends). e.high) none in
    same_ends (whole b f a).low (whole b f a).high f.constant (omega (arith, ints, low, clear.low)) (omega (arith, ints, high, clear.high))

pub constant_interval : (reading : Reading) (root b : Box) (t : Term) → IsBox b → IsProper t → is_constant (form root t) ≡ true → interval reading root b t ≡ ends.exactly (form root t).constant
constant_interval reading root b t is_box proper constant =
    constant_whole b (form root t) (atoms reading root b t) constant
    ((read reading root b b.lows t is_box (lows_inside b is_box) proper).clear (constant_plain (form root t) constant))

pub constant_intervals : (reading : Reading) (root b : Box) (ts : Terms) → IsBox b → AreProper ts → list_all is_constant (forms root ts) ≡ true → intervals reading root b ts
    ≡ map ends.exactly (map (λ (f : Form). f.constant) (forms root ts))
constant_intervals reading root b no_term is_box proper all = refl
constant_intervals reading root b (term t later) is_box proper all =
    ap (λ (a : ends.Ends). a ∷ intervals reading root b later)
    (constant_interval reading root b t is_box proper.0 (and_first (is_constant (form root t)) (list_all is_constant (forms root later)) all))
    ∙ ap (λ (es : List ends.Ends). ends.exactly (form root t).constant ∷ es)
    (constant_intervals reading root b later is_box proper.1 (and_second (is_constant (form root t)) (list_all is_constant (forms root later)) all))
