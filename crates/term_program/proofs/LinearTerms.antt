-- Terms of one cell, as they are kept.
use Rattle.std.proofs.Common.{◌≡◌, ◌∙◌, ap, sym, refl, ℕ, ℤ, Bool, true, false, ◌&&◌, List, [], ◌∷◌}
use Rattle.box_problem.specs.Box.{Box}
use Rattle.term_language.specs.Forms as forms
use Rattle.term_language.specs.Marks.{is_always}
use Rattle.term_language.specs.Rules.{Wide, form, mark}
use Rattle.term_language.specs.declared.answers.Defined.{Defined}
use Rattle.term_language.proofs.FormValues.{and_second}
use Rattle.term_language.proofs.Marks.{is_always_of}
use Rattle.term_math.specs.Shown.{cells_of, form_of}
use Rattle.term_math.specs.declared.forms.Coefficient as own
use Rattle.term_math.specs.declared.forms.Form.{Form}
use Rattle.term_nodes.specs.declared.items.Item.{Item}
use Rattle.term_nodes.specs.Built as built
use Rattle.term_nodes.specs.Built.{IsAt}
use Rattle.term_nodes.specs.Things.{Thing, nothing, term_at, term_in, thing_at}
use Rattle.term_program.specs.LinearTerms.{IsOneCell, form_of_one, has_one_cell, is_one}
use Rattle.term_program.specs.declared.linear_terms.OneCell.{OneCell}

-- the form itself
form_with : (f : Form) (constant : ℤ) (cells : List forms.Coefficient) → constant ≡ f.constant → cells_of f.cells.items ≡ cells → f.plain ≡ true
    → form_of f ≡ record { constant = constant; cells = cells; plain = true }
form_with f constant cells same listed plain = λ i. record { constant = sym same i; cells = listed i; plain = plain i }

pub one_form : (f : Form) (first : own.Coefficient) (later : List own.Coefficient) (x : OneCell) → f.plain ≡ true → f.cells.items ≡ first ∷ later → later ≡ [] → x.cell ≡ first.cell → x.k ≡ first.k
    → x.constant ≡ f.constant → form_of f ≡ form_of_one x
one_form f first later x plain is none cell k constant =
    form_with f x.constant (record { cell = x.cell; k = x.k } ∷ []) constant
    (ap cells_of is ∙ ap (λ (cs : List own.Coefficient). record { cell = first.cell; k = first.k } ∷ cells_of cs) none
    ∙ (λ i. record { cell = sym cell i; k = sym k i } ∷ []))
    plain

pub several_forms : (f : Form) (first : own.Coefficient) (later : List own.Coefficient) → f.cells.items ≡ first ∷ later → ¬ later ≡ [] → is_one (form_of f).cells ≡ false
several_forms f first [] is some = absurd (some refl)
several_forms f first (second ∷ later) is some = ap (λ (cs : List own.Coefficient). is_one (cells_of cs)) is

pub no_cell : (f : Form) → f.cells.items ≡ [] → is_one (form_of f).cells ≡ false
no_cell f is = ap (λ (cs : List own.Coefficient). is_one (cells_of cs)) is

form_at : (root : Box) (all : List Thing) (id : ℕ) (item : Item) → IsAt root all id item → form_of item.facts.form ≡ form root (term_at all id)
form_at root all id item at =
    ap (λ (f : built.Facts). f.form) at.kept ∙ ap (λ (t : Thing). form root (term_in t)) (sym at.thing)

wide_at : (root : Box) (all : List Thing) (id : ℕ) (item : Item) → IsAt root all id item → item.facts.wide_mark ≡ mark Wide root root (term_at all id)
wide_at root all id item at =
    ap (λ (f : built.Facts). f.wide_mark) at.kept ∙ ap (λ (t : Thing). mark Wide root root (term_in t)) (sym at.thing)

pub one_there : (root : Box) (all : List Thing) (id : ℕ) (item : Item) (x : OneCell) → IsAt root all id item → true ≡ (item.facts.form.plain && is_always item.facts.wide_mark)
    → form_of item.facts.form ≡ form_of_one x → IsOneCell root (term_at all id) x
one_there root all id item x at plain is = record {
  form = sym (form_at root all id item at) ∙ is;
  mark = sym (wide_at root all id item at) ∙ is_always_of item.facts.wide_mark (and_second item.facts.form.plain (is_always item.facts.wide_mark) (sym plain));
}

pub several_there : (root : Box) (all : List Thing) (id : ℕ) (item : Item) → IsAt root all id item → is_one (form_of item.facts.form).cells ≡ false → has_one_cell root (term_at all id) ≡ false
several_there root all id item at is =
    none (form root (term_at all id)).plain (is_always (mark Wide root root (term_at all id))) (is_one (form root (term_at all id)).cells)
    (ap (λ (f : forms.Form). is_one f.cells) (sym (form_at root all id item at)) ∙ is)
  where
    none : (a b c : Bool) → c ≡ false → a && b && c ≡ false
    none true true c is = is
    none true false c is = refl
    none false b c is = refl

pub not_plain : (root : Box) (all : List Thing) (id : ℕ) (item : Item) → IsAt root all id item → false ≡ (item.facts.form.plain && is_always item.facts.wide_mark)
    → has_one_cell root (term_at all id) ≡ false
not_plain root all id item at isnt =
    none (form root (term_at all id)).plain (is_always (mark Wide root root (term_at all id))) (is_one (form root (term_at all id)).cells)
    (ap (λ (f : forms.Form). f.plain && is_always (mark Wide root root (term_at all id))) (sym (form_at root all id item at))
    ∙ ap (λ (m : Defined). item.facts.form.plain && is_always m) (sym (wide_at root all id item at))
    ∙ sym isnt)
  where
    none : (a b c : Bool) → a && b ≡ false → a && b && c ≡ false
    none true true c is = cc
    none true false c is = refl
    none false b c is = refl

pub nothing_there : (root : Box) (all : List Thing) (id : ℕ) → thing_at all id ≡ nothing → has_one_cell root (term_at all id) ≡ false
nothing_there root all id is = ap (λ (t : Thing). has_one_cell root (term_in t)) is
