-- Where no window takes its numbers away from a term, a cell that stands alone may be at either end.
use Rattle.std.proofs.Common.{◌≡◌, ◌∙◌, ◌⊎◌, inl, inr, refl, ap, ap₂, sym, subst, ℕ, zero, suc, ◌+◌, ◌<◌, ◌≤◌, ℤ, pos, ◌+ℤ◌, ◌*ℤ◌, ◌≤ℤ◌, false, List, [], ◌∷◌, length, get_or, arith}
use Rattle.std.proofs.lemmas.Bool.{cases_lt}
use Rattle.sopl_base.proofs.Integers.{order_total}
use Rattle.std.proofs.lemmas.Int.{ints, clamps}
use Rattle.std.proofs.lemmas.List.{get_or-set_same}
use Rattle.box_problem.specs.Box.{Box, IsBox, Inside, high, low}
use Rattle.box_problem.proofs.Shared.{lows_inside}
use Rattle.term_crowds.specs.Crowds.{AreWhole, at_high, at_low}
use Rattle.term_crowds.specs.Shrinking.{AgreeEach, term_among}
use Rattle.term_crowds.proofs.Shrinking.{high_open, low_open}
use Rattle.term_language.specs.Ends as rule
use Rattle.term_language.specs.Forms.{Form, whole}
use Rattle.term_language.specs.Laws.{AreProper, Sharper}
use Rattle.term_language.specs.MentionLaws.{BoxesAgree}
use Rattle.term_language.specs.Mentions.{mentions}
use Rattle.term_language.specs.Rules.{Near, Wide, atoms, form, interval, intervals, mark, truth}
use Rattle.term_language.specs.Terms.{Term, Terms, no_term, term, AllDifferent}
use Rattle.term_language.specs.declared.answers.Defined.{Defined}
use Rattle.term_language.specs.declared.answers.Defined.TheVariants.{Never, Maybe, Always}
use Rattle.term_language.specs.declared.answers.Truth.{Truth}
use Rattle.term_language.specs.declared.answers.Truth.TheVariants.{False, Unknown, True}
use Rattle.term_language.proofs.Layers.{IsClear}
use Rattle.term_language.proofs.Sharpening.{marks_sharpen}
use Rattle.term_language.proofs.Soundness.{read}
use Rattle.term_math.proofs.Inner.{part_inside}
use Rattle.term_nodes.specs.Built.{IsSoundTerm}
use Rattle.term_nodes.proofs.Ready.{small_term, terms_proper}
use Rattle.term_problem.specs.Refuted.{is_false}
use Rattle.term_program.specs.LinearTerms.{IsOneCell, form_of_one}
use Rattle.term_program.specs.Programs.{IsMade, root_in, with_interval}
use Rattle.term_program.specs.declared.linear_terms.OneCell.{OneCell}
use Rattle.term_program.specs.declared.program.Program.{Program}
use Rattle.prop_shave.proofs.Mentioned.{with_agrees}
use Rattle.prop_operands.specs.Kept.{MentionsCell, operand_ids, operand_term, operand_terms}
use Rattle.prop_operands.specs.declared.operands.Operand.{Operand}
use Rattle.prop_alldiff.specs.Kinds.{IsAlone}

-- the operands with the one at a place in the midst, where boxes agree on all others
record Divided (program : Program) (b c : Box) (list : List Operand) (place : ℕ) (t : Term) : Type 0 where
  before : Terms
  after : Terms
  is : operand_terms program list ≡ term_among before t after
  agree_before : AgreeEach (root_in program) b c before
  agree_after : AgreeEach (root_in program) b c after

abbrev Agrees : Program → Box → Box → Operand → Type 0
Agrees program b c x = BoxesAgree (mentions (root_in program) (operand_term program x)) b c

agree_all : (program : Program) (b c : Box) (list : List Operand) → ((other : ℕ) (x : Operand) → other < length list → Agrees program b c (get_or list other x))
    → AgreeEach (root_in program) b c (operand_terms program list)
agree_all program b c [] each = tt
agree_all program b c (first ∷ list) each =
    (each 0 first (omega arith), agree_all program b c list (λ other x exists. each (suc other) x (omega (arith, exists))))

divided : (program : Program) (b c : Box) (list : List Operand) (place : ℕ) (here : Operand) → place < length list
    → ((other : ℕ) (x : Operand) → other < length list → ¬ other ≡ place → Agrees program b c (get_or list other x))
    → Divided program b c list place (operand_term program (get_or list place here))
divided program b c [] place here exists each = absurd (omega (arith, exists))
divided program b c (first ∷ list) zero here exists each = record {
  before = no_term;
  after = operand_terms program list;
  is = refl;
  agree_before = tt;
  agree_after = agree_all program b c list (λ other x below. each (suc other) x (omega (arith, below)) (λ same. absurd (omega (arith, same))));
}
divided program b c (first ∷ list) (suc place) here exists each =
    let later = divided program b c list place here (omega (arith, exists)) (λ other x below different. each (suc other) x (omega (arith, below)) (λ same. different (omega (arith, same)))) in
    record {
      before = term (operand_term program first) later.before;
      after = later.after;
      is = ap (term (operand_term program first)) later.is;
      agree_before = (agreed, later.agree_before);
      agree_after = later.agree_after;
    }
  where
    agreed : BoxesAgree (mentions (root_in program) (operand_term program first)) b c
    agreed = each 0 first (omega arith) (λ same. absurd (omega (arith, same)))

-- truths and marks
pub not_false : (t : Truth) → ¬ t ≡ False → is_false t ≡ false
not_false False isnt = absurd (isnt refl)
not_false Unknown isnt = refl
not_false True isnt = refl

pub isnt_false : (t : Truth) → is_false t ≡ false → ¬ t ≡ False
isnt_false False is same = cc
isnt_false Unknown is same = cc
isnt_false True is same = cc

always_by : (m n : Defined) → Sharper m n → n ≡ Always → m ≡ Always
always_by Never Never sharp is = cc
always_by Never Maybe sharp is = cc
always_by Maybe Maybe sharp is = cc
always_by Always Maybe sharp is = cc
always_by Never Always sharp is = absurd sharp
always_by Maybe Always sharp is = absurd sharp
always_by Always Always sharp is = refl
always_by Maybe Never sharp is = absurd sharp
always_by Always Never sharp is = absurd sharp

always_over : (root b : Box) (t : Term) (one : OneCell) → IsBox root → Inside b root → IsSoundTerm root t → IsOneCell root t one → mark Near root b t ≡ Always
always_over root b t one is_root inside sound is =
    always_by (mark Near root b t) (mark Wide root root t) (marks_sharpen Near root b root t is_root inside sound.proper) is.mark

-- the interval of a term of one cell, by that of the cell
record IsMultiple (b : Box) (one : OneCell) (e : rule.Ends) : Type 0 where
  low : e.low ≡ one.constant +ℤ (rule.scaled one.k (rule.cell_ends b one.cell)).low
  high : e.high ≡ one.constant +ℤ (rule.scaled one.k (rule.cell_ends b one.cell)).high

whole_multiple : (b : Box) (one : OneCell) (x : rule.Ends) → IsClear x → IsMultiple b one (whole b (form_of_one one) x)
whole_multiple b one x clear = record { low = omega (arith, ints, clear.low); high = omega (arith, ints, clear.high) }

multiple : (root b : Box) (t : Term) (one : OneCell) → Inside b root → IsSoundTerm root t → IsOneCell root t one → IsMultiple b one (interval Near root b t)
multiple root b t one inside sound is =
    subst (λ (f : Form). IsMultiple b one (whole b f (atoms Near root b t))) (sym is.form)
    (whole_multiple b one (atoms Near root b t)
    ((read Near root b b.lows t inside.is_box (lows_inside b inside.is_box) sound.proper).clear (ap (λ (f : Form). f.plain) is.form)))

-- one of two numbers is the least or the greatest of both
first_end : (x y : ℤ) → (x ≡ (rule.between x y).low) ⊎ (x ≡ (rule.between x y).high)
first_end x y =
    elim (order_total x y) [
      | inl below ↦ inl (omega (arith, ints, clamps, below))
      | inr above ↦ inr (omega (arith, ints, clamps, above))
    ]

second_end : (x y : ℤ) → (y ≡ (rule.between x y).low) ⊎ (y ≡ (rule.between x y).high)
second_end x y =
    elim (order_total x y) [
      | inl below ↦ inr (omega (arith, ints, clamps, below))
      | inr above ↦ inl (omega (arith, ints, clamps, above))
    ]

-- with the cell at one of its ends, the term is at one of its ends
at_value : (c : Box) (one : OneCell) (e : rule.Ends) (z : ℤ) → IsMultiple c one e → low c one.cell ≡ z → high c one.cell ≡ z → e ≡ rule.exactly (one.constant +ℤ one.k *ℤ z)
at_value c one e z is from to =
    let least : (rule.scaled one.k (rule.cell_ends c one.cell)).low ≡ one.k *ℤ z =
    ap₂ (λ (x y : ℤ). (rule.scaled one.k (rule.ends x y)).low) from to ∙ omega (arith, ints, clamps) in
    let most : (rule.scaled one.k (rule.cell_ends c one.cell)).high ≡ one.k *ℤ z =
    ap₂ (λ (x y : ℤ). (rule.scaled one.k (rule.ends x y)).high) from to ∙ omega (arith, ints, clamps) in
    ap₂ rule.ends (is.low ∙ ap (λ (x : ℤ). one.constant +ℤ x) least) (is.high ∙ ap (λ (x : ℤ). one.constant +ℤ x) most)

at_an_end : (b : Box) (one : OneCell) (e : rule.Ends) (z : ℤ) → IsMultiple b one e → (z ≡ low b one.cell) ⊎ (z ≡ high b one.cell)
    → (rule.exactly (one.constant +ℤ one.k *ℤ z) ≡ at_low e) ⊎ (rule.exactly (one.constant +ℤ one.k *ℤ z) ≡ at_high e)
at_an_end b one e z is either =
    elim either [
      | inl lower ↦ by_ends (one.k *ℤ z) (ap (λ (x : ℤ). one.k *ℤ x) lower) (first_end (one.k *ℤ low b one.cell) (one.k *ℤ high b one.cell))
      | inr upper ↦ by_ends_above (one.k *ℤ z) (ap (λ (x : ℤ). one.k *ℤ x) upper) (second_end (one.k *ℤ low b one.cell) (one.k *ℤ high b one.cell))
    ]
  where
    by_ends : (x : ℤ) → x ≡ one.k *ℤ low b one.cell
        → (one.k *ℤ low b one.cell ≡ (rule.scaled one.k (rule.cell_ends b one.cell)).low) ⊎ (one.k *ℤ low b one.cell ≡ (rule.scaled one.k (rule.cell_ends b one.cell)).high)
        → (rule.exactly (one.constant +ℤ x) ≡ at_low e) ⊎ (rule.exactly (one.constant +ℤ x) ≡ at_high e)
    by_ends x same ends =
        elim ends [
          | inl least ↦ inl (ap rule.exactly (ap (λ (y : ℤ). one.constant +ℤ y) (same ∙ least) ∙ sym is.low))
          | inr most ↦ inr (ap rule.exactly (ap (λ (y : ℤ). one.constant +ℤ y) (same ∙ most) ∙ sym is.high))
        ]

    by_ends_above : (x : ℤ) → x ≡ one.k *ℤ high b one.cell
        → (one.k *ℤ high b one.cell ≡ (rule.scaled one.k (rule.cell_ends b one.cell)).low) ⊎ (one.k *ℤ high b one.cell ≡ (rule.scaled one.k (rule.cell_ends b one.cell)).high)
        → (rule.exactly (one.constant +ℤ x) ≡ at_low e) ⊎ (rule.exactly (one.constant +ℤ x) ≡ at_high e)
    by_ends_above x same ends =
        elim ends [
          | inl least ↦ inl (ap rule.exactly (ap (λ (y : ℤ). one.constant +ℤ y) (same ∙ least) ∙ sym is.low))
          | inr most ↦ inr (ap rule.exactly (ap (λ (y : ℤ). one.constant +ℤ y) (same ∙ most) ∙ sym is.high))
        ]

-- the box with the cell at one value
part_at : (root b : Box) (cell : ℕ) (z : ℤ) → Inside b root → cell < length b.lows → low b cell ≤ℤ z → z ≤ℤ high b cell → Inside (with_interval b cell z z) root
part_at root b cell z inside exists above below =
    part_inside root b (record { cell = cell; ends = record { low = z; high = z } }) inside
    (record { from_low = omega (arith, ints, inside.from_low cell exists, above); ordered = omega (arith, ints); to_high = omega (arith, ints, inside.to_high cell exists, below) })

agrees_there : (program : Program) (b : Box) (cell : ℕ) (z : ℤ) (x : Operand) → ¬ MentionsCell program cell x → BoxesAgree (mentions (root_in program) (operand_term program x)) b (with_interval b cell z z)
agrees_there program b cell z x nowhere =
    let agree = with_agrees (mentions (root_in program) (operand_term program x)) b cell z z nowhere in
    λ k d there. sym (agree k d there)

-- so the condition is not False there
pub alone_open : (program : Program) (b : Box) (list : List Operand) (cell : ℕ) (z : ℤ) → IsMade program → Inside b (root_in program) → IsAlone program list cell
    → AreWhole (intervals Near (root_in program) b (operand_terms program list)) → ¬ truth Near (root_in program) b (AllDifferent (operand_terms program list)) ≡ False → cell < length b.lows
    → (z ≡ low b cell) ⊎ (z ≡ high b cell) → ¬ truth Near (root_in program) (with_interval b cell z z) (AllDifferent (operand_terms program list)) ≡ False
alone_open program b list cell z made inside alone windows whole exists either =
    let root = root_in program in
    let c = with_interval b cell z z in
    let here : Operand = get_or list alone.place (some_of list alone.only.exists) in
    let t = operand_term program here in
    let is_root = made.draft.store.root_is_box in
    let built = made.draft.store.built in
    let ordered = inside.is_box.ordered cell exists in
    let above : low b cell ≤ℤ z = elim either [ inl lower ↦ omega (arith, ints, lower) | inr upper ↦ omega (arith, ints, upper, ordered) ] in
    let below : z ≤ℤ high b cell = elim either [ inl lower ↦ omega (arith, ints, lower, ordered) | inr upper ↦ omega (arith, ints, upper) ] in
    let inside_c = part_at root b cell z inside exists above below in
    let sound = small_term root program.draft.store.items.items here.term.0 built in
    let one = alone.is (some_of list alone.only.exists) in
    let parts = divided program b c list alone.place (some_of list alone.only.exists) alone.only.exists
    (λ other x there different. agrees_there program b cell z (get_or list other x) (nowhere other x there different)) in
    let proper = subst AreProper parts.is (terms_proper root program.draft.store.items.items (operand_ids list) built) in
    let same_mark = always_over root c t alone.one is_root inside_c sound one ∙ sym (always_over root b t alone.one is_root inside sound one) in
    let from : low c alone.one.cell ≡ z = subst (λ (n : ℕ). low c n ≡ z) (sym alone.same) (get_or-set_same b.lows cell z (pos 0) exists) in
    let to : high c alone.one.cell ≡ z =
    subst (λ (n : ℕ). high c n ≡ z) (sym alone.same) (get_or-set_same b.highs cell z (pos 0) (omega (arith, exists, inside.is_box.paired))) in
    let shrunk = at_value c alone.one (interval Near root c t) z (multiple root c t alone.one inside_c sound one) from to in
    let at_ends = at_an_end b alone.one (interval Near root b t) z (multiple root b t alone.one inside sound one)
    (subst (λ (n : ℕ). (z ≡ low b n) ⊎ (z ≡ high b n)) (sym alone.same) either) in
    let windows_there = subst (λ (ts : Terms). AreWhole (intervals Near root b ts)) parts.is windows in
    let whole_there = subst (λ (ts : Terms). ¬ truth Near root b (AllDifferent ts) ≡ False) parts.is whole in
    subst (λ (ts : Terms). ¬ truth Near root c (AllDifferent ts) ≡ False) (sym parts.is)
    (elim at_ends [
      | inl lower ↦
          low_open root b c parts.before t parts.after is_root inside proper
          (record { others_before = parts.agree_before; others_after = parts.agree_after; same_mark = same_mark; shrunk = shrunk ∙ lower }) windows_there whole_there
      | inr upper ↦
          high_open root b c parts.before t parts.after is_root inside proper
          (record { others_before = parts.agree_before; others_after = parts.agree_after; same_mark = same_mark; shrunk = shrunk ∙ upper }) windows_there whole_there
    ])
  where
    some_of : (xs : List Operand) {place : ℕ} → place < length xs → Operand
    some_of [] there = absurd (omega (arith, there))
    some_of (x ∷ xs) there = x

    nowhere : (other : ℕ) (x : Operand) → other < length list → ¬ other ≡ alone.place → ¬ MentionsCell program cell (get_or list other x)
    nowhere other x there different =
        elim (cases_lt other alone.place) [
          | inl early ↦ alone.only.before.each other x (omega arith) early there
          | inr late ↦ alone.only.after.each other x (omega (arith, late, different)) there there
        ]
