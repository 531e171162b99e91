-- What a line of a log is read as: what it is the line of.
use Rattle.std.proofs.Common.{◌≡◌, ◌∙◌, ◌<◌, ◌^◌, ℕ, ℤ, pos, negsuc, List, [], ◌∷◌, ◌++◌, false, ◌==◌, if◌then◌else◌, Option, Some, None, refl, sym, ap, ap₂, arith}
use Rattle.std.specs.Prelude.{decimal, FitsSigned, codes, option_map}
use Rattle.std.specs.Fmt.{signed_decimal}
use Rattle.std.specs.Int.{w64, w128}
use Rattle.std.specs.Option.{option_and_then}
use Rattle.std.proofs.lemmas.List.{append-nil}
use Rattle.sopl_base.specs.declared.reason.Side.{Side}
use Rattle.sopl_base.specs.declared.reason.Side.TheVariants.{Le, Ge}
use Rattle.sopl_base.specs.declared.reason.Reason.{Reason}
use Rattle.sopl_base.specs.declared.reason.Reason.TheVariants.{Hard, Chance, Undefined, Bound}
use Rattle.sopl_base.specs.declared.reason.Step.{Step}
use Rattle.log_rows.specs.declared.rows.Parent.{Parent}
use Rattle.log_rows.specs.declared.rows.Cut.{Cut}
use Rattle.log_rows.specs.declared.rows.EndLine.{EndLine}
use Rattle.log_rows.specs.declared.rows.EndLine.TheVariants.{Refuted, Split, Point, Unfinished}
use Rattle.log_rows.specs.declared.rows.Footer.{Footer}
use Rattle.log_rows.specs.declared.rows.Footer.TheVariants.{Optimal, Infeasible, Bounded}
use Rattle.log_rows.specs.Lines as lines
use Rattle.log_rows.specs.Ranges.{ParentFits, ReasonFits, StepFits, CutFits, EndFits, FoundFits, FooterFits}
use Rattle.log_tree.specs.Words.{word_of, rest_of, letter_of}
use Rattle.log_tree.specs.Numbers.{wide_in_word, signed_in_word}
use Rattle.log_tree.specs.Reading as spec
use Rattle.log_tree.proofs.Solid.{no_letter, Solid, Behind, none, space, word_is, rest_is, decimal_solid, small_is, node_is, signed_solid, wide_is, signed_is}

-- joined texts, the first one outside
apart : (a b c : List ℕ) → ((a ++ (32 ∷ [])) ++ b) ++ c ≡ a ++ (32 ∷ (b ++ c))
apart [] b c = refl
apart (x ∷ a) b c = ap (λ xs. x ∷ xs) (apart a b c)

-- a reason in front of a text
pub reason_is : (reason : Reason) (t more : List ℕ) → ReasonFits reason → Behind t more → spec.reason_at (lines.reason_text reason ++ t) ≡ Some reason
reason_is (Hard instance scenario) t more fits behind =
    ap spec.hard_at (apart (decimal instance) (decimal scenario) t)
    ∙ ap₂ (λ i s. option_and_then (λ instance. option_map (λ scenario. Hard instance scenario) s) i)
    (small_is instance (32 ∷ (decimal scenario ++ t)) (decimal scenario ++ t) fits.0 (space (decimal scenario ++ t)))
    (ap spec.small_at (rest_is (decimal instance) (32 ∷ (decimal scenario ++ t)) (decimal scenario ++ t) (decimal_solid instance (omega (arith, fits.0))) (space (decimal scenario ++ t)))
    ∙ small_is scenario t more fits.1 behind)
reason_is (Chance instance) t more fits behind = ap (option_map (λ instance. Chance instance)) (small_is instance t more fits behind)
reason_is (Undefined scenario) t more fits behind = ap (option_map (λ scenario. Undefined scenario)) (small_is scenario t more fits behind)
reason_is Bound t more fits behind = refl

pub behind_is : (reason : Reason) (t more : List ℕ) → ReasonFits reason → Behind t more → spec.behind_reason (lines.reason_text reason ++ t) ≡ more
behind_is (Hard instance scenario) t more fits behind =
    ap (λ text. rest_of (rest_of text)) (apart (decimal instance) (decimal scenario) t)
    ∙ ap rest_of (rest_is (decimal instance) (32 ∷ (decimal scenario ++ t)) (decimal scenario ++ t) (decimal_solid instance (omega (arith, fits.0))) (space (decimal scenario ++ t)))
    ∙ rest_is (decimal scenario) t more (decimal_solid scenario (omega (arith, fits.1))) behind
behind_is (Chance instance) t more fits behind = rest_is (decimal instance) t more (decimal_solid instance (omega (arith, fits))) behind
behind_is (Undefined scenario) t more fits behind = rest_is (decimal scenario) t more (decimal_solid scenario (omega (arith, fits))) behind
behind_is Bound t more fits behind = rest_is [] t more tt behind

-- the parts of a step's line
abbrev side_letters : Side → List ℕ
side_letters Le = codes "le"
side_letters Ge = codes "ge"

side_parts : (side : Side) (c k : List ℕ) → (c ++ lines.side_word side) ++ k ≡ c ++ 32 ∷ (side_letters side ++ 32 ∷ k)
side_parts Le [] k = refl
side_parts Ge [] k = refl
side_parts side (x ∷ c) k = ap (λ xs. x ∷ xs) (side_parts side c k)

step_parts : (r c : List ℕ) (side : Side) (k : List ℕ) → (((r ++ (32 ∷ [])) ++ c) ++ lines.side_word side) ++ k ≡ r ++ 32 ∷ (c ++ 32 ∷ (side_letters side ++ 32 ∷ k))
step_parts [] c side k = ap (λ xs. 32 ∷ xs) (side_parts side c k)
step_parts (x ∷ r) c side k = ap (λ xs. x ∷ xs) (step_parts r c side k)

side_is : (side : Side) (k : List ℕ) → spec.side_by (letter_of (side_letters side ++ 32 ∷ k)) ≡ side
side_is Le k = refl
side_is Ge k = refl

side_solid : (side : Side) → Solid (side_letters side)
side_solid Le = (refl, (refl, tt))
side_solid Ge = (refl, (refl, tt))

last_word : (w : List ℕ) → Solid w → word_of w ≡ w
last_word w solid = ap word_of (sym (append-nil w)) ∙ word_is w [] [] solid none

step_from_is : (reason : Reason) (cell : ℕ) (side : Side) (k : ℤ) → cell < 2 ^ 32 → FitsSigned w64 k
    → spec.step_from reason (decimal cell ++ 32 ∷ (side_letters side ++ 32 ∷ signed_decimal k)) ≡ Some (record { reason = reason; cell = cell; side = side; k = k })
step_from_is reason cell side k few fits =
    ap₂ (λ c text. option_and_then (λ cell. option_map (λ k. (record { reason = reason; cell = cell; side = spec.side_by (letter_of text); k = k })) (signed_in_word (word_of (rest_of text)))) c)
    (small_is cell (32 ∷ rest) rest few (space rest)) (rest_is (decimal cell) (32 ∷ rest) rest (decimal_solid cell (omega (arith, few))) (space rest))
    ∙ ap₂ (λ s z. option_map (λ k. (record { reason = reason; cell = cell; side = s; k = k })) z) (side_is side (signed_decimal k)) number
  where
    rest : List ℕ
    rest = side_letters side ++ 32 ∷ signed_decimal k

    number : signed_in_word (word_of (rest_of rest)) ≡ Some k
    number = ap (λ text. signed_in_word (word_of text)) (rest_is (side_letters side) (32 ∷ signed_decimal k) (signed_decimal k) (side_solid side) (space (signed_decimal k)))
        ∙ ap signed_in_word (last_word (signed_decimal k) (signed_solid k (omega (arith, fits)))) ∙ signed_is k fits

pub step_is : (step : Step) → StepFits step → spec.step_read (lines.step_line step) ≡ Some step
step_is step fits =
    ap (λ text. option_and_then (λ reason. spec.step_from reason (spec.behind_reason text)) (spec.reason_at text))
    (step_parts (lines.reason_text step.reason) (decimal step.cell) step.side (signed_decimal step.k))
    ∙ ap₂ (λ reason text. option_and_then (λ reason. spec.step_from reason text) reason)
    (reason_is step.reason (32 ∷ rest) rest fits.reason_fits (space rest)) (behind_is step.reason (32 ∷ rest) rest fits.reason_fits (space rest))
    ∙ step_from_is step.reason step.cell step.side step.k fits.cell_fits fits.k_fits
  where
    rest : List ℕ
    rest = decimal step.cell ++ 32 ∷ (side_letters step.side ++ 32 ∷ signed_decimal step.k)

-- two words, the second one last
two_parts : (a b : List ℕ) → (a ++ (32 ∷ [])) ++ b ≡ a ++ 32 ∷ b
two_parts [] b = refl
two_parts (x ∷ a) b = ap (λ xs. x ∷ xs) (two_parts a b)

cut_is : (cut : Cut) → CutFits cut → spec.cut_from (decimal cut.cell ++ 32 ∷ signed_decimal cut.k) ≡ Some cut
cut_is cut fits =
    ap₂ (λ c k. option_and_then (λ cell. option_map (λ k. (record { cell = cell; k = k })) k) c)
    (small_is cut.cell (32 ∷ signed_decimal cut.k) (signed_decimal cut.k) fits.cell_fits (space (signed_decimal cut.k)))
    (ap (λ text. signed_in_word (word_of text)) (rest_is (decimal cut.cell) (32 ∷ signed_decimal cut.k) (signed_decimal cut.k) (decimal_solid cut.cell (omega (arith, fits.cell_fits))) (space (signed_decimal cut.k)))
    ∙ ap signed_in_word (last_word (signed_decimal cut.k) (signed_solid cut.k (omega (arith, fits.k_fits)))) ∙ signed_is cut.k fits.k_fits)

pub end_is : (end : EndLine) → EndFits end → spec.end_read (lines.end_line end) ≡ Some end
end_is (Refuted reason) fits =
    ap (λ text. option_map (λ reason. Refuted reason) (spec.reason_at text)) (sym (append-nil (lines.reason_text reason)))
    ∙ ap (option_map (λ reason. Refuted reason)) (reason_is reason [] [] fits none)
end_is (Split cut) fits = ap (λ text. option_map (λ cut. Split cut) (spec.cut_from text)) (two_parts (decimal cut.cell) (signed_decimal cut.k)) ∙ ap (option_map (λ cut. Split cut)) (cut_is cut fits)
end_is Point fits = refl
end_is Unfinished fits = refl

-- a node
abbrev letter_text : Side → List ℕ
letter_text Le = codes "l"
letter_text Ge = codes "h"

letter_is : (side : Side) → spec.side_by (letter_of (letter_text side)) ≡ side
letter_is Le = refl
letter_is Ge = refl

heading_parent : (number : ℕ) (parent : Parent) → parent.node < 2 ^ 64
    → spec.heading_from number (decimal parent.node ++ lines.side_letter parent.side) ≡ Some (record { number = number; parent = Some parent })
heading_parent number parent few =
    ap (λ b. if b then Some (record { number = number; parent = None }) else option_map (λ parent. (record { number = number; parent = Some parent })) (spec.parent_from text)) (no_letter 114 parent.node (lines.side_letter parent.side) (omega arith) (omega (arith, few)))
    ∙ ap (option_map (λ parent. (record { number = number; parent = Some parent }))) found
  where
    text : List ℕ
    text = decimal parent.node ++ lines.side_letter parent.side

    by_side : (side : Side) → lines.side_letter side ≡ 32 ∷ letter_text side
    by_side Le = refl
    by_side Ge = refl

    same : text ≡ decimal parent.node ++ 32 ∷ letter_text parent.side
    same = ap (λ t. decimal parent.node ++ t) (by_side parent.side)

    found : spec.parent_from text ≡ Some parent
    found = ap spec.parent_from same
        ∙ ap₂ (λ n t. option_map (λ node. (record { node = node; side = spec.side_by (letter_of t) })) n)
        (node_is parent.node (32 ∷ letter_text parent.side) (letter_text parent.side) few (space (letter_text parent.side)))
        (rest_is (decimal parent.node) (32 ∷ letter_text parent.side) (letter_text parent.side) (decimal_solid parent.node (omega (arith, few))) (space (letter_text parent.side)))
        ∙ ap (λ s. Some (record { node = parent.node; side = s })) (letter_is parent.side)

pub heading_is : (number : ℕ) (parent : Option Parent) → number < 2 ^ 64 → ParentFits parent
    → spec.heading_read (lines.node_line number parent) ≡ Some (record { number = number; parent = parent })
heading_is number None few fits =
    ap₂ (λ n text. option_and_then (λ number. spec.heading_from number text) n) (node_is number (codes " r") (codes "r") few (space (codes "r")))
    (rest_is (decimal number) (codes " r") (codes "r") (decimal_solid number (omega (arith, few))) (space (codes "r")))
heading_is number (Some parent) few fits =
    ap₂ (λ n text. option_and_then (λ number. spec.heading_from number text) n) (node_is number (32 ∷ text) text few (space text))
    (rest_is (decimal number) (32 ∷ text) text (decimal_solid number (omega (arith, few))) (space text))
    ∙ heading_parent number parent fits
  where
    text : List ℕ
    text = decimal parent.node ++ lines.side_letter parent.side

-- a claim
value_is : (v : ℤ) → FitsSigned w128 v → spec.value_at (signed_decimal v) ≡ Some v
value_is v fits = ap wide_in_word (last_word (signed_decimal v) (signed_solid v fits)) ∙ wide_is v fits

value_in : (v : ℤ) (more : List ℕ) → FitsSigned w128 v → spec.value_at (signed_decimal v ++ 32 ∷ more) ≡ Some v
value_in v more fits = ap wide_in_word (word_is (signed_decimal v) (32 ∷ more) more (signed_solid v fits) (space more)) ∙ wide_is v fits

found_is : (found : Option ℤ) (more : List ℕ) → FoundFits found → spec.found_value_at (lines.found_text found ++ 32 ∷ more) ≡ Some found
found_is None more fits = refl
found_is (Some v) more fits =
    ap (λ b. if b then Some None else option_map (λ value. Some value) (spec.value_at (signed_decimal v ++ 32 ∷ more))) (by_sign v fits)
    ∙ ap (option_map (λ value. Some value)) (value_in v more fits)
  where
    by_sign : (v : ℤ) → FitsSigned w128 v → (letter_of (signed_decimal v ++ 32 ∷ more) == 110) ≡ false
    by_sign (pos n) fits = no_letter 110 n (32 ∷ more) (omega arith) (omega (arith, fits))
    by_sign (negsuc n) fits = refl

found_solid : (found : Option ℤ) → FoundFits found → Solid (lines.found_text found)
found_solid None fits = (refl, (refl, (refl, (refl, tt))))
found_solid (Some v) fits = signed_solid v fits

pub footer_is : (footer : Footer) → FooterFits footer → spec.footer_read (lines.footer_line footer) ≡ Some footer
footer_is (Optimal v) fits = ap (option_map (λ value. Optimal value)) (value_is v fits)
footer_is Infeasible fits = refl
footer_is (Bounded found bound) fits =
    ap spec.bounded_from (two_parts (lines.found_text found) (signed_decimal bound))
    ∙ ap₂ (λ f b. option_and_then (λ found. option_map (λ bound. Bounded found bound) b) f)
    (found_is found (signed_decimal bound) fits.0)
    (ap spec.value_at (rest_is (lines.found_text found) (32 ∷ signed_decimal bound) (signed_decimal bound) (found_solid found fits.0) (space (signed_decimal bound)))
    ∙ value_is bound fits.1)
