-- Bytes are read in one way.
use Rattle.std.proofs.Common.{◌≡◌, ◌∙◌, ◌<◌, ◌≤◌, ◌+◌, ℕ, List, [], ◌∷◌, ◌++◌, length, Option, Some, None, refl, sym, ap, subst, arith}
use Rattle.sopl_base.specs.declared.reason.Step.{Step}
use Rattle.sopl_base.specs.declared.codes.TheConstants as codes
use Rattle.log_rows.specs.declared.rows.Row.{Row}
use Rattle.log_rows.specs.declared.rows.EndLine.{EndLine}
use Rattle.log_rows.specs.declared.rows.EndLine.TheVariants.{Refuted, Split, Point, Unfinished}
use Rattle.log_rows.specs.declared.rows.Footer.{Footer}
use Rattle.log_rows.specs.declared.rows.Footer.TheVariants.{Optimal, Infeasible, Bounded}
use Rattle.log_rows.specs.Rows.{depth_at}
use Rattle.log_rows.specs.Accepted.{greatest_depth}
use Rattle.log_rows.specs.Lines.{head_line, step_line, end_line, footer_line}
use Rattle.log_rows.specs.Ranges.{StepFits, EndFits, FooterFits}
use Rattle.log_tree.specs.Words.{letter_of}
use Rattle.log_tree.specs.declared.reading.Heading.{Heading}
use Rattle.log_tree.specs.Reading.{step_read, end_read, heading_read, footer_read}
use Rattle.log_tree.specs.LineOf.{HeadingFits, heading_line}
use Rattle.log_tree.specs.Cutting.{lines_in}
use Rattle.log_tree.specs.Reads.{LogOutcome, read, refused, ReadsFrom, missing, no_node, misplaced, too_deep, node, step, ended, no_line, claim, too_long, BegunRow, ended_row, begun, with_step, IsNextNode, IsNoNode, IsNoStep, IsNoEnd, IsNoClaim, ReadsLines, empty, no_head, headed}
use Rattle.log_tree.specs.ReadingLaws.{ReadingsAreUnique}
use Rattle.log_tree.proofs.Rereading.{step_is, end_is, heading_is, footer_is}

-- a line is that of one thing alone
once : {A : Type 0} (Fits : A → Type 0) (text : A → List ℕ) (back : List ℕ → Option A) → ((x : A) → Fits x → back (text x) ≡ Some x) → (line : List ℕ) (x y : A) → Fits x → Fits y → text x ≡ line → text y ≡ line → x ≡ y
once Fits text back is line x y fits_x fits_y of_x of_y = let one = sym (is x fits_x) ∙ ap back (of_x ∙ sym of_y) ∙ is y fits_y in cc

pub heading_back : (x : Heading) → HeadingFits x → heading_read (heading_line x) ≡ Some x
heading_back x fits = heading_is x.number x.parent fits.number_fits fits.parent_fits

footer_letter : (f : Footer) → letter_of (footer_line f) ≡ 101
footer_letter (Optimal v) = refl
footer_letter Infeasible = refl
footer_letter (Bounded found bound) = refl

end_letter : (e : EndLine) → ¬ letter_of (end_line e) ≡ 115
end_letter (Refuted r) is = omega (arith, is)
end_letter (Split c) is = omega (arith, is)
end_letter Point is = omega (arith, is)
end_letter Unfinished is = omega (arith, is)

not_both : (h : Heading) (f : Footer) (line : List ℕ) → heading_line h ≡ line → footer_line f ≡ line → ⊥
not_both h f line first second = omega (arith, ap letter_of (first ∙ sym second), footer_letter f)

not_step_and_end : (s : Step) (e : EndLine) (line : List ℕ) → step_line s ≡ line → end_line e ≡ line → ⊥
not_step_and_end s e line first second = end_letter e (ap letter_of (second ∙ sym first))

-- what a derivation at a node's place says
data Placed (rows : List Row) (n : ℕ) (line : List ℕ) (lines : List (List ℕ)) (out : LogOutcome) : Type 0 where
  neither : IsNoNode line → (0 < length rows → IsNoClaim line) → out ≡ refused codes.LOG_LINE n → Placed rows n line lines out
  away : (h : Heading) → HeadingFits h → heading_line h ≡ line → ¬ IsNextNode rows h → out ≡ refused codes.NODE_PLACE n → Placed rows n line lines out
  deep : (h : Heading) → HeadingFits h → heading_line h ≡ line → IsNextNode rows h → greatest_depth < depth_at rows h.parent → out ≡ refused codes.NODE_DEPTH n → Placed rows n line lines out
  there : (h : Heading) → HeadingFits h → heading_line h ≡ line → IsNextNode rows h → depth_at rows h.parent ≤ greatest_depth → ReadsFrom rows (Some (begun h.parent)) (n + 1) lines out → Placed rows n line lines out
  last : (f : Footer) → 0 < length rows → FooterFits f → footer_line f ≡ line → lines ≡ [] → out ≡ read rows f → Placed rows n line lines out
  longer : (f : Footer) → 0 < length rows → FooterFits f → footer_line f ≡ line → ¬ lines ≡ [] → out ≡ refused codes.LOG_LINE (n + 1) → Placed rows n line lines out

placed_of : (rows : List Row) (n : ℕ) (line : List ℕ) (lines : List (List ℕ)) (out : LogOutcome) → ReadsFrom rows None n (line ∷ lines) out → Placed rows n line lines out
placed_of _ _ _ _ _ (no_node rows n line lines isnt other) = neither isnt other refl
placed_of _ _ _ _ _ (misplaced rows n line lines h fits of isnt) = away h fits of isnt refl
placed_of _ _ _ _ _ (too_deep rows n line lines h fits of next below) = deep h fits of next below refl
placed_of _ _ _ _ _ (node rows n line lines h out fits of next shallow more) = there h fits of next shallow more
placed_of _ _ _ _ _ (claim rows n line f some fits of) = last f some fits of refl refl
placed_of _ _ _ _ _ (too_long rows n line next lines f some fits of) = longer f some fits of (λ is. absurd (cc)) refl

data Inner (rows : List Row) (part : BegunRow) (n : ℕ) (line : List ℕ) (lines : List (List ℕ)) (out : LogOutcome) : Type 0 where
  neither_one : IsNoStep line → IsNoEnd line → out ≡ refused codes.LOG_LINE n → Inner rows part n line lines out
  one_step : (s : Step) → StepFits s → step_line s ≡ line → ReadsFrom rows (Some (with_step part s)) (n + 1) lines out → Inner rows part n line lines out
  one_end : (e : EndLine) → EndFits e → end_line e ≡ line → ReadsFrom (rows ++ ended_row part e ∷ []) None (n + 1) lines out → Inner rows part n line lines out

inner_of : (rows : List Row) (part : BegunRow) (n : ℕ) (line : List ℕ) (lines : List (List ℕ)) (out : LogOutcome) → ReadsFrom rows (Some part) n (line ∷ lines) out → Inner rows part n line lines out
inner_of _ _ _ _ _ _ (step rows part n line lines s out fits of more) = one_step s fits of more
inner_of _ _ _ _ _ _ (ended rows part n line lines e out fits of more) = one_end e fits of more
inner_of _ _ _ _ _ _ (no_line rows part n line lines stepless endless) = neither_one stepless endless refl

missing_of : (rows : List Row) (part : Option BegunRow) (n : ℕ) (out : LogOutcome) → ReadsFrom rows part n [] out → refused codes.LOG_LINE n ≡ out
missing_of _ _ _ _ (missing rows part n) = refl

same_heading : (line : List ℕ) (x y : Heading) → HeadingFits x → HeadingFits y → heading_line x ≡ line → heading_line y ≡ line → x ≡ y
same_heading line x y fits_x fits_y of_x of_y = once HeadingFits heading_line heading_read heading_back line x y fits_x fits_y of_x of_y

same_footer : (line : List ℕ) (x y : Footer) → FooterFits x → FooterFits y → footer_line x ≡ line → footer_line y ≡ line → x ≡ y
same_footer line x y fits_x fits_y of_x of_y = once FooterFits footer_line footer_read footer_is line x y fits_x fits_y of_x of_y

module _ (rows : List Row) (n : ℕ) (line : List ℕ) (lines : List (List ℕ)) (b : LogOutcome) where
  by_no_node : IsNoNode line → (0 < length rows → IsNoClaim line) → Placed rows n line lines b → refused codes.LOG_LINE n ≡ b
  by_no_node isnt other (neither isnt' other' is) = sym is
  by_no_node isnt other (away h fits of off is) = absurd (isnt h fits of)
  by_no_node isnt other (deep h fits of next below is) = absurd (isnt h fits of)
  by_no_node isnt other (there h fits of next shallow more) = absurd (isnt h fits of)
  by_no_node isnt other (last f some fits of none is) = absurd (other some f fits of)
  by_no_node isnt other (longer f some fits of more is) = absurd (other some f fits of)

  by_away : (h : Heading) → HeadingFits h → heading_line h ≡ line → ¬ IsNextNode rows h → Placed rows n line lines b → refused codes.NODE_PLACE n ≡ b
  by_away h fits of off (neither isnt other is) = absurd (isnt h fits of)
  by_away h fits of off (away k fits_k of_k off_k is) = sym is
  by_away h fits of off (deep k fits_k of_k next below is) = absurd (off (subst (IsNextNode rows) (same_heading line k h fits_k fits of_k of) next))
  by_away h fits of off (there k fits_k of_k next shallow more) = absurd (off (subst (IsNextNode rows) (same_heading line k h fits_k fits of_k of) next))
  by_away h fits of off (last f some fits_f of_f none is) = absurd (not_both h f line of of_f)
  by_away h fits of off (longer f some fits_f of_f more is) = absurd (not_both h f line of of_f)

  by_deep : (h : Heading) → HeadingFits h → heading_line h ≡ line → IsNextNode rows h → greatest_depth < depth_at rows h.parent → Placed rows n line lines b → refused codes.NODE_DEPTH n ≡ b
  by_deep h fits of next below (neither isnt other is) = absurd (isnt h fits of)
  by_deep h fits of next below (away k fits_k of_k off is) = absurd (off (subst (IsNextNode rows) (same_heading line h k fits fits_k of of_k) next))
  by_deep h fits of next below (deep k fits_k of_k next_k below_k is) = sym is
  by_deep h fits of next below (there k fits_k of_k next_k shallow more) =
      absurd (omega (arith, below, subst (λ (x : Heading). depth_at rows x.parent ≤ greatest_depth) (same_heading line k h fits_k fits of_k of) shallow))
  by_deep h fits of next below (last f some fits_f of_f none is) = absurd (not_both h f line of of_f)
  by_deep h fits of next below (longer f some fits_f of_f more is) = absurd (not_both h f line of of_f)

  by_node : (h : Heading) (a : LogOutcome) → HeadingFits h → heading_line h ≡ line → IsNextNode rows h → depth_at rows h.parent ≤ greatest_depth
      → (ReadsFrom rows (Some (begun h.parent)) (n + 1) lines b → a ≡ b) → Placed rows n line lines b → a ≡ b
  by_node h a fits of next shallow again (neither isnt other is) = absurd (isnt h fits of)
  by_node h a fits of next shallow again (away k fits_k of_k off is) = absurd (off (subst (IsNextNode rows) (same_heading line h k fits fits_k of of_k) next))
  by_node h a fits of next shallow again (deep k fits_k of_k next_k below is) =
      absurd (omega (arith, shallow, subst (λ (x : Heading). greatest_depth < depth_at rows x.parent) (same_heading line k h fits_k fits of_k of) below))
  by_node h a fits of next shallow again (there k fits_k of_k next_k shallow_k more) =
      again (subst (λ (x : Heading). ReadsFrom rows (Some (begun x.parent)) (n + 1) lines b) (same_heading line k h fits_k fits of_k of) more)
  by_node h a fits of next shallow again (last f some fits_f of_f none is) = absurd (not_both h f line of of_f)
  by_node h a fits of next shallow again (longer f some fits_f of_f more is) = absurd (not_both h f line of of_f)

  by_claim : (f : Footer) → 0 < length rows → FooterFits f → footer_line f ≡ line → lines ≡ [] → Placed rows n line lines b → read rows f ≡ b
  by_claim f some fits of none (neither isnt other is) = absurd (other some f fits of)
  by_claim f some fits of none (away k fits_k of_k off is) = absurd (not_both k f line of_k of)
  by_claim f some fits of none (deep k fits_k of_k next below is) = absurd (not_both k f line of_k of)
  by_claim f some fits of none (there k fits_k of_k next shallow more) = absurd (not_both k f line of_k of)
  by_claim f some fits of none (last g some_g fits_g of_g none_g is) = ap (read rows) (same_footer line f g fits fits_g of of_g) ∙ sym is
  by_claim f some fits of none (longer g some_g fits_g of_g more is) = absurd (more none)

  by_long : (f : Footer) → 0 < length rows → FooterFits f → footer_line f ≡ line → ¬ lines ≡ [] → Placed rows n line lines b → refused codes.LOG_LINE (n + 1) ≡ b
  by_long f some fits of more (neither isnt other is) = absurd (other some f fits of)
  by_long f some fits of more (away k fits_k of_k off is) = absurd (not_both k f line of_k of)
  by_long f some fits of more (deep k fits_k of_k next below is) = absurd (not_both k f line of_k of)
  by_long f some fits of more (there k fits_k of_k next shallow more_k) = absurd (not_both k f line of_k of)
  by_long f some fits of more (last g some_g fits_g of_g none is) = absurd (more none)
  by_long f some fits of more (longer g some_g fits_g of_g more_g is) = sym is

module _ (rows : List Row) (part : BegunRow) (n : ℕ) (line : List ℕ) (lines : List (List ℕ)) (b : LogOutcome) where
  by_step : (s : Step) (a : LogOutcome) → StepFits s → step_line s ≡ line → (ReadsFrom rows (Some (with_step part s)) (n + 1) lines b → a ≡ b) → Inner rows part n line lines b → a ≡ b
  by_step s a fits of again (neither_one stepless endless is) = absurd (stepless s fits of)
  by_step s a fits of again (one_step t fits_t of_t more) =
      again (subst (λ x. ReadsFrom rows (Some (with_step part x)) (n + 1) lines b) (once StepFits step_line step_read step_is line t s fits_t fits of_t of) more)
  by_step s a fits of again (one_end e fits_e of_e more) = absurd (not_step_and_end s e line of of_e)

  by_end : (e : EndLine) (a : LogOutcome) → EndFits e → end_line e ≡ line → (ReadsFrom (rows ++ ended_row part e ∷ []) None (n + 1) lines b → a ≡ b) → Inner rows part n line lines b → a ≡ b
  by_end e a fits of again (neither_one stepless endless is) = absurd (endless e fits of)
  by_end e a fits of again (one_step s fits_s of_s more) = absurd (not_step_and_end s e line of_s of)
  by_end e a fits of again (one_end d fits_d of_d more) =
      again (subst (λ x. ReadsFrom (rows ++ ended_row part x ∷ []) None (n + 1) lines b) (once EndFits end_line end_read end_is line d e fits_d fits of_d of) more)

  by_neither : IsNoStep line → IsNoEnd line → Inner rows part n line lines b → refused codes.LOG_LINE n ≡ b
  by_neither stepless endless (neither_one s e is) = sym is
  by_neither stepless endless (one_step s fits of more) = absurd (stepless s fits of)
  by_neither stepless endless (one_end e fits of more) = absurd (endless e fits of)

pub only_one : (rows : List Row) (part : Option BegunRow) (n : ℕ) (lines : List (List ℕ)) (a b : LogOutcome) → ReadsFrom rows part n lines a → ReadsFrom rows part n lines b → a ≡ b
only_one _ _ _ _ _ b (missing rows part n) other = missing_of rows part n b other
only_one _ _ _ _ _ b (no_node rows n line lines isnt others) other = by_no_node rows n line lines b isnt others (placed_of rows n line lines b other)
only_one _ _ _ _ _ b (misplaced rows n line lines h fits of isnt) other = by_away rows n line lines b h fits of isnt (placed_of rows n line lines b other)
only_one _ _ _ _ _ b (too_deep rows n line lines h fits of next below) other = by_deep rows n line lines b h fits of next below (placed_of rows n line lines b other)
only_one _ _ _ _ _ b (node rows n line lines h out fits of next shallow more) other =
    by_node rows n line lines b h out fits of next shallow (λ more_b. only_one rows (Some (begun h.parent)) (n + 1) lines out b more more_b) (placed_of rows n line lines b other)
only_one _ _ _ _ _ b (step rows part n line lines s out fits of more) other =
    by_step rows part n line lines b s out fits of (λ more_b. only_one rows (Some (with_step part s)) (n + 1) lines out b more more_b) (inner_of rows part n line lines b other)
only_one _ _ _ _ _ b (ended rows part n line lines e out fits of more) other =
    by_end rows part n line lines b e out fits of (λ more_b. only_one (rows ++ ended_row part e ∷ []) None (n + 1) lines out b more more_b) (inner_of rows part n line lines b other)
only_one _ _ _ _ _ b (no_line rows part n line lines stepless endless) other = by_neither rows part n line lines b stepless endless (inner_of rows part n line lines b other)
only_one _ _ _ _ _ b (claim rows n line f some fits of) other = by_claim rows n line [] b f some fits of refl (placed_of rows n line [] b other)
only_one _ _ _ _ _ b (too_long rows n line next lines f some fits of) other = by_long rows n line (next ∷ lines) b f some fits of (λ is. absurd (cc)) (placed_of rows n line (next ∷ lines) b other)

no_other : (line : List ℕ) (lines : List (List ℕ)) (b : LogOutcome) → ¬ (line ≡ head_line) → ReadsLines (line ∷ lines) b → refused codes.LOG_LINE 1 ≡ b
no_other _ _ _ isnt (no_head line lines isnt_b) = refl
no_other _ _ _ isnt (headed lines out reads) = absurd (isnt refl)

with_head : (line : List ℕ) (lines : List (List ℕ)) (a b : LogOutcome) → line ≡ head_line → ReadsFrom [] None 2 lines a → ReadsLines (line ∷ lines) b → a ≡ b
with_head _ _ a _ is reads (no_head line lines isnt) = absurd (isnt is)
with_head _ _ a _ is reads (headed lines out reads_b) = only_one [] None 2 lines a out reads reads_b

empty_of : (b : LogOutcome) → ReadsLines [] b → refused codes.LOG_LINE 1 ≡ b
empty_of _ empty = refl

only_lines_read : (ls : List (List ℕ)) (a b : LogOutcome) → ReadsLines ls a → ReadsLines ls b → a ≡ b
only_lines_read _ _ b empty other = empty_of b other
only_lines_read _ _ b (no_head line lines isnt) other = no_other line lines b isnt other
only_lines_read _ _ b (headed lines out reads) other = with_head head_line lines out b refl reads other

pub readings_are_unique : ReadingsAreUnique
readings_are_unique bytes a b first second = only_lines_read (lines_in bytes) a b first second
