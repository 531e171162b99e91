-- What is read is the text of rows in order.
use Rattle.std.proofs.Common.{◌≡◌, ◌∙◌, ◌<◌, ◌≤◌, ◌+◌, ℕ, suc, List, [], ◌∷◌, ◌++◌, length, map, Option, Some, None, sym, ap, ap₂, subst, arith, append_assoc, inl, inr}
use Rattle.std.specs.List.{AllByRecursion}
use Rattle.std.proofs.lemmas.List.{length-append, append-nil}
use Rattle.sopl_base.specs.declared.reason.Step.{Step}
use Rattle.log_rows.specs.declared.rows.Row.{Row}
use Rattle.log_rows.specs.declared.rows.EndLine.{EndLine}
use Rattle.log_rows.specs.declared.rows.Footer.{Footer}
use Rattle.log_rows.specs.Rows.{row_at, Hangs, AreOrdered, depth_of, depth_at}
use Rattle.log_rows.specs.Accepted.{greatest_depth}
use Rattle.log_rows.proofs.Places.{row_stays, row_last, hangs_stays, depth_stays, depth_last}
use Rattle.std.proofs.lemmas.Bool.{cases_eq}
use Rattle.log_tree.proofs.TextsRead.{parts}
use Rattle.log_rows.specs.Lines.{node_line, step_line, end_line, footer_line, rows_lines}
use Rattle.log_rows.specs.Ranges.{StepFits, EndFits, FooterFits}
use Rattle.log_tree.specs.declared.reading.Heading.{Heading}
use Rattle.log_tree.specs.LineOf.{HeadingFits, heading_line}
use Rattle.log_tree.specs.Reads.{LogOutcome, read, refused, ReadsFrom, missing, no_node, misplaced, too_deep, node, step, ended, no_line, claim, too_long, BegunRow, row_with_steps, ended_row, begun, with_step, IsNextNode}
use Rattle.log_tree.specs.ReadingLaws.{NoneTooDeep}
use Rattle.log_tree.proofs.CleanLines.{RowFitsToo}

-- rows that hang and are not too deep
pub record AreFine (rows : List Row) : Type 0 where
  pub ordered : AreOrdered rows
  pub shallow : NoneTooDeep rows

-- what is left of a log behind rows
pub record RestRows (rows : List Row) (lines : List (List ℕ)) (all : List Row) (footer : Footer) : Type 0 where
  pub more : List Row
  pub all_is : all ≡ rows ++ more
  pub lines_are : lines ≡ rows_lines (length rows) more ++ footer_line footer ∷ []
  pub fit : AllByRecursion RowFitsToo more
  pub fine : AreFine all
  pub some : 0 < length all
  pub footer_fits : FooterFits footer

-- and behind rows and a part of one
pub record RestPart (rows : List Row) (part : BegunRow) (lines : List (List ℕ)) (all : List Row) (footer : Footer) : Type 0 where
  pub steps : List Step
  pub end : EndLine
  pub behind : List (List ℕ)
  pub lines_are : lines ≡ map step_line steps ++ end_line end ∷ behind
  pub steps_fit : AllByRecursion StepFits steps
  pub end_fits : EndFits end
  pub rest : RestRows (rows ++ ended_row (row_with_steps part.parent (part.steps ++ steps)) end ∷ []) behind all footer

abbrev RestOf : List Row → Option BegunRow → List (List ℕ) → List Row → Footer → Type 0
RestOf rows None lines all footer = AreFine rows → RestRows rows lines all footer
RestOf rows (Some part) lines all footer = ((steps : List Step) (end : EndLine) → AreFine (rows ++ ended_row (row_with_steps part.parent steps) end ∷ [])) → RestPart rows part lines all footer

pub no_read : {n k : ℕ} {all : List Row} {footer : Footer} → refused n k ≡ read all footer → ⊥
no_read is = absurd (cc)

same_claim : {a b : List Row} {f g : Footer} → read a f ≡ read b g → (a ≡ b) × (f ≡ g)
same_claim is = (cc, cc)

fine_more : (rows : List Row) (row : Row) → AreFine rows → Hangs rows (length rows) row.parent → depth_at rows row.parent ≤ greatest_depth → AreFine (rows ++ row ∷ [])
fine_more rows row fine hangs deep = record {
  ordered = λ k exists. each_of (λ k. Hangs (rows ++ row ∷ []) k (row_at (rows ++ row ∷ []) k).parent)
      (λ k exists. subst (λ (r : Row). Hangs (rows ++ row ∷ []) k r.parent) (sym (row_stays rows (row ∷ []) k exists)) (hangs_stays rows (row ∷ []) k (row_at rows k).parent (omega arith) (fine.ordered k exists)))
      (subst (λ (r : Row). Hangs (rows ++ row ∷ []) (length rows) r.parent) (sym (row_last rows row [])) (hangs_stays rows (row ∷ []) (length rows) row.parent (omega arith) hangs)) k exists;
  shallow = λ k exists. each_of (λ k. depth_of (rows ++ row ∷ []) k ≤ greatest_depth)
      (λ k exists. subst (λ d. d ≤ greatest_depth) (sym (depth_stays rows (row ∷ []) k exists)) (fine.shallow k exists))
      (subst (λ d. d ≤ greatest_depth) (sym (depth_last rows row)) deep) k exists;
}
  where
    each_of : (P : ℕ → Type 0) → ((k : ℕ) → k < length rows → P k) → P (length rows) → (k : ℕ) → k < length (rows ++ row ∷ []) → P k
    each_of P old new k exists =
        elim (cases_eq k (length rows)) [
          | inl same ↦ subst P (sym same) new
          | inr other ↦ old k (omega (arith, length-append rows (row ∷ []), exists, other))
        ]

-- a node, with what is left of its row
node_rest : (rows : List Row) (heading : Heading) (line : List ℕ) (lines : List (List ℕ)) (all : List Row) (footer : Footer)
    → HeadingFits heading → heading_line heading ≡ line → IsNextNode rows heading → RestPart rows (begun heading.parent) lines all footer → RestRows rows (line ∷ lines) all footer
node_rest rows heading line lines all footer fits is next part = record {
  more = row ∷ part.rest.more;
  all_is = part.rest.all_is ∙ append_assoc rows (row ∷ []) part.rest.more;
  lines_are = ap₂ (λ l ls. l ∷ ls) (sym is ∙ ap (λ k. node_line k heading.parent) next.number)
      (part.lines_are ∙ ap (λ b. map step_line part.steps ++ end_line part.end ∷ b) (part.rest.lines_are ∙ ap (λ k. rows_lines k part.rest.more ++ footer_line footer ∷ []) one_more)
      ∙ sym (parts (map step_line part.steps) (end_line part.end) (rows_lines (suc (length rows)) part.rest.more) (footer_line footer ∷ [])));
  fit = (record { parent_fits = fits.parent_fits; steps_fit = part.steps_fit; end_fits = part.end_fits }, part.rest.fit);
  fine = part.rest.fine;
  some = part.rest.some;
  footer_fits = part.rest.footer_fits;
}
  where
    row : Row
    row = ended_row (row_with_steps heading.parent part.steps) part.end

    one_more : length (rows ++ row ∷ []) ≡ suc (length rows)
    one_more = omega (arith, length-append rows (row ∷ []))

claim_rest : (rows : List Row) (line : List ℕ) (f : Footer) (all : List Row) (footer : Footer)
    → 0 < length rows → FooterFits f → footer_line f ≡ line → rows ≡ all → f ≡ footer → AreFine rows → RestRows rows (line ∷ []) all footer
claim_rest rows line f all footer some fits is same one fine = record {
  more = [];
  all_is = sym same ∙ sym (append-nil rows);
  lines_are = ap (λ l. l ∷ []) (sym is ∙ ap footer_line one);
  fit = tt;
  fine = subst AreFine same fine;
  some = subst (λ rs. 0 < length rs) same some;
  footer_fits = subst FooterFits one fits;
}

step_rest : (rows : List Row) (part : BegunRow) (s : Step) (line : List ℕ) (lines : List (List ℕ)) (all : List Row) (footer : Footer)
    → StepFits s → step_line s ≡ line → RestPart rows (with_step part s) lines all footer → RestPart rows part (line ∷ lines) all footer
step_rest rows part s line lines all footer fits is rest = record {
  steps = s ∷ rest.steps;
  end = rest.end;
  behind = rest.behind;
  lines_are = ap₂ (λ l ls. l ∷ ls) (sym is) rest.lines_are;
  steps_fit = (fits, rest.steps_fit);
  end_fits = rest.end_fits;
  rest = subst (λ ss. RestRows (rows ++ ended_row (row_with_steps part.parent ss) rest.end ∷ []) rest.behind all footer) (append_assoc part.steps (s ∷ []) rest.steps) rest.rest;
}

end_rest : (rows : List Row) (part : BegunRow) (e : EndLine) (line : List ℕ) (lines : List (List ℕ)) (all : List Row) (footer : Footer)
    → EndFits e → end_line e ≡ line → RestRows (rows ++ ended_row part e ∷ []) lines all footer → RestPart rows part (line ∷ lines) all footer
end_rest rows part e line lines all footer fits is rest = record {
  steps = [];
  end = e;
  behind = lines;
  lines_are = ap (λ l. l ∷ lines) (sym is);
  steps_fit = tt;
  end_fits = fits;
  rest = subst (λ ss. RestRows (rows ++ ended_row (row_with_steps part.parent ss) e ∷ []) lines all footer) (sym (append-nil part.steps)) rest;
}

pub rest_of : (rows : List Row) (part : Option BegunRow) (n : ℕ) (lines : List (List ℕ)) (out : LogOutcome) (all : List Row) (footer : Footer) → ReadsFrom rows part n lines out → out ≡ read all footer → RestOf rows part lines all footer
rest_of _ None n _ _ all footer (missing rows part m) is = absurd (no_read is)
rest_of _ (Some p) n _ _ all footer (missing rows part m) is = absurd (no_read is)
rest_of _ _ _ _ _ all footer (no_node rows n line lines isnt other) is = absurd (no_read is)
rest_of _ _ _ _ _ all footer (misplaced rows n line lines heading fits of isnt) is = absurd (no_read is)
rest_of _ _ _ _ _ all footer (too_deep rows n line lines heading fits of next deep) is = absurd (no_read is)
rest_of _ _ _ _ _ all footer (node rows n line lines heading out fits of next deep more) is =
    λ fine. node_rest rows heading line lines all footer fits of next
    (rest_of rows (Some (begun heading.parent)) (n + 1) lines out all footer more is (λ steps end. fine_more rows (ended_row (row_with_steps heading.parent steps) end) fine next.hangs deep))
rest_of _ _ _ _ _ all footer (step rows part n line lines s out fits of more) is =
    λ fine. step_rest rows part s line lines all footer fits of (rest_of rows (Some (with_step part s)) (n + 1) lines out all footer more is fine)
rest_of _ _ _ _ _ all footer (ended rows part n line lines end out fits of more) is =
    λ fine. end_rest rows part end line lines all footer fits of (rest_of (rows ++ ended_row part end ∷ []) None (n + 1) lines out all footer more is (fine part.steps end))
rest_of _ _ _ _ _ all footer (no_line rows part n line lines stepless endless) is = absurd (no_read is)
rest_of _ _ _ _ _ all footer (claim rows n line f some fits of) is = λ fine. claim_rest rows line f all footer some fits of (same_claim is).0 (same_claim is).1 fine
rest_of _ _ _ _ _ all footer (too_long rows n line next lines f some fits of) is = absurd (no_read is)
