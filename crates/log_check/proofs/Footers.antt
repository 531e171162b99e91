-- The last line, by what is kept of the rows.
use Rattle.std.proofs.Common.{◌≡◌, ◌∙◌, ◌⊎◌, ◌↔◌, inl, inr, ◌<◌, ◌≤◌, ◌+◌, ℕ, ℤ, Bool, true, false, not, ◌&&◌, List, [], length, Option, None, Some, IsTrue, int_eq, refl, sym, ap, subst, arith}
use Rattle.std.specs.Bool.{Decides}
use Rattle.std.proofs.lemmas.Bool.Decides.{Decides-int_eq}
use Rattle.sopl_base.specs.declared.direction.Direction.{Direction}
use Rattle.sopl_base.specs.Better.{IsBetter}
use Rattle.box_problem.specs.BoxProblem.{BoxProblem}
use Rattle.log_rows.specs.declared.rows.Row.{Row}
use Rattle.log_rows.specs.declared.rows.Footer.{Footer}
use Rattle.log_rows.specs.declared.rows.Footer.TheVariants.{Optimal, Infeasible, Bounded}
use Rattle.log_rows.specs.Rows.{row_at, final_of, AreOrdered}
use Rattle.log_rows.specs.Accepted as log
use Rattle.log_tree.specs.ReadingLaws.{NoneTooDeep}
use Rattle.log_check.specs.declared.tally.Tally.{Tally}
use Rattle.log_check.specs.declared.walk.WrongLine.{WrongLine}
use Rattle.log_check.specs.Footers.{FooterHolds, HoldsFound, HoldsNone}
use Rattle.log_check.specs.Judged.{Passes, bound_in}
use Rattle.log_check.specs.Verdicts.{first_line, IsFirstWrong, IsWrongLine}
use Rattle.log_check.specs.Walks.{IsTallied, IsSettledRow, IsWitnessed, IsWrongRow, WalkStands}
use Rattle.log_check.proofs.Covering.{all_last}
use Rattle.log_check.proofs.Lines.{first_grows, first_next}
use Rattle.std.proofs.lemmas.Option.{slice_get_within}
use Rattle.sopl_base.proofs.Options.{some_equal}

-- the tests
pub none_holds : (tally : Tally) (result : Bool) → result ≡ (tally.touched && not tally.passed) → Decides result (HoldsNone tally)
none_holds tally result is = subst (λ r. Decides r (HoldsNone tally)) (sym is) (by_flags tally.touched tally.passed refl refl)
  where
    by_flags : (t p : Bool) → tally.touched ≡ t → tally.passed ≡ p → Decides (t && not p) (HoldsNone tally)
    by_flags true true touched passed = (λ holds. absurd (cc), λ is. let clash : true ≡ false = sym passed ∙ is.passed in absurd (cc))
    by_flags true false touched passed = (λ holds. record { touched = touched; passed = passed }, λ is. refl)
    by_flags false p touched passed = (λ holds. absurd (cc), λ is. let clash : false ≡ true = sym touched ∙ is.touched in absurd (cc))

module _ (direction : Direction) (v bound : ℤ) (tally : Tally) where
  pub found_passed : tally.passed ≡ true → Decides false (HoldsFound direction v bound tally)
  found_passed passed = (λ holds. absurd (cc), λ is. let clash : true ≡ false = sym passed ∙ is.passed in absurd (cc))

  pub found_unreached : tally.reached ≡ false → Decides false (HoldsFound direction v bound tally)
  found_unreached reached = (λ holds. absurd (cc), λ is. let clash : true ≡ false = sym is.reached ∙ reached in absurd (cc))

  pub found_better : (r : Bool) → IsTrue r ↔ IsBetter direction v bound → r ≡ true → Decides false (HoldsFound direction v bound tally)
  found_better r better holds = (λ wrong. absurd (cc), λ is. absurd (is.value (better.0 holds)))

  unbetter : (r : Bool) → IsTrue r ↔ IsBetter direction v bound → r ≡ false → ¬ IsBetter direction v bound
  unbetter r better fails is = let clash : true ≡ false = sym (better.1 is) ∙ fails in absurd (cc)

  pub found_touched : (r : Bool) → tally.passed ≡ false → tally.reached ≡ true → IsTrue r ↔ IsBetter direction v bound → r ≡ false → tally.touched ≡ true → Decides true (HoldsFound direction v bound tally)
  found_touched r passed reached better fails touched = (λ holds. record { reached = reached; one = inr touched; value = unbetter r better fails; passed = passed }, λ is. refl)

  pub found_same : (r result : Bool) → tally.passed ≡ false → tally.reached ≡ true → IsTrue r ↔ IsBetter direction v bound → r ≡ false → tally.touched ≡ false → result ≡ int_eq v bound
      → Decides result (HoldsFound direction v bound tally)
  found_same r result passed reached better fails touched is =
      (λ holds. record { reached = reached; one = inl (sym ((Decides-int_eq v bound).0 (sym is ∙ holds))); value = unbetter r better fails; passed = passed }, λ there. told there.one)
    where
      told : (bound ≡ v) ⊎ (tally.touched ≡ true) → result ≡ true
      told (inl same) = is ∙ (Decides-int_eq v bound).1 (sym same)
      told (inr holds) = let clash : true ≡ false = sym holds ∙ touched in absurd (cc)

pub flag_holds : (flag : Bool) → Decides flag (flag ≡ true)
flag_holds flag = (λ holds. holds, λ holds. holds)

pub nothing_holds : Decides true (Unit {0})
nothing_holds = (λ holds. tt, λ any. refl)

some_passes : (direction : Direction) (end bound : ℤ) (o : Option ℤ) → o ≡ Some bound → Passes direction end o → IsBetter direction end bound
some_passes direction end bound o is passes = subst (Passes direction end) is passes

passes_some : (direction : Direction) (end bound : ℤ) (o : Option ℤ) → o ≡ Some bound → IsBetter direction end bound → Passes direction end o
passes_some direction end bound o is better = subst (Passes direction end) (sym is) better

not_true : (flag : Bool) → ¬ flag ≡ true → flag ≡ false
not_true true isnt = absurd (isnt refl)
not_true false isnt = refl

module _ (problem : BoxProblem) (rows : List Row) (footer : Footer) (tally : Tally) (counted : (k : ℕ) → k < length rows → IsTallied problem rows footer tally k) (seen : IsWitnessed problem rows footer tally) where
  found_is : (v : ℤ) → log.claimed footer ≡ Some v → tally.reached ≡ true → log.IsFound problem rows v
  found_is v claim holds =
      let there = seen.reached holds in
      record { row = there.0; exists = there.1; is_point = there.2.0; value = some_equal (sym there.2.1 ∙ claim) }

  is_found : (v : ℤ) → log.claimed footer ≡ Some v → log.IsFound problem rows v → tally.reached ≡ true
  is_found v claim found = (counted found.row found.exists).reached (found.is_point, claim ∙ ap (λ (x : ℤ). Some x) (sym found.value))

  open_is : (bound : ℤ) → bound_in footer ≡ Some bound → tally.touched ≡ true → log.IsOpenEnd problem rows bound
  open_is bound is holds =
      let there = seen.touched holds in
      record { row = there.0; exists = there.1; is_open = there.2.0; end = some_equal (sym there.2.1 ∙ is) }

  is_open : (bound : ℤ) → bound_in footer ≡ Some bound → log.IsOpenEnd problem rows bound → tally.touched ≡ true
  is_open bound is one = (counted one.row one.exists).touched (one.is_open, is ∙ ap (λ (x : ℤ). Some x) (sym one.end))

  bounds_is : (bound : ℤ) → bound_in footer ≡ Some bound → tally.passed ≡ false → log.BoundsOpen problem rows bound
  bounds_is bound is fails i exists unfinished better =
      let holds : tally.passed ≡ true = (counted i exists).passed (unfinished, passes_some problem.direction (problem.end (final_of problem.root rows i)) bound (bound_in footer) is better) in
      let clash : true ≡ false = sym holds ∙ fails in
      absurd (cc)

  is_bounds : (bound : ℤ) → bound_in footer ≡ Some bound → log.BoundsOpen problem rows bound → tally.passed ≡ false
  is_bounds bound is bounds = not_true tally.passed none
    where
      none : ¬ tally.passed ≡ true
      none holds =
          let there = seen.passed holds in
          bounds there.0 there.1 there.2.0 (some_passes problem.direction (problem.end (final_of problem.root rows there.0)) bound (bound_in footer) is there.2.1)

  pub holds_right : (f : Footer) → footer ≡ f → FooterHolds problem.direction f tally → log.RightFooter problem rows f
  holds_right (Optimal v) is holds = found_is v (ap log.claimed is) holds
  holds_right Infeasible is holds = tt
  holds_right (Bounded None bound) is holds = record { one = open_is bound (ap bound_in is) holds.touched; opens = bounds_is bound (ap bound_in is) holds.passed }
  holds_right (Bounded (Some v) bound) is holds = record {
    found = found_is v (ap log.claimed is) holds.reached;
    one = by_one holds.one;
    value = holds.value;
    opens = bounds_is bound (ap bound_in is) holds.passed;
  }
    where
      by_one : (bound ≡ v) ⊎ (tally.touched ≡ true) → (bound ≡ v) ⊎ log.IsOpenEnd problem rows bound
      by_one (inl same) = inl same
      by_one (inr touched) = inr (open_is bound (ap bound_in is) touched)

  pub right_holds : (f : Footer) → footer ≡ f → log.RightFooter problem rows f → FooterHolds problem.direction f tally
  right_holds (Optimal v) is right = is_found v (ap log.claimed is) right
  right_holds Infeasible is right = tt
  right_holds (Bounded None bound) is right = record { touched = is_open bound (ap bound_in is) right.one; passed = is_bounds bound (ap bound_in is) right.opens }
  right_holds (Bounded (Some v) bound) is right = record {
    reached = is_found v (ap log.claimed is) right.found;
    one = by_one right.one;
    value = right.value;
    passed = is_bounds bound (ap bound_in is) right.opens;
  }
    where
      by_one : (bound ≡ v) ⊎ log.IsOpenEnd problem rows bound → (bound ≡ v) ⊎ (tally.touched ≡ true)
      by_one (inl same) = inl same
      by_one (inr one) = inr (is_open bound (ap bound_in is) one)

-- the verdict
module _ (problem : BoxProblem) (rows : List Row) (footer : Footer) (ordered : AreOrdered rows) (tally : Tally) where
  settled_in : (least : Option WrongLine) → WalkStands problem rows footer [] least tally → (k : ℕ) → k < length rows → IsSettledRow problem rows footer least tally k
  settled_in least stands = all_last rows ordered (IsSettledRow problem rows footer least tally) stands.covers

  -- a line of a row is the first that is wrong
  pub first_wrong_row : (w : WrongLine) → WalkStands problem rows footer [] (Some w) tally → IsFirstWrong problem rows footer w.node w.line
  first_wrong_row w stands = record { wrong = as_line w.node w.line stands.found; first = first }
    where
      as_line : (n l : ℕ) → IsWrongRow problem rows footer n l → IsWrongLine problem rows footer n l
      as_line n l (inl step) = inl step
      as_line n l (inr end) = inr (inl end)

      in_rows : (n l : ℕ) → IsWrongRow problem rows footer n l → (n < length rows) × (l ≤ first_line rows (length rows))
      in_rows n l (inl step) = (step.exists, omega (arith, step.line_is, slice_get_within (row_at rows n).steps step.k step.step step.is, first_next rows n step.exists, first_grows rows (n + 1) (length rows) (omega (arith, step.exists))))
      in_rows n l (inr end) = (end.exists, omega (arith, end.line_is, first_next rows n end.exists, first_grows rows (n + 1) (length rows) (omega (arith, end.exists))))

      first : (n l : ℕ) → IsWrongLine problem rows footer n l → w.line ≤ l
      first n l (inl step) = (settled_in (Some w) stands n step.exists).settled l (inl step)
      first n l (inr (inl end)) = (settled_in (Some w) stands n end.exists).settled l (inr end)
      first n l (inr (inr last)) = omega (arith, last.line_is, (in_rows w.node w.line stands.found).1)

  all_right : WalkStands problem rows footer [] None tally → (k : ℕ) → k < length rows → log.RightRow problem footer rows k × IsTallied problem rows footer tally k
  all_right stands k exists = (settled_in None stands k exists).right refl

  pub is_accepted : (holds : Bool) (direction : Direction) → WalkStands problem rows footer [] None tally → 0 < length rows → NoneTooDeep rows → direction ≡ problem.direction
      → Decides holds (FooterHolds direction footer tally) → holds ≡ true → log.Accepted problem rows footer
  is_accepted holds direction stands some shallow toward decides yes_it_is = record {
    ordered = ordered;
    some = some;
    shallow = shallow;
    right = λ i exists. (all_right stands i exists).0;
    footer_right = holds_right problem rows footer tally (λ k exists. (all_right stands k exists).1) stands.witnessed footer refl (subst (λ d. FooterHolds d footer tally) toward (decides.0 yes_it_is));
  }

  pub wrong_footer : (holds : Bool) (direction : Direction) (node line : ℕ) → WalkStands problem rows footer [] None tally → direction ≡ problem.direction → Decides holds (FooterHolds direction footer tally) → holds ≡ false
      → node ≡ length rows → line ≡ first_line rows (length rows) → IsFirstWrong problem rows footer node line
  wrong_footer holds direction node line stands toward decides fails node_is line_is = record {
    wrong = inr (inr (record { node_is = node_is; line_is = line_is; wrong = wrong }));
    first = first;
  }
    where
      wrong : ¬ log.RightFooter problem rows footer
      wrong right =
          let there : FooterHolds direction footer tally =
          subst (λ d. FooterHolds d footer tally) (sym toward) (right_holds problem rows footer tally (λ k exists. (all_right stands k exists).1) stands.witnessed footer refl right) in
          let clash : true ≡ false = sym (decides.1 there) ∙ fails in
          absurd (cc)

      first : (n l : ℕ) → IsWrongLine problem rows footer n l → line ≤ l
      first n l (inl step) = absurd ((settled_in None stands n step.exists).settled l (inl step))
      first n l (inr (inl end)) = absurd ((settled_in None stands n end.exists).settled l (inr end))
      first n l (inr (inr last)) = omega (arith, line_is, last.line_is)
