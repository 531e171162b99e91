-- What is told of an end.
use Rattle.std.proofs.Common.{◌≡◌, ◌∙◌, ◌⊎◌, inl, inr, ◌<◌, ℕ, ℤ, Bool, true, false, ◌&&◌, List, length, Option, None, Some, is_some, refl, sym, ap, subst}
use Rattle.std.specs.Bool.{Decides}
use Rattle.std.proofs.lemmas.Bool.{and_parts}
use Rattle.sopl_base.specs.declared.direction.Direction.{Direction}
use Rattle.sopl_base.specs.declared.reason.Reason.{Reason}
use Rattle.sopl_base.specs.declared.reason.Side.{Side}
use Rattle.sopl_base.specs.declared.reason.Side.TheVariants.{Le, Ge}
use Rattle.box_problem.specs.Box.{Box}
use Rattle.box_problem.specs.BoxProblem.{BoxProblem}
use Rattle.log_rows.specs.declared.rows.Cut.{Cut}
use Rattle.log_rows.specs.declared.rows.Row.{Row}
use Rattle.log_rows.specs.declared.rows.EndLine.{EndLine}
use Rattle.log_rows.specs.declared.rows.EndLine.TheVariants.{Refuted, Split, Point, Unfinished}
use Rattle.log_rows.specs.declared.rows.Footer.{Footer}
use Rattle.log_rows.specs.Rows.{row_at}
use Rattle.log_rows.specs.Accepted.{HasSide, RightEnd, RightOpen, RightSplit, claimed}
use Rattle.log_check.specs.declared.tally.Tally.{Tally}
use Rattle.log_check.specs.declared.sides.Sides.{Sides}
use Rattle.log_check.specs.Judged.{IsEndJudged, IsNoted, Passes, PassesBound, ReachesClaim, TouchesBound, bound_in, cuts_at}
use Rattle.log_check.specs.Closing.{IsPointOf, IsWrongPoint}
use Rattle.log_check.specs.Sides.{AreSides, side_row, sides_at}
use Rattle.log_check.proofs.Stepping.{cut_tells, cut_told}

-- nothing is added
unchanged : (flag : Bool) (P : Type 0) → ¬ P → Decides flag ((flag ≡ true) ⊎ P)
unchanged flag P none = (λ holds. inl holds, told)
  where
    told : (flag ≡ true) ⊎ P → flag ≡ true
    told (inl holds) = holds
    told (inr p) = absurd (none p)

same_flag : (old new : Bool) (P : Type 0) → new ≡ old → ¬ P → Decides new ((old ≡ true) ⊎ P)
same_flag old new P same none = subst (λ flag. Decides flag ((old ≡ true) ⊎ P)) (sym same) (unchanged old P none)

module _ (problem : BoxProblem) (rows : List Row) (footer : Footer) (i : ℕ) (b : Box) (tally : Tally) where
  -- as it is told of an end that is this one
  abbrev Judged : EndLine → Option Tally → Type 0
  Judged end None = ¬ RightEnd problem footer b rows i end
  Judged end (Some new) = RightEnd problem footer b rows i end × IsNoted problem footer b end tally new

  judged : (end : EndLine) (result : Option Tally) → (row_at rows i).end ≡ end → Judged end result → IsEndJudged problem rows footer i b tally result
  judged end None is wrong = subst (λ e. ¬ RightEnd problem footer b rows i e) (sym is) wrong
  judged end (Some new) is right = subst (λ e. RightEnd problem footer b rows i e × IsNoted problem footer b e tally new) (sym is) right

  none_noted : (end : EndLine) → ¬ end ≡ Point → ¬ end ≡ Unfinished → IsNoted problem footer b end tally tally
  none_noted end closed finished = record {
    reached = unchanged tally.reached (ReachesClaim problem footer b end) (λ is. closed is.0);
    touched = unchanged tally.touched (TouchesBound problem footer b end) (λ is. finished is.0);
    passed = unchanged tally.passed (PassesBound problem footer b end) (λ is. finished is.0);
  }

  -- closed by a reason
  pub refuted_right : (reason : Reason) (claim : Option ℤ) (result : Bool) → (row_at rows i).end ≡ Refuted reason → claim ≡ claimed footer → result ≡ problem.refutes reason b claim → result ≡ true
      → IsEndJudged problem rows footer i b tally (Some tally)
  refuted_right reason claim result is claims told holds =
      judged (Refuted reason) (Some tally) is (sym (told ∙ ap (problem.refutes reason b) claims) ∙ holds, none_noted (Refuted reason) (λ same. absurd (cc)) (λ same. absurd (cc)))

  pub refuted_wrong : (reason : Reason) (claim : Option ℤ) (result : Bool) → (row_at rows i).end ≡ Refuted reason → claim ≡ claimed footer → result ≡ problem.refutes reason b claim → result ≡ false
      → IsEndJudged problem rows footer i b tally None
  refuted_wrong reason claim result is claims told fails =
      judged (Refuted reason) None is (λ right. let clash : true ≡ false = sym right ∙ sym (told ∙ ap (problem.refutes reason b) claims) ∙ fails in absurd (cc))

  -- split
  some_of : {A : Type 0} (o : Option A) → is_some o ≡ true → (x : A) × (o ≡ Some x)
  some_of None is = absurd (cc)
  some_of (Some x) is = (x, refl)

  has_side : (sides : List Sides) → AreSides rows sides → i < length rows → (side : Side) → is_some (side_row (sides_at sides i) side) ≡ true → HasSide rows i side
  has_side sides are exists side is =
      let there = some_of (side_row (sides_at sides i) side) is in
      let told = are.are i there.0 side exists there.1 in
      record { row = there.0; exists = told.0; parent = told.1 }

  side_told : (sides : List Sides) → AreSides rows sides → i < length rows → (side : Side) → HasSide rows i side → is_some (side_row (sides_at sides i) side) ≡ true
  side_told sides are exists side has = ap is_some (are.told i has.row side exists has.exists has.parent)

  both : (x y : Bool) → x ≡ true → y ≡ true → (x && y) ≡ true
  both true true first second = refl
  both true false first second = second
  both false y first second = first

  pub split_right : (cut : Cut) (sides : List Sides) (here : Sides) (result : Bool) → (row_at rows i).end ≡ Split cut → AreSides rows sides → i < length rows → here ≡ sides_at sides i
      → result ≡ (cuts_at b cut.cell Le cut.k && (is_some here.low && is_some here.high)) → result ≡ true → IsEndJudged problem rows footer i b tally (Some tally)
  split_right cut sides here result is are exists at told holds =
      let all = and_parts _ _ (sym told ∙ holds) in
      let two = and_parts _ _ all.1 in
      judged (Split cut) (Some tally) is (
        record {
          cut = cut_tells b cut.cell Le cut.k all.0;
          low = has_side sides are exists Le (ap (λ (s : Sides). is_some s.low) (sym at) ∙ two.0);
          high = has_side sides are exists Ge (ap (λ (s : Sides). is_some s.high) (sym at) ∙ two.1);
        },
        none_noted (Split cut) (λ same. absurd (cc)) (λ same. absurd (cc)),
      )

  pub split_wrong : (cut : Cut) (sides : List Sides) (here : Sides) (result : Bool) → (row_at rows i).end ≡ Split cut → AreSides rows sides → i < length rows → here ≡ sides_at sides i
      → result ≡ (cuts_at b cut.cell Le cut.k && (is_some here.low && is_some here.high)) → result ≡ false → IsEndJudged problem rows footer i b tally None
  split_wrong cut sides here result is are exists at told fails = judged (Split cut) None is wrong
    where
      wrong : ¬ RightSplit b rows i cut
      wrong right =
          let all : (cuts_at b cut.cell Le cut.k && (is_some here.low && is_some here.high)) ≡ true =
          both _ _ (cut_told b cut.cell Le cut.k right.cut)
          (both _ _ (ap (λ (s : Sides). is_some s.low) at ∙ side_told sides are exists Le right.low) (ap (λ (s : Sides). is_some s.high) at ∙ side_told sides are exists Ge right.high)) in
          let clash : true ≡ false = sym all ∙ sym told ∙ fails in
          absurd (cc)

  -- a point
  pub point_right : (value : ℤ) (new : Tally) → (row_at rows i).end ≡ Point → IsPointOf problem footer b value → Decides new.reached ((tally.reached ≡ true) ⊎ (claimed footer ≡ Some value))
      → new.touched ≡ tally.touched → new.passed ≡ tally.passed → IsEndJudged problem rows footer i b tally (Some new)
  point_right value new is point reached touched passed =
      judged Point (Some new) is (
        point.right,
        record {
          reached = (λ holds. to_here (reached.0 holds), λ any. reached.1 (from_here any));
          touched = same_flag tally.touched new.touched (TouchesBound problem footer b Point) touched (λ there. absurd (point_finished there.0));
          passed = same_flag tally.passed new.passed (PassesBound problem footer b Point) passed (λ there. absurd (point_finished there.0));
        },
      )
    where
      point_finished : ¬ Point ≡ Unfinished
      point_finished same = absurd (cc)

      to_here : (tally.reached ≡ true) ⊎ (claimed footer ≡ Some value) → (tally.reached ≡ true) ⊎ ReachesClaim problem footer b Point
      to_here (inl before) = inl before
      to_here (inr here) = inr (refl, here ∙ ap (λ (x : ℤ). Some x) point.is)

      from_here : (tally.reached ≡ true) ⊎ ReachesClaim problem footer b Point → (tally.reached ≡ true) ⊎ (claimed footer ≡ Some value)
      from_here (inl before) = inl before
      from_here (inr here) = inr (here.1 ∙ ap (λ (x : ℤ). Some x) (sym point.is))

  pub point_wrong : (row_at rows i).end ≡ Point → IsWrongPoint problem footer b → IsEndJudged problem rows footer i b tally None
  point_wrong is point = judged Point None is point.wrong

  -- not finished
  pub open_wrong : (result : Bool) → (row_at rows i).end ≡ Unfinished → Decides result (RightOpen problem footer b) → result ≡ false → IsEndJudged problem rows footer i b tally None
  open_wrong result is decides fails = judged Unfinished None is (λ right. let clash : true ≡ false = sym (decides.1 right) ∙ fails in absurd (cc))

  pub open_right : (result : Bool) (value : ℤ) (direction : Direction) (new : Tally) → (row_at rows i).end ≡ Unfinished → Decides result (RightOpen problem footer b) → result ≡ true → value ≡ problem.end b
      → direction ≡ problem.direction → new.reached ≡ tally.reached → Decides new.touched ((tally.touched ≡ true) ⊎ (bound_in footer ≡ Some value))
      → Decides new.passed ((tally.passed ≡ true) ⊎ Passes direction value (bound_in footer)) → IsEndJudged problem rows footer i b tally (Some new)
  open_right result value direction new is decides holds end toward reached touched passed =
      judged Unfinished (Some new) is (
        decides.0 holds,
        record {
          reached = same_flag tally.reached new.reached (ReachesClaim problem footer b Unfinished) reached (λ there. absurd (open_unfinished there.0));
          touched = (λ is_so. to_touch (touched.0 is_so), λ any. touched.1 (from_touch any));
          passed = (λ is_so. to_pass (passed.0 is_so), λ any. passed.1 (from_pass any));
        },
      )
    where
      open_unfinished : ¬ Unfinished ≡ Point
      open_unfinished same = absurd (cc)

      to_touch : (tally.touched ≡ true) ⊎ (bound_in footer ≡ Some value) → (tally.touched ≡ true) ⊎ TouchesBound problem footer b Unfinished
      to_touch (inl before) = inl before
      to_touch (inr here) = inr (refl, here ∙ ap (λ (x : ℤ). Some x) end)

      from_touch : (tally.touched ≡ true) ⊎ TouchesBound problem footer b Unfinished → (tally.touched ≡ true) ⊎ (bound_in footer ≡ Some value)
      from_touch (inl before) = inl before
      from_touch (inr here) = inr (here.1 ∙ ap (λ (x : ℤ). Some x) (sym end))

      to_pass : (tally.passed ≡ true) ⊎ Passes direction value (bound_in footer) → (tally.passed ≡ true) ⊎ PassesBound problem footer b Unfinished
      to_pass (inl before) = inl before
      to_pass (inr here) = inr (refl, subst (λ x. Passes problem.direction x (bound_in footer)) end (subst (λ d. Passes d value (bound_in footer)) toward here))

      from_pass : (tally.passed ≡ true) ⊎ PassesBound problem footer b Unfinished → (tally.passed ≡ true) ⊎ Passes direction value (bound_in footer)
      from_pass (inl before) = inl before
      from_pass (inr here) = inr (subst (λ d. Passes d value (bound_in footer)) (sym toward) (subst (λ x. Passes problem.direction x (bound_in footer)) (sym end) here.1))
