-- What a walk keeps from row to row.
use Rattle.std.proofs.Common.{◌≡◌, ◌∙◌, ◌⊎◌, inl, inr, ◌<◌, ◌≤◌, ◌+◌, ◌-◌, ◌^◌, ℕ, zero, suc, List, [], ◌∷◌, length, Option, None, Some, IfSome, Bool, true, false, refl, sym, ap, subst, arith}
use Rattle.std.specs.Prelude.{nat_lt, if◌then◌else◌}
use Rattle.std.proofs.Math.Seq.{take-length}
use Rattle.std.proofs.lemmas.Option.{slice_get_within}
use Rattle.box_problem.specs.Rightness.{AllRight}
use Rattle.std.proofs.lemmas.Bool.{cases_lt}
use Rattle.sopl_base.specs.declared.reason.Side.{Side}
use Rattle.sopl_base.specs.declared.reason.Side.TheVariants.{Le, Ge}
use Rattle.box_problem.specs.Box.{Box, Inside, IsBox}
use Rattle.box_problem.specs.BoxProblem.{BoxProblem}
use Rattle.box_problem.specs.Steps.{IsCut, narrowed, cut_away, after_steps}
use Rattle.box_problem.proofs.Boxes.{part_of_itself, parts_of_parts}
use Rattle.box_problem.proofs.Cuts.{cuts_make_parts}
use Rattle.log_rows.specs.declared.rows.Parent.{Parent}
use Rattle.log_rows.specs.declared.rows.Cut.{Cut}
use Rattle.log_rows.specs.declared.rows.Row.{Row}
use Rattle.log_rows.specs.declared.rows.Footer.{Footer}
use Rattle.log_rows.specs.declared.rows.EndLine.{EndLine}
use Rattle.log_rows.specs.declared.rows.EndLine.TheVariants.{Split}
use Rattle.log_rows.specs.Rows.{row_at, start_of, final_of, box_at, handed, AreOrdered, Hangs, IsSplit}
use Rattle.log_rows.specs.Accepted.{claimed, RightEnd, RightRow}
use Rattle.log_rows.proofs.Places.{final_is}
use Rattle.log_check.specs.declared.tally.Tally.{Tally}
use Rattle.log_check.specs.declared.walk.WrongLine.{WrongLine}
use Rattle.log_check.specs.Judged.{IsNoted, IsRightHere, ReachesClaim, TouchesBound, PassesBound, no_tally}
use Rattle.log_check.specs.Sides.{IsSideOf, side_of}
use Rattle.log_check.specs.Walks.{AtMost, BeginsWell, GoesOn, HasRow, IsAmong, IsTallied, IsSettledRow, IsWitnessed, IsWrongHere, IsWrongRow, RowStart, WalkStands, leaf, parts, rows_in, earlier_line, starts_at, work_left}
use Rattle.log_check.proofs.Covering.{all_first, all_cut, all_next}
use Rattle.log_check.proofs.Wronging.{right_before, wrong_told, wrong_first, wrong_later}

-- of two rows with one parent the first one took it
same_child : (rows : List Row) → AreOrdered rows → (j k i : ℕ) (side : Side) → j < length rows → k < length rows → (row_at rows j).parent ≡ side_of i side → (row_at rows k).parent ≡ side_of i side → j ≡ k
same_child rows ordered j k i side exists_j exists_k is_j is_k =
    elim (cases_lt j k) [
      | inl before ↦ absurd (not_free k (ordered k exists_k) is_k j before is_j)
      | inr after ↦ elim (cases_lt k j) [
        | inl before ↦ absurd (not_free j (ordered j exists_j) is_j k before is_k)
        | inr both ↦ omega (arith, after, both)
      ]
    ]
  where
    not_free : (n : ℕ) → Hangs rows n (row_at rows n).parent → (row_at rows n).parent ≡ side_of i side → (m : ℕ) → m < n → (row_at rows m).parent ≡ side_of i side → ⊥
    not_free n hangs is m before taken =
        let there : Hangs rows n (side_of i side) = subst (λ (p : Option Parent). Hangs rows n p) is hangs in
        there.untaken m before taken

-- a side stands behind the row that it is a side of
pub side_later : (rows : List Row) → AreOrdered rows → (i j : ℕ) (side : Side) → IsSideOf rows i side j → i < j
side_later rows ordered i j side is =
    let there : Hangs rows j (side_of i side) = subst (λ (p : Option Parent). Hangs rows j p) is.parent (ordered j is.exists) in
    there.earlier

module _ (problem : BoxProblem) (rows : List Row) (footer : Footer) (ordered : AreOrdered rows) where
  pub stands_first : 0 < length rows → IsBox problem.root → WalkStands problem rows footer (starts_at 0 problem.root ∷ []) None no_tally
  stands_first some is_box = record {
    begin = (record { exists = some; is = first (row_at rows 0).parent (ordered 0 some); inside = part_of_itself problem.root is_box }, tt);
    covers = all_first rows ordered (IsSettledRow problem rows footer None no_tally);
    found = tt;
    witnessed = record { reached = λ holds. absurd (cc); touched = λ holds. absurd (cc); passed = λ holds. absurd (cc) };
  }
    where
      first : (p : Option Parent) → Hangs rows 0 p → problem.root ≡ box_at problem.root rows p
      first None hangs = refl
      first (Some parent) hangs = absurd (omega (arith, hangs.earlier))

  some_is_not_none : (w : WrongLine) → ¬ (Some w ≡ None)
  some_is_not_none w same = absurd (cc)

  pub stands_wrong : (i : ℕ) (b : Box) (before : List RowStart) (least : Option WrongLine) (tally : Tally) (w : WrongLine) → w.node ≡ i
      → WalkStands problem rows footer (starts_at i b ∷ before) least tally → IsWrongHere problem rows footer i b w.line → WalkStands problem rows footer before (Some (earlier_line least w)) tally
  stands_wrong i b before least tally w node stands wrong = record {
    begin = stands.begin.1;
    covers = all_cut rows ordered (IsSettledRow problem rows footer least tally) (IsSettledRow problem rows footer (Some (earlier_line least w)) tally) i (rows_in before) stands.covers kept later;
    found = by_least least stands.found;
    witnessed = stands.witnessed;
  }
    where
      here : BeginsWell problem.root rows (starts_at i b)
      here = stands.begin.0

      lower : (old : Option WrongLine) (l : ℕ) → AtMost old l → (earlier_line old w).line ≤ l
      lower None l none = absurd none
      lower (Some o) l is = by_test (nat_lt w.line o.line) refl
        where
          by_test : (c : Bool) → nat_lt w.line o.line ≡ c → (if c then w else o).line ≤ l
          by_test true less = let before : w.line < o.line = grind (arith, less) in omega (arith, before, is)
          by_test false less = is

      soon : (old : Option WrongLine) → (earlier_line old w).line ≤ w.line
      soon None = omega arith
      soon (Some o) = by_test (nat_lt w.line o.line) refl
        where
          by_test : (c : Bool) → nat_lt w.line o.line ≡ c → (if c then w else o).line ≤ w.line
          by_test true less = omega arith
          by_test false less = grind (arith, less)

      kept : (k : ℕ) → IsSettledRow problem rows footer least tally k → IsSettledRow problem rows footer (Some (earlier_line least w)) tally k
      kept k settled = record { settled = λ l wrong_there. lower least l (settled.settled l wrong_there); right = λ none. absurd (some_is_not_none (earlier_line least w) none) }

      later : (k : ℕ) → i ≤ k → k < length rows → IsSettledRow problem rows footer (Some (earlier_line least w)) tally k
      later k above exists = record { settled = by_line; right = λ none. absurd (some_is_not_none (earlier_line least w) none) }
        where
          by_line : (l : ℕ) → IsWrongRow problem rows footer k l → (earlier_line least w).line ≤ l
          by_line l there =
              elim (cases_lt i k) [
                | inl less ↦ omega (arith, soon least, wrong_later problem rows footer ordered i b here.exists here.is w.line k l wrong less there)
                | inr more ↦
                    let same : k ≡ i = omega (arith, above, more) in
                    omega (arith, soon least, wrong_first problem rows footer ordered i b here.exists here.is w.line wrong l (subst (λ n. IsWrongRow problem rows footer n l) same there))
              ]

      by_least : (old : Option WrongLine) → IfSome old (λ o. IsWrongRow problem rows footer o.node o.line) → IsWrongRow problem rows footer (earlier_line old w).node (earlier_line old w).line
      by_least None found = subst (λ n. IsWrongRow problem rows footer n w.line) (sym node) (wrong_told problem rows footer ordered i b here.exists here.is w.line wrong)
      by_least (Some o) found = earlier_is o w (λ x. IsWrongRow problem rows footer x.node x.line) found (subst (λ n. IsWrongRow problem rows footer n w.line) (sym node) (wrong_told problem rows footer ordered i b here.exists here.is w.line wrong))
        where
          earlier_is : (o w : WrongLine) (P : WrongLine → Type 0) → P o → P w → P (earlier_line (Some o) w)
          earlier_is o w P first second = by_bool (nat_lt w.line o.line)
            where
              by_bool : (c : Bool) → P (if c then w else o)
              by_bool true = second
              by_bool false = first

  -- the row at hand is right
  module _ (i : ℕ) (b final : Box) (before : List RowStart) (least : Option WrongLine) (old new : Tally)
      (stands : WalkStands problem rows footer (starts_at i b ∷ before) least old) (right : IsRightHere problem rows footer i b final old new) where
    here : BeginsWell problem.root rows (starts_at i b)
    here = stands.begin.0

    final_there : final ≡ final_of problem.root rows i
    final_there = right.leads ∙ ap (λ x. after_steps x (row_at rows i).steps) here.is ∙ sym (final_is problem.root rows i here.exists (ordered i here.exists))

    right_row : RightRow problem footer rows i
    right_row = record {
      steps = subst (λ x. AllRight problem (claimed footer) x (row_at rows i).steps) here.is right.steps;
      end = subst (λ x. RightEnd problem footer x rows i (row_at rows i).end) final_there right.end;
    }

    noted : IsNoted problem footer (final_of problem.root rows i) (row_at rows i).end old new
    noted = subst (λ x. IsNoted problem footer x (row_at rows i).end old new) final_there right.noted

    kept : (k : ℕ) → IsSettledRow problem rows footer least old k → IsSettledRow problem rows footer least new k
    kept k settled = record { settled = settled.settled; right = λ none. ((settled.right none).0, counted (settled.right none).1) }
      where
        counted : IsTallied problem rows footer old k → IsTallied problem rows footer new k
        counted c = record {
          reached = λ is. noted.reached.1 (inl (c.reached is));
          touched = λ is. noted.touched.1 (inl (c.touched is));
          passed = λ is. noted.passed.1 (inl (c.passed is));
        }

    settled_here : IsSettledRow problem rows footer least new i
    settled_here = record {
      settled = λ l wrong. absurd (none_wrong l wrong);
      right = λ none. (right_row, record { reached = λ is. noted.reached.1 (inr is); touched = λ is. noted.touched.1 (inr is); passed = λ is. noted.passed.1 (inr is) });
    }
      where
        none_wrong : (l : ℕ) → IsWrongRow problem rows footer i l → ⊥
        none_wrong l (inl other) =
            other.wrong (right_before problem (claimed footer) (start_of problem.root rows i) (row_at rows i).steps (length (row_at rows i).steps) other.k other.step
            (subst (AllRight problem (claimed footer) (start_of problem.root rows i)) (sym (take-length (row_at rows i).steps)) right_row.steps)
            (slice_get_within (row_at rows i).steps other.k other.step other.is) other.is)
        none_wrong l (inr other) = other.wrong right_row.end

    witnessed : IsWitnessed problem rows footer new
    witnessed = record {
      reached = λ holds. by_old (λ k. ReachesClaim problem footer (final_of problem.root rows k) (row_at rows k).end) old.reached stands.witnessed.reached (noted.reached.0 holds);
      touched = λ holds. by_old (λ k. TouchesBound problem footer (final_of problem.root rows k) (row_at rows k).end) old.touched stands.witnessed.touched (noted.touched.0 holds);
      passed = λ holds. by_old (λ k. PassesBound problem footer (final_of problem.root rows k) (row_at rows k).end) old.passed stands.witnessed.passed (noted.passed.0 holds);
    }
      where
        by_old : (P : ℕ → Type 0) (flag : Bool) → (flag ≡ true → HasRow rows P) → (flag ≡ true) ⊎ P i → HasRow rows P
        by_old P flag has (inl holds) = has holds
        by_old P flag has (inr is) = (i, here.exists, is)

    -- its sides
    begins : (cut : Cut) (j : ℕ) (side : Side) → (row_at rows i).end ≡ Split cut → IsSideOf rows i side j → handed final (Split cut) side ≡ start_of problem.root rows j
    begins cut j side split is =
        ap (λ x. handed x (Split cut) side) final_there
        ∙ ap (λ e. handed (final_of problem.root rows i) e side) (sym split)
        ∙ ap (λ (p : Option Parent). box_at problem.root rows p) (sym is.parent)

    half_inside : (cut : Cut) → IsCut final cut.cell Le cut.k → Inside (narrowed final cut.cell Le cut.k) problem.root × Inside (cut_away final cut.cell Le cut.k) problem.root
    half_inside cut is =
        let both = cuts_make_parts final cut.cell Le cut.k right.inside.is_box is in
        (parts_of_parts (narrowed final cut.cell Le cut.k) final problem.root both.0 right.inside, parts_of_parts (cut_away final cut.cell Le cut.k) final problem.root both.1 right.inside)

    not_split : (end : EndLine) → IsSplit end → ((cut : Cut) → ¬ end ≡ Split cut) → ⊥
    not_split (Split cut) is isnt = isnt cut refl
    not_split end is isnt = is

    childless : ((cut : Cut) → ¬ (row_at rows i).end ≡ Split cut) → (k : ℕ) (p : Option Parent) → Hangs rows k p → (side : Side) → p ≡ side_of i side → ⊥
    childless none k p hangs side is =
        let there : Hangs rows k (side_of i side) = subst (λ (q : Option Parent). Hangs rows k q) is hangs in
        not_split (row_at rows i).end there.split none

    pub stands_right : (after : List RowStart) → GoesOn rows i final before after → WalkStands problem rows footer after least new
    stands_right _ (leaf none) = record {
      begin = stands.begin.1;
      covers = all_next rows ordered (IsSettledRow problem rows footer least old) (IsSettledRow problem rows footer least new) i (rows_in before) (rows_in before) stands.covers kept settled_here (λ k is. is)
          (λ k exists child. absurd (childless none k (row_at rows k).parent (ordered k exists) child.side child.is));
      found = stands.found;
      witnessed = witnessed;
    }
    stands_right _ (parts cut low high split is_cut is_low is_high) = record {
      begin = (
        record { exists = is_low.exists; is = begins cut low Le split is_low; inside = (half_inside cut is_cut).0 },
        (record { exists = is_high.exists; is = begins cut high Ge split is_high; inside = (half_inside cut is_cut).1 }, stands.begin.1),
      );
      covers = all_next rows ordered (IsSettledRow problem rows footer least old) (IsSettledRow problem rows footer least new) i (rows_in before) (low ∷ high ∷ rows_in before) stands.covers kept settled_here
          (λ k is. inr (inr is)) (λ k exists child. by_side k exists child.side child.is);
      found = stands.found;
      witnessed = witnessed;
    }
      where
        by_side : (k : ℕ) → k < length rows → (side : Side) → (row_at rows k).parent ≡ side_of i side → IsAmong k (low ∷ high ∷ rows_in before)
        by_side k exists Le is = inl (same_child rows ordered k low i Le exists is_low.exists is is_low.parent)
        by_side k exists Ge is = inr (inl (same_child rows ordered k high i Ge exists is_high.exists is is_high.parent))

-- what is left weighs less
power_some : (a : ℕ) → 0 < 3 ^ a
power_some zero = omega arith
power_some (suc a) = omega (arith, power_some a)

power_more : (a b : ℕ) → a ≤ b → 3 ^ a ≤ 3 ^ b
power_more zero b less = power_some b
power_more (suc a) zero less = absurd (omega (arith, less))
power_more (suc a) (suc b) less = omega (arith, power_more a b (omega (arith, less)))

halved : (n at low high : ℕ) → at < low → at < high → low < n → high < n → 3 ^ (n - low) + 3 ^ (n - high) < 3 ^ (n - at)
halved n at low high before_low before_high exists_low exists_high =
    let up : 3 ^ suc (n - suc at) ≤ 3 ^ (n - at) = power_more (suc (n - suc at)) (n - at) (omega (arith, before_low, exists_low)) in
    omega (arith, up, power_some (n - suc at), power_more (n - low) (n - suc at) (omega (arith, before_low, exists_low)), power_more (n - high) (n - suc at) (omega (arith, before_high, exists_high)))

pub lighter_wrong : (n i : ℕ) (b : Box) (before : List RowStart) → work_left n before < work_left n (starts_at i b ∷ before)
lighter_wrong n i b before = omega (arith, power_some (n - i))

pub lighter_right : (rows : List Row) (i : ℕ) (b final : Box) (before after : List RowStart) → AreOrdered rows → GoesOn rows i final before after → work_left (length rows) after < work_left (length rows) (starts_at i b ∷ before)
lighter_right rows i b final before _ ordered (leaf none) = lighter_wrong (length rows) i b before
lighter_right rows i b final before _ ordered (parts cut low high split is_cut is_low is_high) =
    let less = halved (length rows) i low high (side_later rows ordered i low Le is_low) (side_later rows ordered i high Ge is_high) is_low.exists is_high.exists in omega (arith, less)
