-- Boxes that agree on cells, at the ends of one cell.
use Rattle.std.proofs.Common.{◌≡◌, inl, inr, ℕ, ◌<◌, ℤ, pos, List, length, Option, None, Some, get_or, set, length-set, sym, ap, subst, ◌∙◌, arith}
use Rattle.std.proofs.lemmas.Bool.{cases_eq}
use Rattle.std.proofs.lemmas.Int.{ints}
use Rattle.std.proofs.Math.Seq.{get_or-set_same, get_or-set_other}
use Rattle.sopl_base.specs.declared.reason.Reason.{Reason}
use Rattle.box_problem.specs.Box.{Box, Inside, IsBox, high, low, with_high, with_low}
use Rattle.box_problem.specs.BoxProblem.{BoxProblem}
use Rattle.box_problem.specs.Rightness.{Quiets}
use Rattle.box_problem.proofs.Boxes.{parts_of_parts}
use Rattle.box_problem.proofs.Cuts.{high_lowered, low_raised}
use Rattle.prop_core.specs.Watches.{AgreeOnCells, HasRested, LooksAt}

in_order : (b : Box) (cell : ℕ) → IsBox b → cell < length b.lows → Inside (with_high b cell (low b cell)) b × Inside (with_low b cell (high b cell)) b
in_order b cell is exists =
    (high_lowered b cell (low b cell) is exists (omega (arith, ints)) (is.ordered cell exists), low_raised b cell (high b cell) is exists (is.ordered cell exists) (omega (arith, ints)))

-- of one cell another end
set_agrees : (xs ys : List ℤ) (cell k : ℕ) (x y : ℤ) → length xs ≡ length ys → cell < length xs → get_or xs k (pos 0) ≡ get_or ys k (pos 0) → (k ≡ cell → x ≡ y)
    → get_or (set xs cell x) k (pos 0) ≡ get_or (set ys cell y) k (pos 0)
set_agrees xs ys cell k x y as_long exists before same =
    elim (cases_eq k cell) [
      | inl is ↦ ap (λ (i : ℕ). get_or (set xs cell x) i (pos 0)) is
          ∙ (get_or-set_same xs cell x (pos 0) exists ∙ (same is ∙ (sym (get_or-set_same ys cell y (pos 0) (omega (arith, exists, as_long)))
          ∙ sym (ap (λ (i : ℕ). get_or (set ys cell y) i (pos 0)) is))))
      | inr other ↦ get_or-set_other xs cell k x (pos 0) other ∙ (before ∙ sym (get_or-set_other ys cell k y (pos 0) other))
    ]

low_end_agrees : (cells : List ℕ) (b c : Box) (cell : ℕ) → AgreeOnCells cells b c → IsBox b → cell < length b.lows
    → AgreeOnCells cells (with_high b cell (low b cell)) (with_high c cell (low c cell))
low_end_agrees cells b c cell agree is exists = record {
  as_long = record {
    lows = agree.as_long.lows;
    highs = length-set b.highs cell (low b cell) ∙ (agree.as_long.highs ∙ sym (length-set c.highs cell (low c cell)));
  };
  lows = agree.lows;
  highs = λ k has. set_agrees b.highs c.highs cell k (low b cell) (low c cell) agree.as_long.highs (omega (arith, exists, is.paired)) (agree.highs k has)
      (λ same. subst (λ (i : ℕ). low b i ≡ low c i) same (agree.lows k has));
}

high_end_agrees : (cells : List ℕ) (b c : Box) (cell : ℕ) → AgreeOnCells cells b c → cell < length b.lows
    → AgreeOnCells cells (with_low b cell (high b cell)) (with_low c cell (high c cell))
high_end_agrees cells b c cell agree exists = record {
  as_long = record {
    lows = length-set b.lows cell (high b cell) ∙ (agree.as_long.lows ∙ sym (length-set c.lows cell (high c cell)));
    highs = agree.as_long.highs;
  };
  lows = λ k has. set_agrees b.lows c.lows cell k (high b cell) (high c cell) agree.as_long.lows exists (agree.lows k has)
      (λ same. subst (λ (i : ℕ). high b i ≡ high c i) same (agree.highs k has));
  highs = agree.highs;
}

-- nothing more is found on the one where nothing more is found on the other
pub stays_quiet : (problem : BoxProblem) (reasons : List Reason) (cells : List ℕ) (v : Option ℤ) (b c : Box) → LooksAt problem reasons cells → Inside b problem.root → Inside c problem.root
    → AgreeOnCells cells b c → Quiets problem reasons v b → Quiets problem reasons v c
stays_quiet problem reasons cells v b c looks b_in c_in agree quiet = record {
  whole = λ reason own. sym (looks b c v reason b_in c_in agree own) ∙ quiet.whole reason own;
  at_low = λ reason cell own below.
      let exists : cell < length b.lows = omega (arith, below, agree.as_long.lows) in
      sym (looks (with_high b cell (low b cell)) (with_high c cell (low c cell)) v reason
      (parts_of_parts _ b problem.root (in_order b cell b_in.is_box exists).0 b_in) (parts_of_parts _ c problem.root (in_order c cell c_in.is_box below).0 c_in)
      (low_end_agrees cells b c cell agree b_in.is_box exists) own)
      ∙ quiet.at_low reason cell own exists;
  at_high = λ reason cell own below.
      let exists : cell < length b.lows = omega (arith, below, agree.as_long.lows) in
      sym (looks (with_low b cell (high b cell)) (with_low c cell (high c cell)) v reason
      (parts_of_parts _ b problem.root (in_order b cell b_in.is_box exists).1 b_in) (parts_of_parts _ c problem.root (in_order c cell c_in.is_box below).1 c_in)
      (high_end_agrees cells b c cell agree exists) own)
      ∙ quiet.at_high reason cell own exists;
}

pub rested_alike : (problem : BoxProblem) (reasons : List Reason) (cells : List ℕ) (rested : Option (Option ℤ)) (b c : Box) → LooksAt problem reasons cells → Inside b problem.root
    → Inside c problem.root → AgreeOnCells cells b c → HasRested problem reasons rested b → HasRested problem reasons rested c
rested_alike problem reasons cells None b c looks b_in c_in agree rested = rested
rested_alike problem reasons cells (Some v) b c looks b_in c_in agree rested = stays_quiet problem reasons cells v b c looks b_in c_in agree rested
