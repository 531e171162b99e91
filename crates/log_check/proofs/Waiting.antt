-- The sides that wait.
use Rattle.std.proofs.Common.{◌≡◌, ◌∙◌, ◌<◌, ◌≤◌, ◌+◌, ℕ, Bool, true, false, List, [], ◌∷◌, length, drop, get_or, reverse, vec_capacity, Option, None, Some, refl, sym, ap, subst, arith}
use Rattle.sopl_base.specs.declared.reason.Side.TheVariants.{Le, Ge}
use Rattle.box_problem.specs.Box.{Box}
use Rattle.box_problem.specs.Steps.{IsCut, cut_away}
use Rattle.box_store.specs.Store.{Mark, Store, IsUndone}
use Rattle.log_check.specs.declared.walk.WaitingSide.{WaitingSide}
use Rattle.log_check.specs.declared.walk.Walk.{Walk}
use Rattle.std.proofs.lemmas.List.{length-reverse}
use Rattle.log_rows.specs.declared.rows.Cut.{Cut}
use Rattle.log_rows.specs.declared.rows.Row.{Row}
use Rattle.log_rows.specs.declared.rows.EndLine.{EndLine}
use Rattle.log_rows.specs.declared.rows.EndLine.TheVariants.{Refuted, Split, Point, Unfinished}
use Rattle.log_rows.specs.declared.rows.Footer.{Footer}
use Rattle.log_rows.specs.Rows.{no_row, row_at, AreOrdered}
use Rattle.log_rows.specs.Accepted.{RightEnd, RightSplit, HasSide}
use Rattle.box_problem.specs.BoxProblem.{BoxProblem}
use Rattle.std.proofs.lemmas.List.{get_or_default}
use Rattle.box_problem.specs.Steps.{narrowed}
use Rattle.log_check.specs.declared.sides.Sides.{Sides}
use Rattle.log_check.specs.Sides.{AreSides, IsSideOf, side_row, sides_at}
use Rattle.log_check.specs.Walks.{GoesOn, RowStart, leaf, lines_of, parts, starts_at}
use Rattle.log_check.specs.Waiting.{AllCut, AllHaveRoom, HasRoomIfMore, HasGone, HasRoomHere, TakesNext, WaitsWell, before_it, cut_in, oldest, rows_waiting, waiting_at}
use Rattle.log_check.proofs.Lines.{left_falls}
use Rattle.log_check.proofs.Standing.{side_later}

pub next_none : (sides : List WaitingSide) (marks : List Mark) (new : Walk) → sides ≡ [] → new.later.items ≡ [] → new.store.marks ≡ marks → TakesNext sides marks false new
next_none sides marks new none later are = subst (λ (list : List WaitingSide). TakesNext list marks false new) (sym none) (record { more_is = refl; later = later; marks_are = are })

pub is_marked : (all sides : List WaitingSide) (side : WaitingSide) (marks : List Mark) → all ≡ side ∷ sides → AllCut all marks → 0 < length marks
is_marked all sides side marks is cuts = there marks (subst (λ (list : List WaitingSide). AllCut list marks) is cuts)
  where
    there : (ms : List Mark) → AllCut (side ∷ sides) ms → 0 < length ms
    there [] none = absurd none
    there (mark ∷ ms) cuts = omega arith

pub undone_cut : (all sides : List WaitingSide) (side : WaitingSide) (marks : List Mark) (store : Store) → all ≡ side ∷ sides → AllCut all marks → IsUndone marks store → IsCut store.box side.cut.cell Le side.cut.k
undone_cut all sides side marks store is cuts undone = there marks (subst (λ (list : List WaitingSide). AllCut list marks) is cuts) undone
  where
    there : (ms : List Mark) → AllCut (side ∷ sides) ms → IsUndone ms store → IsCut store.box side.cut.cell Le side.cut.k
    there [] none undone = absurd none
    there (mark ∷ ms) cuts undone = subst (λ (b : Box). IsCut b side.cut.cell Le side.cut.k) (sym undone.box) cuts.0.cut

pub undone_room : (all sides : List WaitingSide) (side : WaitingSide) (marks : List Mark) (store : Store) → all ≡ side ∷ sides → AllCut all marks → IsUndone marks store → 1 ≤ store.spare
undone_room all sides side marks store is cuts undone = there marks (subst (λ (list : List WaitingSide). AllCut list marks) is cuts) undone
  where
    there : (ms : List Mark) → AllCut (side ∷ sides) ms → IsUndone ms store → 1 ≤ store.spare
    there [] none undone = absurd none
    there (mark ∷ ms) cuts undone = omega (arith, cuts.0.room, undone.spare)

pub next_some : (all sides : List WaitingSide) (side : WaitingSide) (marks : List Mark) (store : Store) (new : Walk) → all ≡ side ∷ sides → AllCut all marks → IsUndone marks store
    → new.at ≡ side.row → reverse new.later.items ≡ sides → new.store.marks ≡ store.marks → new.store.box ≡ cut_away store.box side.cut.cell Le side.cut.k → new.store.spare + 1 ≡ store.spare → TakesNext all marks true new
next_some all sides side marks store new is cuts undone at later are half spare =
    subst (λ (list : List WaitingSide). TakesNext list marks true new) (sym is) (there marks (subst (λ (list : List WaitingSide). AllCut list marks) is cuts) undone)
  where
    there : (ms : List Mark) → AllCut (side ∷ sides) ms → IsUndone ms store → TakesNext (side ∷ sides) ms true new
    there [] none undone = absurd none
    there (mark ∷ ms) cuts undone = record {
      more_is = refl;
      at = at;
      later = later;
      marks_are = are ∙ undone.marks;
      half = half ∙ ap (λ (b : Box). cut_away b side.cut.cell Le side.cut.k) undone.box;
      room = omega (arith, undone.spare, spare);
    }

pub all_cut_of : (rows : List Row) (sides : List WaitingSide) (marks : List Mark) → AllHaveRoom rows sides marks → AllCut sides marks
all_cut_of rows [] marks all = tt
all_cut_of rows (side ∷ sides) [] all = all
all_cut_of rows (side ∷ sides) (mark ∷ marks) all = (record { cut = all.0.cut; room = omega (arith, all.0.room) }, all_cut_of rows sides marks all.1)

pub cuts_of : (rows : List Row) (walk : Walk) → WaitsWell rows walk → AllCut (reverse walk.later.items) walk.store.marks
cuts_of rows walk waits = all_cut_of rows (reverse walk.later.items) walk.store.marks waits.sides

-- there is an oldest mark
oldest_below : (rows : List Row) (sides : List WaitingSide) (mark : Mark) (marks : List Mark) → AllHaveRoom rows sides marks → oldest (mark ∷ marks) ≡ oldest marks
oldest_below rows [] mark [] all = absurd all
oldest_below rows [] mark (first ∷ marks) all = refl
oldest_below rows (side ∷ sides) mark [] all = absurd all
oldest_below rows (side ∷ sides) mark (first ∷ marks) all = refl

-- where an end splits
pub no_split : (end : EndLine) → cut_in end ≡ None → (cut : Cut) → ¬ end ≡ Split cut
no_split end none cut is = let clash : Some cut ≡ None = sym (ap cut_in is) ∙ none in absurd (cc)

pub is_split : (end : EndLine) (cut : Cut) → cut_in end ≡ Some cut → end ≡ Split cut
is_split (Refuted reason) cut is = absurd (cc)
is_split (Split one) cut is = ap Split (inside is)
  where
    inside : {a b : Cut} → Some a ≡ Some b → a ≡ b
    inside e = cc
is_split Point cut is = absurd (cc)
is_split Unfinished cut is = absurd (cc)

-- what a walk that takes the next side has before it
pub record TakesWell (rows : List Row) (old : List RowStart) (marks : List Mark) (more : Bool) (new : Walk) : Type 0 where
  pub before : old ≡ before_it more new
  pub sides : AllHaveRoom rows (reverse new.later.items) new.store.marks
  pub fits : HasRoomIfMore rows more new
  pub oldest_is : oldest new.store.marks ≡ oldest marks

pub takes_well : (rows : List Row) (sides : List WaitingSide) (marks : List Mark) (more : Bool) (new : Walk) → AllHaveRoom rows sides marks → TakesNext sides marks more new → TakesWell rows (waiting_at sides marks) marks more new
takes_well rows [] [] more new all takes = absurd all
takes_well rows [] (mark ∷ []) more new all takes = record {
  before = ap (λ m. before_it m new) (sym takes.more_is);
  sides = subst (λ (list : List WaitingSide). AllHaveRoom rows (reverse list) new.store.marks) (sym takes.later) (subst (AllHaveRoom rows []) (sym takes.marks_are) tt);
  fits = subst (λ m. HasRoomIfMore rows m new) (sym takes.more_is) takes.later;
  oldest_is = ap oldest takes.marks_are;
}
takes_well rows [] (mark ∷ other ∷ marks) more new all takes = absurd all
takes_well rows (side ∷ sides) [] more new all takes = absurd all
takes_well rows (side ∷ sides) (mark ∷ marks) more new all takes = record {
  before = ap (λ (list : List RowStart). starts_at side.row (cut_away mark.box side.cut.cell Le side.cut.k) ∷ list) same ∙ ap (λ (s : RowStart). s ∷ rows_waiting new) start ∙ ap (λ m. before_it m new) (sym takes.more_is);
  sides = subst (λ (list : List WaitingSide). AllHaveRoom rows list new.store.marks) (sym takes.later) (subst (AllHaveRoom rows sides) (sym takes.marks_are) all.1);
  fits = subst (λ m. HasRoomIfMore rows m new) (sym takes.more_is) here;
  oldest_is = ap oldest takes.marks_are ∙ sym (oldest_below rows sides mark marks all.1);
}
  where
    same : waiting_at sides marks ≡ rows_waiting new
    same = ap (λ (list : List WaitingSide). waiting_at list marks) (sym takes.later) ∙ ap (waiting_at (reverse new.later.items)) (sym takes.marks_are)

    start : starts_at side.row (cut_away mark.box side.cut.cell Le side.cut.k) ≡ starts_at new.at new.store.box
    start = ap (λ n. starts_at n (cut_away mark.box side.cut.cell Le side.cut.k)) (sym takes.at) ∙ ap (starts_at new.at) (sym takes.half)

    here : HasRoomHere rows new
    here = record {
      store = subst (λ n. lines_of (drop n rows) ≤ new.store.spare) (sym takes.at) (omega (arith, all.0.room, takes.room));
      place = omega (arith, length-reverse new.later.items, ap length takes.later, all.0.place, takes.at);
    }

-- behind a row that is not split
pub gone_next : (rows : List Row) (old new : Walk) (more : Bool) → cut_in (row_at rows old.at).end ≡ None → WaitsWell rows old → TakesNext (reverse old.later.items) old.store.marks more new
    → vec_capacity new.later ≡ vec_capacity old.later → new.least ≡ old.least → new.tally ≡ old.tally → HasGone rows old more new
gone_next rows old new more none waits takes capacity least tally =
    let well = takes_well rows (reverse old.later.items) old.store.marks more new waits.sides takes in
    record {
      goes = subst (GoesOn rows old.at old.store.box (rows_waiting old)) well.before (leaf (no_split (row_at rows old.at).end none));
      waits = record { sides = well.sides; capacity = omega (arith, waits.capacity, capacity) };
      fits = well.fits;
      oldest_is = well.oldest_is;
      capacity_is = capacity;
      least_is = least;
      tally_is = tally;
    }

-- behind a row that is split
pub gone_split : (rows : List Row) (old new : Walk) (cut : Cut) (low high : ℕ) → AreOrdered rows → cut_in (row_at rows old.at).end ≡ Some cut → IsCut old.store.box cut.cell Le cut.k → IsSideOf rows old.at Le low → IsSideOf rows old.at Ge high
    → WaitsWell rows old → 2 + lines_of (drop (old.at + 1) rows) ≤ old.store.spare → length old.later.items ≤ old.at
    → new.at ≡ low → reverse new.later.items ≡ (record { row = high; cut = cut }) ∷ reverse old.later.items → vec_capacity new.later ≡ vec_capacity old.later → new.store.box ≡ narrowed old.store.box cut.cell Le cut.k
    → new.store.marks ≡ (record { box = old.store.box; spare = old.store.spare }) ∷ old.store.marks → new.store.spare + 2 ≡ old.store.spare → new.least ≡ old.least → new.tally ≡ old.tally → HasGone rows old true new
gone_split rows old new cut low high ordered split is_cut is_low is_high waits room place at later capacity half marks spare least tally = record {
  goes = subst (GoesOn rows old.at old.store.box (rows_waiting old)) before (parts cut low high (is_split (row_at rows old.at).end cut split) is_cut is_low is_high);
  waits = record {
    sides = subst (λ (list : List WaitingSide). AllHaveRoom rows list new.store.marks) (sym later)
        (subst (AllHaveRoom rows (side ∷ reverse old.later.items)) (sym marks) (record { cut = is_cut; room = omega (arith, room, left_falls rows (old.at + 1) high (omega (arith, behind_high))); place = omega (arith, length-reverse old.later.items, place, behind_high) }, waits.sides));
    capacity = omega (arith, waits.capacity, capacity);
  };
  fits = record {
    store = subst (λ n. lines_of (drop n rows) ≤ new.store.spare) (sym at) (omega (arith, room, spare, left_falls rows (old.at + 1) low (omega (arith, behind_low))));
    place = omega (arith, length-reverse new.later.items, ap length later, length-reverse old.later.items, place, behind_low, at);
  };
  oldest_is = ap oldest marks ∙ oldest_below rows (reverse old.later.items) mark old.store.marks waits.sides;
  capacity_is = capacity;
  least_is = least;
  tally_is = tally;
}
  where
    side : WaitingSide
    side = record { row = high; cut = cut }

    mark : Mark
    mark = record { box = old.store.box; spare = old.store.spare }

    behind_low : old.at < low
    behind_low = side_later rows ordered old.at low Le is_low

    behind_high : old.at < high
    behind_high = side_later rows ordered old.at high Ge is_high

    before : starts_at low (narrowed old.store.box cut.cell Le cut.k) ∷ starts_at high (cut_away old.store.box cut.cell Le cut.k) ∷ rows_waiting old ≡ before_it true new
    before =
        ap (λ n. starts_at n (narrowed old.store.box cut.cell Le cut.k) ∷ starts_at high (cut_away old.store.box cut.cell Le cut.k) ∷ rows_waiting old) (sym at)
        ∙ ap (λ (b : Box). starts_at new.at b ∷ starts_at high (cut_away old.store.box cut.cell Le cut.k) ∷ rows_waiting old) (sym half)
        ∙ ap (λ (list : List Mark). starts_at new.at new.store.box ∷ waiting_at (side ∷ reverse old.later.items) list) (sym marks)
        ∙ ap (λ (list : List WaitingSide). starts_at new.at new.store.box ∷ waiting_at list new.store.marks) (sym later)

-- a right split has both its sides
pub side_is : (rows : List Row) (i j : ℕ) (sides : List Sides) (here : Sides) (side : _) → i < length rows → AreSides rows sides → here ≡ sides_at sides i → side_row here side ≡ Some j → IsSideOf rows i side j
side_is rows i j sides here side exists are at is =
    let told = are.are i j side exists (ap (λ s. side_row s side) (sym at) ∙ is) in
    record { exists = told.0; parent = told.1 }

pub side_there : (rows : List Row) (i : ℕ) (sides : List Sides) (here : Sides) (side : _) → i < length rows → AreSides rows sides → here ≡ sides_at sides i → HasSide rows i side → ¬ side_row here side ≡ None
side_there rows i sides here side exists are at has none =
    let told : side_row here side ≡ Some has.row = ap (λ s. side_row s side) at ∙ are.told i has.row side exists has.exists has.parent in
    let clash : Some has.row ≡ None = sym told ∙ none in absurd (cc)

-- the row at hand is split here, and rightly
pub cut_at : (rows : List Row) (i : ℕ) (r : Row) (found o : Option Cut) → i < length rows → found ≡ cut_in (get_or rows i r).end → found ≡ o → cut_in (row_at rows i).end ≡ o
cut_at rows i r found o exists told same = ap (λ (x : Row). cut_in x.end) (get_or_default rows i no_row r exists) ∙ sym told ∙ same

pub split_is_right : (problem : BoxProblem) (footer : Footer) (b : Box) (rows : List Row) (i : ℕ) (cut : Cut) → cut_in (row_at rows i).end ≡ Some cut → RightEnd problem footer b rows i (row_at rows i).end → RightSplit b rows i cut
split_is_right problem footer b rows i cut is right = subst (RightEnd problem footer b rows i) (is_split (row_at rows i).end cut is) right
