-- A step of a walk.
use Rattle.std.proofs.Common.{◌≡◌, ◌∙◌, ◌<◌, ℕ, Bool, true, List, length, reverse, vec_capacity, Some, refl, sym, ap, subst, arith}
use Rattle.box_store.specs.Store.{Mark}
use Rattle.log_check.specs.declared.tally.Tally.{Tally}
use Rattle.log_check.specs.declared.view.LogView.{LogView}
use Rattle.log_check.specs.declared.walk.Walk.{Walk}
use Rattle.log_check.specs.Judged.{IsRightHere}
use Rattle.log_check.specs.Views.{IsLogView, checked_problem}
use Rattle.log_check.specs.Walks.{GoesOn, IsWrongHere, RowStart, WalkStands, earlier_line, work_left}
use Rattle.log_check.specs.Waiting.{HasGone, HasStepped, TakesNext, WaitsWell, before_it, oldest, rows_waiting, waiting_at}
use Rattle.log_check.proofs.Standing.{lighter_right, lighter_wrong, stands_right, stands_wrong}
use Rattle.log_check.proofs.Waiting.{takes_well}

pub step_wrong : (view : LogView) (old new : Walk) (more : Bool) (line : ℕ) (marks : List Mark) (tally : Tally) → IsLogView view → WaitsWell view.rows.now old → marks ≡ old.store.marks → tally ≡ old.tally
    → IsWrongHere (checked_problem view) view.rows.now view.footer.now old.at old.store.box line → TakesNext (reverse old.later.items) marks more new → vec_capacity new.later ≡ vec_capacity old.later
    → new.least ≡ Some (earlier_line old.least (record { node = old.at; line = line })) → new.tally ≡ tally → HasStepped view old more new
step_wrong view old new more line marks tally ready waits same_marks same_tally wrong takes capacity least kept =
    let well = takes_well view.rows.now (reverse old.later.items) old.store.marks more new waits.sides (subst (λ (list : List Mark). TakesNext (reverse old.later.items) list more new) same_marks takes) in
    record {
      stands = λ stands.
          subst (λ t. WalkStands (checked_problem view) view.rows.now view.footer.now (before_it more new) new.least t) (sym (kept ∙ same_tally))
          (subst (λ l. WalkStands (checked_problem view) view.rows.now view.footer.now (before_it more new) l old.tally) (sym least)
          (subst (λ (list : List RowStart). WalkStands (checked_problem view) view.rows.now view.footer.now list (Some (earlier_line old.least (record { node = old.at; line = line }))) old.tally) well.before
          (stands_wrong (checked_problem view) view.rows.now view.footer.now ready.ordered old.at old.store.box (rows_waiting old) old.least old.tally (record { node = old.at; line = line }) refl stands wrong)));
      lighter = subst (λ (list : List RowStart). work_left (length view.rows.now) list < work_left (length view.rows.now) (before_it true old)) well.before (lighter_wrong (length view.rows.now) old.at old.store.box (rows_waiting old));
      waits = record { sides = well.sides; capacity = omega (arith, waits.capacity, capacity) };
      fits = well.fits;
      oldest_is = well.oldest_is;
      capacity_is = capacity;
    }

pub step_right : (view : LogView) (old mid new : Walk) (more : Bool) → IsLogView view → mid.at ≡ old.at → mid.later ≡ old.later → mid.store.marks ≡ old.store.marks → mid.least ≡ old.least
    → IsRightHere (checked_problem view) view.rows.now view.footer.now old.at old.store.box mid.store.box old.tally mid.tally → HasGone view.rows.now mid more new → HasStepped view old more new
step_right view old mid new more ready at later marks least right gone = record {
  stands = λ stands.
      subst (λ t. WalkStands (checked_problem view) view.rows.now view.footer.now (before_it more new) new.least t) (sym gone.tally_is)
      (subst (λ l. WalkStands (checked_problem view) view.rows.now view.footer.now (before_it more new) l mid.tally) (sym (gone.least_is ∙ least))
      (stands_right (checked_problem view) view.rows.now view.footer.now ready.ordered old.at old.store.box mid.store.box (rows_waiting old) old.least old.tally mid.tally stands right (before_it more new) goes));
  lighter = lighter_right view.rows.now old.at old.store.box mid.store.box (rows_waiting old) (before_it more new) ready.ordered goes;
  waits = gone.waits;
  fits = gone.fits;
  oldest_is = gone.oldest_is ∙ ap oldest marks;
  capacity_is = gone.capacity_is ∙ ap vec_capacity later;
}
  where
    same : rows_waiting mid ≡ rows_waiting old
    same = ap (λ v. waiting_at (reverse v.items) mid.store.marks) later ∙ ap (waiting_at (reverse old.later.items)) marks

    goes : GoesOn view.rows.now old.at mid.store.box (rows_waiting old) (before_it more new)
    goes = subst (λ n. GoesOn view.rows.now n mid.store.box (rows_waiting old) (before_it more new)) at (subst (λ (list : List RowStart). GoesOn view.rows.now mid.at mid.store.box list (before_it more new)) same gone.goes)
