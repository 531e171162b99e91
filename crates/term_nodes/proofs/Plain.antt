-- A term of cells alone that is Always defined over the root has nothing but cells over each box inside it.
use Rattle.std.proofs.Common.{◌≡◌, ℕ, ℤ, pos, Bool, true, false, ◌&&◌, refl, ap, subst, sym, ◌∙◌}
use Rattle.box_problem.specs.Box.{Box, IsBox, Inside}
use Rattle.box_problem.proofs.Shared.{lows_inside}
use Rattle.term_language.specs.declared.answers.Defined.{Defined}
use Rattle.term_language.specs.declared.answers.Defined.TheVariants.{Never, Maybe, Always}
use Rattle.term_language.specs.Ends as ends
use Rattle.term_language.specs.Marks.{is_always}
use Rattle.term_language.specs.Terms.{Term}
use Rattle.term_language.specs.Rules.{Reading, Near, Wide, form, atoms, mark, truth}
use Rattle.term_language.specs.Laws.{IsProper, Sharper}
use Rattle.term_language.proofs.FormValues.{and_first, and_second}
use Rattle.term_language.proofs.Layers.{IsClear}
use Rattle.term_language.proofs.Marks.{is_always_of}
use Rattle.term_language.proofs.Soundness.{read}
use Rattle.term_language.proofs.Sharpening.{narrow}
use Rattle.term_math.specs.Shown.{box_in, ends_of}
use Rattle.term_nodes.specs.declared.items.Item.{Item}
use Rattle.term_nodes.specs.declared.evaluation.Evaluator.{Evaluator}
use Rattle.term_nodes.specs.Things.{Thing, cond_at, cond_in, term_in, term_at, thing_of, things}
use Rattle.term_nodes.specs.Built as built
use Rattle.term_nodes.specs.Built.{IsAt}
use Rattle.term_nodes.specs.Seen.{CanRead, IsReady, Sight, by_width, reading_of, sight}

always_of : (m : Defined) → Sharper m Always → m ≡ Always
always_of Never sharper = elim sharper [ ]
always_of Maybe sharper = elim sharper [ ]
always_of Always sharper = refl

clear_sight : (a : ends.Ends) (m : Defined) → IsClear a → m ≡ Always → (◌≡◌ {A = Sight}) (record { ends = a; mark = m }) (record { ends = ends.exactly (pos 0); mark = Always })
clear_sight a m clear always =
    (ap (λ (z : ℤ). record { ends = ends.ends z a.high; mark = m }) clear.low)
    ∙ ap (λ (z : ℤ). record { ends = ends.ends (pos 0) z; mark = m }) clear.high
    ∙ ap (λ (n : Defined). record { ends = ends.exactly (pos 0); mark = n }) always

pub plain_sight : (reading : Reading) (root b : Box) (t : Term) → IsBox root → Inside b root → IsProper t → (form root t).plain ≡ true → mark Wide root root t ≡ Always → sight reading root b t
    ≡ record { ends = ends.exactly (pos 0); mark = Always }
plain_sight reading root b t is_box inside proper plain always =
    let sharper : Sharper (mark reading root b t) (mark Wide root root t) = (narrow reading root b root t is_box inside proper).sharper in
    clear_sight (atoms reading root b t) (mark reading root b t) ((read reading root b b.lows t inside.is_box (lows_inside b inside.is_box) proper).clear plain)
    (always_of (mark reading root b t) (subst (Sharper (mark reading root b t)) always sharper))

pub plain_seen : (here : Evaluator) (id : _) (item : Item) → CanRead here → IsAt (box_in here.root) (things here.items.now) id item → (item.facts.form.plain && is_always item.facts.wide_mark)
    ≡ true → sight (reading_of here) (box_in here.root) (box_in here.view) (term_at (things here.items.now) id) ≡ record { ends = ends.exactly (pos 0); mark = Always }
plain_seen here id item ready at plain =
    let root = box_in here.root in
    let t : Term = term_in (thing_of (things here.items.now) item.node) in
    let cells : (form root t).plain ≡ true = sym (ap (λ (f : built.Facts). f.form.plain) at.kept) ∙ and_first item.facts.form.plain (is_always item.facts.wide_mark) plain in
    let always : mark Wide root root t ≡ Always = sym (ap (λ (f : built.Facts). f.wide_mark) at.kept)
    ∙ is_always_of item.facts.wide_mark (and_second item.facts.form.plain (is_always item.facts.wide_mark) plain) in
    ap (λ (thing : Thing). sight (reading_of here) root (box_in here.view) (term_in thing)) at.thing
    ∙ plain_sight (reading_of here) root (box_in here.view) t ready.root_is_box ready.inside at.sound.term.proper cells always

-- by the wide reading, what is kept of a node says what it is over the root
module _ (here : Evaluator) (id : ℕ) (item : Item) (ready : CanRead here) (at : IsAt (box_in here.root) (things here.items.now) id item) (wide : here.wide ≡ true) where
  pub wide_seen : (◌≡◌ {A = Sight}) (record { ends = ends_of item.facts.wide; mark = item.facts.wide_mark }) (sight (reading_of here) (box_in here.root) (box_in here.view) (term_at (things here.items.now) id))
  wide_seen =
      ap (λ (f : built.Facts). record { ends = f.wide; mark = f.wide_mark }) at.kept
      ∙ ap (λ (thing : Thing). sight Wide (box_in here.root) (box_in here.root) (term_in thing)) (sym at.thing)
      ∙ ap (λ (b : Box). sight Wide (box_in here.root) b (term_at (things here.items.now) id)) (sym (ready.whole wide))
      ∙ ap (λ (w : Bool). sight (by_width w) (box_in here.root) (box_in here.view) (term_at (things here.items.now) id)) (sym wide)

  pub wide_truth : item.facts.truth ≡ truth (reading_of here) (box_in here.root) (box_in here.view) (cond_at (things here.items.now) id)
  wide_truth =
      ap (λ (f : built.Facts). f.truth) at.kept
      ∙ ap (λ (thing : Thing). truth Wide (box_in here.root) (box_in here.root) (cond_in thing)) (sym at.thing)
      ∙ ap (λ (b : Box). truth Wide (box_in here.root) b (cond_at (things here.items.now) id)) (sym (ready.whole wide))
      ∙ ap (λ (w : Bool). truth (by_width w) (box_in here.root) (box_in here.view) (cond_at (things here.items.now) id)) (sym wide)

pub is_near : (here : Evaluator) → here.wide ≡ false → reading_of here ≡ Near
is_near here near = ap by_width near

-- as it is seen from outside
pub can_read : (here : Evaluator) → IsReady here → CanRead here
can_read here ready = record {
  built = ready.built;
  root_is_box = ready.root_is_box;
  inside = ready.inside;
  whole = λ wide. absurd (wide_near here.wide wide ready.near);
}
  where
    wide_near : (w : Bool) → w ≡ true → w ≡ false → ⊥
    wide_near w is not = cc
