use Rattle.std.proofs.Common.{rules, ◌≡◌, ◌∙◌, ◌++◌, ◌∷◌, [], ℤ, reverse, sym, ap, subst, w64, SFits, to_z, of_z}
use Rattle.std.proofs.lemmas.Int.{to_z-of_z}
use Rattle.std.proofs.lemmas.List.{length-reverse}
use Rattle.box_problem.specs.Box.{Box, IsBox, with_low, with_high}
use Rattle.box_store.specs.declared.trail.Entry.TheVariants.{Low, High, Marked}
use Rattle.box_store.specs.Trail.{marks_of, changed_before, AreSound, HadRoom}
use Rattle.box_store.proofs.Trails.{newest, back_at_mark}
use Rattle.box_store.proofs.trail.back_to_mark.Goals as goal

pub changes-preserved-in-Low : goal.changes-preserved-in-Low
changes-preserved-in-Low c =
    let b : Box = record { lows = c.changes.lows; highs = c.changes.highs } in
    let is : c.changes.trail.items ≡ c.pop.new.self.items ++ Low c.in-Low.end ∷ [] = search rules in
    let fits : SFits w64 c.in-Low.end.k = search rules in
    let same : to_z w64 (of_z w64 c.in-Low.end.k) ≡ c.in-Low.end.k = to_z-of_z w64 c.in-Low.end.k fits in
    let popped : reverse c.changes.trail.items ≡ Low c.in-Low.end ∷ reverse c.pop.new.self.items = newest c.pop.new.self.items c.changes.trail.items (Low c.in-Low.end) is in
    let sound = subst (AreSound b) popped c.changes.invariant.sound in
    record {
      sound = subst (λ (z : ℤ). AreSound (with_low b c.in-Low.end.cell z) (reverse c.pop.new.self.items)) (sym same) sound.2;
      is_box = subst (λ (z : ℤ). IsBox (with_low b c.in-Low.end.cell z)) (sym same) sound.1;
      marks = ap (λ (z : ℤ). marks_of (with_low b c.in-Low.end.cell z) (reverse c.pop.new.self.items)) same ∙ (sym (ap (marks_of b) popped) ∙ c.changes.invariant.marks);
      room = λ most had. subst (HadRoom most) popped (c.changes.invariant.room most had);
      left = sym (ap changed_before popped) ∙ c.changes.invariant.left;
      capacity = c.pop.ensures.capacity ∙ c.changes.invariant.capacity;
    }

pub changes-preserved : goal.changes-preserved
changes-preserved c =
    let b : Box = record { lows = c.changes.lows; highs = c.changes.highs } in
    let is : c.changes.trail.items ≡ c.pop.new.self.items ++ High c.in-High.end ∷ [] = search rules in
    let fits : SFits w64 c.in-High.end.k = search rules in
    let same : to_z w64 (of_z w64 c.in-High.end.k) ≡ c.in-High.end.k = to_z-of_z w64 c.in-High.end.k fits in
    let popped : reverse c.changes.trail.items ≡ High c.in-High.end ∷ reverse c.pop.new.self.items = newest c.pop.new.self.items c.changes.trail.items (High c.in-High.end) is in
    let sound = subst (AreSound b) popped c.changes.invariant.sound in
    record {
      sound = subst (λ (z : ℤ). AreSound (with_high b c.in-High.end.cell z) (reverse c.pop.new.self.items)) (sym same) sound.2;
      is_box = subst (λ (z : ℤ). IsBox (with_high b c.in-High.end.cell z)) (sym same) sound.1;
      marks = ap (λ (z : ℤ). marks_of (with_high b c.in-High.end.cell z) (reverse c.pop.new.self.items)) same ∙ (sym (ap (marks_of b) popped) ∙ c.changes.invariant.marks);
      room = λ most had. subst (HadRoom most) popped (c.changes.invariant.room most had);
      left = sym (ap changed_before popped) ∙ c.changes.invariant.left;
      capacity = c.pop.ensures.capacity ∙ c.changes.invariant.capacity;
    }

pub returns-in-Marked-clause-undone : goal.returns-in-Marked-clause-undone
returns-in-Marked-clause-undone c =
    let is : c.changes.trail.items ≡ c.pop.new.self.items ++ Marked c.in-Marked.before ∷ [] = search rules in
    λ most had.
    back_at_mark (record { lows = c.changes.lows; highs = c.changes.highs }) c.in-Marked.before most _ (reverse c.changes.trail.items) (reverse c.pop.new.self.items) _
    (newest c.pop.new.self.items c.changes.trail.items (Marked c.in-Marked.before) is) c.changes.invariant.marks (c.pop.new.self.ok.0 ∙ sym (length-reverse c.pop.new.self.items))
    (c.changes.invariant.room most had)

pub returns-in-Marked-clause-room : goal.returns-in-Marked-clause-room
returns-in-Marked-clause-room c =
    let is : c.changes.trail.items ≡ c.pop.new.self.items ++ Marked c.in-Marked.before ∷ [] = search rules in
    λ most had. (subst (HadRoom most) (newest c.pop.new.self.items c.changes.trail.items (Marked c.in-Marked.before) is) (c.changes.invariant.room most had)).1
