use Rattle.std.proofs.Common.{rules, arith, ◌∙◌, sym, ap, subst, pos, w64, SFits, to_z, of_z}
use Rattle.std.proofs.lemmas.Int.{to_z-of_z}
use Rattle.std.proofs.lemmas.List.{length-set, get_or_default}
use Rattle.box_problem.specs.Box.{Box}
use Rattle.box_problem.specs.Steps.{IsCut}
use Rattle.box_store.specs.Store.{Store}
use Rattle.box_store.specs.Shown.{box_shown}
use Rattle.box_store.proofs.Trails.{sound_raised, sound_lowered, marks_raised, marks_lowered, raised_kept, lowered_kept, fewer_changes, raised_is_box, lowered_is_box}
use Rattle.box_store.proofs.store.BoxStore.tighten.Goals as goal

pub push_reserved-requires : goal.push_reserved-requires
push_reserved-requires c =
    let few = fewer_changes c.self.inside.changes.items c.self.inside.start c.self.inside.room c.self.inside.trail.items c.self.invariant.kept in
    omega (arith, c.requires.room, ap (λ (s : Store). s.spare) c.self.view_is, few, c.self.inside.changes.ok.0, c.self.inside.trail.ok.0, c.self.invariant.changes_room)

pub invariant_of-self : goal.invariant_of-self
invariant_of-self c =
    let b : Box = box_shown c.self.inside in
    let cut : IsCut b c.args.cell c.args.side c.args.k = subst (λ (s : Store). IsCut s.box c.args.cell c.args.side c.args.k) (sym c.self.view_is) c.requires.cut in
    let fits : SFits w64 c.index.result.now = search rules in
    record {
      few = c.self.invariant.few;
      is_box = lowered_is_box b c.args.cell c.args.side c.args.k _ c.self.invariant.is_box cut c.in-Le.is (to_z-of_z w64 c.args.k c.ranges.k);
      trail = sound_lowered b c.args.cell (to_z w64 (of_z w64 c.args.k)) _ c.self.inside.trail.items c.push_reserved-in-Le.new.self.items
          (to_z-of_z w64 c.index.result.now fits ∙ (c.index.ensures
          ∙ get_or_default c.self.inside.highs.items c.args.cell c.index.result.now (pos 0) (omega (arith, c.self.invariant.is_box.paired, cut.exists)))) c.push_reserved-in-Le.ensures.items
          cut.exists c.self.invariant.is_box c.self.invariant.trail;
      kept = lowered_kept _ _ _ _ _ _ _ c.push_reserved.ensures.items c.push_reserved-in-Le.ensures.items c.self.invariant.kept;
      trail_room = omega (arith, c.push_reserved-in-Le.ensures.capacity, c.self.invariant.trail_room);
      changes_room = omega (arith, c.push_reserved.ensures.capacity, c.self.invariant.changes_room);
    }

pub invariant_of-self-in-Ge : goal.invariant_of-self-in-Ge
invariant_of-self-in-Ge c =
    let b : Box = box_shown c.self.inside in
    let cut : IsCut b c.args.cell c.args.side c.args.k = subst (λ (s : Store). IsCut s.box c.args.cell c.args.side c.args.k) (sym c.self.view_is) c.requires.cut in
    let fits : SFits w64 c.index-in-Ge.result.now = search rules in
    record {
      few = omega (arith, length-set c.self.inside.lows.items c.args.cell (to_z w64 (of_z w64 c.args.k)), c.self.invariant.few);
      is_box = raised_is_box b c.args.cell c.args.side c.args.k _ c.self.invariant.is_box cut c.in-Ge.is (to_z-of_z w64 c.args.k c.ranges.k);
      trail = sound_raised b c.args.cell (to_z w64 (of_z w64 c.args.k)) _ c.self.inside.trail.items c.push_reserved-in-Ge.new.self.items
          (to_z-of_z w64 c.index-in-Ge.result.now fits ∙ (c.index-in-Ge.ensures ∙ get_or_default c.self.inside.lows.items c.args.cell c.index-in-Ge.result.now (pos 0) cut.exists))
          c.push_reserved-in-Ge.ensures.items cut.exists c.self.invariant.is_box c.self.invariant.trail;
      kept = raised_kept _ _ _ _ _ _ _ c.push_reserved.ensures.items c.push_reserved-in-Ge.ensures.items c.self.invariant.kept;
      trail_room = omega (arith, c.push_reserved-in-Ge.ensures.capacity, c.self.invariant.trail_room);
      changes_room = omega (arith, c.push_reserved.ensures.capacity, c.self.invariant.changes_room);
    }

pub returns-in-Le-clause-same_marks : goal.returns-in-Le-clause-same_marks
returns-in-Le-clause-same_marks c =
    let cut : IsCut (box_shown c.self.inside) c.args.cell c.args.side c.args.k = subst (λ (s : Store). IsCut s.box c.args.cell c.args.side c.args.k) (sym c.self.view_is) c.requires.cut in
    let fits : SFits w64 c.index.result.now = search rules in
    marks_lowered (box_shown c.self.inside) c.args.cell (to_z w64 (of_z w64 c.args.k)) _ c.self.inside.trail.items c.push_reserved-in-Le.new.self.items
    (to_z-of_z w64 c.index.result.now fits
    ∙ (c.index.ensures ∙ get_or_default c.self.inside.highs.items c.args.cell c.index.result.now (pos 0) (omega (arith, c.self.invariant.is_box.paired, cut.exists))))
    c.push_reserved-in-Le.ensures.items ∙ ap (λ (s : Store). s.marks) c.self.view_is

pub returns-in-Ge-clause-same_marks : goal.returns-in-Ge-clause-same_marks
returns-in-Ge-clause-same_marks c =
    let cut : IsCut (box_shown c.self.inside) c.args.cell c.args.side c.args.k = subst (λ (s : Store). IsCut s.box c.args.cell c.args.side c.args.k) (sym c.self.view_is) c.requires.cut in
    let fits : SFits w64 c.index-in-Ge.result.now = search rules in
    marks_raised (box_shown c.self.inside) c.args.cell (to_z w64 (of_z w64 c.args.k)) _ c.self.inside.trail.items c.push_reserved-in-Ge.new.self.items (to_z-of_z w64 c.index-in-Ge.result.now fits
    ∙ (c.index-in-Ge.ensures ∙ get_or_default c.self.inside.lows.items c.args.cell c.index-in-Ge.result.now (pos 0) cut.exists)) c.push_reserved-in-Ge.ensures.items
    ∙ ap (λ (s : Store). s.marks) c.self.view_is
