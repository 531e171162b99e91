use Rattle.std.proofs.Common.{rules, ◌-◌, false, unsigned_abs, length, get_or, Fits, w64, ap, ◌∙◌}
use Rattle.term_language.proofs.Bounds.{sign_size}
use Rattle.term_math.specs.Shown.{form_of}
use Rattle.term_math.specs.Sums.{combination_of}
use Rattle.term_nodes.specs.declared.nodes.Signed.{Signed}
use Rattle.term_store.specs.Stores.{root_of}
use Rattle.term_nodes.proofs.Steps.{part_back}
use Rattle.term_store.proofs.Summing.{part_room}
use Rattle.term_store.proofs.store.TermStore.combined.Goals as goal

pub form_known-requires-clause-exists : goal.form_known-requires-clause-exists
form_known-requires-clause-exists c =
    let none : Signed = record { subtracted = false; term = 0 } in
    part_back (length c.args.self.now.items.items) c.args.parts.now c.loop-i.i none c.requires.exist c.loop-i-test.true c.loop-i.auto.i

pub add-requires : goal.add-requires
add-requires c =
    let none : Signed = record { subtracted = false; term = 0 } in
    let part : Signed = get_or c.args.parts.now (c.loop-i.i - 1) none in
    let few : Fits w64 (length c.args.parts.now) = search rules in
    record {
      room = part_room (root_of c.args.self.now) c.args.self.now.items.items c.args.parts.now c.loop-i.i part.term c.widened.result.value (combination_of c.loop-i.sum) (form_of c.form_known.result.now)
          c.requires.sound.built few.fits
          (ap unsigned_abs (c.widened.ensures ∙ c.factor-once.ensures) ∙ sign_size part.subtracted) c.loop-i.invariant c.form_known.ensures;
    }
