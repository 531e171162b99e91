-- What a chance constraint's propagator keeps.
use Rattle.std.proofs.Common.{◌∙◌, ap, length, subst, sym}
use Rattle.term_program.specs.declared.program.Program.{Program}
use Rattle.prop_chance.specs.Chances.{Fits, IsConstraintOf, IsMadeAlike}
use Rattle.prop_chance.specs.declared.chances.Chance.{Chance}

pub made_on : (a b c : Chance) → IsMadeAlike a b → IsMadeAlike b c → IsMadeAlike a c
made_on a b c first then = record {
  constraint = then.constraint ∙ first.constraint;
  room = then.room ∙ first.room;
  waits = then.waits ∙ first.waits;
  turns = then.turns ∙ first.turns;
}

pub still_fits : (old new : Chance) (program : Program) → IsMadeAlike old new → Fits old program → Fits new program
still_fits old new program alike fits = record {
  constraint = subst (λ c. IsConstraintOf c program) (sym alike.constraint) fits.constraint;
  room = alike.room ∙ fits.room;
  waits = alike.waits ∙ fits.waits;
  turns = alike.turns ∙ (fits.turns ∙ sym (ap (λ c. length c.cells.items) alike.constraint));
}
