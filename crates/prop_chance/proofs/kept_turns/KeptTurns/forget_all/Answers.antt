use Rattle.std.proofs.Common.{◌≡◌, ◌∙◌, None, Option, arith, length-set, refl}
use Rattle.prop_shave.specs.declared.end_turns.EndTurns.{EndTurns}
use Rattle.prop_chance.proofs.Setting.{holds_all, holds_more}
use Rattle.prop_chance.proofs.kept_turns.KeptTurns.forget_all.Goals as goal

pub cells-preserved : goal.cells-preserved
cells-preserved c = record {
  none = holds_more (λ (o : Option EndTurns). o ≡ None) c.cells.self.known.items c.cells.at None None refl refl c.cells.invariant.none;
  room = length-set c.cells.self.known.items c.cells.at None ∙ c.cells.invariant.room;
}

pub returns : goal.returns
returns c = record {
  none = holds_all (λ (o : Option EndTurns). o ≡ None) c.cells.self.known.items None refl
      (λ k below. c.cells.invariant.none k (omega (arith, below, c.cells.invariant.room, c.cells-test.false)));
  room = c.cells.invariant.room;
}
