use Rattle.std.proofs.Common.{◌≡◌, ◌∙◌, None, arith, length-set, pos, refl}
use Rattle.prop_shave.specs.declared.part_ends.PartEnds.{PartEnds}
use Rattle.prop_chance.proofs.Setting.{holds_all, holds_more}
use Rattle.prop_goal.proofs.kept_parts.KeptParts.clear.Goals as goal

pub parts-preserved : goal.parts-preserved
parts-preserved c = record {
  cleared = holds_more (λ (e : PartEnds). e.better.value ≡ pos 0) c.parts.self.ends.items c.parts.at (record { better = record { value = pos 0 }; worse = None }) c.no_ends.result c.no_ends.ensures refl
      c.parts.invariant.cleared;
  atoms = c.parts.invariant.atoms;
  outdated = c.parts.invariant.outdated;
  room = length-set c.parts.self.ends.items c.parts.at c.no_ends.result ∙ c.parts.invariant.room;
}

pub returns : goal.returns
returns c = record {
  cleared = holds_all (λ (e : PartEnds). e.better.value ≡ pos 0) c.parts.self.ends.items (record { better = record { value = pos 0 }; worse = None }) refl
      (λ k below. c.parts.invariant.cleared k (omega (arith, below, c.parts.invariant.room, c.parts-test.false)));
  atoms = c.parts.invariant.atoms;
  outdated = c.parts.invariant.outdated;
  room = c.parts.invariant.room;
}
