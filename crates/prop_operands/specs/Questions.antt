-- What is asked of the intervals of operands.
use Rattle.std.specs.Prelude.{◌≡◌, ℕ, Bool, true, List}
use Rattle.box_problem.specs.Box.{Box, Inside}
use Rattle.term_language.specs.Ends.{Ends}
use Rattle.term_language.specs.Rules.{Near, intervals}
use Rattle.term_language.specs.declared.answers.Defined.{Defined}
use Rattle.term_language.specs.declared.answers.Defined.TheVariants.{Never, Maybe, Always}
use Rattle.term_program.specs.Programs.{root_in}
use Rattle.prop_shave.specs.Probes.{closes}
use Rattle.prop_shave.specs.declared.probes.Probe.{Probe}
use Rattle.prop_operands.specs.Kept.{AreOperands, AreSeen, operand_terms, operands_mark}
use Rattle.prop_operands.specs.declared.operands.Operands.{Operands}

-- a condition is False where one of its operands is Never defined, or where it fails by their intervals
abbrev pub is_refuted : Defined → Bool → Bool
is_refuted Never fails = true
is_refuted Maybe fails = fails
is_refuted Always fails = fails

-- the reason of a probe closes a box exactly where a condition on these operands is False
pub record IsAbout (fails : List Ends → Bool) (o : Operands) (q : Probe) : Type 0 where
  pub operands : AreOperands q.program.now o
  pub tells : (b : Box)
      → closes q b
      ≡ is_refuted (operands_mark q.program.now o.list.items b)
      (fails (intervals Near (root_in q.program.now) b (operand_terms q.program.now o.list.items)))

-- and they were looked at over the box of the store
pub record IsLookedAt (fails : List Ends → Bool) (o : Operands) (q : Probe) : Type 0 where
  pub about : IsAbout fails o q
  pub seen : AreSeen q.program.now q.store.now.box o.list.items o.known.items
