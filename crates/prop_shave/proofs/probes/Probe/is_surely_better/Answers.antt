use Rattle.std.proofs.Common.{◌∙◌, ap, refl}
use Rattle.sopl_base.specs.declared.direction.Direction.{Direction}
use Rattle.term_program.specs.Programs.{no_better}
use Rattle.prop_shave.proofs.Finding.{counted_open}
use Rattle.prop_shave.proofs.probes.Probe.is_surely_better.Goals as goal

pub returns-in-Some : goal.returns-in-Some
returns-in-Some c = record {
  stays = λ is.
      counted_open c.args.self.now c.args.counted.now c.args.counted.now.cell c.args.best.value c.in-Some.end.value c.is_no_better.result c.requires.asked c.requires.known refl c.requires.best
      c.in-Some.ensures.as_good (c.is_no_better.ensures ∙ ap (λ (d : Direction). no_better d c.in-Some.end.value c.args.best.value) c.direction.ensures) is;
}
