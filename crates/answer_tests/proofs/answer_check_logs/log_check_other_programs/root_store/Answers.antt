use Rattle.std.proofs.Common.{List, ap, arith, length, ◌∙◌}
use Rattle.sopl_base.specs.declared.interval.Interval.{Interval}
use Rattle.box_problem.specs.Box.{box_of}
use Rattle.term_program.proofs.Lawful.{root_is}
use Rattle.answer_tests.proofs.answer_check_logs.log_check_other_programs.root_store.Goals as goal

pub new-requires : goal.new-requires
new-requires c = record { few = omega (arith, ap (λ (xs : List Interval). length xs) c.as_slice.ensures.value, c.in_ok-roots.ensures.few) }

pub returns : goal.returns
returns c = record {
  root = root_is c.args.program.now c.in_ok-store.store.box (c.in_ok-store.ensures.root ∙ ap box_of c.as_slice.ensures.value ∙ c.in_ok-roots.ensures.root);
}
