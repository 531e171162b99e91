use Rattle.std.proofs.Common.{◌∙◌, ap, arith, length, rules, ◌≤◌}
use Rattle.std.specs.List.{filter, range_with_len}
use Rattle.term_program.specs.Programs.{IsListedTerm, root_in, things_in}
use Rattle.prop_shave.specs.GoalSums.{touches_at}
use Rattle.prop_shave.proofs.ChanceMentioned.{touched_more}
use Rattle.prop_shave.proofs.GoalMentioned.{number_at, touches_is}
use Rattle.prop_shave.proofs.touched_parts.parts_touching.Goals as goal

pub touches-wanted-requires-clause-listed : goal.touches-wanted-requires-clause-listed
touches-wanted-requires-clause-listed c =
    number_at (IsListedTerm c.args.program.now) c.args.atoms.now c.atoms.at _ c.requires.listed c.atoms-test.true

pub atoms-preserved : goal.atoms-preserved
atoms-preserved c =
    touched_more (touches_at (root_in c.args.program.now) (things_in c.args.program.now) c.args.atoms.now c.args.cell) c.atoms.at c.atoms.numbers.items c.put_if.new.list.items
    c.touches-wanted.result c.atoms.invariant
    (c.touches-wanted.ensures ∙ touches_is (root_in c.args.program.now) (things_in c.args.program.now) c.args.atoms.now c.args.cell c.atoms.at _ c.atoms-test.true)
    c.in_ok-put_if.ensures

pub returns : goal.returns
returns c =
    let within : c.atoms.at ≤ length c.args.atoms.now = search rules in
    record {
      touched = c.atoms.invariant ∙ ap (λ n. filter (touches_at (root_in c.args.program.now) (things_in c.args.program.now) c.args.atoms.now c.args.cell) (range_with_len 0 n))
          (omega (arith, c.atoms-test.false, within));
    }
