use Rattle.std.proofs.Common.{map, refl, subst, sym, ℕ}
use Rattle.prop_shave.specs.GoalSums.{touched_by}
use Rattle.term_program.specs.Programs.{root_in, things_in}
use Rattle.prop_chance.specs.UpToDate.{AreMentioning, part_numbers}
use Rattle.prop_chance.proofs.Conditions.{moved}
use Rattle.prop_goal.specs.KeptParts.{touches}
use Rattle.prop_goal.proofs.kept_parts.KeptParts.let_told_wait.Goals as goal

pub let_told_wait-requires : goal.let_told_wait-requires
let_told_wait-requires c =
    let program = c.requires.watched.0 in
    let atoms = c.args.self.now.atoms.items in
    let g = c.args.watched.now in
    let lists =
    moved part_numbers g.touched.items c.as_slice-2.result.now g.cells.items c.as_slice.result.now (touched_by (root_in program) (things_in program) atoms) c.as_slice-2.ensures.value
    c.as_slice.ensures.value c.requires.watched.1.touched
    in
    record { lists = (touches program atoms, subst (λ (n : ℕ). AreMentioning (touches program atoms) n c.as_slice.result.now (map part_numbers c.as_slice-2.result.now)) (sym c.requires.waits) lists) }

pub returns-clause-wait : goal.returns-clause-wait
returns-clause-wait c = λ program number are fresh.
    let atoms = c.args.self.now.atoms.items in
    let g = c.args.watched.now in
    let lists =
    moved part_numbers g.touched.items c.as_slice-2.result.now g.cells.items c.as_slice.result.now (touched_by (root_in program) (things_in program) atoms) c.as_slice-2.ensures.value
    c.as_slice.ensures.value are.touched
    in
    c.let_told_wait.ensures.wait (touches program atoms) number
    (subst (λ (n : ℕ). AreMentioning (touches program atoms) n c.as_slice.result.now (map part_numbers c.as_slice-2.result.now)) (sym c.requires.waits) lists) fresh

pub returns-clause-alike : goal.returns-clause-alike
returns-clause-alike c = record { atoms = refl; ends = refl; waits = c.let_told_wait.ensures.count }
