use Rattle.std.proofs.Common.{◌∙◌, ap, length, subst, sym}
use Rattle.term_math.specs.Shown.{box_in}
use Rattle.term_nodes.specs.Things.{Thing, things}
use Rattle.term_nodes.proofs.Reading.{length_things}
use Rattle.term_goals.specs.Goals.{AtomsExist}
use Rattle.term_program.proofs.Goals.{atoms_sum}
use Rattle.term_program.proofs.program.atoms_of.Goals as goal

pub returns : goal.returns
returns c =
    atoms_sum c.args.draft.now c.args.goal.now c.requires.draft c.requires.goal (box_in c.here-here.result.root) (things c.here-here.result.items.now) c.here-here.ensures.root
    c.here-here.ensures.things c.in_ok-atoms.atoms.items c.in_ok-atoms.ensures.sum
    (subst (λ n. AtomsExist n c.in_ok-atoms.atoms.items) (sym (length_things c.here-here.result.items.now) ∙ ap length c.here-here.ensures.things) c.in_ok-atoms.ensures.exist)
