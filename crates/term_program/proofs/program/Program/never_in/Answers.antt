use Rattle.std.proofs.Common.{rules, ◌∙◌, ◌<◌, ◌≤◌, length, sym, subst}
use Rattle.term_math.specs.Shown.{box_in}
use Rattle.term_nodes.specs.Built.{AllBelow}
use Rattle.term_nodes.proofs.Steps.{cond_below}
use Rattle.term_program.specs.Programs.{root_in, things_in}
use Rattle.term_program.proofs.Goals.{never_there, never_missing}
use Rattle.term_program.proofs.program.Program.never_in.Goals as goal

pub is_never-requires-clause-exists : goal.is_never-requires-clause-exists
is_never-requires-clause-exists c =
    let there : c.args.scenario < length c.terms.result.now = search rules in
    cond_below (length (things_in c.args.self.now)) c.terms.result.now c.args.scenario c.in-Some.term.now
    (subst (AllBelow (length (things_in c.args.self.now))) (sym c.terms.ensures) c.requires.kept.sound.exist) there c.in-Some.ensures.lookup.1

pub returns-in-Some : goal.returns-in-Some
returns-in-Some c =
    let there : c.args.scenario < length c.terms.result.now = search rules in
    c.is_never.ensures
    ∙ never_there (root_in c.args.self.now) (box_in c.args.view.now) (things_in c.args.self.now) c.args.goal.now c.terms.result.now c.args.scenario c.in-Some.term.now c.terms.ensures
    there c.in-Some.ensures.lookup.1

pub returns-in-None : goal.returns-in-None
returns-in-None c =
    let past : length c.terms.result.now ≤ c.args.scenario = search rules in
    never_missing (root_in c.args.self.now) (box_in c.args.view.now) (things_in c.args.self.now) c.args.goal.now c.terms.result.now c.args.scenario c.terms.ensures past
