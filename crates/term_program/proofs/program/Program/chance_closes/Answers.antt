use Rattle.std.proofs.Common.{rules, ◌≡◌, ◌∙◌, Some, None, slice_get, length}
use Rattle.std.proofs.lemmas.Option.{slice_get_read, slice_get_past}
use Rattle.term_math.specs.Shown.{box_in}
use Rattle.term_program.specs.Programs.{problem_in, root_in, things_in}
use Rattle.term_program.proofs.Reasons.{chance_each, chance_there, chance_missing}
use Rattle.term_program.proofs.program.Program.chance_closes.Goals as goal

pub too_few-requires-clause-each : goal.too_few-requires-clause-each
too_few-requires-clause-each c =
    let found : slice_get c.args.self.now.draft.chances.items c.args.instance
    ≡ Some c.in-Some.chance.now = slice_get_read c.args.self.now.draft.chances.items (length c.deref.result.now) c.args.instance c.in-Some.chance.now (search rules) (search rules)
    (search rules) in
    chance_each (problem_in c.args.self.now) (things_in c.args.self.now) c.args.self.now.draft.chances.items c.args.instance c.in-Some.chance.now c.requires.made.problem.chances found

pub returns-in-Some : goal.returns-in-Some
returns-in-Some c =
    let found : slice_get c.args.self.now.draft.chances.items c.args.instance
    ≡ Some c.in-Some.chance.now = slice_get_read c.args.self.now.draft.chances.items (length c.deref.result.now) c.args.instance c.in-Some.chance.now (search rules) (search rules)
    (search rules) in
    c.too_few.ensures ∙ chance_there (root_in c.args.self.now) (box_in c.args.view.now) (things_in c.args.self.now) c.args.self.now.draft.weights.items c.args.self.now.draft.whole
    c.args.self.now.draft.chances.items c.args.instance c.in-Some.chance.now found

pub returns-in-None : goal.returns-in-None
returns-in-None c =
    let missing : slice_get c.args.self.now.draft.chances.items c.args.instance ≡ None = slice_get_past c.args.self.now.draft.chances.items c.args.instance (search rules) in
    chance_missing (root_in c.args.self.now) (box_in c.args.view.now) (things_in c.args.self.now) c.args.self.now.draft.weights.items c.args.self.now.draft.whole c.args.self.now.draft.chances.items
    c.args.instance missing
