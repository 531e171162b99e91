use Rattle.std.proofs.Common.{rules, ◌<◌, length, subst, sym, IfSome, Option}
use Rattle.term_nodes.specs.Built.{AllBelow}
use Rattle.term_nodes.proofs.Steps.{cond_below}
use Rattle.term_goals.specs.declared.goal.Goal.{Goal}
use Rattle.term_program.specs.Drafts.{IsGoalOf}
use Rattle.term_program.specs.Mentions.{HaveLists, goal_ids}
use Rattle.term_program.specs.Programs.{IsListedTerm, things_in}
use Rattle.term_program.proofs.Lists.{all_at}
use Rattle.term_program.proofs.program.Program.goal.Goals as goal

pub returns-in-Some-get-clause-exists : goal.returns-in-Some-get-clause-exists
returns-in-Some-get-clause-exists c =
    let kept : IsGoalOf c.args.self.now.draft c.in-Some.goal = subst (λ (o : Option Goal). IfSome o (IsGoalOf c.args.self.now.draft)) c.in-Some.is c.requires.made.goal in
    let there : c.args.scenario < length c.terms.result.now = search rules in
    cond_below (length (things_in c.args.self.now)) c.terms.result.now c.args.scenario c.in-Some-get.id.now
    (subst (AllBelow (length (things_in c.args.self.now))) (sym c.terms.ensures) kept.sound.exist) there c.in-Some-get.ensures.lookup.1

pub returns-in-Some-get-clause-listed : goal.returns-in-Some-get-clause-listed
returns-in-Some-get-clause-listed c =
    let lists : HaveLists c.args.self.now.mentioned.terms c.in-Some.goal.terms.items =
    subst (λ (o : Option Goal). HaveLists c.args.self.now.mentioned.terms (goal_ids o)) c.in-Some.is c.requires.made.mentioned.goal in
    let there : c.args.scenario < length c.terms.result.now = search rules in
    all_at (IsListedTerm c.args.self.now) c.terms.result.now c.args.scenario c.in-Some-get.id.now (subst (HaveLists c.args.self.now.mentioned.terms) (sym c.terms.ensures) lists) there
    c.in-Some-get.ensures.lookup.1
