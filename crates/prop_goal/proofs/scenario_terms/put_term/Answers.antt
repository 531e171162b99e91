use Rattle.std.proofs.Common.{[], ◌≡◌, ◌++◌, ◌∙◌, ◌∷◌, ap, arith, option_map, pos, refl, rules, sym}
use Rattle.term_goals.specs.declared.sums.Atom.{Atom}
use Rattle.term_nodes.specs.Things.{term_at}
use Rattle.term_program.specs.Programs.{problem_in, things_in}
use Rattle.prop_goal.proofs.Worst.{no_term_lacks, term_more}
use Rattle.prop_goal.proofs.scenario_terms.put_term.Goals as goal

pub returns-in_ok-push-in-Some : goal.returns-in_ok-push-in-Some
returns-in_ok-push-in-Some c =
    let before = c.args.atoms.now.items in
    let a : Atom = record { k = pos 1; term = c.in-Some.term.0 } in
    let pushed : c.push.new.self.items ≡ before ++ a ∷ [] = first_of (search rules, grind arith) in
    term_more c.args.program.now c.args.scenario before c.push.new.self.items a pushed refl
    (sym (ap (option_map (λ id. term_at (things_in c.args.program.now) id.0)) c.in-Some.is) ∙ c.goal.ensures.term) c.in-Some.ensures.exists c.in-Some.ensures.listed c.requires.terms

pub returns-in-None : goal.returns-in-None
returns-in-None c =
    no_term_lacks (problem_in c.args.program.now).goal _ c.args.scenario c.requires.made.problem.goal c.requires.worst c.requires.scenario
    (sym (ap (option_map (λ id. term_at (things_in c.args.program.now) id.0)) c.in-None.is) ∙ c.goal.ensures.term)
