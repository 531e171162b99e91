use Rattle.std.proofs.Common.{sym, subst}
use Rattle.box_problem.specs.Box.{Box, Inside}
use Rattle.sopl_search.proofs.bounding.end_with.Goals as goal

pub end-requires-clause-inside : goal.end-requires-clause-inside
end-requires-clause-inside g c =
    let root = (g.P.Propagator.problem c.args.program.now).root in
    subst (λ (b : Box). Inside b root) (sym (c.in_ok-enter.ensures.entered (g.P.Propagator.problem c.args.program.now) c.requires.known.0 c.requires.known.1).box) c.requires.inside

pub returns-clause-at : goal.returns-clause-at
returns-clause-at g c = λ rows able. (c.in_ok-enter.ensures.entered (g.P.Propagator.problem c.args.program.now) rows able).at
