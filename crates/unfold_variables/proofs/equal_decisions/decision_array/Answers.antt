use Rattle.std.proofs.Common.{option_map, sym, subst, IfSome}
use Rattle.std.specs.Borrow.{Bor}
use Rattle.sopl_ast.specs.Ranges.{range_of}
use Rattle.sopl_ast.specs.Tree.{Tree}
use Rattle.unfold_tables.specs.Tables.{items}
use Rattle.unfold_constants.specs.CountedAnswers.{Answers}
use Rattle.unfold_constants.specs.Here.{known_in}
use Rattle.unfold_variables.specs.Equal.{AreEqual}
use Rattle.unfold_variables.proofs.EqualDecisions.{decisions_once}
use Rattle.unfold_variables.proofs.equal_decisions.decision_array.Goals as goal

pub returns-in-Some : goal.returns-in-Some
returns-in-Some c =
    let known = known_in c.args.known.now in
    let name = c.args.element.now.name.now in
    let range = range_of c.args.element.now.range.now in
    let stage = option_map (λ (e : Bor Tree). e.now) c.args.element.now.stage in
    let equal : AreEqual known name c.args.dims.now range stage c.in-Some.parts =
    subst (λ found. IfSome found (λ parts. AreEqual known name c.args.dims.now range stage parts)) c.in-Some.is c.in_ok-parts.ensures in
    subst (λ outcome. Answers items c.array.new.count.counted c.array.result outcome) (sym (decisions_once known name c.args.dims.now range stage c.in-Some.parts equal c.args.count.now.counted))
    c.array.ensures
