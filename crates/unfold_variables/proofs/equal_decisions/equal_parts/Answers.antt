use Rattle.std.proofs.Common.{rules, ◌≡◌, ℕ, option_map, sym, subst, ◌∙◌, arith}
use Rattle.std.specs.Borrow.{Bor}
use Rattle.sopl_ast.specs.Ranges.{range_of}
use Rattle.sopl_ast.specs.Tree.{Tree}
use Rattle.unfold_constants.specs.CountedAnswers.{Answers}
use Rattle.unfold_constants.specs.Here.{known_in}
use Rattle.unfold_variables.specs.Equal.{parts_in}
use Rattle.unfold_variables.specs.Listing.{decision_parts}
use Rattle.unfold_variables.proofs.EqualDecisions.{found_so}
use Rattle.unfold_variables.proofs.equal_decisions.equal_parts.Goals as goal

pub returns : goal.returns
returns c =
    let known = known_in c.args.known.now in
    let range = range_of c.args.element.now.range.now in
    let stage = option_map (λ (e : Bor Tree). e.now) c.args.element.now.stage in
    let zero : c.decision_parts-met.new.count.counted ≡ 0 = first_of (search rules, omega (arith, c.if-count-ne0.false)) in
    found_so known c.args.element.now.name.now c.args.dims.now range stage c.decision_parts-met.result c.decision_parts-met.new.count.counted c.in_ok-parts.parts
    (subst (λ (n : ℕ). Answers parts_in c.decision_parts-met.new.count.counted c.decision_parts-met.result (decision_parts known range stage n)) c.new-count.ensures
    c.decision_parts-met.ensures)
    zero (sym c.any_named.ensures ∙ c.if-any_named.false) c.in_ok-parts.ensures
