use Rattle.std.proofs.Common.{ap, ◌∙◌, ◌+◌, drop, map}
use Rattle.sopl_ast.specs.Decls.{declaration}
use Rattle.sopl_ast.specs.Mistakes.{of_declarations}
use Rattle.sopl_types.specs.Earliest.{earlier_of, earliest}
use Rattle.sopl_types.specs.Entered.{declared_in}
use Rattle.sopl_types.proofs.DeclLemmas.{decls_more, names_more}
use Rattle.sopl_types.proofs.declarations.declarations.Goals as goal

-- the next declaration
pub decls-preserved : goal.decls-preserved
decls-preserved c = record {
  names = λ name. names_more c.args.decls.now c.decls.decl-index (declared_in c.decls.declared) (declared_in c.enter.new.self) c.decl-item.result
      c.decls-test.true c.decl-item.is c.in_ok-enter.ensures name ∙ c.decls.invariant.names name;
  mistakes =
      ap (λ first. earlier_of first (earliest (of_declarations (declared_in c.enter.new.self) (map declaration (drop (c.decls.decl-index + 1) c.args.decls.now)))))
      (c.earlier-first.ensures ∙ ap (earlier_of c.decls.first) c.in_ok-next_mistake.ensures)
      ∙ decls_more c.args.decls.now c.decls.decl-index (declared_in c.decls.declared) (declared_in c.enter.new.self) c.decl-item.result
      c.decls-test.true c.decl-item.is c.in_ok-enter.ensures c.decls.first
      ∙ c.decls.invariant.mistakes;
}
