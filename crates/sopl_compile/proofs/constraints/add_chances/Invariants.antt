use Rattle.std.proofs.Common.{drop, map}
use Rattle.sopl_ast.specs.References.{now_of}
use Rattle.compile_laws.specs.Whole.{chance_terms}
use Rattle.term_problem.specs.Problems.{ChanceTerms}
use Rattle.compile_laws.specs.Measured.{constraint_subterms}
use Rattle.sopl_compile.specs.Adding.{with_chances}
use Rattle.sopl_compile.specs.Posed.{posed}
use Rattle.sopl_compile.proofs.Additions.{AreToAdd}
use Rattle.sopl_compile.proofs.constraints.add_chances.Given as goal

abbrev pub invariant-chances : goal.invariant-chances
invariant-chances l =
    AreToAdd with_chances (λ (terms : ChanceTerms). constraint_subterms terms.conditions) l.setting l.fn.work l.work
    (map (chance_terms (posed l.setting (map now_of l.conditions))) (drop l.chance-index l.chances))
    (map (chance_terms (posed l.setting (map now_of l.conditions))) l.chances)
