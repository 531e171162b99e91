use Rattle.std.proofs.Common.{drop, map}
use Rattle.sopl_ast.specs.References.{now_of}
use Rattle.compile_laws.specs.Whole.{hard_terms}
use Rattle.compile_laws.specs.Measured.{constraint_subterms}
use Rattle.sopl_compile.specs.Adding.{with_hards}
use Rattle.sopl_compile.specs.Posed.{posed}
use Rattle.sopl_compile.proofs.Additions.{AreToAdd}
use Rattle.sopl_compile.proofs.constraints.add_hards.Given as goal

abbrev pub invariant-hards : goal.invariant-hards
invariant-hards l =
    AreToAdd with_hards constraint_subterms l.setting l.fn.work l.work (map (hard_terms (posed l.setting (map now_of l.conditions))) (drop l.hard-index l.hards))
    (map (hard_terms (posed l.setting (map now_of l.conditions))) l.hards)
