-- The loop has found the first mistake and the names of the declarations so far.
use Rattle.std.proofs.Common.{◌≡◌, List, ℕ, drop, map}
use Rattle.sopl_ast.specs.Decls.{declaration}
use Rattle.sopl_ast.specs.Mistakes.{entity_of, no_names, of_declarations, declare_all}
use Rattle.sopl_types.specs.Earliest.{earlier_of, earliest}
use Rattle.sopl_types.specs.Entered.{declared_in}
use Rattle.sopl_types.proofs.declarations.declarations.Given as goal

abbrev pub invariant-decls : goal.invariant-decls
invariant-decls l = record {
  names : (name : List ℕ) → entity_of (declare_all (map declaration (drop l.decl-index l.decls)) (declared_in l.declared)) name
      ≡ entity_of (declare_all (map declaration l.decls) no_names) name;
  mistakes : earlier_of l.first (earliest (of_declarations (declared_in l.declared) (map declaration (drop l.decl-index l.decls))))
      ≡ earliest (of_declarations no_names (map declaration l.decls));
}
