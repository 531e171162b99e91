-- The elements of the constants of a name.
use Rattle.std.specs.Prelude.{ℕ, ℤ, List, map}
use Rattle.std.specs.List.{filter}
use Rattle.std.specs.Str.{bytes_eq}
use Rattle.sopl_ast.specs.Known.{Constant}
use Rattle.unfold_tables.specs.declared.listed.ConstantElement.{ConstantElement}

-- an element as it is lent
abbrev pub element_shown : ConstantElement → List ℤ × ℤ
element_shown e = (e.index.now, e.value)

-- the elements of constants that have a name, each by its index and its value
abbrev pub elements_named : List ℕ → List Constant → List (List ℤ × ℤ)
elements_named name constants = map (λ (k : Constant). (k.index, k.value)) (filter (λ (k : Constant). bytes_eq name k.name) constants)
