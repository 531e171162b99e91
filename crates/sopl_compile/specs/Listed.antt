-- Numbers of terms and of conditions, and what they stand for in all scenarios.
use Rattle.std.specs.Prelude.{◌≡◌, ℕ, List, length, map}
use Rattle.std.specs.List.{range_with_len}
use Rattle.term_language.specs.Terms.{Cond, Term}
use Rattle.compile_laws.specs.Instances.{Place, instance}
use Rattle.compile_names.specs.Places.{place_in}
use Rattle.compile_names.specs.declared.setting.Scenarios.{Scenarios}
use Rattle.sopl_scen.specs.Layout.{count_in}
use Rattle.sopl_ast.specs.Known.{Known}
use Rattle.sopl_ast.specs.Tree.{Tree}
use Rattle.term_nodes.specs.Built.{AllBelow}
use Rattle.term_nodes.specs.Things.{Thing, thing_at}

-- these numbers exist, and what stands at them is this
pub record AreListed {A : Type 0} (kind : Thing → A) (things : List Thing) (ids : List ℕ) (all : List A) : Type 0 where
  pub exist : AllBelow (length things) ids
  pub are : map (λ (id : ℕ). kind (thing_at things id)) ids ≡ all

-- where an expression is instantiated in the scenario with a number
abbrev pub place_at : Scenarios → Known → ℕ → Place
place_at setting known i = place_in setting.decisions.now setting.stochs.now setting.tree.now i known

-- a condition, and a number expression, in the scenario with a number, and in each scenario
abbrev pub condition_at : Scenarios → Known → Tree → ℕ → Cond
condition_at setting known e i = (instance (place_at setting known i) e).cond

abbrev pub expression_at : Scenarios → Known → Tree → ℕ → Term
expression_at setting known e i = (instance (place_at setting known i) e).term

abbrev pub conditions_in : Scenarios → Known → Tree → List Cond
conditions_in setting known e = map (condition_at setting known e) (range_with_len 0 (count_in setting.tree.now))

abbrev pub terms_in : Scenarios → Known → Tree → List Term
terms_in setting known e = map (expression_at setting known e) (range_with_len 0 (count_in setting.tree.now))
