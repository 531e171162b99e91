-- A problem over a setting, and what its expressions are in all scenarios.
use Rattle.std.specs.Prelude.{◌≡◌, ℕ, List, [], map, None}
use Rattle.std.specs.Option.{option_map_or}
use Rattle.term_language.specs.Terms.{Cond, Term}
use Rattle.compile_laws.specs.Whole.{condition_at, goal_terms}
use Rattle.compile_names.specs.declared.setting.Scenarios.{Scenarios}
use Rattle.sopl_ast.specs.Instances.{Objective, Problem}
use Rattle.sopl_ast.specs.Known.{Binding}
use Rattle.sopl_ast.specs.Scenarios.{scenarios}
use Rattle.sopl_ast.specs.Tree.{Tree}
use Rattle.unfold_tables.specs.Tables.{table_known}

-- the problem of these conditions over a setting, before it has a constraint
abbrev pub posed : Scenarios → List Tree → Problem
posed setting conditions =
    record {
      known = table_known setting.table.now;
      decisions = setting.decisions.now;
      stochastics = setting.stochs.now;
      conditions = conditions;
      hards = [];
      chances = [];
      objective = None;
    }

-- a setting has what a problem has
pub record IsSettingOf (problem : Problem) (setting : Scenarios) : Type 0 where
  pub known : table_known setting.table.now ≡ problem.known
  pub decisions : setting.decisions.now ≡ problem.decisions
  pub stochastics : setting.stochs.now ≡ problem.stochastics

-- the condition with a number in each scenario, where binders give this
abbrev pub instances_in : Scenarios → List Tree → ℕ → List Binding → List Cond
instances_in setting conditions text bound = map (condition_at (posed setting conditions) text bound) (scenarios setting.stochs.now)

-- the terms of a problem's objective; none where there is no objective
abbrev pub terms_asked : Problem → List Term
terms_asked problem = option_map_or (λ (o : Objective). (goal_terms problem o).terms) problem.objective []
