use Rattle.std.proofs.Common.{◌≡◌, ◌∙◌, ap, subst, None, IfErr, IfOk}
use Rattle.box_problem.specs.Box.{Box}
use Rattle.compile_laws.specs.Whole.{problem_terms}
use Rattle.compile_laws.specs.Measured.{measured_excess}
use Rattle.sopl_ast.specs.WholeModel.{whole}
use Rattle.sopl_compile.specs.Posed.{IsSettingOf}
use Rattle.term_program.specs.declared.program.Program.{Program}
use Rattle.unfold_tables.specs.Tables.{table_known}
use Rattle.sopl_compile.proofs.Assembly.{few_decided, few_drawn, setting_root}
use Rattle.sopl_compile.proofs.Faults.{IsLimitOf}
use Rattle.sopl_compile.proofs.whole.program_of.Goals as goal
use Rattle.sopl_unfold.specs.GroundProblem.{ground_problem}

pub of-requires-clause-few_drawn : goal.of-requires-clause-few_drawn
of-requires-clause-few_drawn c = few_drawn (whole c.args.ground.now.typed.model) c.stochs.result.now c.args.ground.now.unfolded.passes c.stochs.ensures.stochastics

pub of-requires-clause-few_decided : goal.of-requires-clause-few_decided
of-requires-clause-few_decided c = few_decided (whole c.args.ground.now.typed.model) c.decisions.result.now c.args.ground.now.unfolded.passes c.decisions.ensures.decisions

pub returns-clause-allowed : goal.returns-clause-allowed
returns-clause-allowed c =
    let of : IsSettingOf (ground_problem c.args.ground.now) c.in_ok-setting.setting = record {
      known = ap table_known c.in_ok-setting.ensures.table ∙ c.table.ensures.known;
      decisions = c.in_ok-setting.ensures.decisions ∙ c.decisions.ensures.decisions;
      stochastics = c.in_ok-setting.ensures.stochs ∙ c.stochs.ensures.stochastics;
    } in
    subst (λ (root : Box). IfOk c.completed.result (λ (p : Program). measured_excess root (problem_terms (ground_problem c.args.ground.now)) ≡ None))
    (setting_root (ground_problem c.args.ground.now) c.in_ok-setting.setting of) c.completed.ensures.allowed

pub returns-clause-limit : goal.returns-clause-limit
returns-clause-limit c =
    let of : IsSettingOf (ground_problem c.args.ground.now) c.in_ok-setting.setting = record {
      known = ap table_known c.in_ok-setting.ensures.table ∙ c.table.ensures.known;
      decisions = c.in_ok-setting.ensures.decisions ∙ c.decisions.ensures.decisions;
      stochastics = c.in_ok-setting.ensures.stochs ∙ c.stochs.ensures.stochastics;
    } in
    subst (λ (root : Box). IfErr c.completed.result (IsLimitOf (measured_excess root (problem_terms (ground_problem c.args.ground.now)))))
    (setting_root (ground_problem c.args.ground.now) c.in_ok-setting.setting of) c.completed.ensures.limit
