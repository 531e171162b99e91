use Rattle.std.proofs.Common.{rules, ◌≡◌, refl, ◌⊎◌, subst, option_map, Ok, Err, arith}
use Rattle.std.proofs.lemmas.Result.{err_from_is_err_and}
use Rattle.sopl_base.specs.declared.fault.Fault.TheVariants.{NoMemory}
use Rattle.sopl_ast.specs.Declarations.{nothing_declared, declarations_events}
use Rattle.sopl_ast.specs.UnfoldEvents.{first_failure}
use Rattle.sopl_ast.specs.Unfolding.{goal_events}
use Rattle.sopl_ast.specs.WholeModel.{whole, goal_tree}
use Rattle.unfold_tables.specs.Tables.{table_known}
use Rattle.sopl_unfold.specs.Shown.{declared_in}
use Rattle.sopl_unfold.proofs.Texts.{declarations_end, objective_ends, constraints_end, stages_there, text_unfolds}
use Rattle.sopl_unfold.proofs.unfolding.found_in.Goals as goal

pub returns-in_err-declared-clause-refused : goal.returns-in_err-declared-clause-refused
returns-in_err-declared-clause-refused c =
    let p = err_from_is_err_and c.from_residual.result c.from_residual.ensures.1 in
    rw (p.1, p.2) (declarations_end (whole c.args.model.now) c.in_err-declared.field-0.0
    (subst (λ n. (c.in_err-declared.field-0.0 ≡ NoMemory) ⊎ (first_failure n (declarations_events nothing_declared c.args.model.now.decls) ≡ Err c.in_err-declared.field-0.0)) c.new-count.ensures
    c.in_err-declared.ensures.met))

pub returns-in_err-walk_goal-clause-refused : goal.returns-in_err-walk_goal-clause-refused
returns-in_err-walk_goal-clause-refused c =
    let p = err_from_is_err_and c.from_residual-in_err-walk_goal.result c.from_residual-in_err-walk_goal.ensures.1 in
    let first = subst (λ n. first_failure n (declarations_events nothing_declared c.args.model.now.decls) ≡ Ok c.declare_all.new.count.counted) c.new-count.ensures c.in_ok-declared.ensures.met in
    let same : option_map (λ g. goal_tree g.now) c.as_ref.result ≡ (whole c.args.model.now).goal = first_of (search rules, grind arith) in
    rw (p.1, p.2) (objective_ends (whole c.args.model.now) (declared_in c.in_ok-declared.declared) c.in_ok-declared.ensures.behind c.declare_all.new.count.counted first c.in_err-walk_goal.field-0.0
    (subst (λ g. (c.in_err-walk_goal.field-0.0 ≡ NoMemory) ⊎ (first_failure c.declare_all.new.count.counted (goal_events (table_known c.in_ok-declared.declared.table) g)
    ≡ Err c.in_err-walk_goal.field-0.0)) same
    c.in_err-walk_goal.ensures))

pub returns-in_err-instances-clause-refused : goal.returns-in_err-instances-clause-refused
returns-in_err-instances-clause-refused c =
    let p = err_from_is_err_and c.from_residual-in_err-instances.result c.from_residual-in_err-instances.ensures.1 in
    let first = subst (λ n. first_failure n (declarations_events nothing_declared c.args.model.now.decls) ≡ Ok c.declare_all.new.count.counted) c.new-count.ensures c.in_ok-declared.ensures.met in
    let same : option_map (λ g. goal_tree g.now) c.as_ref.result ≡ (whole c.args.model.now).goal = first_of (search rules, grind arith) in
    let second = subst (λ g. first_failure c.declare_all.new.count.counted (goal_events (table_known c.in_ok-declared.declared.table) g) ≡ Ok c.walk_goal.new.count.counted) same
    c.in_ok-walk_goal.ensures in
    rw (p.1, p.2) (constraints_end (whole c.args.model.now) (declared_in c.in_ok-declared.declared) c.in_ok-declared.ensures.behind c.declare_all.new.count.counted first
    c.walk_goal.new.count.counted second
    c.in_err-instances.field-0.0 c.in_err-instances.ensures.met)

pub by_stage-requires : goal.by_stage-requires
by_stage-requires c =
    record {
      stages = stages_there (whole c.args.model.now) (declared_in c.in_ok-declared.declared) c.in_ok-declared.ensures.behind c.declare_all.new.count.counted
          (subst (λ n. first_failure n (declarations_events nothing_declared c.args.model.now.decls) ≡ Ok c.declare_all.new.count.counted) c.new-count.ensures c.in_ok-declared.ensures.met);
    }

pub returns-clause-found : goal.returns-clause-found
returns-clause-found c =
    let first = subst (λ n. first_failure n (declarations_events nothing_declared c.args.model.now.decls) ≡ Ok c.declare_all.new.count.counted) c.new-count.ensures c.in_ok-declared.ensures.met in
    let same : option_map (λ g. goal_tree g.now) c.as_ref.result ≡ (whole c.args.model.now).goal = first_of (search rules, grind arith) in
    let second = subst (λ g. first_failure c.declare_all.new.count.counted (goal_events (table_known c.in_ok-declared.declared.table) g) ≡ Ok c.walk_goal.new.count.counted) same
    c.in_ok-walk_goal.ensures in
    text_unfolds (whole c.args.model.now) (declared_in c.in_ok-declared.declared) c.in_ok-declared.ensures.behind c.declare_all.new.count.counted first c.walk_goal.new.count.counted second
    (record {
      table = c.in_ok-declared.declared.table;
      decisions = c.in_ok-declared.declared.decisions;
      stochs = c.in_ok-stochs.stochs;
      hards = c.in_ok-instances.instances.hards;
      chances =
          c.in_ok-instances.instances.chances;
    })
    c.instances.new.count.counted c.in_ok-instances.ensures.met refl refl c.in_ok-stochs.ensures.sorted c.in_ok-instances.ensures.hards c.in_ok-instances.ensures.chances
