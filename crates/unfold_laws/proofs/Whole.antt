-- The numbers of what a whole text states.
use Rattle.sopl_ast.specs.Whole.{ModelTree}
use Rattle.sopl_ast.specs.Declarations.{Declared, nothing_declared, behind_all, declarations_events}
use Rattle.sopl_ast.specs.Unfolding.{problem_of, text_events, body_events}
use Rattle.unfold_laws.specs.Passing.{NothingFails}
use Rattle.unfold_laws.specs.Bounds.{IsBoundedStochastic, DecisionsAreBounded, StochasticsAreBounded}
use Rattle.unfold_laws.proofs.Passing.{parts_pass}
use Rattle.unfold_laws.proofs.Declared.{declared_bounded}
use Rattle.unfold_laws.proofs.Stages.{all_by_stage}

-- what the declarations of a text declare
abbrev pub found_in : ModelTree → Declared
found_in model = behind_all model.decls nothing_declared

-- both parts of a text pass
pub text_parts : (model : ModelTree) → NothingFails (text_events model)
    → NothingFails (declarations_events nothing_declared model.decls) × NothingFails (body_events (behind_all model.decls nothing_declared) model)
unfolding text_events
text_parts model is = parts_pass (declarations_events nothing_declared model.decls) (body_events (behind_all model.decls nothing_declared) model) is

pub decisions_are_bounded : DecisionsAreBounded
unfolding problem_of
decisions_are_bounded model is = (declared_bounded model.decls (text_parts model is).0).decisions

pub stochastics_are_bounded : StochasticsAreBounded
unfolding problem_of
stochastics_are_bounded model is =
    all_by_stage IsBoundedStochastic (behind_all model.decls nothing_declared).stochastics (declared_bounded model.decls (text_parts model is).0).stochastics
