use Rattle.std.proofs.Common.{sym, subst, length}
use Rattle.compile_names.specs.Variables.{AreThere}
use Rattle.compile_names.proofs.setting.Scenarios.sources.Goals as goal

pub returns-clause-origins_exist : goal.returns-clause-origins_exist
returns-clause-origins_exist c =
    c.in_ok-list_decided.ensures.origins_exist
    (c.in_ok-list_drawn.ensures.origins_exist (c.in_ok-list_constants.ensures.origins_exist (length c.args.self.now.stochs.now) (length c.args.self.now.decisions.now)
    (subst (AreThere (length c.args.self.now.stochs.now) (length c.args.self.now.decisions.now)) (sym c.new-found.ensures.items) tt)))
