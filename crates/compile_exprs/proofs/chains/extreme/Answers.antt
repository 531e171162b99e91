use Rattle.std.proofs.Common.{rules, ◌∙◌, ◌<◌, ap, length}
use Rattle.compile_laws.specs.Instances.{extreme_of}
use Rattle.compile_laws.specs.Measured.{first_large}
use Rattle.compile_scene.specs.Scenes.{root_in}
use Rattle.compile_scene.specs.Works.{things_of}
use Rattle.compile_exprs.proofs.Extremes.{extreme_is, extreme_sizes}
use Rattle.compile_exprs.proofs.chains.extreme.Goals as goal

pub returns : goal.returns
returns c =
    let some : 0 < length c.args.parts.now = search rules in
    record {
      made = λ before ts are.
          c.add_term.ensures.made c.args.scene.now.setting.now before (extreme_of c.args.which ts) (record {
            extends = are.extends;
            is = extreme_is (things_of c.args.work.now) c.args.which c.args.parts.now ts some are.are;
            small = ap (first_large (root_in c.args.scene.now.setting.now)) (extreme_sizes c.args.which ts) ∙ are.small;
          });
    }
