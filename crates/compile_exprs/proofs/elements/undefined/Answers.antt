use Rattle.std.proofs.Common.{◌∙◌, refl, ap}
use Rattle.term_language.specs.Terms as rule
use Rattle.compile_laws.specs.Instances.{undefined}
use Rattle.compile_scene.proofs.Growing.{extended}
use Rattle.term_nodes.specs.Things.{table_in}
use Rattle.compile_exprs.proofs.elements.undefined.Goals as goal

pub add_term-requires : goal.add_term-requires
add_term-requires c = record {
  can = record { building = c.in_ok-id.ensures.added.kept.building; may = (c.in_ok-id.ensures.added.adds.stands.exists, tt) };
}

pub returns : goal.returns
returns c = record {
  made =
      c.add_term.ensures.made c.args.scene.now.setting.now c.args.work.now undefined (record {
        extends = extended c.args.scene.now.setting.now c.args.work.now c.array.new.self c.in_ok-id.ensures.added.kept c.requires.ready;
        is = ap (λ t. rule.Element t rule.no_term) (ap table_in c.in_ok-id.ensures.added.adds.stands.is ∙ c.in_ok-table.ensures.empty);
        small = refl;
      });
}
