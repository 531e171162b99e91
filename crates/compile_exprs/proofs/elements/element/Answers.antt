use Rattle.std.proofs.Common.{◌∙◌, ap, ap₂, length}
use Rattle.compile_scene.specs.Scenes.{place_of}
use Rattle.compile_scene.proofs.Naming.{array_there}
use Rattle.unfold_constants.specs.Here.{known_in}
use Rattle.term_language.specs.Terms as rule
use Rattle.compile_scene.specs.Works.{things_of}
use Rattle.compile_scene.proofs.Growing.{extends_twice}
use Rattle.sopl_term.specs.Built.{term_ids}
use Rattle.term_nodes.specs.Things.{table_in}
use Rattle.sopl_term.proofs.Keeping.{all_below}
use Rattle.compile_laws.specs.Instances.{elements, table_of}
use Rattle.compile_exprs.proofs.Steps.{later_terms}
use Rattle.compile_exprs.proofs.elements.element.Goals as goal

pub add_term-requires : goal.add_term-requires
add_term-requires c = record {
  can = record {
    building = c.in_ok-table.ensures.extends.ready.building;
    may = (
      c.in_ok-table.ensures.stands.exists,
      all_below (length (things_of c.args.work.now)) (length (things_of c.table.new.work)) (term_ids c.args.at.now) c.in_ok-table.ensures.extends.grows.more c.requires.there.exist,
    );
  };
}

pub returns : goal.returns
returns c =
    record {
      made = λ before ts are.
          let setting = c.args.scene.now.setting.now in
          let table = table_of (elements (place_of c.args.scene.now (known_in c.args.known.now)) c.args.name.now) in
          c.add_term.ensures.made setting before (rule.Element table ts) (record {
            extends = extends_twice setting before c.args.work.now c.table.new.work are.extends c.in_ok-table.ensures.extends;
            is = ap₂ (λ x y. rule.Element x y)
                (ap table_in c.in_ok-table.ensures.stands.is ∙ array_there c.args.scene.now (known_in c.args.known.now) c.args.name.now c.requires.placed.table)
                (later_terms (things_of c.args.work.now) (things_of c.table.new.work) (term_ids c.args.at.now) c.in_ok-table.ensures.extends.grows are.exist ∙ are.are);
            small = are.small;
          });
    }
