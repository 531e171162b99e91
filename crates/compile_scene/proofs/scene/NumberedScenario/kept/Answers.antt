use Rattle.std.proofs.Common.{sym, subst, ap, ◌∙◌}
use Rattle.std.specs.Map.{lookup}
use Rattle.std.specs.Option.{option_copied}
use Rattle.sopl_scen.specs.Layout.{count_in}
use Rattle.term_nodes.specs.Things.{a_table}
use Rattle.compile_scene.specs.Scenes.{array_in}
use Rattle.compile_scene.specs.Works.{AreArrays, Stands, entries_in, things_of}
use Rattle.compile_scene.proofs.Keeping.{is_key, kept_found}
use Rattle.compile_scene.proofs.scene.NumberedScenario.kept.Goals as goal

pub id-requires : goal.id-requires
id-requires c = record {
  has_array =
      (kept_found c.args.self.now.setting.now (things_of c.args.work.now) c.args.name.now (entries_in c.args.work.now) c.in-Some.arrays.now c.requires.ready.arrays
      (ap (λ name. lookup (is_key name) (entries_in c.args.work.now)) (sym c.as_slice.ensures.bytes) ∙ sym c.get.ensures.value ∙ ap option_copied c.in-Some.is)).there
      c.args.self.now.scenario c.requires.exists;
}

pub returns-in-Some-clause-stands : goal.returns-in-Some-clause-stands
returns-in-Some-clause-stands c =
    let kept : AreArrays (things_of c.args.work.now) (count_in c.args.self.now.setting.now.tree.now) (array_in c.args.self.now.setting.now c.args.name.now) c.in-Some.arrays.now =
    kept_found c.args.self.now.setting.now (things_of c.args.work.now) c.args.name.now (entries_in c.args.work.now) c.in-Some.arrays.now c.requires.ready.arrays
    (ap (λ name. lookup (is_key name) (entries_in c.args.work.now)) (sym c.as_slice.ensures.bytes) ∙ sym c.get.ensures.value ∙ ap option_copied c.in-Some.is) in
    subst (λ n. Stands (things_of c.args.work.now) n (a_table (array_in c.args.self.now.setting.now c.args.name.now c.args.self.now.scenario))) (sym c.id.ensures)
    (kept.stand c.args.self.now.scenario c.requires.exists)

pub returns-in-None-clause-none : goal.returns-in-None-clause-none
returns-in-None-clause-none c =
    ap (λ name. lookup (is_key name) (entries_in c.args.work.now)) (sym c.as_slice.ensures.bytes) ∙ sym c.get.ensures.value ∙ ap option_copied c.in-None.is
