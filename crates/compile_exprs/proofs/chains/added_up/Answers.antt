use Rattle.std.proofs.Common.{◌≡◌, ◌∙◌, ap, sym, subst, length}
use Rattle.term_language.specs.Terms as rule
use Rattle.compile_laws.specs.Instances.{sum_of}
use Rattle.compile_scene.specs.Scenes.{root_in}
use Rattle.compile_scene.specs.Works.{things_of}
use Rattle.sopl_term.specs.Built.{signed_of}
use Rattle.term_nodes.specs.Built.{PartsBelow}
use Rattle.term_nodes.specs.Things.{parts_at}
use Rattle.compile_exprs.proofs.Sizes.{AreSmall}
use Rattle.compile_exprs.proofs.Sums.{added, added_exist, sum_sizes, sum_stands}
use Rattle.compile_exprs.proofs.chains.added_up.Goals as goal

pub add_term-requires : goal.add_term-requires
add_term-requires c =
    let listed : c.as_slice.result.now ≡ added c.args.terms.now = c.as_slice.ensures.value ∙ c.in_ok-parts.ensures in
    record {
      can = record {
        building = c.requires.there.building;
        may = subst (λ l. PartsBelow (length (things_of c.args.work.now)) (signed_of l)) (sym listed) (added_exist (length (things_of c.args.work.now)) c.args.terms.now c.requires.there.exist);
      };
    }

pub returns : goal.returns
returns c =
    let listed : c.as_slice.result.now ≡ added c.args.terms.now = c.as_slice.ensures.value ∙ c.in_ok-parts.ensures in
    record {
      made = λ setting before xs are.
          c.add_term.ensures.made setting before (rule.Sum (sum_of xs)) (record {
            extends = are.extends;
            is = ap (λ l. rule.Sum (parts_at (things_of c.args.work.now) (signed_of l))) listed
                ∙ ap (λ x. rule.Sum x) (sum_stands (things_of c.args.work.now) c.args.terms.now xs are.are);
            small = subst (AreSmall (root_in setting)) (sum_sizes xs) are.small;
          });
    }
