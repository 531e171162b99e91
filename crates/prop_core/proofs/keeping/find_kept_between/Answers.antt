use Rattle.std.proofs.Common.{◌≡◌, ◌<◌, ◌∙◌, arith, get_or, subst, sym, length, length-set, map}
use Rattle.std.proofs.Math.Seq.{map-set_same}
use Rattle.std.proofs.lemmas.List.Elements.{All-set}
use Rattle.box_problem.specs.Rightness.{Quiets}
use Rattle.prop_core.proofs.Members.{count_of, fit_set, own_reasons, same_set}
use Rattle.prop_core.proofs.Rests.{found_by}
use Rattle.prop_core.proofs.Calmed.{calm_more, done_more}
use Rattle.prop_core.proofs.keeping.find_kept_between.Goals as goal

pub returns-in_default : goal.returns-in_default
returns-in_default g c =
    let problem = g.P.Propagator.problem c.args.program.now in
    let inv = c.members.invariant in
    let count : length (map g.P.Propagator.reasons c.args.list.now) ≡ length c.members.list = count_of g.P.Propagator.reasons c.members.list c.args.list.now inv.same_reasons in
    let exists : c.members.at < length c.members.list = omega (arith, c.members-test.true, c.requires.bound, c.members.auto.list) in
    record {
      finds = found_by problem (map g.P.Propagator.reasons c.args.list.now) (g.P.Propagator.reasons (get_or c.members.list c.members.at c.index-list-at.result))
          c.args.best c.args.store.now.box c.args.start c.args.stop c.members.at c.revise_kept.result
          (omega (arith, exists, count)) (own_reasons g.P.Propagator.reasons c.members.list c.args.list.now c.members.at c.index-list-at.result inv.same_reasons exists)
          c.in_default.not-Quiet c.revise_kept.ensures.finds;
      bound = omega (arith, c.members-test.true, c.requires.bound);
      in_step = All-set (λ member. g.P.Propagator.in_step member c.args.program.now c.args.store.now.box) c.members.list c.members.at c.revise_kept.new.self c.revise_kept.ensures.in_step inv.in_step;
      calm = inv.calm;
      same_reasons = same_set g.P.Propagator.reasons c.members.list c.args.list.now c.members.at c.revise_kept.new.self c.index-list-at.result inv.same_reasons c.revise_kept.ensures.same_reasons;
      same_watches = map-set_same g.P.Propagator.watches c.members.list c.members.at c.revise_kept.new.self c.index-list-at.result c.revise_kept.ensures.same_watches ∙ inv.same_watches;
      still_fit = fit_set g.P.Propagator.fits c.args.list.now c.members.list c.members.at c.revise_kept.new.self c.index-list-at.result inv.still_fit exists
          (λ program fits. c.revise_kept.ensures.still_fits program fits);
    }

pub members-preserved : goal.members-preserved
members-preserved g c =
    let problem = g.P.Propagator.problem c.args.program.now in
    let inv = c.members.invariant in
    let exists : c.members.at < length c.members.list = omega (arith, c.members-test.true, c.requires.bound, c.members.auto.list) in
    record {
      done = done_more c.members.waits c.args.start c.members.at (omega (arith, exists, inv.as_long)) inv.done;
      as_long = length-set c.members.waits c.members.at _ ∙ (inv.as_long ∙ sym (length-set c.members.list c.members.at c.revise_kept.new.self));
      in_step = All-set (λ member. g.P.Propagator.in_step member c.args.program.now c.args.store.now.box) c.members.list c.members.at c.revise_kept.new.self c.revise_kept.ensures.in_step inv.in_step;
      calm = calm_more problem (map g.P.Propagator.reasons c.args.list.now) c.args.best c.args.store.now.box c.members.waits c.members.at inv.calm
          (subst (λ reasons. Quiets problem reasons c.args.best c.args.store.now.box)
          (own_reasons g.P.Propagator.reasons c.members.list c.args.list.now c.members.at c.index-list-at.result inv.same_reasons exists) c.in-Quiet.ensures.finds);
      same_reasons = same_set g.P.Propagator.reasons c.members.list c.args.list.now c.members.at c.revise_kept.new.self c.index-list-at.result inv.same_reasons c.revise_kept.ensures.same_reasons;
      same_watches = map-set_same g.P.Propagator.watches c.members.list c.members.at c.revise_kept.new.self c.index-list-at.result c.revise_kept.ensures.same_watches ∙ inv.same_watches;
      still_fit = fit_set g.P.Propagator.fits c.args.list.now c.members.list c.members.at c.revise_kept.new.self c.index-list-at.result inv.still_fit exists
          (λ program fits. c.revise_kept.ensures.still_fits program fits);
    }
