use Rattle.std.proofs.Common.{rules, arith, refl, ◌∙◌}
use Rattle.std.proofs.lemmas.Grind.{pieces}
use Rattle.std.proofs.KnownBytes.{Appends-nil}
use Rattle.sopl_io.specs.Calls.{failed, no_call, succeeded}
use Rattle.sopl_io.proofs.Calling.{call_made, made_later, made_most, none_made}
use Rattle.sopl_io.proofs.Writing.{written_more}
use Rattle.sopl_io.proofs.transfer.write_all.Goals as goal

pub pieces-init : goal.pieces-init
pieces-init g c =
    record {
      written = Appends-nil (g.K.Sink.taken c.args.sink.now);
      within = omega arith;
      calls = no_call;
      turns = none_made (g.K.Sink.outcomes c.args.sink.now);
      names = refl;
      later = omega arith;
    }

pub pieces-preserved : goal.pieces-preserved
pieces-preserved g c =
    record {
      written = search (rules, written_more);
      within = search (pieces, arith);
      calls = call_made (g.K.Sink.outcomes c.args.sink.now) _ _ c.pieces.invariant.calls c.in_ok-at.ensures.outcomes;
      turns = made_later (g.K.Sink.outcomes c.args.sink.now) (g.K.Sink.outcomes c.pieces.sink) _ succeeded c.pieces.at _ c.pieces.invariant.turns c.in_ok-at.ensures.outcomes (search (pieces, arith));
      names = c.write.ensures.names ∙ c.pieces.invariant.names;
      later = omega (arith, c.pieces.invariant.later, c.write.ensures.cause.later);
    }

pub returns-in_err-at-clause-turns : goal.returns-in_err-at-clause-turns
returns-in_err-at-clause-turns g c =
    made_later (g.K.Sink.outcomes c.args.sink.now) (g.K.Sink.outcomes c.pieces.sink) _ failed c.pieces.at _ c.pieces.invariant.turns c.in_err-at.ensures.outcomes (search (pieces, arith))

pub returns-clause-turns : goal.returns-clause-turns
returns-clause-turns g c = made_most (g.K.Sink.outcomes c.args.sink.now) (g.K.Sink.outcomes c.pieces.sink) c.pieces.at _ c.pieces.invariant.turns c.pieces.invariant.within
