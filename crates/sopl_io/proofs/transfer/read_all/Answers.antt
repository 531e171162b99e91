use Rattle.std.proofs.Common.{rules, arith, ℕ, ◌∙◌, ◌+◌, ◌-◌, ◌^◌, ◌<◌, ◌≤◌, length, unwrap_or}
use Rattle.std.proofs.lemmas.Grind.{pieces}
use Rattle.std.proofs.lemmas.List.{length-take}
use Rattle.sopl_io.specs.Calls.{failed, no_call, succeeded}
use Rattle.sopl_io.proofs.Calling.{call_failed, call_made, calls_more, made_earlier, made_given, made_later, none_made, where_all, where_last}
use Rattle.sopl_io.proofs.Reading.{kept_within, piece_longer, read_kept, rest_behind, rest_kept, rest_more}
use Rattle.sopl_io.proofs.transfer.read_all.Goals as goal

pub returns-in_err-count-clause-rest : goal.returns-in_err-count-clause-rest
returns-in_err-count-clause-rest g c =
    let within : length c.pieces.bytes.items ≤ unwrap_or c.args.most (2 ^ 64 - 1) = search rules in
    rest_kept (g.S.Source.stock c.args.source.now) c.args.name.now (g.S.Source.left c.begin.new.self) (g.S.Source.left c.pieces.source) (g.S.Source.left c.read.new.self) c.args.most
    c.pieces.bytes.items (g.S.Source.faults c.args.source.now) (g.S.Source.faults c.read.new.self) c.in_ok-begin.ensures.text c.pieces.invariant.read within
    c.in_err-count.ensures.bytes

pub returns-then-count-eq0-clause-rest : goal.returns-then-count-eq0-clause-rest
returns-then-count-eq0-clause-rest g c =
    let within : length c.pieces.bytes.items ≤ unwrap_or c.args.most (2 ^ 64 - 1) = search rules in
    let fits : c.in_ok-count.count ≤ unwrap_or c.args.most (2 ^ 64 - 1) - length c.pieces.bytes.items = search (pieces, arith) in
    rest_more (g.S.Source.stock c.args.source.now) c.args.name.now (g.S.Source.left c.begin.new.self) (g.S.Source.left c.pieces.source) (g.S.Source.left c.read.new.self) c.args.most
    c.pieces.bytes.items c.read.new.buf c.in_ok-count.count (g.S.Source.faults c.args.source.now) (g.S.Source.faults c.read.new.self) c.in_ok-begin.ensures.text
    c.pieces.invariant.read c.in_ok-count.ensures.bytes.0 within fits

pub returns-in_err-extend_from_slice-clause-rest : goal.returns-in_err-extend_from_slice-clause-rest
returns-in_err-extend_from_slice-clause-rest g c =
    let within : length c.pieces.bytes.items ≤ unwrap_or c.args.most (2 ^ 64 - 1) = search rules in
    let fits : c.in_ok-count.count ≤ unwrap_or c.args.most (2 ^ 64 - 1) - length c.pieces.bytes.items = omega (arith, within, c.in_ok-count.ensures.bound.0, c.read.auto.buf, length-take {A = ℕ} c.min-room.result c.pieces.buf, c.min-room.ensures) in
    rest_more (g.S.Source.stock c.args.source.now) c.args.name.now (g.S.Source.left c.begin.new.self) (g.S.Source.left c.pieces.source) (g.S.Source.left c.read.new.self) c.args.most
    c.pieces.bytes.items c.read.new.buf c.in_ok-count.count (g.S.Source.faults c.args.source.now) (g.S.Source.faults c.read.new.self) c.in_ok-begin.ensures.text
    c.pieces.invariant.read c.in_ok-count.ensures.bytes.0 within fits

pub returns-clause-rest : goal.returns-clause-rest
returns-clause-rest g c =
    let within : length c.pieces.bytes.items ≤ unwrap_or c.args.most (2 ^ 64 - 1) = search rules in
    rest_behind (g.S.Source.stock c.args.source.now) c.args.name.now (g.S.Source.left c.begin.new.self) (g.S.Source.left c.pieces.source) c.args.most
    c.pieces.bytes.items (g.S.Source.faults c.args.source.now) (g.S.Source.faults c.pieces.source) c.in_ok-begin.ensures.text c.pieces.invariant.read within

pub returns-in_err-begin-clause-outcomes : goal.returns-in_err-begin-clause-outcomes
returns-in_err-begin-clause-outcomes g c =
    where_last _ _ (search rules) (call_failed (g.S.Source.outcomes c.args.source.now) _ _ no_call c.in_err-begin.ensures.outcomes)

pub returns-in_err-count-clause-outcomes : goal.returns-in_err-count-clause-outcomes
returns-in_err-count-clause-outcomes g c =
    where_last _ _ (search rules)
    (call_failed (g.S.Source.outcomes c.args.source.now) (g.S.Source.outcomes c.pieces.source) _
    (calls_more _ _ _ (call_made (g.S.Source.outcomes c.args.source.now) _ _ no_call c.in_ok-begin.ensures.outcomes) c.pieces.invariant.calls) c.in_err-count.ensures.outcomes)

pub returns-then-count-eq0-clause-outcomes : goal.returns-then-count-eq0-clause-outcomes
returns-then-count-eq0-clause-outcomes g c =
    where_all _ _ (λ e. cc)
    (call_made (g.S.Source.outcomes c.args.source.now) (g.S.Source.outcomes c.pieces.source) _
    (calls_more _ _ _ (call_made (g.S.Source.outcomes c.args.source.now) _ _ no_call c.in_ok-begin.ensures.outcomes) c.pieces.invariant.calls) c.in_ok-count.ensures.outcomes)

pub returns-in_err-extend_from_slice-clause-outcomes : goal.returns-in_err-extend_from_slice-clause-outcomes
returns-in_err-extend_from_slice-clause-outcomes g c =
    where_all _ _ (search rules)
    (call_made (g.S.Source.outcomes c.args.source.now) (g.S.Source.outcomes c.pieces.source) _
    (calls_more _ _ _ (call_made (g.S.Source.outcomes c.args.source.now) _ _ no_call c.in_ok-begin.ensures.outcomes) c.pieces.invariant.calls) c.in_ok-count.ensures.outcomes)

pub returns-clause-outcomes : goal.returns-clause-outcomes
returns-clause-outcomes g c =
    where_all _ _ (λ e. cc)
    (calls_more _ _ _ (call_made (g.S.Source.outcomes c.args.source.now) _ _ no_call c.in_ok-begin.ensures.outcomes) c.pieces.invariant.calls)

pub pieces-preserved : goal.pieces-preserved
pieces-preserved g c =
    let within : length c.pieces.bytes.items ≤ c.unwrap_or-most.result = search rules in
    let fits : c.in_ok-count.count ≤ c.unwrap_or-most.result - length c.pieces.bytes.items =
    omega (arith, within, c.in_ok-count.ensures.bound.0, c.read.auto.buf, length-take {A = ℕ} c.min-room.result c.pieces.buf, c.min-room.ensures) in
    let bound : length c.extend_from_slice.new.self.items ≤ c.unwrap_or-most.result =
    kept_within c.pieces.bytes.items c.read.new.buf _ _ c.in_ok-count.count c.unwrap_or-most.result c.in_ok-count.ensures.bound.0 c.in_ok-extend_from_slice.ensures.items within fits in
    let some : 0 < c.in_ok-count.count = search (rules, arith) in
    let longer : length c.pieces.bytes.items + 1 ≤ length c.extend_from_slice.new.self.items =
    piece_longer c.pieces.bytes.items c.read.new.buf _ _ c.in_ok-count.count some c.in_ok-count.ensures.bound.0 c.in_ok-extend_from_slice.ensures.items in
    record {
      read = read_kept _ (g.S.Source.left c.pieces.source) _ c.pieces.bytes.items c.read.new.buf _ _ c.in_ok-count.count c.in_ok-count.ensures.bound.0
          c.in_ok-extend_from_slice.ensures.items c.pieces.invariant.read c.in_ok-count.ensures.bytes.0;
      bound = search rules;
      stock = c.read.ensures.stock ∙ c.pieces.invariant.stock;
      calls = call_made (g.S.Source.outcomes c.begin.new.self) _ _ c.pieces.invariant.calls c.in_ok-count.ensures.outcomes;
      turns = made_later (g.S.Source.outcomes c.begin.new.self) (g.S.Source.outcomes c.pieces.source) _ succeeded (length c.pieces.bytes.items) _ c.pieces.invariant.turns c.in_ok-count.ensures.outcomes longer;
      names = c.read.ensures.names ∙ c.pieces.invariant.names;
      later = omega (arith, c.pieces.invariant.later, c.read.ensures.cause.later);
    }

pub returns-then-count-eq0-clause-turns : goal.returns-then-count-eq0-clause-turns
returns-then-count-eq0-clause-turns g c =
    made_earlier (g.S.Source.outcomes c.args.source.now) (g.S.Source.outcomes c.begin.new.self) (g.S.Source.outcomes c.read.new.self) succeeded (length c.pieces.bytes.items + 1) (length c.pieces.bytes.items + 2) c.in_ok-begin.ensures.outcomes
    (made_later (g.S.Source.outcomes c.begin.new.self) (g.S.Source.outcomes c.pieces.source) (g.S.Source.outcomes c.read.new.self) succeeded (length c.pieces.bytes.items) (length c.pieces.bytes.items + 1) c.pieces.invariant.turns c.in_ok-count.ensures.outcomes (omega arith)) (omega arith)

pub returns-clause-turns : goal.returns-clause-turns
returns-clause-turns g c =
    made_earlier (g.S.Source.outcomes c.args.source.now) (g.S.Source.outcomes c.begin.new.self) (g.S.Source.outcomes c.pieces.source) succeeded (length c.pieces.bytes.items) (length c.pieces.bytes.items + 2) c.in_ok-begin.ensures.outcomes c.pieces.invariant.turns (omega arith)

pub returns-in_err-begin-clause-turns_to_most : goal.returns-in_err-begin-clause-turns_to_most
returns-in_err-begin-clause-turns_to_most g c =
    made_given c.args.most (g.S.Source.outcomes c.args.source.now) (g.S.Source.outcomes c.begin.new.self) 1 (made_later (g.S.Source.outcomes c.args.source.now) (g.S.Source.outcomes c.args.source.now) (g.S.Source.outcomes c.begin.new.self) failed 0 1 (none_made (g.S.Source.outcomes c.args.source.now)) c.in_err-begin.ensures.outcomes (omega arith)) (omega arith)

pub returns-in_err-count-clause-turns_to_most : goal.returns-in_err-count-clause-turns_to_most
returns-in_err-count-clause-turns_to_most g c =
    let below : length c.pieces.bytes.items < unwrap_or c.args.most (2 ^ 64 - 1) = search (rules, arith) in
    made_given c.args.most (g.S.Source.outcomes c.args.source.now) (g.S.Source.outcomes c.read.new.self) (length c.pieces.bytes.items + 2)
    (made_earlier (g.S.Source.outcomes c.args.source.now) (g.S.Source.outcomes c.begin.new.self) (g.S.Source.outcomes c.read.new.self) succeeded (length c.pieces.bytes.items + 1) (length c.pieces.bytes.items + 2) c.in_ok-begin.ensures.outcomes
    (made_later (g.S.Source.outcomes c.begin.new.self) (g.S.Source.outcomes c.pieces.source) (g.S.Source.outcomes c.read.new.self) failed (length c.pieces.bytes.items) (length c.pieces.bytes.items + 1) c.pieces.invariant.turns c.in_err-count.ensures.outcomes (omega arith)) (omega arith)) (omega (arith, below))

pub returns-then-count-eq0-clause-turns_to_most : goal.returns-then-count-eq0-clause-turns_to_most
returns-then-count-eq0-clause-turns_to_most g c =
    let below : length c.pieces.bytes.items < unwrap_or c.args.most (2 ^ 64 - 1) = search (rules, arith) in
    made_given c.args.most (g.S.Source.outcomes c.args.source.now) (g.S.Source.outcomes c.read.new.self) (length c.pieces.bytes.items + 2)
    (made_earlier (g.S.Source.outcomes c.args.source.now) (g.S.Source.outcomes c.begin.new.self) (g.S.Source.outcomes c.read.new.self) succeeded (length c.pieces.bytes.items + 1) (length c.pieces.bytes.items + 2) c.in_ok-begin.ensures.outcomes
    (made_later (g.S.Source.outcomes c.begin.new.self) (g.S.Source.outcomes c.pieces.source) (g.S.Source.outcomes c.read.new.self) succeeded (length c.pieces.bytes.items) (length c.pieces.bytes.items + 1) c.pieces.invariant.turns c.in_ok-count.ensures.outcomes (omega arith)) (omega arith)) (omega (arith, below))

pub returns-in_err-extend_from_slice-clause-turns_to_most : goal.returns-in_err-extend_from_slice-clause-turns_to_most
returns-in_err-extend_from_slice-clause-turns_to_most g c =
    let below : length c.pieces.bytes.items < unwrap_or c.args.most (2 ^ 64 - 1) = search (rules, arith) in
    made_given c.args.most (g.S.Source.outcomes c.args.source.now) (g.S.Source.outcomes c.read.new.self) (length c.pieces.bytes.items + 2)
    (made_earlier (g.S.Source.outcomes c.args.source.now) (g.S.Source.outcomes c.begin.new.self) (g.S.Source.outcomes c.read.new.self) succeeded (length c.pieces.bytes.items + 1) (length c.pieces.bytes.items + 2) c.in_ok-begin.ensures.outcomes
    (made_later (g.S.Source.outcomes c.begin.new.self) (g.S.Source.outcomes c.pieces.source) (g.S.Source.outcomes c.read.new.self) succeeded (length c.pieces.bytes.items) (length c.pieces.bytes.items + 1) c.pieces.invariant.turns c.in_ok-count.ensures.outcomes (omega arith)) (omega arith)) (omega (arith, below))

pub returns-clause-turns_to_most : goal.returns-clause-turns_to_most
returns-clause-turns_to_most g c =
    let within : length c.pieces.bytes.items ≤ unwrap_or c.args.most (2 ^ 64 - 1) = search rules in
    made_given c.args.most (g.S.Source.outcomes c.args.source.now) (g.S.Source.outcomes c.pieces.source) (length c.pieces.bytes.items + 1) (made_earlier (g.S.Source.outcomes c.args.source.now) (g.S.Source.outcomes c.begin.new.self) (g.S.Source.outcomes c.pieces.source) succeeded (length c.pieces.bytes.items) (length c.pieces.bytes.items + 1) c.in_ok-begin.ensures.outcomes c.pieces.invariant.turns (omega arith)) (omega (arith, within))
