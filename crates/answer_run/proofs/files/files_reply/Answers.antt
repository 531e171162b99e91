use Rattle.std.proofs.Common.{◌+◌, rules, arith, ◌≡◌, Some, Err, option_map, refl, vec_len}
use Rattle.sopl_io.specs.Causes.{Rose}
use Rattle.sopl_io.specs.declared.transfer.ReadStop.TheVariants.{NoMemory}
use Rattle.sopl_base.specs.declared.stop.SearchStop.TheVariants as search
use Rattle.sopl_ast.specs.Tokens.{max_length}
use Rattle.answer_texts.specs.Logs.{told}
use Rattle.answer_run.specs.declared.commands.Job.TheVariants.{Text, Pair}
use Rattle.answer_run.specs.Runs.{meant_status}
use Rattle.answer_run.specs.Shown.{request_shown}
use Rattle.answer_run.specs.Words.{Request, request_with}
use Rattle.answer_run.proofs.Reading.{both_begun, model_taken, second_taken, text_begun, unread_begun}
use Rattle.answer_run.proofs.WholeText.{both_made, ended_made, fault_replied, reply_made, same_plan, stops_made}
use Rattle.answer_run.proofs.Calls.{calls_behind, text_calls, unread_calls}
use Rattle.answer_run.proofs.files.files_reply.Goals as goal

pub returns-in-Text-clause-reply : goal.returns-in-Text-clause-reply
returns-in-Text-clause-reply g c =
    let r : Request = request_with (request_shown c.args.request.now) (option_map (λ b. (goal.Brancher-dyn g (b.vtable, b.value)).rule b.value) c.args.brancher) in
    let job : c.args.request.now.job ≡ Text c.in-Text.command = search rules in
    reply_made (Some r)
    (g.S.Source.stock c.args.source.now) (g.S.Source.faults c.args.source.now) (g.S.Source.faults c.read_all.new.source)
    (told (g.K.Sink.taken c.args.log.now) (g.K.Sink.names c.args.log.now)) (told (g.K.Sink.taken c.reply_to.new.sink) (g.K.Sink.names c.reply_to.new.sink))
    c.in-Ok.text.items r
    c.in-Text.command job (max_length + 1) refl (omega arith) c.as_slice.result.now c.as_slice.ensures.value c.in-Ok.ensures.text
    _ (same_plan r c.new.result.seats c.new.result.order c.new.ensures.seats c.new.ensures.order) c.reply_to.result c.reply_to.ensures.reply

pub returns-in-Text-clause-stopped : goal.returns-in-Text-clause-stopped
returns-in-Text-clause-stopped g c =
    let r : Request = request_with (request_shown c.args.request.now) (option_map (λ b. (goal.Brancher-dyn g (b.vtable, b.value)).rule b.value) c.args.brancher) in
    let job : c.args.request.now.job ≡ Text c.in-Text.command = search rules in
    stops_made (Some r)
    (g.S.Source.stock c.args.source.now) (g.S.Source.faults c.args.source.now) (g.S.Source.faults c.read_all.new.source)
    (told (g.K.Sink.taken c.args.log.now) (g.K.Sink.names c.args.log.now)) (told (g.K.Sink.taken c.reply_to.new.sink) (g.K.Sink.names c.reply_to.new.sink))
    c.in-Ok.text.items r
    c.in-Text.command job (max_length + 1) refl (omega arith) c.as_slice.result.now c.as_slice.ensures.value c.in-Ok.ensures.text
    _ (same_plan r c.new.result.seats c.new.result.order c.new.ensures.seats c.new.ensures.order) c.reply_to.result c.reply_to.ensures.stopped

pub returns-in-Text-clause-ended : goal.returns-in-Text-clause-ended
returns-in-Text-clause-ended g c =
    let r : Request = request_with (request_shown c.args.request.now) (option_map (λ b. (goal.Brancher-dyn g (b.vtable, b.value)).rule b.value) c.args.brancher) in
    ended_made c.as_slice.result.now _ c.in-Text.command r.log
    (told (g.K.Sink.taken c.args.log.now) (g.K.Sink.names c.args.log.now)) (told (g.K.Sink.taken c.reply_to.new.sink) (g.K.Sink.names c.reply_to.new.sink))
    (max_length + 1) (vec_len c.in-Ok.text) (g.S.Source.left c.read_all.new.source) c.reply_to.result c.as_slice.ensures.len c.in-Ok.ensures.end (omega arith)
    c.reply_to.ensures.reply

pub returns-in-Text-clause-taken_at_most : goal.returns-in-Text-clause-taken_at_most
returns-in-Text-clause-taken_at_most g c =
    let r : Request = request_with (request_shown c.args.request.now) (option_map (λ b. (goal.Brancher-dyn g (b.vtable, b.value)).rule b.value) c.args.brancher) in
    model_taken (Some r)
    (g.S.Source.stock c.args.source.now) (max_length + 1) (g.S.Source.faults c.args.source.now) (g.S.Source.faults c.read_all.new.source)
    (g.S.Source.left c.read_all.new.source)
    r refl c.requires.files c.read_all.ensures.rest

pub returns-in-Text-clause-outcomes : goal.returns-in-Text-clause-outcomes
returns-in-Text-clause-outcomes g c =
    text_calls (g.S.Source.outcomes c.args.source.now) (g.S.Source.outcomes c.read_all.new.source) (g.K.Sink.outcomes c.args.log.now) (g.K.Sink.outcomes c.reply_to.new.sink) _ _ _ _ _ _
    c.reply_to.result (c.in-Ok.ensures.outcomes.all (λ e. cc))
    c.reply_to.ensures.outcomes c.reply_to.ensures.reply

pub returns-in-Text-clause-names : goal.returns-in-Text-clause-names
returns-in-Text-clause-names g c =
    let r : Request = request_with (request_shown c.args.request.now) (option_map (λ b. (goal.Brancher-dyn g (b.vtable, b.value)).rule b.value) c.args.brancher) in
    let job : c.args.request.now.job ≡ Text c.in-Text.command = search rules in
    text_begun (Some r)
    (g.S.Source.stock c.args.source.now) (g.S.Source.names c.args.source.now) (g.S.Source.names c.read_all.new.source)
    r c.in-Text.command refl job
    c.read_all.ensures.names (meant_status c.reply_to.result)

pub returns-in-Pair-clause-reply : goal.returns-in-Pair-clause-reply
returns-in-Pair-clause-reply g c =
    let r : Request = request_with (request_shown c.args.request.now) (option_map (λ b. (goal.Brancher-dyn g (b.vtable, b.value)).rule b.value) c.args.brancher) in
    let job : c.args.request.now.job ≡ Pair c.in-Pair.command = search rules in
    both_made (Some r)
    (g.S.Source.faults c.args.source.now) (g.S.Source.faults c.read_all.new.source) (g.S.Source.faults c.pair_reply.new.source)
    c.read_all.ensures.faults_grow (told (g.K.Sink.taken c.args.log.now) (g.K.Sink.names c.args.log.now)) c.in-Ok.text.items
    r
    c.in-Pair.command job (max_length + 1) refl (omega arith) (g.S.Source.stock c.args.source.now) (g.S.Source.stock c.read_all.new.source) c.read_all.ensures.stock
    c.as_slice-in-Pair.result.now c.as_slice-in-Pair.ensures.value c.in-Ok.ensures.text c.pair_reply.result c.pair_reply.ensures.reply

pub returns-in-Pair-clause-taken_at_most : goal.returns-in-Pair-clause-taken_at_most
returns-in-Pair-clause-taken_at_most g c =
    let r : Request = request_with (request_shown c.args.request.now) (option_map (λ b. (goal.Brancher-dyn g (b.vtable, b.value)).rule b.value) c.args.brancher) in
    let job : c.args.request.now.job ≡ Pair c.in-Pair.command = search rules in
    second_taken (Some r)
    (g.S.Source.stock c.args.source.now) (g.S.Source.stock c.read_all.new.source) (max_length + 1) (g.S.Source.faults c.args.source.now)
    (g.S.Source.faults c.read_all.new.source) (g.S.Source.faults c.pair_reply.new.source) (g.S.Source.left c.read_all.new.source)
    (g.S.Source.left c.pair_reply.new.source)
    r c.in-Pair.command refl job
    c.read_all.ensures.stock
    c.read_all.ensures.faults_grow c.read_all.ensures.rest c.pair_reply.ensures.rest

pub returns-in-Pair-clause-outcomes : goal.returns-in-Pair-clause-outcomes
returns-in-Pair-clause-outcomes g c =
    calls_behind (g.S.Source.outcomes c.args.source.now) (g.S.Source.outcomes c.pair_reply.new.source) (g.K.Sink.outcomes c.args.log.now)
    (g.K.Sink.outcomes c.args.log.now) (g.S.Source.outcomes c.read_all.new.source) c.pair_reply.result (c.in-Ok.ensures.outcomes.all (λ e. cc))
    (c.pair_reply.ensures.outcomes (g.K.Sink.outcomes c.args.log.now))

pub returns-in-Pair-clause-names : goal.returns-in-Pair-clause-names
returns-in-Pair-clause-names g c =
    let r : Request = request_with (request_shown c.args.request.now) (option_map (λ b. (goal.Brancher-dyn g (b.vtable, b.value)).rule b.value) c.args.brancher) in
    let job : c.args.request.now.job ≡ Pair c.in-Pair.command = search rules in
    both_begun (Some r)
    (g.S.Source.stock c.args.source.now) (g.S.Source.names c.args.source.now) (g.S.Source.names c.read_all.new.source)
    (g.S.Source.names c.pair_reply.new.source)
    r c.in-Pair.command
    c.in-Ok.text.items c.as_slice-in-Pair.result.now (max_length + 1) refl job
    (omega arith) c.as_slice-in-Pair.ensures.value c.in-Ok.ensures.text c.read_all.ensures.names (meant_status c.pair_reply.result) c.pair_reply.ensures.names

pub returns-in-Err-Fault-clause-reply : goal.returns-in-Err-Fault-clause-reply
returns-in-Err-Fault-clause-reply g c =
    let r : Request = request_with (request_shown c.args.request.now) (option_map (λ b. (goal.Brancher-dyn g (b.vtable, b.value)).rule b.value) c.args.brancher) in
    let rose : Rose (g.S.Source.faults c.args.source.now) (g.S.Source.faults c.read_all.new.source) = search rules in
    fault_replied (Some r)
    (g.S.Source.stock c.args.source.now) (g.S.Source.faults c.args.source.now) (g.S.Source.faults c.read_all.new.source)
    (told (g.K.Sink.taken c.args.log.now) (g.K.Sink.names c.args.log.now))
    r refl c.requires.files rose
    c.word_reply.result
    c.word_reply.ensures.status c.word_reply.ensures.line

pub returns-in-Err-Fault-clause-taken_at_most : goal.returns-in-Err-Fault-clause-taken_at_most
returns-in-Err-Fault-clause-taken_at_most g c =
    let r : Request = request_with (request_shown c.args.request.now) (option_map (λ b. (goal.Brancher-dyn g (b.vtable, b.value)).rule b.value) c.args.brancher) in
    model_taken (Some r)
    (g.S.Source.stock c.args.source.now) (max_length + 1) (g.S.Source.faults c.args.source.now) (g.S.Source.faults c.read_all.new.source)
    (g.S.Source.left c.read_all.new.source)
    r refl c.requires.files c.read_all.ensures.rest

pub returns-in-Err-Fault-clause-names : goal.returns-in-Err-Fault-clause-names
returns-in-Err-Fault-clause-names g c =
    let r : Request = request_with (request_shown c.args.request.now) (option_map (λ b. (goal.Brancher-dyn g (b.vtable, b.value)).rule b.value) c.args.brancher) in
    unread_begun (Some r)
    (g.S.Source.stock c.args.source.now) (g.S.Source.names c.args.source.now) (g.S.Source.names c.read_all.new.source)
    r refl c.requires.files
    c.read_all.ensures.names c.word_reply.result c.word_reply.ensures.status
    c.word_reply.ensures.memory

pub returns-clause-taken_at_most : goal.returns-clause-taken_at_most
returns-clause-taken_at_most g c =
    let r : Request = request_with (request_shown c.args.request.now) (option_map (λ b. (goal.Brancher-dyn g (b.vtable, b.value)).rule b.value) c.args.brancher) in
    model_taken (Some r)
    (g.S.Source.stock c.args.source.now) (max_length + 1) (g.S.Source.faults c.args.source.now) (g.S.Source.faults c.read_all.new.source)
    (g.S.Source.left c.read_all.new.source)
    r refl c.requires.files c.read_all.ensures.rest

pub returns-clause-outcomes : goal.returns-clause-outcomes
returns-clause-outcomes g c =
    let failed : c.read_all.result ≡ Err NoMemory = search rules in
    unread_calls (g.S.Source.outcomes c.args.source.now) (g.S.Source.outcomes c.read_all.new.source) (g.K.Sink.outcomes c.args.log.now) (g.K.Sink.outcomes c.args.log.now)
    (c.read_all.ensures.outcomes.all (λ e. cc))

pub returns-clause-names : goal.returns-clause-names
returns-clause-names g c =
    let r : Request = request_with (request_shown c.args.request.now) (option_map (λ b. (goal.Brancher-dyn g (b.vtable, b.value)).rule b.value) c.args.brancher) in
    unread_begun (Some r)
    (g.S.Source.stock c.args.source.now) (g.S.Source.names c.args.source.now) (g.S.Source.names c.read_all.new.source)
    r refl c.requires.files
    c.read_all.ensures.names (Err search.NoMemory) tt refl
