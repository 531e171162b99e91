-- What rows, parts and requests of the program are.
use Rattle.std.specs.Prelude.{ℕ, List, option_map}
use Rattle.std.specs.Borrow.{Bor}
use Rattle.answer_run.specs.Words as words
use Rattle.answer_run.specs.declared.commands.CommandRow.{CommandRow}
use Rattle.answer_run.specs.declared.options.Part.{Part}
use Rattle.answer_run.specs.declared.request.WordRequest.{WordRequest}

abbrev pub text_shown : Bor (List ℕ) → List ℕ
text_shown text = text.now

abbrev pub row_shown : CommandRow → words.CommandRow
row_shown r = record { job = r.job; name = r.name.now; options = r.options.now; positional = r.positional }

abbrev pub part_shown : Part → words.Part
part_shown p = record { kind = p.kind; value = p.value.now }

abbrev pub request_shown : WordRequest → words.WordRequest
request_shown r =
    record {
      job = r.job;
      model = r.model.now;
      second = r.second.now;
      budget = r.budget;
      branch = option_map text_shown r.branch;
      seats = r.seats;
      order = r.order;
      log = r.log.now;
      stages = r.stages;
      seed = r.seed;
    }
