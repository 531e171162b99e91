use Rattle.scen_accept.specs.Stated.{model_in, problem_in}
use Rattle.answer_texts.proofs.Programs.{program_made, terms_refused, text_solvable}
use Rattle.answer_texts.proofs.program.program_of.Goals as goal

pub compile-requires-clause-within : goal.compile-requires-clause-within
compile-requires-clause-within c = c.requires.stated.1.accepted.allowed

pub returns : goal.returns
returns c =
    record {
      program = program_made (problem_in c.args.stated.now) c.compile.result c.compile.ensures.made c.compile.ensures.root c.compile.ensures.problem;
      solvable = text_solvable (model_in c.args.stated.now) c.compile.result c.compile.ensures.allowed;
      refused = terms_refused (model_in c.args.stated.now) c.compile.result c.compile.ensures.limit;
    }
