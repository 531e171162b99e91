-- Rows of a table of commands with two positional words, and words that are asked with.
use Rattle.std.specs.Prelude.{ℕ, codes, List, [], ◌∷◌, Option, None}
use Rattle.brancher.specs.Rules.{Rule, lower, widest, free}
use Rattle.answer_texts.specs.declared.command.Command.{Command}
use Rattle.answer_texts.specs.declared.command.Command.TheVariants.{Solve, Tree}
use Rattle.answer_texts.specs.declared.command.Detail.TheVariants.{Full}
use Rattle.answer_run.specs.declared.commands.DrawnCommand.{DrawnCommand}
use Rattle.answer_run.specs.declared.commands.Job.TheVariants.{Text, Pair, Drawn}
use Rattle.answer_run.specs.declared.commands.PairCommand.{PairCommand}
use Rattle.answer_run.specs.declared.options.Kind.TheVariants.{Budget}
use Rattle.answer_run.specs.Words.{CommandRow, Request, WordRequest}

-- two positional words and no option; two and one option
abbrev pub two_words : CommandRow
two_words = record { job = Text Tree; name = codes "two"; options = []; positional = 2 }

abbrev pub two_or_budget : CommandRow
two_or_budget = record { job = Text (Solve Full); name = codes "either"; options = Budget ∷ []; positional = 2 }

-- what is asked for of the file `m`
abbrev pub asks : Command → ℕ → List ℕ → WordRequest
asks command budget log = record { job = Text command; model = codes "m"; second = []; budget = budget; branch = None; seats = 1; order = None; log = log; stages = 0; seed = 0 }

-- by so many seats in this order, and a brancher of this name
abbrev pub asks_seats : ℕ → Option ℕ → Option (List ℕ) → WordRequest
asks_seats seats order branch =
    record { job = Text (Solve Full); model = codes "m"; second = []; budget = 1000000; branch = branch; seats = seats; order = order; log = []; stages = 0; seed = 0 }

-- two branchers of one name behind one of another
abbrev pub three_kinds : List (List ℕ × Rule)
three_kinds = (codes "first", widest) ∷ (codes "twice", lower) ∷ (codes "twice", free) ∷ []

-- and the rule of the brancher that is asked
abbrev pub rule_asked : Request → Option Rule
rule_asked r = r.plan.asked

-- and of the file `m` and a second one
abbrev pub asks_both : PairCommand → List ℕ → WordRequest
asks_both command second =
    record { job = Pair command; model = codes "m"; second = second; budget = 1000000; branch = None; seats = 1; order = None; log = []; stages = 0; seed = 0 }

-- and of a text that is drawn, whose numbers are written so
abbrev pub asks_drawn : DrawnCommand → List ℕ → List ℕ → ℕ → ℕ → ℕ → WordRequest
asks_drawn command first second budget stages seed =
    record { job = Drawn command; model = first; second = second; budget = budget; branch = None; seats = 1; order = None; log = []; stages = stages; seed = seed }
