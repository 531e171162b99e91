-- The words of the command line, after the program's name.
use Rattle.std.specs.Prelude.{ℕ, ◌+◌, Bool, true, false, not, ◌&&◌, ◌==◌, nat_lt, nat_le, codes, List, [], ◌∷◌, length, map, filter, find, Option, Some, None, option_map, unwrap_or, if◌then◌else◌}
use Rattle.std.specs.Char.{is_ascii_digit}
use Rattle.std.specs.List.{list_all, list_any, before_first, after_first}
use Rattle.std.specs.Option.{option_and_then, option_map_or}
use Rattle.std.specs.Str.{bytes_eq}
use Rattle.sopl_ast.specs.Pieces.{decimal}
use Rattle.brancher.specs.Picks.{chosen_rule}
use Rattle.brancher.specs.Rules.{Rule}
use Rattle.sopl_search.specs.Logged.{SearchPlan}
use Rattle.answer_texts.specs.declared.command.Command.TheVariants.{Solve, Tree}
use Rattle.answer_texts.specs.declared.command.Detail.TheVariants.{Full}
use Rattle.answer_run.specs.declared.commands.DrawnCommand.TheVariants.{Gen, Demo}
use Rattle.answer_run.specs.declared.commands.Job.{Job}
use Rattle.answer_run.specs.declared.commands.Job.TheVariants.{Text, Pair, Drawn}
use Rattle.answer_run.specs.declared.commands.PairCommand.TheVariants.{Check, Eval}
use Rattle.answer_run.specs.declared.options.Kind.{Kind}
use Rattle.answer_run.specs.declared.options.Kind.TheVariants.{Budget, Branch, Seats, Order, Log, Plain}

-- a row of the table of commands: what is done on what, the command's name, the options that may stand behind it, and how many positional words do
pub record CommandRow : Type 0 where
  pub job : Job
  pub name : List ℕ
  pub options : List Kind
  pub positional : ℕ

-- the table of commands
abbrev pub commands : List CommandRow
commands =
    record { job = Text (Solve Full); name = codes "solve"; options = Budget ∷ Branch ∷ Seats ∷ Order ∷ Log ∷ []; positional = 1 }
    ∷ record { job = Text Tree; name = codes "tree"; options = []; positional = 1 }
    ∷ record { job = Pair Check; name = codes "check"; options = []; positional = 2 }
    ∷ record { job = Pair Eval; name = codes "eval"; options = []; positional = 2 }
    ∷ record { job = Drawn Gen; name = codes "gen"; options = []; positional = 2 }
    ∷ record { job = Drawn Demo; name = codes "demo"; options = Budget ∷ []; positional = 2 }
    ∷ []

-- the row of the command of this name
abbrev pub row_named : List ℕ → Option CommandRow
row_named word = find (λ (row : CommandRow). bytes_eq row.name word) commands

-- a part of the words behind a command: the value of an option, or a positional word behind so many others
pub record Part : Type 0 where
  pub kind : Kind
  pub value : List ℕ

-- a value or a positional word: it is not empty and does not begin with `-`
abbrev pub is_value : List ℕ → Bool
is_value [] = false
is_value (first ∷ later) = not (first == 45)

abbrev pub same_kind : Kind → Kind → Bool
same_kind Budget Budget = true
same_kind Branch Branch = true
same_kind Seats Seats = true
same_kind Order Order = true
same_kind Log Log = true
same_kind (Plain place) (Plain other) = place == other
same_kind kind other = false

-- the option of this name
abbrev pub option_of : List ℕ → Option Kind
option_of word =
    if bytes_eq word (codes "--budget") then Some Budget
    else if bytes_eq word (codes "--branch") then Some Branch
    else if bytes_eq word (codes "--seats") then Some Seats
    else if bytes_eq word (codes "--order") then Some Order
    else if bytes_eq word (codes "--log") then Some Log
    else None

-- the command's option of this name
abbrev pub has_option : CommandRow → Kind → Bool
has_option row kind = list_any (λ option. same_kind option kind) row.options

abbrev pub option_named : CommandRow → List ℕ → Option Kind
option_named row word = option_and_then (λ kind. if has_option row kind then Some kind else None) (option_of word)

-- a part with this value, where it is one
abbrev pub part_of : Kind → List ℕ → Option Part
part_of kind value = if is_value value then Some (record { kind = kind; value = value }) else None

-- the name of an option, `=` and its value, in one word
abbrev pub is_equals : ℕ → Bool
is_equals byte = byte == 61

abbrev pub joined_part : CommandRow → List ℕ → Option Part
joined_part row word = option_and_then (λ kind. part_of kind (after_first is_equals word)) (option_named row (before_first is_equals word))

-- a positional word behind so many others, where the command has one more
abbrev pub positional_part : CommandRow → ℕ → List ℕ → Option Part
positional_part row seen word = if nat_lt seen row.positional then Some (record { kind = Plain seen; value = word }) else None

-- a part that is one word, behind so many positional words
abbrev pub part_in : CommandRow → ℕ → List ℕ → Option Part
part_in row seen word = if is_value word then positional_part row seen word else joined_part row word

-- how many positional words there are with one word more
abbrev pub seen_with : ℕ → List ℕ → ℕ
seen_with seen word = if is_value word then seen + 1 else seen

abbrev pub with_part : Option Part → Option (List Part) → Option (List Part)
with_part first parts = option_and_then (λ part. option_map (λ more. part ∷ more) parts) first

-- the parts of the words behind a command and so many positional words, which at the end are as many as the row has: the name of an option takes the word
-- behind it as its value
abbrev pub parts_of : CommandRow → ℕ → List (List ℕ) → Option (List Part)
parts_of row seen [] = if seen == row.positional then Some [] else None
parts_of row seen (word ∷ []) =
    option_map_or (λ kind. None) (option_named row word) (with_part (part_in row seen word) (parts_of row (seen_with seen word) []))
parts_of row seen (word ∷ next ∷ later) =
    option_map_or (λ kind. with_part (part_of kind next) (parts_of row seen later)) (option_named row word)
    (with_part (part_in row seen word) (parts_of row (seen_with seen word) (next ∷ later)))

-- the values of the parts of one kind
abbrev pub values_of : Kind → List Part → List (List ℕ)
values_of kind parts = map (λ (p : Part). p.value) (filter (λ (p : Part). same_kind p.kind kind) parts)

-- at most one value
abbrev pub single : List (List ℕ) → Option (Option (List ℕ))
single [] = Some None
single (value ∷ []) = Some (Some value)
single (value ∷ other ∷ later) = None

-- the value of the one part of a kind, if there is one; each kind of part stands at most once
abbrev pub given : CommandRow → Kind → List (List ℕ) → Option (Option (List ℕ))
given row kind words = option_and_then (λ parts. single (values_of kind parts)) (parts_of row 0 words)

-- a number of 1 to 10 decimal digits, between these two
abbrev pub is_digits : List ℕ → Bool
is_digits word = nat_le 1 (length word) && nat_le (length word) 10 && list_all is_ascii_digit word

abbrev pub in_range : ℕ → ℕ → ℕ → Option ℕ
in_range least most number = if nat_le least number && nat_le number most then Some number else None

abbrev pub number_of : ℕ → ℕ → List ℕ → Option ℕ
number_of least most word = if is_digits word then in_range least most (decimal word) else None

-- the budget, which is 1000000 where none is given; the seats, which are 1; the order, if one is given; the name that a part of a kind gives, which is empty
-- where there is none; and a positional word behind so many others
abbrev pub budget_in : CommandRow → List (List ℕ) → Option ℕ
budget_in row words = option_and_then (λ value. option_map_or (number_of 1 4294967295) value (Some 1000000)) (given row Budget words)

abbrev pub seats_in : CommandRow → List (List ℕ) → Option ℕ
seats_in row words = option_and_then (λ value. option_map_or (number_of 1 64) value (Some 1)) (given row Seats words)

abbrev pub order_number : Option (List ℕ) → Option (Option ℕ)
order_number None = Some None
order_number (Some word) = option_map (λ order. Some order) (number_of 0 2147483647 word)

abbrev pub order_in : CommandRow → List (List ℕ) → Option (Option ℕ)
order_in row words = option_and_then order_number (given row Order words)

abbrev pub named_in : CommandRow → Kind → List (List ℕ) → Option (List ℕ)
named_in row kind words = option_map (λ value. unwrap_or value []) (given row kind words)

abbrev pub positional_in : CommandRow → ℕ → List (List ℕ) → Option (List ℕ)
positional_in row place words = option_and_then (λ value. value) (given row (Plain place) words)

-- a command draws its text, and reads no file
abbrev pub is_drawn : Job → Bool
is_drawn (Text command) = false
is_drawn (Pair command) = false
is_drawn (Drawn command) = true

-- the number that a positional word writes, where the text is drawn of such numbers, and else 0
abbrev pub drawn_in : CommandRow → ℕ → ℕ → ℕ → List (List ℕ) → Option ℕ
drawn_in row place least most words = if is_drawn row.job then option_and_then (number_of least most) (positional_in row place words) else Some 0

-- what words say: what is done on what, the file of the model and the second file, which is empty where the command has none, where they are files; the nodes that
-- a search may finish, the name of the brancher that it asks, if one is given, its seats, their order, if one is given, the name of the log that it writes, and how
-- many stages are drawn, and by which seed
pub record WordRequest : Type 0 where
  pub job : Job
  pub model : List ℕ
  pub second : List ℕ
  pub budget : ℕ
  pub branch : Option (List ℕ)
  pub seats : ℕ
  pub order : Option ℕ
  pub log : List ℕ
  pub stages : ℕ
  pub seed : ℕ

-- what a command and the words behind it say
abbrev pub requested : CommandRow → List (List ℕ) → Option WordRequest
requested row words =
    option_and_then (λ budget.
    option_and_then (λ branch.
    option_and_then (λ seats.
    option_and_then (λ order.
    option_and_then (λ log.
    option_and_then (λ second.
    option_and_then (λ model.
    option_and_then (λ stages.
    option_map (λ seed.
    record {
      job = row.job;
      model = model;
      second = second;
      budget = budget;
      branch = branch;
      seats = seats;
      order = order;
      log = log;
      stages = stages;
      seed = seed;
    }) (drawn_in row 1 0 2147483647 words)) (drawn_in row 0 1 9 words)) (positional_in row 0 words))
    (named_in row (Plain 1) words)) (named_in row Log words)) (order_in row words)) (seats_in row words)) (given row Branch words)) (budget_in row words)

-- what words say: the name of a command, and behind it its options and its files
abbrev pub request_of : List (List ℕ) → Option WordRequest
request_of [] = None
request_of (name ∷ words) = option_and_then (λ row. requested row words) (row_named name)

-- what is asked for: the same, with the plan of a search
pub record Request : Type 0 where
  pub job : Job
  pub model : List ℕ
  pub second : List ℕ
  pub plan : SearchPlan
  pub log : List ℕ
  pub stages : ℕ
  pub seed : ℕ

abbrev pub request_with : WordRequest → Option Rule → Request
request_with r asked =
    record {
      job = r.job;
      model = r.model;
      second = r.second;
      plan = record { seats = r.seats; order = r.order; asked = asked; budget = r.budget };
      log = r.log;
      stages = r.stages;
      seed = r.seed;
    }

-- a name is given, and no brancher is found by it
abbrev pub no_one_has : Option (List ℕ) → Option Rule → Bool
no_one_has None found = false
no_one_has (Some name) None = true
no_one_has (Some name) (Some rule) = false

-- what words ask for, where branchers of these names and rules are there: by their brancher, which is the first of the name that is given, or the first of all where
-- none is; nothing, where no one has the name
abbrev pub asked_with : Option Rule → WordRequest → Option Request
asked_with found r = if no_one_has r.branch found then None else Some (request_with r found)

abbrev pub asked_of : List (List ℕ × Rule) → List (List ℕ) → Option Request
asked_of kinds words = option_and_then (λ r. asked_with (chosen_rule kinds r.branch) r) (request_of words)

-- files are asked for
abbrev pub reads_files : Option Request → Bool
reads_files None = false
reads_files (Some r) = not (is_drawn r.job)

-- the file of the model, where words name one
abbrev pub model_of : List (List ℕ) → Option (List ℕ)
model_of words = option_map (λ (r : WordRequest). r.model) (request_of words)
