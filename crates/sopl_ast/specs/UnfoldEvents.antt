-- What is met on the way through a text, as a list of occurrences in order: things that are counted, refusals, and limits that are passed. The first refusal or limit counts.
use Rattle.std.specs.Prelude.{ℕ, ◌+◌, nat_lt, nat_le, ℤ, pos, Bool, true, false, not, List, [], ◌∷◌, ◌++◌, Option, Some, None, Result, Ok, Err, if◌then◌else◌}
use Rattle.std.specs.List.{flat_map}
use Rattle.std.specs.Option.{unwrap_or}
use Rattle.std.specs.Ordering.{int_eq}
use Rattle.sopl_base.specs.declared.fault.Refusal.{Refusal}
use Rattle.sopl_base.specs.declared.fault.Excess.{Excess}
use Rattle.sopl_base.specs.declared.fault.Fault.{Fault}
use Rattle.sopl_base.specs.declared.fault.Fault.TheVariants.{Text, Limit}
use Rattle.sopl_base.specs.declared.codes.TheConstants as codes
use Rattle.sopl_base.specs.declared.limits.TheConstants as largest
use Rattle.sopl_ast.specs.declared.operators.MulOp.TheVariants.{Times, Div, Mod}
use Rattle.sopl_ast.specs.Tree as t
use Rattle.sopl_ast.specs.Tree.{Tree, Shape, Trees, Terms, Factors, Binders, Range, Node, no_tree, tree, no_term, term, no_factor, factor, no_binder, binder, Named, Ends, place_of}
use Rattle.sopl_ast.specs.Numbers.{count_between, natural}
use Rattle.sopl_ast.specs.Known.{Known, with_bound}
use Rattle.sopl_ast.specs.Constants.{applied_within, value, value_or_zero, numbers_in}

-- one more thing that is counted, a refusal, or a limit that is passed
pub data UnfoldEvent : Type 0 where
  Counted : UnfoldEvent
  Refused : Refusal → UnfoldEvent
  Passed : Excess → UnfoldEvent

-- a limit that is passed: its code, the number that was counted, and the limit
abbrev pub excess : ℕ → ℤ → ℤ → Excess
excess code counted limit = record { code = code; counted = counted; limit = limit }

-- how many things were counted behind these occurrences, where so many were before and `most` may be; or the refusal or the limit that ends the way
abbrev pub met_within : ℕ → ℕ → List UnfoldEvent → Result ℕ Fault
met_within most count [] = Ok count
met_within most count (Counted ∷ later) =
    if nat_lt count most then met_within most (count + 1) later else Err (Limit (excess codes.UNFOLDING (pos (most + 1)) (pos most)))
met_within most count (Refused refusal ∷ later) = Err (Text refusal)
met_within most count (Passed passed ∷ later) = Err (Limit passed)

-- the greatest number of things that are counted
abbrev pub most_counted : ℕ
most_counted = largest.UNFOLDED

-- the first failure under the greatest number that is allowed
abbrev pub first_failure : ℕ → List UnfoldEvent → Result ℕ Fault
first_failure count events = met_within most_counted count events

-- a refusal, alone
abbrev pub refused : ℕ → ℕ → List UnfoldEvent
refused code at = Refused (record { code = code; at = at }) ∷ []

-- a refusal, where a test fails
abbrev pub refused_unless : Bool → ℕ → ℕ → List UnfoldEvent
refused_unless true code at = []
refused_unless false code at = refused code at

-- 110: an expression in a constant place has no value
abbrev pub no_value : {A : Type 0} → Option A → ℕ → List UnfoldEvent
no_value None at = refused codes.UNDEFINED at
no_value (Some x) at = []

-- the greatest number of numbers in a domain, a range or a set
abbrev pub most_numbers : ℕ
most_numbers = natural largest.NUMBERS

-- 203 and 208: there are more numbers
abbrev pub too_many : ℕ → ℕ → List UnfoldEvent
too_many code count = if nat_le count most_numbers then [] else Passed (excess code (pos count) (pos most_numbers)) ∷ []

-- whether a value is there and is 0
abbrev pub is_zero : Option ℤ → Bool
is_zero None = false
is_zero (Some x) = int_eq x (pos 0)

abbrev mutual
  -- an expression: inside the constant expression that begins at `whole`, which is refused there where this one has no value (110); or, with none, in
  -- a constraint or an objective
  pub events_in : Option ℕ → Known → Tree → List UnfoldEvent
  events_in None known (Node at shape) = inside_events None known shape
  events_in (Some whole) known (Node at shape) = inside_events (Some whole) known shape ++ no_value (value known (Node at shape)) whole

  -- its parts
  pub inside_events : Option ℕ → Known → Shape → List UnfoldEvent
  inside_events whole known (t.Lit z) = []
  inside_events whole known (t.Name name) = []
  inside_events whole known (t.Index name es) = all_events whole known es
  inside_events whole known (t.Call f e) = events_in whole known e
  inside_events whole known (t.Add parts) = terms_events whole known parts
  inside_events whole known (t.Mul first others) = events_in whole known first ++ factors_events whole known (value known first) others
  inside_events whole known (t.Cmp op a b) = events_in whole known a ++ events_in whole known b
  inside_events whole known (t.Not e) = events_in whole known e
  inside_events whole known (t.And es) = all_events whole known es
  inside_events whole known (t.Or es) = all_events whole known es
  inside_events whole known (t.Implies a b) = events_in whole known a ++ events_in whole known b
  inside_events whole known (t.Sum bs e) = binding_events known whole bs (λ here. events_in whole here e)
  inside_events whole known (t.Selected which es) = all_events whole known es
  inside_events whole known (t.AllDifferent bs e) = binding_events known whole bs (λ here. events_in whole here e)
  inside_events whole known (t.Cumulative bs start duration demand capacity) =
      binding_events known whole bs (λ here. events_in whole here start ++ (events_in whole here duration ++ events_in whole here demand)) ++ events_in whole known capacity

  -- expressions in order
  pub all_events : Option ℕ → Known → Trees → List UnfoldEvent
  all_events whole known no_tree = []
  all_events whole known (tree e es) = events_in whole known e ++ all_events whole known es

  -- the parts of a chain of `+` and `-`
  pub terms_events : Option ℕ → Known → Terms → List UnfoldEvent
  terms_events whole known no_term = []
  terms_events whole known (term minus e more) = events_in whole known e ++ terms_events whole known more

  -- the factors behind what stands before them: inside a constant expression each prefix of the product has a value (110); else a divisor is a
  -- constant place of its own, and is not 0 (110)
  pub factors_events : Option ℕ → Known → Option ℤ → Factors → List UnfoldEvent
  factors_events whole known before no_factor = []
  factors_events (Some whole) known before (factor op e more) =
      events_in (Some whole) known e
      ++ (no_value (applied_within op before (value known e)) whole ++ factors_events (Some whole) known (applied_within op before (value known e)) more)
  factors_events None known before (factor Times e more) = events_in None known e ++ factors_events None known before more
  factors_events None known before (factor Div e more) =
      (events_in (Some (place_of e)) known e ++ refused_unless (not (is_zero (value known e))) codes.UNDEFINED (place_of e)) ++ factors_events None known before more
  factors_events None known before (factor Mod e more) =
      (events_in (Some (place_of e)) known e ++ refused_unless (not (is_zero (value known e))) codes.UNDEFINED (place_of e)) ++ factors_events None known before more

  -- binders, and what is met for each way in which they take their values, which are counted; their ranges are constant places, which belong to the
  -- expression that begins at `whole`, if there is one
  pub binding_events : Known → Option ℕ → Binders → (Known → List UnfoldEvent) → List UnfoldEvent
  binding_events known whole no_binder each = each known
  binding_events known whole (binder name at range more) each =
      range_events known whole range
      ++ flat_map (λ number. Counted ∷ binding_events (with_bound name number known) whole more each) (numbers_in known range)

  -- a range, which has 65536 numbers at most (208); one that is named was looked at where it was declared
  pub range_events : Known → Option ℕ → Range → List UnfoldEvent
  range_events known whole (Named name at) = []
  range_events known whole (Ends lo hi) =
      events_in (Some (unwrap_or whole (place_of lo))) known lo
      ++ (events_in (Some (unwrap_or whole (place_of hi))) known hi ++ too_many codes.NUMBERS (count_between (value_or_zero known lo) (value_or_zero known hi)))

-- an expression inside the constant expression that begins at `whole`, one that is a constant place of its own, and one of a constraint or an
-- objective
abbrev pub constant_events : Known → ℕ → Tree → List UnfoldEvent
constant_events known whole e = events_in (Some whole) known e

abbrev pub constant_place : Known → Tree → List UnfoldEvent
constant_place known e = constant_events known (place_of e) e

abbrev pub expression_events : Known → Tree → List UnfoldEvent
expression_events known e = events_in None known e

-- 110: a divisor has no value, or is 0
abbrev pub divisor_events : Known → Tree → List UnfoldEvent
divisor_events known e = constant_place known e ++ refused_unless (not (is_zero (value known e))) codes.UNDEFINED (place_of e)
