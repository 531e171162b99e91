-- A policy that is read from a text.
use Rattle.std.specs.Prelude.{◌≡◌, ℕ, ◌-◌, ℤ, pos, List, [], ◌∷◌, Option, Some, None, map, set, codes, length}
use Rattle.std.specs.List.{range_with_len}
use Rattle.std.specs.Option.{option_map_or}
use Rattle.serde_json.specs.Data.{Data}
use Rattle.serde_json.specs.Find.{get}
use Rattle.sopl_base.specs.declared.fault.Fault.{Fault}
use Rattle.sopl_base.specs.declared.fault.Fault.TheVariants as fault
use Rattle.sopl_base.specs.declared.fault.Refusal.{Refusal}
use Rattle.sopl_base.specs.declared.codes.TheConstants.{POLICY_JSON, POLICY_SHAPE, POLICY_VALUE}
use Rattle.sopl_ast.specs.Cells.{Cell, IsPoint, policy_at}
use Rattle.sopl_ast.specs.Instances.{Decision, Stochastic}
use Rattle.sopl_scen.specs.Domains.{cell_ends}
use Rattle.sopl_scen.specs.Layout.{cells_for}
use Rattle.policy_json.specs.LastStage.{last_stage}
use Rattle.policy_json.specs.Nodes.{outermost_node}
use Rattle.policy_read.specs.declared.entry.Told.{Told}
use Rattle.policy_read.specs.declared.policy.PolicyReading as kept
use Rattle.policy_read.specs.declared.policy.PolicyReading.TheVariants as declared
use Rattle.policy_read.specs.Domains.{first_outside, low_in}
use Rattle.policy_read.specs.Forms.{Facing, all_told, first_difference, facing, nodes_of}
use Rattle.policy_read.specs.Listed.{data_in}

-- what a text says of a policy: its point of the cells; or that it is no JSON, which node differs from the policy's form, or the value of which cell lies
-- outside its domain
pub data PolicyReading : Type 0 where
  Point : List ℤ → PolicyReading
  NoJson : PolicyReading
  Differs : ℕ → PolicyReading
  Outside : ℕ → PolicyReading

-- what a text says of a policy, as the program keeps it
abbrev pub policy_reading : kept.PolicyReading → PolicyReading
policy_reading (declared.Point values) = Point values.items
policy_reading declared.NoJson = NoJson
policy_reading (declared.Differs node) = Differs node
policy_reading (declared.Outside cell) = Outside cell

-- why a text holds no policy: the code, and the place of it
abbrev pub policy_refusal : PolicyReading → Option Refusal
policy_refusal (Point values) = None
policy_refusal NoJson = Some (record { code = POLICY_JSON; at = 0 })
policy_refusal (Differs node) = Some (record { code = POLICY_SHAPE; at = node })
policy_refusal (Outside cell) = Some (record { code = POLICY_VALUE; at = cell })

-- a fault says so
abbrev pub RefusesPolicy : PolicyReading → Fault → Type 0
RefusesPolicy reading (fault.Text refusal) = policy_refusal reading ≡ Some refusal
RefusesPolicy reading (fault.Limit excess) = ⊥
RefusesPolicy reading fault.NoMemory = Unit {0}

-- the values that a text holds are a point of the cells
abbrev pub HoldsPoint : List Cell → PolicyReading → Type 0
HoldsPoint cells (Point values) = IsPoint cells values
HoldsPoint cells NoJson = Unit {0}
HoldsPoint cells (Differs node) = Unit {0}
HoldsPoint cells (Outside cell) = Unit {0}

-- the numbers below a number
unfoldable pub numbers_below : ℕ → List ℤ
numbers_below n = map pos (range_with_len 0 n)

-- the form of a policy: its JSON, where the value of each cell is the cell's number
abbrev pub form_for : List Decision → List Stochastic → Data
form_for decisions stochastics =
    outermost_node decisions stochastics (policy_at (cells_for decisions stochastics) (numbers_below (length (cells_for decisions stochastics))))

-- each value at the number of its cell
abbrev pub put_at : Told → List ℤ → List ℤ
put_at told values = set values told.cell told.value

abbrev pub put_all_at : List Told → List ℤ → List ℤ
put_all_at [] values = values
put_all_at (t ∷ ts) values = put_all_at ts (put_at t values)

-- the policy with these values, where none lies outside its domain. It begins with the least value of each domain; in what is printed of a policy, none of these
-- is left standing: this is the law `printed_is_read`
abbrev pub policy_unless : Option ℕ → List Told → List (ℤ × ℤ) → PolicyReading
policy_unless (Some cell) told domains = Outside cell
policy_unless None told domains = Point (put_all_at told (map low_in domains))

abbrev pub told_policy : List Told → List (ℤ × ℤ) → PolicyReading
told_policy told domains = policy_unless (first_outside domains told) told domains

-- the policy of the values that nodes tell, where none differs from the form's
abbrev pub values_unless : Option ℕ → List Facing → List (ℤ × ℤ) → PolicyReading
values_unless (Some node) nodes domains = Differs node
values_unless None nodes domains = told_policy (all_told nodes) domains

abbrev pub nodes_policy : List Facing → List (ℤ × ℤ) → PolicyReading
nodes_policy nodes domains = values_unless (first_difference nodes) nodes domains

-- the policy of a node, held against that of a form, where so many stages come after the first one
abbrev pub policy_from : ℕ → Data → Data → List (ℤ × ℤ) → PolicyReading
policy_from later form given domains = nodes_policy (nodes_of later (facing form given)) domains

-- the policy that an outermost node holds
abbrev pub node_read : List Decision → List Stochastic → Data → PolicyReading
node_read decisions stochastics given =
    policy_from (last_stage decisions - 1) (form_for decisions stochastics) given (map cell_ends (cells_for decisions stochastics))

-- the policy of data, by its member `policy`, and that of a text
abbrev pub data_read : List Decision → List Stochastic → Data → PolicyReading
data_read decisions stochastics d = option_map_or (node_read decisions stochastics) (get (codes "policy") d) (Differs 0)

abbrev pub policy_in : List Decision → List Stochastic → List ℕ → PolicyReading
policy_in decisions stochastics text = option_map_or (data_read decisions stochastics) (data_in text) NoJson
