-- What an objective stands for as it is kept.
use Rattle.std.specs.Prelude.{◌≡◌, ◌⊎◌, ◌+◌, ◌*◌, ◌<◌, ◌^◌, ℕ, ℤ, pos, ◌*ℤ◌, ◌≤ℤ◌, ◌<ℤ◌, unsigned_abs, Bool, true, false, List, [], ◌∷◌, map, length, slice_index_or, Option, Some}
use Rattle.std.specs.Prelude.{None, IfSome, Result, Ok, Err, if◌then◌else◌}
use Rattle.std.specs.Int.{w128, saturate_signed}
use Rattle.std.specs.List.{AllByRecursion}
use Rattle.std.specs.Option.{option_map_or}
use Rattle.sopl_base.specs.declared.fault.Fault.{Fault}
use Rattle.sopl_base.specs.declared.fault.Fault.TheVariants.{Limit, NoMemory}
use Rattle.sopl_base.specs.declared.codes.TheConstants as codes
use Rattle.sopl_base.specs.declared.limits.TheConstants as largest
use Rattle.box_problem.specs.Box.{Box, Inside}
use Rattle.term_language.specs.Ends.{Ends, exactly, plus, scaled}
use Rattle.term_language.specs.Globals.{total}
use Rattle.term_language.specs.Rules.{Near, form, atoms, interval}
use Rattle.term_language.specs.Sizes.{atoms_weight}
use Rattle.term_language.specs.Forms.{atom_form}
use Rattle.term_language.specs.Terms.{Term, Cell, Product}
use Rattle.term_problem.specs.Objective.{expected_form, greatest_size}
use Rattle.term_problem.specs.Problems.{GoalTerms}
use Rattle.term_math.specs.Sums.{wide_form, weight_in}
use Rattle.term_nodes.specs.Things.{Thing, term_at}
use Rattle.term_nodes.specs.Built.{AllBelow}
use Rattle.term_goals.specs.declared.goal.Goal.{Goal}
use Rattle.term_goals.specs.declared.goal.Objective.{Objective}
use Rattle.term_goals.specs.declared.sums.Atom.{Atom}
use Rattle.term_goals.specs.declared.sums.Summed.{Summed}

-- the terms of several numbers
abbrev pub terms_of : List Thing → List ℕ → List Term
terms_of all ids = map (term_at all) ids

abbrev pub is_none : {A : Type 0} → Option A → Bool
is_none None = true
is_none (Some x) = false

-- the objective that is kept; the worst scenario counts where nothing is summed
abbrev pub goal_of : List Thing → Goal → GoalTerms
goal_of all g = record { direction = g.direction; worst = is_none g.summed; terms = terms_of all g.terms.items }

-- the objective that is asked for
abbrev pub asked_of : List Thing → Objective → GoalTerms
asked_of all o = record { direction = o.direction; worst = o.worst; terms = terms_of all o.terms.now }

-- the interval of the non-linear part of multiples of several terms
abbrev pub atoms_ends : Box → Box → List Thing → List Atom → Ends
atoms_ends root b all [] = exactly (pos 0)
atoms_ends root b all (a ∷ later) = plus (scaled a.k (atoms Near root b (term_at all a.term))) (atoms_ends root b all later)

-- the interval of multiples of several terms
abbrev pub listed_ends : Box → Box → List Thing → List Atom → Ends
listed_ends root b all [] = exactly (pos 0)
listed_ends root b all (a ∷ later) = plus (scaled a.k (interval Near root b (term_at all a.term))) (listed_ends root b all later)

-- each of the terms exists
abbrev pub AtomsExist : ℕ → List Atom → Type 0
AtomsExist count atoms = AllByRecursion (λ (a : Atom). a.term < count) atoms

-- a list that grows: over each box inside the root it and what is left have the interval that the list before and all had, and its terms exist
pub record Listed (root : Box) (all : List Thing) (count : ℕ) (before list : List Atom) (left whole : Box → Ends) : Type 0 where
  pub sum : (b : Box) → Inside b root → plus (listed_ends root b all list) (left b) ≡ plus (listed_ends root b all before) (whole b)
  pub exist : AtomsExist count before → AtomsExist count list

-- a term that is a product with no number, or of cells alone, or no product
abbrev pub IsBare : Box → Term → Type 0
IsBare root (Product s t) = (form root (Product s t)).plain ≡ false → form root (Product s t) ≡ atom_form
IsBare root t = Unit {0}

-- a multiple of an operand of a term is a multiple of the term, but for cells; it has room as well
pub record IsOperand (root : Box) (all : List Thing) (before next : Atom) : Type 0 where
  pub below : next.term < before.term
  pub room : unsigned_abs next.k * atoms_weight root (term_at all next.term) < 2 ^ 127
  pub sum : (b : Box) → scaled next.k (atoms Near root b (term_at all next.term)) ≡ scaled before.k (atoms Near root b (term_at all before.term))

-- numbers of terms: for each cell of the root the term that it is
pub record AreCells (root : Box) (all : List Thing) (nodes : List ℕ) : Type 0 where
  pub each_cell : length nodes ≡ length root.lows
  pub is_cell : (cell : ℕ) → cell < length nodes → term_at all (slice_index_or nodes cell 0) ≡ Cell cell

-- the weights of the non-linear part of them, over the root
abbrev pub all_weight : Box → List Thing → List Atom → ℕ
all_weight root all [] = 0
all_weight root all (a ∷ later) = unsigned_abs a.k * atoms_weight root (term_at all a.term) + all_weight root all later

-- a multiple of each term, but for the terms of cells alone
abbrev pub others : Box → List Thing → List ℤ → List ℕ → List Atom
others root all [] ids = []
others root all (weight ∷ weights) [] = []
others root all (weight ∷ weights) (id ∷ ids) =
    if (form root (term_at all id)).plain then others root all weights ids
    else record { k = weight; term = id } ∷ others root all weights ids

-- what is summed is each term times its weight
pub record IsSummed (root : Box) (all : List Thing) (weights : List ℤ) (ids : List ℕ) (s : Summed) : Type 0 where
  pub form : wide_form s.form ≡ expected_form root weights (terms_of all ids)
  pub others : s.atoms.items ≡ others root all weights ids

-- its constant; 0 where nothing is summed
abbrev pub constant_of : Goal → ℤ
constant_of g = option_map_or (λ (s : Summed). s.form.constant) g.summed (pos 0)

-- with all that is in it, it has room
abbrev pub HasRoom : Box → List Thing → Summed → Type 0
HasRoom root all s = weight_in root (wide_form s.form) + all_weight root all s.atoms.items < 2 ^ 127

-- an objective that can be computed with: its terms exist, and what is summed has room
pub record IsSoundGoal (root : Box) (all : List Thing) (g : Goal) : Type 0 where
  pub exist : AllBelow (length all) g.terms.items
  pub room : IfSome g.summed (HasRoom root all)

-- an objective for scenarios of these weights
pub record IsWeighted (root : Box) (all : List Thing) (weights : List ℤ) (g : Goal) : Type 0 where
  pub summed : IfSome g.summed (IsSummed root all weights g.terms.items)

-- weights of scenarios: each is at least 1, and together they are at most 2^100
pub record AreWeights (weights : List ℤ) : Type 0 where
  pub each : AllByRecursion (λ weight. pos 1 ≤ℤ weight) weights
  pub most : total weights ≤ℤ largest.WEIGHT

-- the size of an expected objective: the weight of all scenarios, times one more than the greatest size of its terms
abbrev pub goal_size : Box → List ℤ → List Term → ℤ
goal_size root weights terms = total weights *ℤ pos (greatest_size root terms + 1)

-- the refusal of an objective of this size, which is given as the number of 128 bits that is nearest to it
abbrev pub too_large : ℤ → Fault
too_large size = Limit (record { code = codes.TERM_SIZE; counted = saturate_signed w128 size; limit = largest.GOAL_SIZE })

-- an expected objective is there only with a size of at most 2^126; it is refused for a greater one, or memory runs out
abbrev pub IsMeasured : {A : Type 0} → Bool → ℤ → Result A Fault → Type 0
IsMeasured worst size (Ok x) = worst ≡ false → size ≤ℤ largest.GOAL_SIZE
IsMeasured worst size (Err fault) =
    (fault ≡ NoMemory) ⊎ ((worst ≡ false) × (fault ≡ too_large size) × (largest.GOAL_SIZE <ℤ size))
