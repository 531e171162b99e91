-- The values that are read of a text lie inside the domains of their cells.
use native.Mathlib.Omega.{arith}
use Rattle.std.proofs.Common.{◌≡◌, ◌∙◌, ◌+◌, ◌-◌, ℕ, codes, zero, suc, ℤ, ◌≤ℤ◌, Bool, true, false, ◌||◌, int_lt, List, [], ◌∷◌, ◌++◌, map, set, Option, Some, None}
use Rattle.std.proofs.Common.{if◌then◌else◌, slice_get, refl}
use Rattle.std.proofs.lemmas.Int.{ints}
use Rattle.std.specs.List.{AllByRecursion, enumerate_from, flat_map}
use Rattle.std.specs.Option.{option_map_or}
use Rattle.serde_json.specs.Data.{Data}
use Rattle.serde_json.specs.Find.{get}
use Rattle.sopl_base.proofs.Lists.{all_append}
use Rattle.sopl_ast.specs.Cells.{Cell, IsPoint, cells_of}
use Rattle.sopl_ast.specs.Histories.{histories}
use Rattle.sopl_ast.specs.Instances.{Decision, Stochastic}
use Rattle.unfold_laws.specs.Bounds.{IsBoundedDecision}
use Rattle.sopl_scen.specs.Domains.{cell_ends}
use Rattle.sopl_scen.specs.Layout.{cells_for}
use Rattle.policy_json.specs.LastStage.{last_stage}
use Rattle.policy_read.specs.declared.entry.Told.{Told}
use Rattle.policy_read.specs.Domains.{first_outside, is_outside, low_in}
use Rattle.policy_read.specs.Forms.{Facing, all_told, facing, first_difference, nodes_of}
use Rattle.policy_read.specs.Listed.{data_in}
use Rattle.policy_read.specs.Policies.{Differs, HoldsPoint, NoJson, data_read, form_for, node_read, nodes_policy, policy_in, policy_unless, put_all_at}
use Rattle.policy_read.specs.Policies.{put_at, told_policy, values_unless}

-- a value that is not outside lies between the ends
between : (lo hi v : ℤ) → (int_lt v lo || int_lt hi v) ≡ false → (lo ≤ℤ v) × (v ≤ℤ hi)
between lo hi v is = search (arith, ints)

put_lies : (cs : List Cell) (xs : List ℤ) (c : ℕ) (v : ℤ) → IsPoint cs xs
    → option_map_or (λ (d : ℤ × ℤ). int_lt v d.0 || int_lt d.1 v) (slice_get (map cell_ends cs) c) false ≡ false → IsPoint cs (set xs c v)
put_lies [] [] c v point inside = tt
put_lies [] (x ∷ xs) c v point inside = absurd point
put_lies (d ∷ cs) [] c v point inside = absurd point
put_lies (d ∷ cs) (x ∷ xs) zero v point inside = let ends = between d.lo d.hi v inside in (ends.0, ends.1, point.2)
put_lies (d ∷ cs) (x ∷ xs) (suc c) v point inside = (point.0, point.1, put_lies cs xs c v point.2 inside)

-- none of several is outside
none_of : (domains : List (ℤ × ℤ)) (t : Told) (ts : List Told) → first_outside domains (t ∷ ts) ≡ None → (is_outside domains t ≡ false) × (first_outside domains ts ≡ None)
none_of domains t ts none = by (is_outside domains t) none
  where
    by : (b : Bool) → (if b then Some t.cell else first_outside domains ts) ≡ None → (b ≡ false) × (first_outside domains ts ≡ None)
    by true is = cc
    by false is = (refl, is)

all_lie : (cs : List Cell) (ts : List Told) (xs : List ℤ) → IsPoint cs xs → first_outside (map cell_ends cs) ts ≡ None → IsPoint cs (put_all_at ts xs)
all_lie cs [] xs point none = point
all_lie cs (t ∷ ts) xs point none =
    let both = none_of (map cell_ends cs) t ts none in
    all_lie cs ts (put_at t xs) (put_lies cs xs t.cell t.value point both.0) both.1

-- the least value of each domain lies in it, where no domain is empty
abbrev pub IsOrdered : Cell → Type 0
IsOrdered c = c.lo ≤ℤ c.hi

least_lie : (cs : List Cell) → AllByRecursion IsOrdered cs → IsPoint cs (map low_in (map cell_ends cs))
least_lie [] all = tt
least_lie (c ∷ cs) all = (omega (arith, ints), all.0, least_lie cs all.1)

cells_ordered : (ss : List Stochastic) (n : ℕ) (ds : List Decision) → AllByRecursion IsBoundedDecision ds → AllByRecursion IsOrdered (flat_map (cells_of ss) (enumerate_from n ds))
cells_ordered ss n [] all = tt
cells_ordered ss n (d ∷ ds) all =
    all_append IsOrdered (cells_of ss (n, d)) (flat_map (cells_of ss) (enumerate_from (n + 1) ds)) (each_cell (histories d.stage ss)) (cells_ordered ss (n + 1) ds all.1)
  where
    each_cell : (hs : List (List ℤ)) → AllByRecursion IsOrdered (map (λ seen. record { key = (n, seen); lo = d.lo; hi = d.hi }) hs)
    each_cell [] = tt
    each_cell (h ∷ hs) = (all.0.ordered, each_cell hs)

module _ (cs : List Cell) (ordered : AllByRecursion IsOrdered cs) where
  abbrev pub domains : List (ℤ × ℤ)
  domains = map cell_ends cs

  told_lies : (ts : List Told) → HoldsPoint cs (told_policy ts domains)
  told_lies ts = by (first_outside domains ts) refl
    where
      by : (o : Option ℕ) → first_outside domains ts ≡ o → HoldsPoint cs (policy_unless o ts domains)
      by (Some c) is = tt
      by None is = all_lie cs ts (map low_in domains) (least_lie cs ordered) is

  nodes_lie : (nodes : List Facing) → HoldsPoint cs (nodes_policy nodes domains)
  nodes_lie nodes = by (first_difference nodes)
    where
      by : (o : Option ℕ) → HoldsPoint cs (values_unless o nodes domains)
      by (Some n) = tt
      by None = told_lies (all_told nodes)

-- what is read of a text is a point of the cells, where anything is
pub reading_lies : (ds : List Decision) (ss : List Stochastic) (text : List ℕ) → AllByRecursion IsBoundedDecision ds → HoldsPoint (cells_for ds ss) (policy_in ds ss text)
reading_lies ds ss text bounded = by (data_in text)
  where
    node : (given : Data) → HoldsPoint (cells_for ds ss) (node_read ds ss given)
    node given = nodes_lie (cells_for ds ss) (cells_ordered ss 0 ds bounded) (nodes_of (last_stage ds - 1) (facing (form_for ds ss) given))

    member : (o : Option Data) → HoldsPoint (cells_for ds ss) (option_map_or (node_read ds ss) o (Differs 0))
    member None = tt
    member (Some given) = node given

    by : (o : Option Data) → HoldsPoint (cells_for ds ss) (option_map_or (data_read ds ss) o NoJson)
    by None = tt
    by (Some d) = member (get (codes "policy") d)
