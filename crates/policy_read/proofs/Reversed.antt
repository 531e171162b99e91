-- A text that is read as a point has what is printed of it.
use Rattle.std.proofs.Common.{arith, ◌≡◌, ◌∙◌, ◌+◌, ◌-◌, ◌<◌, ℕ, zero, suc, ℤ, pos, List, [], ◌∷◌, map, length, get_or, Bool, true, false, not, cond, Option, Some, None, unwrap_or, codes, inl, inr, refl, sym, ap, subst, slice_get, is_some, true≢false}
use Rattle.std.proofs.Math.Nat.{zero-add}
use Rattle.std.specs.FinMap.{find, get}
use Rattle.std.specs.List.{AllByRecursion, position_from, range_with_len, zip}
use Rattle.std.specs.Option.{option_map_or}
use Rattle.std.proofs.lemmas.List.{length-map}
use Rattle.serde_json.specs.Data.{Data}
use Rattle.serde_json.specs.Find.{get as member_at}
use Rattle.sopl_ast.specs.Cells.{Cell, IsPoint, cells, policy_at}
use Rattle.sopl_ast.specs.Instances.{Problem}
use Rattle.sopl_ast.specs.Policies.{IsKey, Key, Policy, key_cmp}
use Rattle.sopl_ast.specs.Unfolding.{problem_of}
use Rattle.sopl_scen.specs.Domains.{cell_ends}
use Rattle.unfold_laws.specs.Bounds.{IsBoundedStochastic}
use Rattle.unfold_laws.proofs.Whole.{decisions_are_bounded, stochastics_are_bounded}
use Rattle.policy_tree.proofs.Bijection.{value_at}
use Rattle.policy_tree.proofs.CellsOf.{keys_of}
use Rattle.policy_tree.proofs.Found.{at_head, key_cases, past_head}
use Rattle.sopl_policy.proofs.Keeping.{point_long}
use Rattle.policy_json.specs.LastStage.{last_stage}
use Rattle.policy_json.specs.Nodes.{decided_at, policy_data}
use Rattle.policy_json.specs.Staged.{IsStaged}
use Rattle.policy_json.proofs.Chosen.{AreChosen, any_chosen, none_seen}
use Rattle.policy_json.proofs.Staged.{texts_are_staged}
use Rattle.policy_read.specs.declared.entry.Told.{Told}
use Rattle.policy_read.specs.Domains.{first_outside, low_in}
use Rattle.policy_read.specs.Forms.{Facing, all_told, differs, facing, first_difference, is_node, nodes_of}
use Rattle.policy_read.specs.Having.{Has}
use Rattle.policy_read.specs.Listed.{data_in}
use Rattle.policy_read.specs.Policies.{Differs, HoldsPoint, NoJson, Outside, Point, PolicyReading, data_read, form_for, node_read, numbers_below, policy_in, policy_unless, put_all_at, values_unless}
use Rattle.policy_read.specs.Printed.{AreReadable, HasPolicy, ReadIsThere}
use Rattle.policy_read.proofs.Apart.{all_stand, weaker}
use Rattle.policy_read.proofs.Indices.{accepted_are_readable}
use Rattle.policy_read.proofs.Inside.{reading_lies}
use Rattle.policy_read.proofs.Printing.{AreNodes, AreReadBack}
use Rattle.policy_read.proofs.Putting.{lows_lie}
use Rattle.policy_read.proofs.Small.{are_read_back, form, policy}
use Rattle.policy_read.proofs.Visited.{IsSeen, form_there, key_at, pos_of}
use Rattle.policy_read.proofs.Walking.{IsKeyed, has_node, walked}

-- what is no point is not read as one
abbrev is_point : PolicyReading → Bool
is_point (Point values) = true
is_point NoJson = false
is_point (Differs node) = false
is_point (Outside cell) = false

abbrev values_in : PolicyReading → List ℤ
values_in (Point values) = values
values_in NoJson = []
values_in (Differs node) = []
values_in (Outside cell) = []

no_point : {P : Type 0} (reading : PolicyReading) (values : List ℤ) → is_point reading ≡ false → reading ≡ Point values → P
no_point reading values not_so is = absurd (true≢false (sym (ap is_point is) ∙ not_so))

-- where none differs, no node does
none_differ : (nodes : List Facing) (i : ℕ) → position_from differs i nodes ≡ None → AreNodes nodes
none_differ [] i is = tt
none_differ (h ∷ hs) i is = by (is_node h) refl (none_differ hs (i + 1))
  where
    by : (b : Bool) → is_node h ≡ b → (position_from differs (i + 1) hs ≡ None → AreNodes hs) → AreNodes (h ∷ hs)
    by true so later = (so, later (sym (ap (λ b. cond (not b) (Some i) (position_from differs (i + 1) hs)) so) ∙ is))
    by false so later = absurd (true≢false (ap is_some (sym (ap (λ b. cond (not b) (Some i) (position_from differs (i + 1) hs)) so) ∙ is)))

-- a number stands in the form at one key
number_found : (q : Key) (ks : List Key) (n : ℕ) (v : ℤ) → find key_cmp q (zip ks (map pos (range_with_len n (length ks)))) ≡ Some v
    → (j : ℕ) × (v ≡ pos (n + j)) × (slice_get ks j ≡ Some q)
number_found q [] n v is = absurd (true≢false (sym (ap is_some is)))
number_found q (k ∷ ks) n v is =
    elim (key_cases k q) [
      | inl same ↦ (zero, sym (ap (λ o. unwrap_or o v) (sym (at_head q k (pos n) _ same) ∙ is)) ∙ ap pos (omega arith), ap Some same)
      | inr differ ↦
          let later = number_found q ks (n + 1) v (sym (past_head q k (pos n) _ differ) ∙ is) in
          (suc later.0, later.1 ∙ ap pos (omega arith), later.2)
    ]

module _ (problem : Problem) (values : List ℤ) (point : IsPoint (cells problem) values) (staged : IsStaged problem) (small : AreReadable problem values)
    (bounded : AllByRecursion IsBoundedStochastic problem.stochastics) where
  abbrev long : length values ≡ length (cells problem)
  long = point_long (cells problem) values point

  abbrev q : Policy
  q = form problem values long

  abbrev p : Policy
  p = policy problem values long

  at : (key : Key) → IsKey problem key → (i : ℕ) × (i < length values) × (decided_at q key.0 key.1 ≡ pos i) × (decided_at p key.0 key.1 ≡ get_or values i (pos 0))
  at key is = key_at problem values point staged small key is

  place_of : (key : Key) (i : ℕ) → get q key ≡ Some (pos i) → slice_get (keys_of (cells problem)) i ≡ Some key
  unfolding numbers_below
  place_of key i is =
      let ks : List Key = keys_of (cells problem) in
      let many : length ks ≡ length (cells problem) = length-map (cells problem) (λ (c : Cell). c.key) in
      let found : find key_cmp key (zip ks (map pos (range_with_len 0 (length ks)))) ≡ Some (pos i) =
      ap (λ m. find key_cmp key (zip ks (map pos (range_with_len 0 m)))) many ∙ sym (value_at (cells problem) (map pos (range_with_len 0 (length (cells problem)))) key) ∙ is in
      let there = number_found key ks 0 (pos i) found in
      let same : there.0 ≡ i = sym (ap pos_of there.1 ∙ zero-add there.0) in
      ap (slice_get ks) (sym same) ∙ there.2

  one : (a b : Key) → IsKey problem a → IsKey problem b → decided_at q a.0 a.1 ≡ decided_at q b.0 b.1 → a ≡ b
  one a b is_a is_b same =
      let first = at a is_a in
      let later = at b is_b in
      let numbers : first.0 ≡ later.0 = ap pos_of (sym first.2 ∙ same ∙ later.2) in
      ap (λ o. unwrap_or o b) (sym (place_of a first.0 (there a is_a first.0 first.2)) ∙ ap (slice_get (keys_of (cells problem))) numbers ∙ place_of b later.0 (there b is_b later.0 later.2))
    where
      there : (key : Key) → IsKey problem key → (i : ℕ) → decided_at q key.0 key.1 ≡ pos i → get q key ≡ Some (pos i)
      there key is i shown_so = by (get q key) refl
        where
          by : (o : Option ℤ) → get q key ≡ o → get q key ≡ Some (pos i)
          by None gone = absurd (form_there problem values point staged small key is gone)
          by (Some v) got = got ∙ ap Some (sym (ap (λ o. unwrap_or o (pos 0)) got) ∙ shown_so)

  begun : IsSeen problem 1 []
  begun =
      let some : (vs : List ℤ) × AreChosen problem.stochastics vs = any_chosen problem.stochastics staged.outcomes in
      (some.0, some.1, none_seen 1 1 problem.stochastics some.0 staged.ascending (omega arith))

  abbrev later : ℕ
  later = last_stage problem.decisions - 1

  abbrev nodes : Data → List Facing
  nodes given = nodes_of later (facing (form_for problem.decisions problem.stochastics) given)

  abbrev lows : List ℤ
  lows = map low_in (map cell_ends (cells problem))

  -- where all nodes are of the form and their values make up the point
  has_all : (given : Data) → AreNodes (nodes given) → put_all_at (all_told (nodes given)) lows ≡ values → Has (policy_data problem (policy_at (cells problem) values)) given
  has_all given are is =
      let told : List Told = all_told (nodes given) in
      let back : AreReadBack problem.decisions problem.stochastics q p = are_read_back problem values long small in
      let walk = walked problem q p values back staged bounded one at later 1 [] given begun are in
      let start : length values ≡ length lows = long ∙ sym (point_long (cells problem) lows (lows_lie (cells problem) values point)) in
      let Keyed : Told → Type 0 = IsKeyed problem q p values back staged bounded one at 1 [] in
      let below : AllByRecursion (λ (t : Told). t.cell < length lows) told =
      weaker Keyed (λ (t : Told). t.cell < length lows) told
      (λ t keyed.
      let there = at (keyed.place, keyed.history) keyed.key in
      let same : t.cell ≡ there.0 = ap pos_of (sym keyed.numbered ∙ there.2) in
      omega (arith, same, there.1, start)) walk.keyed in
      let Stand : List ℤ → Type 0 = λ ws. AllByRecursion (λ (t : Told). get_or ws t.cell (pos 0) ≡ t.value) told in
      has_node problem q p values back staged bounded one at later 1 [] given begun are (subst Stand is (all_stand told lows below walk.apart))

  node_is_there : (given : Data) → node_read problem.decisions problem.stochastics given ≡ Point values → Has (policy_data problem (policy_at (cells problem) values)) given
  node_is_there given read = by (first_difference (nodes given)) refl read
    where
      domains : List (ℤ × ℤ)
      domains = map cell_ends (cells problem)

      inside : AreNodes (nodes given) → (o : Option ℕ) → policy_unless o (all_told (nodes given)) domains ≡ Point values → Has (policy_data problem (policy_at (cells problem) values)) given
      inside are (Some cell) is = no_point (Outside cell) values refl is
      inside are None is = has_all given are (ap values_in is)

      by : (o : Option ℕ) → first_difference (nodes given) ≡ o → values_unless o (nodes given) domains ≡ Point values → Has (policy_data problem (policy_at (cells problem) values)) given
      by (Some node) found is = no_point (Differs node) values refl is
      by None found is = inside (none_differ (nodes given) 0 found) (first_outside domains (all_told (nodes given))) is

  text_is_there : (text : List ℕ) → policy_in problem.decisions problem.stochastics text ≡ Point values → HasPolicy (policy_data problem (policy_at (cells problem) values)) text
  text_is_there text read = by (data_in text) refl read
    where
      member : (d : Data) → data_in text ≡ Some d → (o : Option Data) → member_at (codes "policy") d ≡ o
          → option_map_or (node_read problem.decisions problem.stochastics) o (Differs 0) ≡ Point values → HasPolicy (policy_data problem (policy_at (cells problem) values)) text
      member d found None none is = no_point (Differs 0) values refl is
      member d found (Some node) some is = record { data_of = d; read = found; node = node; member = some; has = node_is_there node is }

      by : (o : Option Data) → data_in text ≡ o → option_map_or (data_read problem.decisions problem.stochastics) o NoJson ≡ Point values
          → HasPolicy (policy_data problem (policy_at (cells problem) values)) text
      by None none is = no_point NoJson values refl is
      by (Some d) some is = member d some (member_at (codes "policy") d) refl is

pub read_is_there : ReadIsThere
read_is_there model from passes values text read =
    let problem : Problem = problem_of model in
    let point : IsPoint (cells problem) values =
    subst (HoldsPoint (cells problem)) read (reading_lies problem.decisions problem.stochastics text (decisions_are_bounded model passes)) in
    text_is_there problem values point (texts_are_staged model from passes) (accepted_are_readable model passes values point) (stochastics_are_bounded model passes) text read
