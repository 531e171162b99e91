-- Where the scenarios that share a history end.
use Rattle.std.proofs.Common.{◌≡◌, ◌+◌, ◌-◌, ◌*◌, ◌≤◌, ◌<◌, ℕ, zero, suc, List, [], ◌∷◌, length, map, get_or, slice_get, Some, inl, inr, arith, refl, sym, ap, subst, ◌∙◌}
use Rattle.std.proofs.lemmas.Bool.{cases_order}
use Rattle.std.proofs.lemmas.Nat.{mul-le}
use Rattle.std.proofs.lemmas.Option.{slice_get-get_or}
use Rattle.sopl_ast.specs.Histories.{histories, history}
use Rattle.sopl_ast.specs.Instances.{Stochastic}
use Rattle.sopl_ast.specs.Scenarios.{Scenario, scenarios}
use Rattle.policy_tree.proofs.Members.{In}
use Rattle.policy_tree.proofs.Once.{Once, Once-distinct}
use Rattle.scen_laws.specs.BlockLaws.{FillsBlocks, block_of, next_number}
use Rattle.scen_laws.proofs.Blocks.{block_history, block_within, blocks_divide, blocks_fill, rows_long}
use Rattle.scen_laws.proofs.Histories.{row_is}
use Rattle.sopl_scen.specs.Layout.{IsTreeOf, count_in, history_in}
use Rattle.sopl_policy.proofs.Keeping.{history_told}
use Rattle.policy_json.specs.Steps.{Begins, IsReady, IsRunOf, Parts, block_in, branches_in, first_in}
use Rattle.policy_json.proofs.NodeLaws.{first_begins, next_begins}
use Rattle.policy_json.proofs.Ready.{block_same, branches_same, no_scenario, orderly, tree_of}

-- where each thing stands once, one thing stands at one place
got_in : {X : Type 0} (xs : List X) (i : ℕ) (x : X) → slice_get xs i ≡ Some x → In x xs
got_in [] i x at = cc
got_in (y ∷ xs) zero x at = let same : y ≡ x = cc in inl same
got_in (y ∷ xs) (suc i) x at = inr (got_in xs i x at)

one_place : {X : Type 0} (xs : List X) (a b : ℕ) (x : X) → Once xs → slice_get xs a ≡ Some x → slice_get xs b ≡ Some x → a ≡ b
one_place [] a b x once one two = cc
one_place (y ∷ xs) zero zero x once one two = refl
one_place {X} (y ∷ xs) zero (suc b) x once one two =
    let same : y ≡ x = cc in
    let P : X → Type 0 = λ z. In z xs in
    absurd (once.0 (subst P (sym same) (got_in xs b x two)))
one_place {X} (y ∷ xs) (suc a) zero x once one two =
    let same : y ≡ x = cc in
    let P : X → Type 0 = λ z. In z xs in
    absurd (once.0 (subst P (sym same) (got_in xs a x one)))
one_place (y ∷ xs) (suc a) (suc b) x once one two = ap suc (one_place xs a b x once.1 one two)

-- the number of a history, in each scenario of its block
module _ (parts : Parts) (are : IsReady parts) (stage : ℕ) (from : 1 ≤ stage) (to : stage ≤ 24) where
  abbrev pub drawn : List Stochastic
  drawn = parts.stochastics

  abbrev pub long : ℕ
  long = block_of stage drawn

  abbrev pub all : ℕ
  all = length (histories stage drawn)

  block_number : (number place : ℕ) → number < all → place < long → history_in parts.tree stage (number * long + place) ≡ number
  block_number number place within inside =
      let is : IsTreeOf parts.decisions drawn parts.tree = tree_of parts are in
      let i : ℕ = number * long + place in
      let below : i < length (scenarios drawn) = subst (λ n. i < n) (rows_long drawn) (block_within stage number place drawn (orderly parts are) within inside) in
      let s : Scenario = get_or (scenarios drawn) i no_scenario in
      let at : slice_get (scenarios drawn) i ≡ Some s = slice_get-get_or (scenarios drawn) i no_scenario below in
      let told : slice_get (histories stage drawn) (history_in parts.tree stage i) ≡ Some (history stage drawn s.values) =
      history_told parts.decisions drawn parts.tree is stage i s (from, to) at in
      let seen : history stage drawn s.values ≡ get_or (histories stage drawn) number [] =
      ap (history stage drawn) (sym (row_is drawn i s at)) ∙ block_history stage number place drawn (orderly parts are) within inside in
      let own : slice_get (histories stage drawn) number ≡ Some (history stage drawn s.values) =
      slice_get-get_or (histories stage drawn) number [] within ∙ ap Some (sym seen) in
      one_place (histories stage drawn) (history_in parts.tree stage i) number (history stage drawn s.values)
      (Once-distinct (map (λ (t : Scenario). history stage drawn t.values) (scenarios drawn))) told own

  pub begins_number : (scenario number : ℕ) → Begins drawn stage scenario number → history_in parts.tree stage scenario ≡ number
  begins_number scenario number b =
      let fills : FillsBlocks stage drawn = blocks_fill stage drawn (orderly parts are) in
      ap (history_in parts.tree stage) b.at ∙ block_number number 0 b.exists fills.filled

  pub begins_itself : (scenario number : ℕ) → Begins drawn stage scenario number → Begins drawn stage scenario (history_in parts.tree stage scenario)
  begins_itself scenario number b = subst (Begins drawn stage scenario) (sym (begins_number scenario number b)) b

  -- a block ends no later than all scenarios
  block_end : (scenario number : ℕ) → Begins drawn stage scenario number → scenario + long ≤ count_in parts.tree
  block_end scenario number b =
      let fills : FillsBlocks stage drawn = blocks_fill stage drawn (orderly parts are) in
      let next : number + 1 ≤ all = omega (arith, b.exists) in
      let least : long ≤ long = omega arith in
      let product : (number + 1) * long ≤ all * long = mul-le (number + 1) long all long next least in
      room scenario number long (all * long) (count_in parts.tree) b.at product (fills.whole ∙ sym (tree_of parts are).count)
    where
      room : (s n l whole count : ℕ) → s ≡ n * l + 0 → (n + 1) * l ≤ whole → whole ≡ count → s + l ≤ count
      room s n l whole count at product is = omega (arith, at, product, is)

  pub begins_below : (scenario number : ℕ) → Begins drawn stage scenario number → scenario < count_in parts.tree
  begins_below scenario number b =
      let fills : FillsBlocks stage drawn = blocks_fill stage drawn (orderly parts are) in
      omega (arith, block_end scenario number b, fills.filled)

  -- the block behind it has another number
  next_other : (scenario number : ℕ) → Begins drawn stage scenario number → scenario + long < count_in parts.tree
      → history_in parts.tree stage (scenario + long) ≡ number + 1
  next_other scenario number b below =
      let fills : FillsBlocks stage drawn = blocks_fill stage drawn (orderly parts are) in
      let place : scenario + long ≡ (number + 1) * long + 0 = moved scenario number long b.at in
      let within : number + 1 < all = fewer (fills.whole ∙ sym (tree_of parts are).count) in
      ap (history_in parts.tree stage) place ∙ block_number (number + 1) 0 within fills.filled
    where
      moved : (s n l : ℕ) → s ≡ n * l + 0 → s + l ≡ (n + 1) * l + 0
      moved s n l at = omega (arith, at)

      too_far : (s n l whole count : ℕ) → s ≡ n * l + 0 → whole ≤ (n + 1) * l → whole ≡ count → s + l < count → ⊥
      too_far s n l whole count at product is above = omega (arith, at, product, is, above)

      fewer : all * long ≡ count_in parts.tree → number + 1 < all
      fewer whole =
          elim (cases_order (number + 1) all) [
            | inl last ↦
                let many : all ≤ number + 1 = omega (arith, last) in
                let least : long ≤ long = omega arith in
                absurd (too_far scenario number long (all * long) (count_in parts.tree) b.at (mul-le all long (number + 1) long many least) whole below)
            | inr (inl less) ↦ less
            | inr (inr more) ↦
                let many : all ≤ number + 1 = omega (arith, more) in
                let least : long ≤ long = omega arith in
                absurd (too_far scenario number long (all * long) (count_in parts.tree) b.at (mul-le all long (number + 1) long many least) whole below)
          ]

  -- the scenarios that share the history of the first one of a block are the block
  pub run_is_block : (scenario number end : ℕ) → Begins drawn stage scenario number → IsRunOf parts.tree stage scenario end → end ≡ scenario + block_in parts.tree stage
  run_is_block scenario number end b run =
      elim (cases_order end (scenario + long)) [
        | inl same ↦ same ∙ ap (λ n. scenario + n) (sym (block_same parts are stage from to))
        | inr (inl less) ↦
            let below : end < count_in parts.tree = omega (arith, less, block_end scenario number b) in
            let inside : end - scenario < long = omega (arith, less, run.above) in
            let place : end ≡ number * long + (end - scenario) = behind scenario end number long b.at run.above in
            absurd (run.other below (ap (history_in parts.tree stage) place ∙ block_number number (end - scenario) b.exists inside ∙ sym (begins_number scenario number b)))
        | inr (inr more) ↦
            let below : scenario + long < count_in parts.tree = omega (arith, more, run.within) in
            let later : scenario ≤ scenario + long = omega arith in
            let alike : number + 1 ≡ number = sym (next_other scenario number b below) ∙ run.same (scenario + long) later more ∙ begins_number scenario number b in
            absurd (omega (arith, alike))
      ]
    where
      behind : (s e n l : ℕ) → s ≡ n * l + 0 → s < e → e ≡ n * l + (e - s)
      behind s e n l at above = omega (arith, at, above)

-- the nodes behind a node, one run of scenarios after the other
module _ (parts : Parts) (are : IsReady parts) (stage : ℕ) (from : 1 ≤ stage) (to : stage < 24) (scenario : ℕ)
    (begins : Begins parts.stochastics stage scenario (history_in parts.tree stage scenario)) where
  abbrev pub number : ℕ
  number = history_in parts.tree stage scenario

  abbrev pub start : ℕ → ℕ
  start i = first_in parts.tree stage scenario i

  upto : stage ≤ 24
  upto = omega (arith, to)

  next_from : 1 ≤ stage + 1
  next_from = omega arith

  next_to : stage + 1 ≤ 24
  next_to = omega (arith, to)

  -- all branches together are as long as the run
  branches_long : branches_in parts.tree stage * block_in parts.tree (stage + 1) ≡ block_in parts.tree stage
  branches_long =
      (λ k. branches_same parts are stage from to k * block_same parts are (stage + 1) next_from next_to k)
      ∙ sym (blocks_divide stage parts.stochastics (orderly parts are)) ∙ sym (block_same parts are stage from upto)

  module _ (end : ℕ) (run : IsRunOf parts.tree stage scenario end) where
    ends : end ≡ start (branches_in parts.tree stage)
    ends = run_is_block parts are stage from upto scenario number end begins run ∙ ap (λ n. scenario + n) (sym branches_long)

    -- where the run is not passed, a branch is left
    pub branch_left : (i : ℕ) → i ≤ branches_in parts.tree stage → start i < end → i < branches_in parts.tree stage
    branch_left i most below =
        elim (cases_order i (branches_in parts.tree stage)) [
          | inl last ↦ absurd (not_below (start i) end (ap start last ∙ sym ends) below)
          | inr (inl less) ↦ less
          | inr (inr more) ↦ absurd (omega (arith, most, more))
        ]
      where
        not_below : (a b : ℕ) → a ≡ b → a < b → ⊥
        not_below a b same below = omega (arith, same, below)

    -- and where it is, none is
    pub none_left : (i : ℕ) → i ≤ branches_in parts.tree stage → end ≤ start i → i ≡ branches_in parts.tree stage
    none_left i most passed =
        elim (cases_order i (branches_in parts.tree stage)) [
          | inl last ↦ last
          | inr (inl less) ↦
              let next : i + 1 ≤ branches_in parts.tree stage = omega (arith, less) in
              let least : block_in parts.tree (stage + 1) ≤ block_in parts.tree (stage + 1) = omega arith in
              let product : (i + 1) * block_in parts.tree (stage + 1) ≤ branches_in parts.tree stage * block_in parts.tree (stage + 1) =
              mul-le (i + 1) (block_in parts.tree (stage + 1)) (branches_in parts.tree stage) (block_in parts.tree (stage + 1)) next least in
              let filled : 1 ≤ block_in parts.tree (stage + 1) =
              subst (λ n. 1 ≤ n) (sym (block_same parts are (stage + 1) next_from next_to)) (blocks_fill (stage + 1) parts.stochastics (orderly parts are)).filled in
              absurd (too_soon scenario i (block_in parts.tree (stage + 1)) (branches_in parts.tree stage * block_in parts.tree (stage + 1)) end passed product filled ends)
          | inr (inr more) ↦ absurd (omega (arith, most, more))
        ]
      where
        too_soon : (s i l whole end : ℕ) → end ≤ s + i * l → (i + 1) * l ≤ whole → 1 ≤ l → end ≡ s + whole → ⊥
        too_soon s i l whole end passed product filled is = omega (arith, passed, product, filled, is)

  module _ (i : ℕ) (below : i < branches_in parts.tree stage) where
    -- a branch begins a block of the next stage
    pub branch_begins : Begins parts.stochastics (stage + 1) (start i) (history_in parts.tree (stage + 1) (start i))
    branch_begins =
        begins_itself parts are (stage + 1) next_from next_to (start i) (next_number stage parts.stochastics number i)
        (next_begins parts are stage scenario number i from to begins (subst (λ n. i < n) (branches_same parts are stage from to) below))

    pub branch_below : start i < count_in parts.tree
    branch_below = begins_below parts are (stage + 1) next_from next_to (start i) (history_in parts.tree (stage + 1) (start i)) branch_begins

    -- and the next one begins where it ends
    pub branch_ends : (end : ℕ) → IsRunOf parts.tree (stage + 1) (start i) end → end ≡ start (i + 1)
    branch_ends end run =
        run_is_block parts are (stage + 1) next_from next_to (start i) (history_in parts.tree (stage + 1) (start i)) end branch_begins run
        ∙ placed scenario i (block_in parts.tree (stage + 1))
      where
        placed : (s i l : ℕ) → s + i * l + l ≡ s + (i + 1) * l
        placed s i l = omega arith

  -- one turn of the way through the runs, where so many branches were made before
  module _ (end : ℕ) (run : IsRunOf parts.tree stage scenario end) (first i : ℕ) (at : first ≡ start i) (most : i ≤ branches_in parts.tree stage) (below : first < end) where
    left : i < branches_in parts.tree stage
    left = branch_left end run i most (subst (λ n. n < end) at below)

    pub step_begins : Begins parts.stochastics (stage + 1) first (history_in parts.tree (stage + 1) first)
    step_begins = subst (λ n. Begins parts.stochastics (stage + 1) n (history_in parts.tree (stage + 1) n)) (sym at) (branch_begins i left)

    pub step_below : first < count_in parts.tree
    step_below = subst (λ n. n < count_in parts.tree) (sym at) (branch_below i left)

    pub step_more : i + 1 ≤ branches_in parts.tree stage
    step_more = omega (arith, left)

    pub step_next : (next : ℕ) → IsRunOf parts.tree (stage + 1) first next → next ≡ start (i + 1)
    step_next next later = branch_ends i left next (subst (λ n. IsRunOf parts.tree (stage + 1) n next) at later)

  -- behind the last one all branches are made
  pub all_made : (end : ℕ) → IsRunOf parts.tree stage scenario end → (first i : ℕ) → first ≡ start i → i ≤ branches_in parts.tree stage → end ≤ first → i ≡ branches_in parts.tree stage
  all_made end run first i at most passed = none_left end run i most (subst (λ n. end ≤ n) at passed)

-- the first node begins with the first scenario
pub outermost_begins : (parts : Parts) → IsReady parts → Begins parts.stochastics 1 0 (history_in parts.tree 1 0)
outermost_begins parts are = begins_itself parts are 1 (omega arith) (omega arith) 0 0 (first_begins parts.stochastics (orderly parts are))
