-- Climbing from a node to those above it.
use Rattle.std.proofs.Common.{◌≡◌, ◌+◌, ◌-◌, ◌<◌, ◌++◌, ℕ, zero, suc, ℤ, List, [], ◌∷◌, length, get_or, append_assoc, arith, sym, ap, subst, ◌∙◌}
use Rattle.std.proofs.lemmas.Grind.{flat_map-append}
use Rattle.std.proofs.lemmas.List.{append-nil, map-id, get_or_default}
use Rattle.std.proofs.lemmas.List.FromFn.{map-range_with_len_more}
use Rattle.std.specs.List.{flat_map, range_with_len}
use Rattle.sopl_scen.specs.declared.nodes.Node.{Node}
use Rattle.sopl_scen.specs.Levels.{root}
use Rattle.sopl_scen.specs.Tables.{node_at, row_up, path_up, IsLinked}

-- what is pushed and what is left to be pushed
pub record IsClimb (levels : List (List Node)) (values : List ℤ) (nodes : List ℕ) (now_values : List ℤ) (now_nodes : List ℕ) (left node : ℕ) : Type 0 where
  pub level : left < length levels
  pub exists : node < length (get_or levels left [])
  pub values_left : now_values ++ row_up levels left node ≡ values
  pub nodes_left : now_nodes ++ path_up levels left node ≡ nodes

pub climb_next : (levels : List (List Node)) (values : List ℤ) (nodes : List ℕ) (now_values : List ℤ) (now_nodes : List ℕ) (left node : ℕ)
    → IsLinked levels → 0 < left → IsClimb levels values nodes now_values now_nodes left node
    → IsClimb levels values nodes (now_values ++ (node_at levels left node).value ∷ []) (now_nodes ++ node ∷ []) (left - 1) (node_at levels left node).parent
climb_next levels values nodes now_values now_nodes zero node linked some c = absurd (omega (arith, some))
climb_next levels values nodes now_values now_nodes (suc left) node linked some c =
    subst (λ n. IsClimb levels values nodes (now_values ++ (node_at levels (suc left) node).value ∷ []) (now_nodes ++ node ∷ []) n (node_at levels (suc left) node).parent)
    (less left)
    (record {
      level = below left (length levels) c.level;
      exists = linked left node c.level c.exists;
      values_left =
          append_assoc now_values ((node_at levels (suc left) node).value ∷ []) (row_up levels left (node_at levels (suc left) node).parent) ∙ c.values_left;
      nodes_left =
          append_assoc now_nodes (node ∷ []) (path_up levels left (node_at levels (suc left) node).parent) ∙ c.nodes_left;
    })
  where
    less : (n : ℕ) → n ≡ suc n - 1
    less n = omega arith

    below : (n m : ℕ) → suc n < m → n < m
    below n m is = omega (arith, is)

-- a climb goes on over a node that was read
pub climb_more : (levels : List (List Node)) (values : List ℤ) (nodes : List ℕ) (now_values next_values : List ℤ) (now_nodes next_nodes : List ℕ) (left node parent : ℕ)
    (level d : List Node) → IsLinked levels → 0 < left → level ≡ get_or levels left d → parent ≡ (get_or level node root).parent
    → next_values ≡ now_values ++ (get_or level node root).value ∷ [] → next_nodes ≡ now_nodes ++ node ∷ []
    → IsClimb levels values nodes now_values now_nodes left node → IsClimb levels values nodes next_values next_nodes (left - 1) parent
climb_more levels values nodes now_values next_values now_nodes next_nodes left node parent level d linked some is up one two c =
    subst (λ xs. IsClimb levels values nodes xs next_nodes (left - 1) parent) (sym (one ∙ ap (λ (n : Node). now_values ++ n.value ∷ []) same))
    (subst (λ ns. IsClimb levels values nodes (now_values ++ (node_at levels left node).value ∷ []) ns (left - 1) parent) (sym two)
    (subst (IsClimb levels values nodes (now_values ++ (node_at levels left node).value ∷ []) (now_nodes ++ node ∷ []) (left - 1)) (sym (up ∙ ap (λ (n : Node). n.parent) same))
    (climb_next levels values nodes now_values now_nodes left node linked some c)))
  where
    same : get_or level node root ≡ node_at levels left node
    same = ap (λ list. get_or list node root) (is ∙ get_or_default levels left d [] c.level)

-- the piece of one more number
pub pieces_more : {A : Type 0} (f : ℕ → List A) (n : ℕ) (old new : List A) → old ≡ flat_map f (range_with_len 0 n) → new ≡ old ++ f n
    → new ≡ flat_map f (range_with_len 0 (n + 1))
pieces_more f n old new so_far next =
    next
    ∙ (ap (λ list. list ++ f n) so_far
    ∙ (ap (λ list. flat_map f (range_with_len 0 n) ++ list) (sym (append-nil (f n)))
    ∙ (sym (flat_map-append f (range_with_len 0 n) (n ∷ [])) ∙ ap (flat_map f) (sym range_more))))
  where
    range_more : range_with_len 0 (n + 1) ≡ range_with_len 0 n ++ n ∷ []
    range_more =
        sym (map-id (range_with_len 0 (n + 1)))
        ∙ (map-range_with_len_more (λ k. k) 0 n n (omega arith) ∙ ap (λ list. list ++ n ∷ []) (map-id (range_with_len 0 n)))
