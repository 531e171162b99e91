-- One level more.
use Rattle.std.proofs.Common.{◌≡◌, ◌+◌, ◌<◌, ◌^◌, ◌++◌, ℕ, suc, List, [], ◌∷◌, length, map, get_or, add-one, arith, sym, ap, subst, ◌∙◌}
use Rattle.std.proofs.lemmas.List.FromFn.{get_or-map-range_with_len, map-range_with_len_more, length-map-range_with_len}
use Rattle.std.specs.List.{AllByRecursion, range_with_len}
use Rattle.std.proofs.lemmas.List.{get_or_default}
use Rattle.sopl_ast.specs.Instances.{Outcome, Stochastic, distribution}
use Rattle.sopl_scen.specs.declared.nodes.Node.{Node}
use Rattle.sopl_scen.specs.Levels.{IsLight, AreSmall, children, level_at, outcomes_at, no_variable}

-- the levels of the first prefixes
abbrev pub levels_of : List Stochastic → ℕ → List (List Node)
levels_of ss n = map (level_at ss) (range_with_len 0 n)

pub levels_long : (ss : List Stochastic) (n : ℕ) (found : List (List Node)) → found ≡ levels_of ss n → length found ≡ n
levels_long ss n found is = ap length is ∙ length-map-range_with_len (level_at ss) 0 n

pub level_is : (ss : List Stochastic) (n i : ℕ) (found : List (List Node)) (level d : List Node) → i < n → found ≡ levels_of ss n
    → level ≡ get_or found i d → level ≡ level_at ss i
level_is ss n i found level d within made is =
    is ∙ (ap (λ list. get_or list i d) made ∙ get_or-map-range_with_len (level_at ss) 0 n i i d within (omega arith))

pub outcomes_are : (ss : List Stochastic) (i : ℕ) (s : Stochastic) (os : List Outcome) → i < length ss → s ≡ get_or ss i s → os ≡ distribution s → os ≡ outcomes_at ss i
outcomes_are ss i s os within is by =
    by ∙ ap distribution (is ∙ get_or_default ss i s no_variable within)

pub level_few : (ss : List Stochastic) (i : ℕ) (above : List Node) → AreSmall ss → i < length ss → above ≡ level_at ss i → length above < 2 ^ 32
level_few ss i above small within is = subst (λ list. length list < 2 ^ 32) (sym is) (small.few i (omega arith))

pub children_light : (ss : List Stochastic) (i : ℕ) (above : List Node) (os : List Outcome) → AreSmall ss → i < length ss → above ≡ level_at ss i → os ≡ outcomes_at ss i
    → AllByRecursion IsLight (children 0 above os)
children_light ss i above os small within is by =
    subst (AllByRecursion IsLight) (sym (λ k. children 0 (is k) (by k))) (small.light (suc i) (omega arith))

pub levels_more : (ss : List Stochastic) (i : ℕ) (found new : List (List Node)) (above level : List Node) (os : List Outcome) → found ≡ levels_of ss (i + 1)
    → above ≡ level_at ss i → os ≡ outcomes_at ss i → level ≡ children 0 above os → new ≡ found ++ level ∷ [] → new ≡ levels_of ss (i + 1 + 1)
levels_more ss i found new above level os made is by here next =
    next
    ∙ ((λ k. made k ++ level ∷ [])
    ∙ ((λ k. levels_of ss (i + 1) ++ whole k ∷ [])
    ∙ sym (map-range_with_len_more (level_at ss) 0 (i + 1) (i + 1) (omega arith))))
  where
    whole : level ≡ level_at ss (i + 1)
    whole = here ∙ ((λ k. children 0 (is k) (by k)) ∙ sym (ap (level_at ss) (add-one i)))
