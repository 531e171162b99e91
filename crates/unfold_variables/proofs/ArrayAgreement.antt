-- Going through the indices of an array step by step agrees with what is met there and with what the array states.
use Rattle.std.proofs.Common.{sym, ap, ℕ, ℤ, List, [], ◌∷◌, ◌++◌, map, Option, Some}
use Rattle.std.proofs.lemmas.List.{append_assoc, append-nil}
use Rattle.std.specs.List.{flat_map}
use Rattle.sopl_base.proofs.Lists.{map_same}
use Rattle.sopl_ast.specs.Tree.{Tree, Range}
use Rattle.sopl_ast.specs.Whole.{DimTree}
use Rattle.sopl_ast.specs.Known.{Known}
use Rattle.sopl_ast.specs.UnfoldEvents.{UnfoldEvent, Counted}
use Rattle.sopl_ast.specs.Arrays.{Dimension, dimensions_of, indices, taking, with_index, array_of, dimension_events, array_events}
use Rattle.sopl_ast.specs.Declarations.{domain_events, stage_events, outcome_events, decisions_of, stochastics_of}
use Rattle.unfold_constants.specs.Evaluation.{Step}
use Rattle.unfold_constants.proofs.Steps.{Agrees, agree_value, agree_events, agree_done}
use Rattle.unfold_declarations.proofs.DeclaringAgreement.{agree_reached}
use Rattle.unfold_declarations.specs.Places.{each_number}
use Rattle.unfold_declarations.proofs.Indices.{flat_map_indices, map_indices, one_longer}
use Rattle.unfold_variables.specs.Listing as s
use Rattle.unfold_variables.proofs.ElementAgreement.{agree_next, agree_last, agree_decision, agree_stochastic}

-- something for each of some numbers
agree_each : {A : Type 0} (next : ℤ → List A → Step (List A)) (events : ℤ → List UnfoldEvent) (result : ℤ → List A)
    → ((n : ℤ) (found : List A) → Agrees (next n found) (events n) (Some (found ++ result n)))
    → (ns : List ℤ) (found : List A) → Agrees (each_number next ns found) (flat_map events ns) (Some (found ++ flat_map result ns))
agree_each next events result a [] found = agree_done found (Some (found ++ [])) (ap Some (append-nil found))
agree_each next events result a (n ∷ ns) found =
    agree_next _ (found ++ result n) (a n found)
    (agree_value (ap Some (append_assoc found (result n) (flat_map result ns))) (agree_each next events result a ns (found ++ result n)))

module _ {A : Type 0} (element : Known → List ℤ → Step A) (each : Known → List UnfoldEvent) (make : List ℤ → Known → A)
    (a : (known : Known) (index : List ℤ) → Agrees (element known index) (each known) (Some (make index known))) where
  agree_listed : (ds : List Dimension) (known : Known) (index : List ℤ) (found : List A)
      → Agrees (s.listed element known ds index found) (flat_map (λ later. Counted ∷ each (with_index ds later known)) (indices ds))
      (Some (found ++ map (λ later. make (index ++ later) (with_index ds later known)) (indices ds)))
  agree_listed [] known index found =
      agree_events (sym (append-nil (Counted ∷ each known)))
      (agree_value (ap (λ whole. Some (found ++ make whole known ∷ [])) (sym (append-nil index)))
      (agree_next _ tt (agree_reached (Counted ∷ []) tt) (agree_last (λ x. found ++ x ∷ []) (a known index))))
  agree_listed (d ∷ ds) known index found =
      agree_events (flat_map_indices (λ later. Counted ∷ each (with_index (d ∷ ds) later known)) d ds)
      (agree_value (ap (λ more. Some (found ++ more)) (map_indices (λ later. make (index ++ later) (with_index (d ∷ ds) later known)) d ds))
      (agree_each _ (λ n. flat_map (λ later. Counted ∷ each (with_index ds later (taking d.name n known))) (indices ds))
      (λ n. map (λ later. make (index ++ n ∷ later) (with_index ds later (taking d.name n known))) (indices ds))
      (λ n more.
      agree_value
      (ap (λ made. Some (more ++ made))
      (map_same (λ later. make ((index ++ n ∷ []) ++ later) (with_index ds later (taking d.name n known))) _
      (λ later. ap (λ whole. make whole (with_index ds later (taking d.name n known))) (one_longer index later n)) (indices ds)))
      (agree_listed ds (taking d.name n known) (index ++ n ∷ []) more))
      d.numbers found))

  -- an array
  agree_array : (known : Known) (dims : List DimTree)
      → Agrees (s.array element known dims) (array_events known dims each) (Some (array_of known dims make))
  agree_array known dims =
      agree_next _ (dimensions_of known dims) (agree_reached (dimension_events known dims) (dimensions_of known dims))
      (agree_listed (dimensions_of known dims) known [] [])

-- the decisions of a declaration
pub agree_decisions : (known : Known) (name : List ℕ) (dims : List DimTree) (range : Range) (e : Option Tree)
    → Agrees (s.array (λ here index. s.decision here name range e index) known dims)
    (array_events known dims (λ here. domain_events here range ++ stage_events here e)) (Some (decisions_of known name dims range e))
agree_decisions known name dims range e =
    agree_array (λ here index. s.decision here name range e index) (λ here. domain_events here range ++ stage_events here e) _
    (λ here index. agree_decision name range e here index) known dims

-- the stochastic variables of a declaration
pub agree_stochastics : (known : Known) (name : List ℕ) (dims : List DimTree) (dist : List (Tree × Tree)) (e : Option Tree)
    → Agrees (s.array (λ here index. s.stochastic here name dist e index) known dims)
    (array_events known dims (λ here. outcome_events here [] dist ++ stage_events here e)) (Some (stochastics_of known name dims dist e))
agree_stochastics known name dims dist e =
    agree_array (λ here index. s.stochastic here name dist e index) (λ here. outcome_events here [] dist ++ stage_events here e) _
    (λ here index. agree_stochastic name dist e here index) known dims
