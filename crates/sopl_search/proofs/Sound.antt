-- What a search knows from one node to the next.
use Rattle.std.proofs.Common.{◌≡◌, ℕ, ◌+◌, ℤ, Bool, true, false, List, [], ◌∷◌, ◌++◌, Option, Some, sym, ap, subst, ◌∙◌}
use Rattle.std.proofs.lemmas.List.{map-append}
use Rattle.sopl_base.specs.declared.reason.Reason.{Reason}
use Rattle.sopl_base.specs.declared.reason.Side.TheVariants.{Le}
use Rattle.sopl_base.specs.declared.reason.Step.{Step}
use Rattle.brancher.specs.Rules.{Rule}
use Rattle.box_problem.specs.Box.{Box}
use Rattle.box_problem.specs.Steps.{IsCut, cut_away, narrowed}
use Rattle.box_problem.specs.BoxProblem.{BoxProblem}
use Rattle.box_problem.specs.Opens.{AreOpen}
use Rattle.box_problem.specs.Rightness.{Appended}
use Rattle.box_problem.proofs.Nodes as opened
use Rattle.log_rows.specs.Made.{Pending}
use Rattle.sopl_search.specs.declared.outcome.Found.{Found}
use Rattle.sopl_search.specs.Ends.{IsNewPoint, IsPickedCut, IsPosed}
use Rattle.sopl_search.specs.Frontiers.{IsSound, boxes}
use Rattle.sopl_search.specs.Outcomes.{found_at, value_of}

-- the node that is taken comes first
pub sound_taken : (problem : BoxProblem) (best : Option Found) (finished : ℕ) (nodes front back : List Pending) (x : Pending) → nodes ≡ front ++ x ∷ back
    → IsSound problem best finished (boxes nodes) → IsSound problem best finished (x.at ∷ boxes (front ++ back))
sound_taken problem best finished nodes front back x is sound = record {
  are_open = subst (λ (bs : List Box). AreOpen problem (value_of best) finished (x.at ∷ bs)) (sym (map-append (λ (y : Pending). y.at) front back))
      ((opened.open_in_any_order problem (value_of best) finished x.at (boxes front) (boxes back)).0
      (subst (λ (bs : List Box). AreOpen problem (value_of best) finished bs) (ap boxes is ∙ map-append (λ (y : Pending). y.at) front (x ∷ back)) sound.are_open));
  good = sound.good;
}

-- right steps in its box
pub sound_after_steps : (problem : BoxProblem) (best : Option Found) (finished : ℕ) (b after : Box) (old new : List Step) (bs : List Box) → IsPosed problem
    → Appended problem (value_of best) b old new after → IsSound problem best finished (b ∷ bs) → IsSound problem best finished (after ∷ bs)
sound_after_steps problem best finished b after old new bs posed appended sound =
    subst (λ (x : Box). IsSound problem best finished (x ∷ bs)) (sym appended.leads)
    (record {
      are_open = opened.open_after_steps problem (value_of best) finished b appended.more bs posed.lawful appended.right sound.are_open;
      good = sound.good;
    })

-- the three ends of a node
pub sound_after_refuted : (problem : BoxProblem) (best : Option Found) (finished : ℕ) (b : Box) (reason : Reason) (bs : List Box) → IsPosed problem → problem.refutes reason b (value_of best)
    ≡ true → IsSound problem best finished (b ∷ bs) → IsSound problem best (finished + 1) bs
sound_after_refuted problem best finished b reason bs posed refuted sound = record {
  are_open = opened.open_after_refuted problem (value_of best) finished b reason bs posed.lawful refuted sound.are_open;
  good = sound.good;
}

pub sound_after_point : (problem : BoxProblem) (best after : Option Found) (finished : ℕ) (b : Box) (bs : List Box) → IsPosed problem → IsNewPoint problem (value_of best) b → after
    ≡ Some (found_at problem b) → IsSound problem best finished (b ∷ bs) → IsSound problem after (finished + 1) bs
sound_after_point problem best after finished b bs posed new is sound =
    subst (λ (found : Option Found). IsSound problem found (finished + 1) bs) (sym is)
    (record {
      are_open = opened.open_after_point problem (value_of best) finished b bs posed.lawful new.one new.beats sound.are_open;
      good = opened.point_is_reached problem (value_of best) b posed.lawful (opened.first_inside problem (value_of best) finished b bs sound.are_open) new.one new.beats;
    })

pub picked_cuts : (asked : Option Rule) (depth : ℕ) (b : Box) (cell : ℕ) (k : ℤ) (low_first : Bool) → IsPickedCut asked depth b cell k low_first → IsCut b cell Le k
picked_cuts asked depth b cell k low_first picked = record { exists = picked.proper.exists; between = (picked.proper.from_low, picked.proper.below_high) }

pub sound_after_split : (problem : BoxProblem) (best : Option Found) (finished : ℕ) (b : Box) (cell : ℕ) (k : ℤ) (bs : List Box) → IsCut b cell Le k → IsSound problem best finished (b ∷ bs)
    → IsSound problem best (finished + 1) (narrowed b cell Le k ∷ cut_away b cell Le k ∷ bs)
sound_after_split problem best finished b cell k bs cut sound = record {
  are_open = opened.open_after_split problem (value_of best) finished b cell Le k bs cut sound.are_open;
  good = sound.good;
}

-- two boxes change places, or come in among others
turned : (problem : BoxProblem) (v : Option ℤ) (finished : ℕ) (p q : Box) (bs : List Box) → AreOpen problem v finished (p ∷ q ∷ bs) → AreOpen problem v finished (q ∷ p ∷ bs)
turned problem v finished p q bs are = (opened.open_in_any_order problem v finished q (p ∷ []) bs).0 are

come_in : (problem : BoxProblem) (v : Option ℤ) (finished : ℕ) (p q : Box) (left right : List Box) → AreOpen problem v finished (p ∷ q ∷ (left ++ right))
    → AreOpen problem v finished (left ++ p ∷ q ∷ right)
come_in problem v finished p q left right are =
    (opened.open_in_any_order problem v finished p left (q ∷ right)).1
    ((opened.open_in_any_order problem v finished q (p ∷ left) right).1 (turned problem v finished p q (left ++ right) are))

apart : (problem : BoxProblem) (best : Option Found) (finished : ℕ) (low high : Box) (bs : List Box) (left right : List Pending) → bs ≡ boxes (left ++ right)
    → AreOpen problem (value_of best) finished (low ∷ high ∷ bs) → AreOpen problem (value_of best) finished (low ∷ high ∷ (boxes left ++ boxes right))
apart problem best finished low high bs left right same are =
    subst (λ (rest : List Box). AreOpen problem (value_of best) finished (low ∷ high ∷ rest)) (same ∙ map-append (λ (z : Pending). z.at) left right) are

in_place : (problem : BoxProblem) (best : Option Found) (finished : ℕ) (left right nodes : List Pending) (x y : Pending) → nodes ≡ left ++ x ∷ y ∷ right
    → AreOpen problem (value_of best) finished (boxes left ++ x.at ∷ y.at ∷ boxes right) → AreOpen problem (value_of best) finished (boxes nodes)
in_place problem best finished left right nodes x y is are =
    subst (λ (rest : List Box). AreOpen problem (value_of best) finished rest) (sym (ap boxes is ∙ map-append (λ (z : Pending). z.at) left (x ∷ y ∷ right))) are

-- the boxes of the older node and of the newer one: the half that is searched first is the newer one
abbrev pub AreHalves : Bool → Box → Box → Box → Box → Type 0
AreHalves true low high older newer = (older ≡ high) × (newer ≡ low)
AreHalves false low high older newer = (older ≡ low) × (newer ≡ high)

-- the two halves in the order in which they are given, among all open nodes
pub sound_given : (problem : BoxProblem) (best : Option Found) (finished : ℕ) (low high : Box) (bs : List Box) (left right nodes : List Pending) (x y : Pending) (low_first : Bool)
    → bs ≡ boxes (left ++ right) → nodes ≡ left ++ x ∷ y ∷ right → AreHalves low_first low high x.at y.at
    → IsSound problem best finished (low ∷ high ∷ bs) → IsSound problem best finished (boxes nodes)
sound_given problem best finished low high bs left right nodes x y true same is halves sound = record {
  are_open = in_place problem best finished left right nodes x y is
      (come_in problem (value_of best) finished x.at y.at (boxes left) (boxes right)
      (subst (λ (b : Box). AreOpen problem (value_of best) finished (b ∷ y.at ∷ (boxes left ++ boxes right))) (sym halves.0)
      (subst (λ (b : Box). AreOpen problem (value_of best) finished (high ∷ b ∷ (boxes left ++ boxes right))) (sym halves.1)
      (turned problem (value_of best) finished low high (boxes left ++ boxes right) (apart problem best finished low high bs left right same sound.are_open)))));
  good = sound.good;
}
sound_given problem best finished low high bs left right nodes x y false same is halves sound = record {
  are_open = in_place problem best finished left right nodes x y is
      (come_in problem (value_of best) finished x.at y.at (boxes left) (boxes right)
      (subst (λ (b : Box). AreOpen problem (value_of best) finished (b ∷ y.at ∷ (boxes left ++ boxes right))) (sym halves.0)
      (subst (λ (b : Box). AreOpen problem (value_of best) finished (low ∷ b ∷ (boxes left ++ boxes right))) (sym halves.1)
      (apart problem best finished low high bs left right same sound.are_open))));
  good = sound.good;
}
