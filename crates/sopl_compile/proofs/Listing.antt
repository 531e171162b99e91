-- Numbers that are found one by one.
use Rattle.std.proofs.Common.{arith, ◌≡◌, ◌∙◌, refl, ap, sym, subst, ℕ, ◌+◌, ◌<◌, ◌≤◌, List, [], ◌∷◌, ◌++◌, map, length, drop, None}
use Rattle.std.proofs.lemmas.List.{append-nil, append_assoc, length-map, map-append}
use Rattle.std.specs.List.{flat_map, range_with_len}
use Rattle.sopl_base.specs.declared.fault.Fault.{Fault}
use Rattle.term_language.specs.Terms.{Term}
use Rattle.compile_names.specs.declared.setting.Scenarios.{Scenarios}
use Rattle.compile_laws.specs.Measured.{IsSizeFault, first_large}
use Rattle.compile_scene.proofs.Growing.{extends_twice}
use Rattle.compile_scene.specs.Scenes.{root_in}
use Rattle.compile_scene.specs.Works.{Extends, Stands, things_of}
use Rattle.compile_scene.specs.declared.work.Lowering.{Lowering}
use Rattle.sopl_compile.proofs.Numbering.{next_number, no_number}
use Rattle.sopl_compile.proofs.Sizes.{sizes_fault, sizes_more, sizes_none}
use Rattle.sopl_compile.specs.Listed.{AreListed}
use Rattle.sopl_term.specs.Built.{Grows}
use Rattle.term_nodes.specs.Built.{AllBelow}
use Rattle.term_nodes.specs.Things.{Thing, thing_at}

-- what was found stands for what all stands for, up to what is left, and so do the sizes
pub record AreLeft {A : Type 0} (kind : Thing → A) (sub : A → List Term) (setting : Scenarios) (before now : Lowering) (ids : List ℕ) (left all : List A) : Type 0 where
  pub extends : Extends setting before now
  pub exist : AllBelow (length (things_of now)) ids
  pub are : map (λ (id : ℕ). kind (thing_at (things_of now) id)) ids ++ left ≡ all
  pub sizes : first_large (root_in setting) (flat_map sub left) ≡ first_large (root_in setting) (flat_map sub all)

below_more : (m n : ℕ) (ids : List ℕ) (id : ℕ) → m ≤ n → AllBelow m ids → id < n → AllBelow n (ids ++ id ∷ [])
below_more m n [] id most below here = (here, tt)
below_more m n (x ∷ ids) id most below here = (omega (arith, most, below.0), below_more m n ids id most below.1 here)

same_kinds : {A : Type 0} (kind : Thing → A) (before after : List Thing) (ids : List ℕ) → Grows before after → AllBelow (length before) ids
    → map (λ (id : ℕ). kind (thing_at after id)) ids ≡ map (λ (id : ℕ). kind (thing_at before id)) ids
same_kinds kind before after [] grows below = refl
same_kinds kind before after (id ∷ ids) grows below = λ i. kind (grows.same id below.0 i) ∷ same_kinds kind before after ids grows below.1 i

module _ {A : Type 0} (kind : Thing → A) (sub : A → List Term) (setting : Scenarios) (before : Lowering) where
  pub left_more : (now then : Lowering) (ids more : List ℕ) (id : ℕ) (thing : Thing) (x : A) (left later all : List A) → left ≡ x ∷ later → kind thing ≡ x
      → AreLeft kind sub setting before now ids left all → Extends setting now then → Stands (things_of then) id thing → first_large (root_in setting) (sub x) ≡ None
      → more ≡ ids ++ id ∷ [] → AreLeft kind sub setting before then more later all
  left_more now then ids more id thing x left later all next is so_far extends stands small added =
      let at : ℕ → A = λ (n : ℕ). kind (thing_at (things_of then) n) in
      let here : at id ≡ x = ap kind stands.is ∙ is in
      subst (λ (xs : List ℕ). AreLeft kind sub setting before then xs later all) (sym added)
      (record {
        extends = extends_twice setting before now then so_far.extends extends;
        exist = below_more (length (things_of now)) (length (things_of then)) ids id extends.grows.more so_far.exist stands.exists;
        are =
            ap (λ (ys : List A). ys ++ later) (map-append at ids (id ∷ []))
            ∙ (append_assoc (map at ids) (at id ∷ []) later
            ∙ ((λ i. same_kinds kind (things_of now) (things_of then) ids extends.grows so_far.exist i ++ (here i ∷ later))
            ∙ (ap (λ (ys : List A). map (λ (n : ℕ). kind (thing_at (things_of now) n)) ids ++ ys) (sym next) ∙ so_far.are)));
        sizes = sizes_more (root_in setting) sub left all so_far.sizes x later next small;
      })

  pub left_none : (now : Lowering) (ids : List ℕ) (left all : List A) → left ≡ [] → AreLeft kind sub setting before now ids left all → AreListed kind (things_of now) ids all
  left_none now ids left all none so_far =
      let found : List A = map (λ (n : ℕ). kind (thing_at (things_of now) n)) ids in
      record { exist = so_far.exist; are = sym (append-nil found) ∙ (sym (ap (λ (ys : List A). found ++ ys) none) ∙ so_far.are) }

-- as many numbers as there is to stand for
pub listed_length : {A : Type 0} (kind : Thing → A) (things : List Thing) (ids : List ℕ) (all : List A) → AreListed kind things ids all → length ids ≡ length all
listed_length kind things ids all listed = sym (length-map ids (λ (n : ℕ). kind (thing_at things n))) ∙ ap length listed.are

-- nothing stands for nothing
pub none_listed : {A : Type 0} (kind : Thing → A) (things : List Thing) (ids : List ℕ) (all : List A) → ids ≡ [] → [] ≡ all → AreListed kind things ids all
none_listed kind things ids all none same =
    subst (λ (xs : List ℕ). AreListed kind things xs all) (sym none) (record { exist = tt; are = same })

-- So many scenarios, each with what it has.

module _ {A : Type 0} (kind : Thing → A) (sub : A → List Term) (setting : Scenarios) (before : Lowering) (f : ℕ → A) (n i : ℕ) where
  abbrev IsSoFar : Lowering → List ℕ → Type 0
  IsSoFar now ids = AreLeft kind sub setting before now ids (map f (drop i (range_with_len 0 n))) (map f (range_with_len 0 n))

  pub scene_more : (now then : Lowering) (ids more : List ℕ) (id : ℕ) (thing : Thing) → i < n → kind thing ≡ f i → IsSoFar now ids → Extends setting now then
      → Stands (things_of then) id thing → first_large (root_in setting) (sub (f i)) ≡ None → more ≡ ids ++ id ∷ []
      → AreLeft kind sub setting before then more (map f (drop (i + 1) (range_with_len 0 n))) (map f (range_with_len 0 n))
  scene_more now then ids more id thing below is so_far extends stands small added =
      left_more kind sub setting before now then ids more id thing (f i) (map f (drop i (range_with_len 0 n))) (map f (drop (i + 1) (range_with_len 0 n))) (map f (range_with_len 0 n))
      (next_number f n i below) is so_far extends stands small added

  pub scene_fault : (now : Lowering) (ids : List ℕ) (fault : Fault) → i < n → IsSoFar now ids → IsSizeFault (root_in setting) (sub (f i)) fault
      → IsSizeFault (root_in setting) (flat_map sub (map f (range_with_len 0 n))) fault
  scene_fault now ids fault below so_far large =
      sizes_fault (root_in setting) sub (map f (drop i (range_with_len 0 n))) (map f (range_with_len 0 n)) so_far.sizes (f i) (map f (drop (i + 1) (range_with_len 0 n))) fault
      (next_number f n i below) large

  pub scene_none : (now : Lowering) (ids : List ℕ) → n ≤ i → IsSoFar now ids → AreListed kind (things_of now) ids (map f (range_with_len 0 n))
  scene_none now ids past so_far = left_none kind sub setting before now ids (map f (drop i (range_with_len 0 n))) (map f (range_with_len 0 n)) (no_number f n i past) so_far

  pub scene_small : (now : Lowering) (ids : List ℕ) → n ≤ i → IsSoFar now ids → first_large (root_in setting) (flat_map sub (map f (range_with_len 0 n))) ≡ None
  scene_small now ids past so_far = sizes_none (root_in setting) sub (map f (drop i (range_with_len 0 n))) (map f (range_with_len 0 n)) so_far.sizes (no_number f n i past)
