-- The way down to a node.
use Rattle.std.proofs.Common.{◌≡◌, ℕ, ◌+◌, List, [], ◌∷◌, ◌++◌, length, map, reverse, sym, ap, subst, ◌∙◌, append_assoc, arith, Bor, Result, Ok, Err, OnOk}
use Rattle.std.proofs.lemmas.List.{length-append, length-map, length-reverse, map-append}
use Rattle.sopl_base.specs.declared.reason.Side.{Side}
use Rattle.sopl_base.specs.declared.reason.Side.TheVariants.{Le}
use Rattle.box_problem.specs.Box.{Box}
use Rattle.box_problem.specs.Steps.{IsCut}
use Rattle.box_store.specs.Store.{Mark}
use Rattle.log_rows.specs.declared.rows.EndLine.TheVariants as lines
use Rattle.log_rows.specs.Rows.{handed}
use Rattle.open_nodes.specs.declared.split.SplitNode.{SplitNode, SplitNode', None', Some', out-SplitNode}
use Rattle.open_nodes.specs.declared.walk.BoxWalk.{BoxWalk}
use Rattle.open_nodes.specs.Ways.{CutsWell, IsAbove, final_box, node_number, row_cut, side_box, top_box, ups}
use Rattle.open_nodes.specs.Walks.{AreNamed, HasDescended, StandsAt, IsEntered, IsGoing, IsKnownWay, IsTop, Meets, Tops, marked}
use Rattle.open_nodes.proofs.Walking.{reverse_last}

abbrev first_or : SplitNode → List SplitNode → SplitNode
first_or d [] = d
first_or d (x ∷ xs) = x

abbrev later : List SplitNode → List SplitNode
later [] = []
later (x ∷ xs) = xs

-- what stands above a split that stands on the way to another one
pub record IsOnWay (root : Box) (f : ℕ → Box) (split : SplitNode) (rest : List SplitNode) : Type 0 where
  pub ups_are : ups split ≡ rest
  pub cuts : CutsWell root split
  pub named : final_box root split ≡ f (node_number split)

on_way : (root : Box) (f : ℕ → Box) (split next : SplitNode) (downs rest : List SplitNode) → CutsWell root split → AreNamed root f (split ∷ ups split)
    → split ∷ ups split ≡ downs ++ next ∷ rest → IsOnWay root f next rest
on_way root f split next [] rest cuts named chain =
    subst (λ (s : SplitNode). IsOnWay root f s rest) (ap (first_or split) chain)
    (record { ups_are = ap later chain; cuts = cuts; named = named.0 })
on_way root f (SplitNode' None' side node depth steps cut) next (x ∷ downs) rest cuts named chain = none_above downs next rest (ap later chain)
  where
    none_above : (xs : List SplitNode) (n : SplitNode) (ys : List SplitNode) → [] ≡ xs ++ n ∷ ys → IsOnWay root f n ys
    none_above [] n ys is = absurd (cc)
    none_above (y ∷ xs) n ys is = absurd (cc)
on_way root f (SplitNode' (Some' p n) side node depth steps cut) next (x ∷ downs) rest cuts named chain =
    on_way root f n next downs rest cuts.2 named.1 (ap later chain)

-- the next split to come stands below the box
pub is_above : (root : Box) (f : ℕ → Box) (walk : BoxWalk) (downs : List SplitNode) (next split : SplitNode) → IsGoing root f walk (downs ++ next ∷ []) split
    → IsAbove root walk.store.box next
is_above root f walk downs next split going =
    let on = on_way root f split next downs going.rest going.known.cuts going.known.named (going.chain ∙ append_assoc downs (next ∷ []) going.rest) in
    record { cuts = on.cuts; at = going.box ∙ ap (top_box root) (sym on.ups_are) }

pub gone_on : (root : Box) (f : ℕ → Box) (old new : BoxWalk) (downs : List SplitNode) (next split : SplitNode) → IsGoing root f old (downs ++ next ∷ []) split
    → HasDescended root old new next → IsGoing root f new downs split
gone_on root f old new downs next split going gone =
    let chain = going.chain ∙ append_assoc downs (next ∷ []) going.rest in
    let on = on_way root f split next downs going.rest going.known.cuts going.known.named chain in
    record {
      rest = next ∷ going.rest;
      chain = chain;
      box = gone.box;
      known = record {
        at = gone.marks
            ∙ (ap (λ (b : Box). b ∷ marked old.store.marks) on.named
            ∙ (ap (λ (bs : List Box). f (node_number next) ∷ bs) going.known.at
            ∙ sym (ap (λ (ns : List ℕ). map f ns ++ root ∷ []) (ap reverse gone.here ∙ reverse_last old.here.items (node_number next)))));
        cuts = going.known.cuts;
        named = going.known.named;
      };
    }

-- a walk has one mark more than splits
pub as_many : (root : Box) (f : ℕ → Box) (walk : BoxWalk) → StandsAt root f walk → length walk.store.marks ≡ length walk.here.items + 1
as_many root f walk at =
    omega (arith, ap length at, length-map walk.store.marks (λ (mark : Mark). mark.box), length-append (map f (reverse walk.here.items)) (root ∷ []), length-map (reverse walk.here.items) f, length-reverse walk.here.items)

-- where the way down begins
top_is : (root : Box) (f : ℕ → Box) (b : Box) (marks : List Box) (ns : List ℕ) (rest : List SplitNode) → marks ≡ map f ns ++ root ∷ [] → IsTop b marks → Tops ns rest
    → AreNamed root f rest → b ≡ top_box root rest
top_is root f b [] ns rest is top tops named = absurd top
top_is root f b (mark ∷ marks) [] [] is top tops named = top ∙ ap (first_box mark) is
  where
    first_box : Box → List Box → Box
    first_box d [] = d
    first_box d (x ∷ xs) = x
top_is root f b (mark ∷ marks) [] (split ∷ rest) is top tops named = absurd tops
top_is root f b (mark ∷ marks) (n ∷ ns) [] is top tops named = absurd tops
top_is root f b (mark ∷ marks) (n ∷ ns) (split ∷ rest) is top tops named = top ∙ (ap (first_box mark) is ∙ (ap f tops ∙ sym named.0))
  where
    first_box : Box → List Box → Box
    first_box d [] = d
    first_box d (x ∷ xs) = x

named_behind : (root : Box) (f : ℕ → Box) (xs ys : List SplitNode) → AreNamed root f (xs ++ ys) → AreNamed root f ys
named_behind root f [] ys named = named
named_behind root f (x ∷ xs) ys named = named_behind root f xs ys named.1

pub met_above : (root : Box) (f : ℕ → Box) (walk : BoxWalk) (downs : List SplitNode) (split : SplitNode) → StandsAt root f walk → CutsWell root split → AreNamed root f (split ∷ ups split)
    → IsTop walk.store.box (marked walk.store.marks) → Meets walk.here.items downs split → IsGoing root f walk downs split
met_above root f walk downs split at cuts named top meets = record {
  rest = meets.rest;
  chain = meets.chain;
  box = top_is root f walk.store.box (marked walk.store.marks) (reverse walk.here.items) meets.rest at top meets.tops
      (named_behind root f downs meets.rest (subst (AreNamed root f) meets.chain named));
  known = record { at = at; cuts = cuts; named = named };
}

-- at the end of it
pub there : (root : Box) (f : ℕ → Box) (walk : BoxWalk) (split : SplitNode) → IsGoing root f walk [] split → walk.store.box ≡ final_box root split
there root f walk split going = going.box ∙ sym (ap (top_box root) going.chain)

-- the splits that a list of references points to
abbrev pub pointed : List (Bor SplitNode) → List SplitNode
pointed refs = map (λ (r : Bor SplitNode). r.now) refs

pub pointed_last : (refs rest : List (Bor SplitNode)) (next : Bor SplitNode) → refs ≡ rest ++ next ∷ [] → pointed refs ≡ pointed rest ++ next.now ∷ []
pointed_last refs rest next is = ap pointed is ∙ map-append (λ (r : Bor SplitNode). r.now) rest (next ∷ [])

pub some_above : (walk : BoxWalk) (refs rest : List (Bor SplitNode)) (next : Bor SplitNode) (split : SplitNode) → refs ≡ rest ++ next ∷ []
    → ((root : Box) × (f : ℕ → Box) × IsGoing root f walk (pointed refs) split) → (root : Box) × IsAbove root walk.store.box next.now
some_above walk refs rest next split is some =
    (some.0, is_above some.0 some.1 walk (pointed rest) next.now split (subst (λ (downs : List SplitNode). IsGoing some.0 some.1 walk downs split) (pointed_last refs rest next is) some.2))

pub goes_on : (root : Box) (f : ℕ → Box) (old new : BoxWalk) (refs rest : List (Bor SplitNode)) (next : Bor SplitNode) (split : SplitNode) → refs ≡ rest ++ next ∷ []
    → ((root : Box) → IsAbove root old.store.box next.now → HasDescended root old new next.now) → IsGoing root f old (pointed refs) split
    → IsGoing root f new (pointed rest) split
goes_on root f old new refs rest next split is gone going =
    let before = subst (λ (downs : List SplitNode). IsGoing root f old downs split) (pointed_last refs rest next is) going in
    gone_on root f old new (pointed rest) next.now split before (gone root (is_above root f old (pointed rest) next.now split before))

-- the cut of the split that the box has come to
cut_well : (root : Box) (b : Box) (split : SplitNode) → b ≡ final_box root split → CutsWell root split → IsCut b (out-SplitNode split).cut.cell Le (out-SplitNode split).cut.k
unfolding out-SplitNode denote.Hole.Carrier.out
cut_well root b (SplitNode' above side node depth steps cut) is cuts = subst (λ (x : Box). IsCut x cut.cell Le cut.k) (sym is) cuts.1

pub cut_there : (root : Box) (f : ℕ → Box) (walk : BoxWalk) (split : SplitNode) → IsGoing root f walk [] split → IsCut walk.store.box (out-SplitNode split).cut.cell Le (out-SplitNode split).cut.k
cut_there root f walk split going = cut_well root walk.store.box split (there root f walk split going) going.known.cuts

side_is : (root : Box) (b after : Box) (split : SplitNode) (side : Side) → b ≡ final_box root split → after ≡ handed b (lines.Split (row_cut (out-SplitNode split).cut)) side
    → after ≡ side_box root split side
unfolding out-SplitNode denote.Hole.Carrier.out
side_is root b after (SplitNode' above low node depth steps cut) side is took = took ∙ ap (λ (x : Box). handed x (lines.Split (row_cut cut)) side) is

pub arrived : {T E : Type 0} (root : Box) (f : ℕ → Box) (walk after : BoxWalk) (split : SplitNode) (side : Side) (result : Result T E) → IsGoing root f walk [] split
    → after.here ≡ walk.here → after.store.marks ≡ walk.store.marks
    → OnOk result (after.store.box ≡ handed walk.store.box (lines.Split (row_cut (out-SplitNode split).cut)) side) → OnOk result (IsEntered root f after split side)
arrived root f walk after split side (Ok value) going same_here same_marks took = record {
  at = ap marked same_marks ∙ (going.known.at ∙ sym (ap (λ here. map f (reverse here.items) ++ root ∷ []) same_here));
  box = side_is root walk.store.box after.store.box split side (there root f walk split going) took;
}
arrived root f walk after split side (Err error) going same_here same_marks took = tt

pub begun : (root : Box) (f : ℕ → Box) (old met settled : BoxWalk) (downs : List SplitNode) (split : SplitNode) → IsKnownWay root f old split → (StandsAt root f old → StandsAt root f met)
    → (StandsAt root f met → StandsAt root f settled) → settled.here ≡ met.here → IsTop settled.store.box (marked settled.store.marks) → Meets met.here.items downs split
    → IsGoing root f settled downs split
begun root f old met settled downs split known at_met at_settled same top meets =
    met_above root f settled downs split (at_settled (at_met known.at)) known.cuts known.named top (subst (λ here. Meets here.items downs split) (sym same) meets)
