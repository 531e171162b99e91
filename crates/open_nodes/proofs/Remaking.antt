-- Which ends are made again.
use Rattle.std.proofs.Common.{◌≡◌, ℕ, ◌<◌, ◌≤◌, List, [], ◌∷◌, ◌++◌, reverse, Contains, refl, sym, ap, subst, ◌∙◌, append_assoc, append-nil, arith, Bor, Option, Some, option_map, Result, Ok, Err, OnOk}
use Rattle.std.proofs.lemmas.List.{map-append}
use Rattle.std.proofs.lemmas.List.Elements.{Contains-append_right}
use Rattle.std.specs.List.{AllByRecursion}
use Rattle.sopl_base.proofs.Lists.{all_append}
use Rattle.open_nodes.specs.declared.split.SplitNode.{SplitNode, SplitNode', out-SplitNode}
use Rattle.open_nodes.specs.Ways.{node_number, split_cut, ups}
use Rattle.open_nodes.specs.Remade.{AreBelow, BeginsAtMost, Descends, FirstStands, GoesBack, HasLeft, MakesAgain, StandApart, cells_along, cells_made, split_numbers}
use Rattle.open_nodes.specs.Walks.{BeginsWith, Meets, Tops, with_ups}
use Rattle.open_nodes.proofs.Arriving.{pointed, pointed_last}
use Rattle.open_nodes.proofs.Walking.{reverse_last}

-- Back along the numbers of a way.

pub back_on : (node : ℕ) (whole here rest : List ℕ) (last : ℕ) → here ≡ rest ++ last ∷ [] → node < last → GoesBack node whole (reverse here) → GoesBack node whole (reverse rest)
back_on node whole here rest last is less back = record {
  gone = back.gone ++ last ∷ [];
  whole = back.whole ∙ ap (λ (l : List ℕ). back.gone ++ l) (ap reverse is ∙ reverse_last rest last) ∙ sym (append_assoc back.gone (last ∷ []) (reverse rest));
  above = all_append (λ n. node < n) back.gone (last ∷ []) back.above (less, tt);
}

pub back_empty : (node : ℕ) (here : List ℕ) → here ≡ [] → BeginsAtMost (reverse here) node
back_empty node here none = subst (λ (l : List ℕ). BeginsAtMost (reverse l) node) (sym none) tt

-- Numbers that descend.

descends_behind : (xs ys : List ℕ) → Descends (xs ++ ys) → Descends ys
descends_behind [] ys falls = falls
descends_behind (x ∷ xs) ys falls = descends_behind xs ys falls.1

pub less_than : (a b : ℕ) → a ≤ b → (xs : List ℕ) → AllByRecursion (λ m. m < a) xs → AllByRecursion (λ m. m < b) xs
less_than a b most [] all = tt
less_than a b most (x ∷ xs) all = (omega (arith, most, all.0), less_than a b most xs all.1)

not_among : (n : ℕ) (xs : List ℕ) → AllByRecursion (λ m. m < n) xs → AllByRecursion (λ m. ¬ m ≡ n) xs
not_among n [] all = tt
not_among n (x ∷ xs) all = (λ same. omega (arith, all.0, same), not_among n xs all.1)

not_above : (n : ℕ) (xs : List ℕ) → AllByRecursion (λ m. n < m) xs → AllByRecursion (λ m. ¬ m ≡ n) xs
not_above n [] all = tt
not_above n (x ∷ xs) all = (λ same. omega (arith, all.0, same), not_above n xs all.1)

numbers_below : (n : ℕ) (splits : List SplitNode) → AllByRecursion (λ m. m < n) (split_numbers splits) → AllByRecursion (λ s. node_number s < n) splits
numbers_below n [] all = tt
numbers_below n (s ∷ splits) all = (all.0, numbers_below n splits all.1)

-- what comes behind a split on a way has lesser numbers
rest_below : (downs : List SplitNode) (next : SplitNode) (rest : List SplitNode) → Descends (split_numbers (downs ++ next ∷ rest))
    → AllByRecursion (λ s. node_number s < node_number next) rest
rest_below [] next rest falls = numbers_below (node_number next) rest falls.0
rest_below (d ∷ downs) next rest falls = rest_below downs next rest falls.1

-- numbers that begin below this one are all below it
apart_after : (after : List ℕ) (node : ℕ) → Descends after → BeginsAtMost after node → (¬ BeginsWith after node) → AllByRecursion (λ n. ¬ n ≡ node) after
apart_after [] node falls most other = tt
apart_after (n ∷ ns) node falls most other = (other, not_among node ns (less_than n node most ns falls.0))

-- The way up to where a box stands.

-- some numbers were left, each greater than those of the splits that are still to come, and none of the splits that were passed has one of the numbers
pub record IsMeeting (old new : List ℕ) (downs rest : List SplitNode) : Type 0 where
  pub gone : List ℕ
  pub whole : old ≡ gone ++ new
  pub above : AllByRecursion (λ n. AllByRecursion (λ (s : SplitNode). node_number s < n) rest) gone
  pub apart : StandApart old downs

tails_below : (next : SplitNode) (rest : List SplitNode) (gone : List ℕ) → AllByRecursion (λ n. AllByRecursion (λ (s : SplitNode). node_number s < n) (next ∷ rest)) gone
    → AllByRecursion (λ n. AllByRecursion (λ (s : SplitNode). node_number s < n) rest) gone
tails_below next rest [] all = tt
tails_below next rest (n ∷ gone) all = (all.0.1, tails_below next rest gone all.1)

firsts_below : (next : SplitNode) (rest : List SplitNode) (gone : List ℕ) → AllByRecursion (λ n. AllByRecursion (λ (s : SplitNode). node_number s < n) (next ∷ rest)) gone
    → AllByRecursion (λ n. node_number next < n) gone
firsts_below next rest [] all = tt
firsts_below next rest (n ∷ gone) all = (all.0.0, firsts_below next rest gone all.1)

splits_below : (a b : ℕ) (splits : List SplitNode) → a < b → AllByRecursion (λ s. node_number s < a) splits → AllByRecursion (λ s. node_number s < b) splits
splits_below a b [] less all = tt
splits_below a b (s ∷ splits) less all = (omega (arith, less, all.0), splits_below a b splits less all.1)

all_above : (node : ℕ) (rest : List SplitNode) (gone : List ℕ) → AllByRecursion (λ n. node < n) gone → AllByRecursion (λ s. node_number s < node) rest
    → AllByRecursion (λ n. AllByRecursion (λ (s : SplitNode). node_number s < n) rest) gone
all_above node rest [] all below = tt
all_above node rest (n ∷ gone) all below = (splits_below node n rest all.0 below, all_above node rest gone all.1 below)

pub meeting_on : (old now after : List ℕ) (way downs : List SplitNode) (next : SplitNode) (rest : List SplitNode) → Descends old → Descends (split_numbers way)
    → way ≡ downs ++ next ∷ rest → GoesBack (node_number next) now after → BeginsAtMost after (node_number next) → (¬ BeginsWith after (node_number next))
    → IsMeeting old now downs (next ∷ rest) → IsMeeting old after (downs ++ next ∷ []) rest
meeting_on old now after way downs next rest falls way_falls chain back most other meeting =
    let below = rest_below downs next rest (subst (λ (w : List SplitNode). Descends (split_numbers w)) chain way_falls) in
    let whole : old ≡ (meeting.gone ++ back.gone) ++ after =
    meeting.whole ∙ ap (λ (l : List ℕ). meeting.gone ++ l) back.whole ∙ sym (append_assoc meeting.gone back.gone after) in
    let falls_after = descends_behind (meeting.gone ++ back.gone) after (subst Descends whole falls) in
    let differs : AllByRecursion (λ n. ¬ n ≡ node_number next) old =
    subst (AllByRecursion (λ n. ¬ n ≡ node_number next)) (sym whole)
    (all_append (λ n. ¬ n ≡ node_number next) (meeting.gone ++ back.gone) after
    (all_append (λ n. ¬ n ≡ node_number next) meeting.gone back.gone (not_above (node_number next) meeting.gone (firsts_below next rest meeting.gone meeting.above))
    (not_above (node_number next) back.gone back.above))
    (apart_after after (node_number next) falls_after most other)) in
    record {
      gone = meeting.gone ++ back.gone;
      whole = whole;
      above = all_append (λ n. AllByRecursion (λ (s : SplitNode). node_number s < n) rest) meeting.gone back.gone (tails_below next rest meeting.gone meeting.above)
          (all_above (node_number next) rest back.gone back.above below);
      apart = all_append (λ (s : SplitNode). AllByRecursion (λ n. ¬ n ≡ node_number s) old) downs (next ∷ []) meeting.apart (differs, tt);
    }

pub left_on : (node : ℕ) (old now after : List ℕ) → HasLeft old now → GoesBack node now after → HasLeft old after
left_on node old now after left back = record {
  gone = left.gone ++ back.gone;
  whole = left.whole ∙ ap (λ (l : List ℕ). left.gone ++ l) back.whole ∙ sym (append_assoc left.gone back.gone after);
}

pub left_all : (old here : List ℕ) → here ≡ [] → HasLeft old (reverse here)
left_all old here none = subst (λ (l : List ℕ). HasLeft old (reverse l)) (sym none) (record { gone = old; whole = sym (append-nil old) })

pub node_is : (split : SplitNode) → (out-SplitNode split).node ≡ node_number split
unfolding out-SplitNode denote.Hole.Carrier.out
node_is (SplitNode' above side node depth steps cut) = refl

-- the next split up is passed
way_at : (split : SplitNode) (refs : List (Bor SplitNode)) (next : Bor SplitNode) (at : Option (Bor SplitNode)) → at ≡ Some next
    → split ∷ ups split ≡ pointed refs ++ with_ups (option_map (λ (r : Bor SplitNode). r.now) at) → split ∷ ups split ≡ pointed refs ++ next.now ∷ ups next.now
way_at split refs next at is chain = chain ∙ ap (λ (o : Option (Bor SplitNode)). pointed refs ++ with_ups (option_map (λ (r : Bor SplitNode). r.now) o)) is

pub way_passed : (split : SplitNode) (refs after : List (Bor SplitNode)) (next : Bor SplitNode) (at after_at : Option (Bor SplitNode)) → at ≡ Some next → after ≡ refs ++ next ∷ []
    → with_ups (option_map (λ (r : Bor SplitNode). r.now) after_at) ≡ ups next.now
    → split ∷ ups split ≡ pointed refs ++ with_ups (option_map (λ (r : Bor SplitNode). r.now) at)
    → split ∷ ups split ≡ pointed after ++ with_ups (option_map (λ (r : Bor SplitNode). r.now) after_at)
way_passed split refs after next at after_at is pushed above chain =
    let rest = with_ups (option_map (λ (r : Bor SplitNode). r.now) after_at) in
    way_at split refs next at is chain ∙ ap (λ (l : List SplitNode). pointed refs ++ next.now ∷ l) (sym above)
    ∙ sym (append_assoc (pointed refs) (next.now ∷ []) rest) ∙ sym (ap (λ (l : List SplitNode). l ++ rest) (pointed_last after refs next pushed))

pub meeting_passed : (old now here : List ℕ) (split : SplitNode) (refs after : List (Bor SplitNode)) (next : Bor SplitNode) (at after_at : Option (Bor SplitNode)) → at ≡ Some next
    → after ≡ refs ++ next ∷ [] → with_ups (option_map (λ (r : Bor SplitNode). r.now) after_at) ≡ ups next.now
    → split ∷ ups split ≡ pointed refs ++ with_ups (option_map (λ (r : Bor SplitNode). r.now) at)
    → GoesBack (out-SplitNode next.now).node now here → BeginsAtMost here (out-SplitNode next.now).node → (¬ BeginsWith here (out-SplitNode next.now).node)
    → Descends old → Descends (split_numbers (split ∷ ups split)) → IsMeeting old now (pointed refs) (with_ups (option_map (λ (r : Bor SplitNode). r.now) at))
    → IsMeeting old here (pointed after) (with_ups (option_map (λ (r : Bor SplitNode). r.now) after_at))
meeting_passed old now here split refs after next at after_at is pushed above chain back most other falls way_falls meeting =
    let before : IsMeeting old now (pointed refs) (next.now ∷ ups next.now) =
    subst (λ (o : Option (Bor SplitNode)). IsMeeting old now (pointed refs) (with_ups (option_map (λ (r : Bor SplitNode). r.now) o))) is meeting in
    let same = node_is next.now in
    let on = meeting_on old now here (split ∷ ups split) (pointed refs) next.now (ups next.now) falls way_falls (way_at split refs next at is chain)
    (subst (λ (n : ℕ). GoesBack n now here) same back) (subst (BeginsAtMost here) same most) (subst (λ (n : ℕ). ¬ BeginsWith here n) same other) before in
    subst (λ (downs : List SplitNode). IsMeeting old here downs (with_ups (option_map (λ (r : Bor SplitNode). r.now) after_at))) (sym (pointed_last after refs next pushed))
    (subst (λ (rest : List SplitNode). IsMeeting old here (pointed refs ++ next.now ∷ []) rest) (sym above) on)

-- Down again.

numbers_last : (rest : List SplitNode) (next : SplitNode) (here : List ℕ) → split_numbers (rest ++ next ∷ []) ++ here ≡ split_numbers rest ++ node_number next ∷ here
numbers_last rest next here = ap (λ (l : List ℕ). l ++ here) (map-append node_number rest (next ∷ [])) ∙ append_assoc (split_numbers rest) (node_number next ∷ []) here

cells_last : (rest : List SplitNode) (next : SplitNode) → cells_along (rest ++ next ∷ []) ≡ cells_made next ++ cells_along rest
cells_last [] next = sym (append-nil (cells_made next))
cells_last (s ∷ rest) next = ap (λ (l : List ℕ). l ++ cells_made s) (cells_last rest next) ∙ append_assoc (cells_made next) (cells_along rest) (cells_made s)

-- a split less is still to come
pub numbers_on : (downs rest : List SplitNode) (next : SplitNode) (here after : List ℕ) → downs ≡ rest ++ next ∷ [] → after ≡ here ++ node_number next ∷ []
    → split_numbers rest ++ reverse after ≡ split_numbers downs ++ reverse here
numbers_on downs rest next here after is came =
    ap (λ (l : List ℕ). split_numbers rest ++ l) (ap reverse came ∙ reverse_last here (node_number next))
    ∙ sym (ap (λ (splits : List SplitNode). split_numbers splits ++ reverse here) is ∙ numbers_last rest next (reverse here))

pub cells_on : (downs rest : List SplitNode) (next : SplitNode) (old new : List ℕ) → downs ≡ rest ++ next ∷ [] → new ≡ old ++ cells_made next
    → new ++ cells_along rest ≡ old ++ cells_along downs
cells_on downs rest next old new is came =
    ap (λ (l : List ℕ). l ++ cells_along rest) came ∙ append_assoc old (cells_made next) (cells_along rest)
    ∙ sym (ap (λ (l : List ℕ). old ++ l) (ap cells_along is ∙ cells_last rest next))

-- The whole way.

first_stands : (old here : List ℕ) (rest : List SplitNode) → HasLeft old here → Tops here rest → FirstStands old rest
first_stands old here [] left tops = tt
first_stands old [] (s ∷ rest) left tops = absurd tops
first_stands old (n ∷ ns) (s ∷ rest) left tops =
    subst (λ (l : List ℕ). Contains l (node_number s)) (sym left.whole)
    (Contains-append_right left.gone (n ∷ ns) (node_number s) (0, omega arith, tops))

cut_is : (split : SplitNode) → (out-SplitNode split).cut.cell ≡ (split_cut split).cell
unfolding out-SplitNode denote.Hole.Carrier.out
cut_is (SplitNode' above side node depth steps cut) = refl

made_again : (old_here here : List ℕ) (downs : List SplitNode) (split : SplitNode) (old went new : List ℕ) → HasLeft old_here (reverse here) → Meets here downs split
    → (Descends old_here → Descends (split_numbers (split ∷ ups split)) → StandApart old_here downs) → went ≡ old ++ cells_along downs
    → new ≡ went ++ (out-SplitNode split).cut.cell ∷ [] → MakesAgain old_here split old new
made_again old_here here downs split old went new left meets apart listed cut = record {
  downs = downs;
  rest = meets.rest;
  chain = meets.chain;
  met = first_stands old_here (reverse here) meets.rest left meets.tops;
  apart = apart;
  listed = cut ∙ ap (λ (n : ℕ). went ++ n ∷ []) (cut_is split) ∙ ap (λ (l : List ℕ). l ++ (split_cut split).cell ∷ []) listed;
}

pub all_made_again : {T E : Type 0} (old_here here : List ℕ) (downs : List SplitNode) (split : SplitNode) (old went new : List ℕ) (result : Result T E)
    → HasLeft old_here (reverse here) → Meets here downs split
    → (Descends old_here → Descends (split_numbers (split ∷ ups split)) → StandApart old_here downs) → went ≡ old ++ cells_along downs
    → new ≡ went ++ (out-SplitNode split).cut.cell ∷ [] → OnOk result (MakesAgain old_here split old new)
all_made_again old_here here downs split old went new (Ok value) left meets apart listed cut = made_again old_here here downs split old went new left meets apart listed cut
all_made_again old_here here downs split old went new (Err error) left meets apart listed cut = tt

below_first : (n : ℕ) (rest : List SplitNode) (here : List ℕ) → AllByRecursion (λ m. m < n) (split_numbers rest) → Descends here → Tops here rest → AllByRecursion (λ m. m < n) here
below_first n rest [] below falls tops = tt
below_first n [] (h ∷ here) below falls tops = absurd tops
below_first n (s ∷ rest) (h ∷ here) below falls tops =
    let first : h < n = omega (arith, tops, below.0) in
    (first, less_than h n (omega (arith, first)) here falls.0)

parted : (P : ℕ → Type 0) (xs ys : List ℕ) → AllByRecursion P (xs ++ ys) → AllByRecursion P xs × AllByRecursion P ys
parted P [] ys all = (tt, all)
parted P (x ∷ xs) ys all = let later = parted P xs ys all.1 in ((all.0, later.0), later.1)

falls_on : (downs rest : List SplitNode) (here : List ℕ) → Descends (split_numbers (downs ++ rest)) → Descends here → Tops here rest → Descends (split_numbers downs ++ here)
falls_on [] rest here falls here_falls tops = here_falls
falls_on (d ∷ downs) rest here falls here_falls tops =
    let parts = parted (λ m. m < node_number d) (split_numbers downs) (split_numbers rest)
    (subst (AllByRecursion (λ m. m < node_number d)) (map-append node_number downs rest) falls.0) in (
      all_append (λ m. m < node_number d) (split_numbers downs) here parts.0 (below_first (node_number d) rest here parts.1 here_falls tops),
      falls_on downs rest here falls.1 here_falls tops,
    )

descends_on : (old_here here after : List ℕ) (downs : List SplitNode) (split : SplitNode) → HasLeft old_here (reverse here) → Meets here downs split
    → reverse after ≡ split_numbers downs ++ reverse here → Descends old_here → Descends (split_numbers (split ∷ ups split)) → Descends (reverse after)
descends_on old_here here after downs split left meets is old_falls way_falls =
    subst Descends (sym is)
    (falls_on downs meets.rest (reverse here) (subst (λ (w : List SplitNode). Descends (split_numbers w)) meets.chain way_falls)
    (descends_behind left.gone (reverse here) (subst Descends left.whole old_falls)) meets.tops)

pub all_descend : {T E : Type 0} (old_here here settled after : List ℕ) (downs : List SplitNode) (split : SplitNode) (result : Result T E) → HasLeft old_here (reverse here)
    → Meets here downs split → settled ≡ here → reverse after ≡ split_numbers downs ++ reverse settled → Descends old_here → Descends (split_numbers (split ∷ ups split))
    → OnOk result (Descends (reverse after))
all_descend old_here here settled after downs split (Ok value) left meets same is old_falls way_falls =
    descends_on old_here here after downs split left meets (is ∙ ap (λ (l : List ℕ). split_numbers downs ++ reverse l) same) old_falls way_falls
all_descend old_here here settled after downs split (Err error) left meets same is old_falls way_falls = tt

-- All numbers are below one.

below_behind : (most : ℕ) (xs ys : List ℕ) → AreBelow most (xs ++ ys) → AreBelow most ys
below_behind most [] ys all = all
below_behind most (x ∷ xs) ys all = below_behind most xs ys all.1

front_below : (most : ℕ) (downs rest : List SplitNode) → AreBelow most (split_numbers (downs ++ rest)) → AreBelow most (split_numbers downs)
front_below most [] rest all = tt
front_below most (d ∷ downs) rest all = (all.0, front_below most downs rest all.1)

below_on : (most : ℕ) (old_here here after : List ℕ) (downs : List SplitNode) (split : SplitNode) → HasLeft old_here (reverse here) → Meets here downs split
    → reverse after ≡ split_numbers downs ++ reverse here → AreBelow most old_here → AreBelow most (split_numbers (split ∷ ups split)) → AreBelow most (reverse after)
below_on most old_here here after downs split left meets is old_below way_below =
    subst (AreBelow most) (sym is)
    (all_append (λ n. n < most) (split_numbers downs) (reverse here)
    (front_below most downs meets.rest (subst (λ (l : List SplitNode). AreBelow most (split_numbers l)) meets.chain way_below))
    (below_behind most left.gone (reverse here) (subst (AreBelow most) left.whole old_below)))

pub all_below : {T E : Type 0} (most : ℕ) (old_here here settled after : List ℕ) (downs : List SplitNode) (split : SplitNode) (result : Result T E) → HasLeft old_here (reverse here)
    → Meets here downs split → settled ≡ here → reverse after ≡ split_numbers downs ++ reverse settled → AreBelow most old_here → AreBelow most (split_numbers (split ∷ ups split))
    → OnOk result (AreBelow most (reverse after))
all_below most old_here here settled after downs split (Ok value) left meets same is old_below way_below =
    below_on most old_here here after downs split left meets (is ∙ ap (λ (l : List ℕ). split_numbers downs ++ reverse l) same) old_below way_below
all_below most old_here here settled after downs split (Err error) left meets same is old_below way_below = tt
