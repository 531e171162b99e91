-- Propagators that are followed from box to box.
use Rattle.std.proofs.Common.{◌≡◌, inl, inr, ℕ, ◌+◌, ◌<◌, ◌≤◌, ℤ, pos, List, ◌++◌, length, map, take, get_or, set, length-set, sym, ap, subst, ◌∙◌, arith}
use Rattle.std.proofs.lemmas.Bool.{cases_eq, cases_lt}
use Rattle.std.proofs.lemmas.Int.{ints}
use Rattle.std.proofs.Math.Seq.{take-append_seam}
use Rattle.std.proofs.lemmas.List.{ext_get_or, get_or-set_other, get_or-set_same, set-get_or}
use Rattle.box_problem.specs.Box.{Box, Inside, IsBox, high, low}
use Rattle.box_problem.specs.BoxProblem.{BoxProblem}
use Rattle.box_problem.proofs.Boxes.{part_of_itself}
use Rattle.prop_core.specs.Members.{AllFit, StillFit}
use Rattle.prop_core.specs.declared.watch.Watch.{Watch}
use Rattle.prop_core.specs.Waking.{FollowsCell, IsWatchOf}
use Rattle.prop_core.specs.Watches.{AgreeElsewhere, AllInStep}
use Rattle.sopl_search.specs.declared.watchers.Watchers.{Watchers}
use Rattle.sopl_search.specs.Following.{AreFollowing, FollowsBox, followed_box, with_ends}

-- parts of one box have as many cells
pub same_lows : (b c root : Box) → Inside b root → Inside c root → length b.lows ≡ length c.lows
same_lows b c root b_in c_in = b_in.same_cells ∙ sym c_in.same_cells

pub same_highs : (b c root : Box) → Inside b root → Inside c root → length b.highs ≡ length c.highs
same_highs b c root b_in c_in = b_in.is_box.paired ∙ (same_lows b c root b_in c_in ∙ sym c_in.is_box.paired)

-- a list that was lent
pub given_back : {A : Type 0} (n : ℕ) (xs rest : List A) → length xs ≡ n → take n (xs ++ rest) ≡ xs
given_back n xs rest is = subst (λ (k : ℕ). take k (xs ++ rest) ≡ xs) is (take-append_seam xs rest)

pub lent_follows : {P Program : Type 0} (problem : Program → BoxProblem) (fits : P → Program → Type 0) (in_step : P → Program → Box → Type 0) (cell : ℕ) (b c : Box) (before lent after rest : List P)
    (n : ℕ) → lent ≡ before → length after ≡ n → AgreeElsewhere cell b c → FollowsCell problem fits in_step cell lent after → FollowsBox problem fits in_step b c before (take n (after ++ rest))
lent_follows problem fits in_step cell b c before lent after rest n same is agree follows program fit b_in c_in all =
    subst (AllInStep in_step program c) (sym (given_back n after rest is))
    (follows program b c (subst (AllFit fits program) (sym same) fit) b_in c_in agree (subst (AllInStep in_step program b) (sym same) all))

-- other ends of one cell
pub agree_elsewhere : (b : Box) (cell : ℕ) (lo hi : ℤ) → AgreeElsewhere cell b (with_ends b cell lo hi)
agree_elsewhere b cell lo hi = record {
  as_long = record { lows = sym (length-set b.lows cell lo); highs = sym (length-set b.highs cell hi) };
  lows = λ k other. sym (get_or-set_other b.lows cell k lo (pos 0) other);
  highs = λ k other. sym (get_or-set_other b.highs cell k hi (pos 0) other);
}

-- and those that it has
pub own_ends : (b : Box) (cell : ℕ) (lo hi : ℤ) → low b cell ≡ lo → high b cell ≡ hi → b ≡ with_ends b cell lo hi
own_ends b cell lo hi lo_is hi_is =
    let lows : b.lows ≡ set b.lows cell lo = sym (set-get_or b.lows cell (pos 0)) ∙ ap (set b.lows cell) lo_is in
    let highs : b.highs ≡ set b.highs cell hi = sym (set-get_or b.highs cell (pos 0)) ∙ ap (set b.highs cell) hi_is in
    λ i. record { lows = lows i; highs = highs i }

-- the cells before n have the ends of the one box, and all others those of the other box
pub record IsMixed (n : ℕ) (b c mixed : Box) : Type 0 where
  pub lows_long : length mixed.lows ≡ length b.lows
  pub highs_long : length mixed.highs ≡ length b.highs
  pub lows_new : (k : ℕ) → k < n → low mixed k ≡ low c k
  pub lows_old : (k : ℕ) → n ≤ k → low mixed k ≡ low b k
  pub highs_new : (k : ℕ) → k < n → high mixed k ≡ high c k
  pub highs_old : (k : ℕ) → n ≤ k → high mixed k ≡ high b k

new_at : (xs news : List ℤ) (n k : ℕ) (x : ℤ) → n < length xs → x ≡ get_or news n (pos 0) → ((k : ℕ) → k < n → get_or xs k (pos 0) ≡ get_or news k (pos 0)) → k < n + 1
    → get_or (set xs n x) k (pos 0) ≡ get_or news k (pos 0)
new_at xs news n k x exists is before below =
    elim (cases_eq k n) [
      | inl same ↦ ap (λ (i : ℕ). get_or (set xs n x) i (pos 0)) same ∙ (get_or-set_same xs n x (pos 0) exists ∙ (is ∙ ap (λ (i : ℕ). get_or news i (pos 0)) (sym same)))
      | inr other ↦ get_or-set_other xs n k x (pos 0) other ∙ before k (omega (arith, below, other))
    ]

old_at : (xs olds : List ℤ) (n k : ℕ) (x : ℤ) → ((k : ℕ) → n ≤ k → get_or xs k (pos 0) ≡ get_or olds k (pos 0)) → n + 1 ≤ k → get_or (set xs n x) k (pos 0) ≡ get_or olds k (pos 0)
old_at xs olds n k x behind past =
    let other : ¬ k ≡ n = λ same. omega (arith, past, same) in
    get_or-set_other xs n k x (pos 0) other ∙ behind k (omega (arith, past))

pub more_mixed : (n : ℕ) (b c mixed new : Box) (lo hi : ℤ) → n < length mixed.lows → n < length mixed.highs → lo ≡ low c n → hi ≡ high c n → new ≡ with_ends mixed n lo hi → IsMixed n b c mixed
    → IsMixed (n + 1) b c new
more_mixed n b c mixed new lo hi low_there high_there lo_is hi_is is mix = subst (IsMixed (n + 1) b c) (sym is) (record {
  lows_long = length-set mixed.lows n lo ∙ mix.lows_long;
  highs_long = length-set mixed.highs n hi ∙ mix.highs_long;
  lows_new = λ k below. new_at mixed.lows c.lows n k lo low_there lo_is mix.lows_new below;
  lows_old = λ k past. old_at mixed.lows b.lows n k lo mix.lows_old past;
  highs_new = λ k below. new_at mixed.highs c.highs n k hi high_there hi_is mix.highs_new below;
  highs_old = λ k past. old_at mixed.highs b.highs n k hi mix.highs_old past;
})

pub all_mixed : (n : ℕ) (b c mixed : Box) → length b.lows ≡ length c.lows → length b.highs ≡ length c.highs → length c.lows ≤ n → length c.highs ≤ n → IsMixed n b c mixed → mixed ≡ c
all_mixed n b c mixed lows_are highs_are low_all high_all mix =
    let lows : mixed.lows ≡ c.lows =
    ext_get_or (pos 0) mixed.lows c.lows (mix.lows_long ∙ lows_are) (λ k exists. mix.lows_new k (omega (arith, exists, mix.lows_long, lows_are, low_all))) in
    let highs : mixed.highs ≡ c.highs =
    ext_get_or (pos 0) mixed.highs c.highs (mix.highs_long ∙ highs_are) (λ k exists. mix.highs_new k (omega (arith, exists, mix.highs_long, highs_are, high_all))) in
    λ i. record { lows = lows i; highs = highs i }

-- it lies where both lie
pub mixed_inside : (n : ℕ) (b c mixed root : Box) → Inside b root → Inside c root → IsMixed n b c mixed → Inside mixed root
mixed_inside n b c mixed root b_in c_in mix =
    let same : length b.lows ≡ length c.lows = same_lows b c root b_in c_in in
    record {
      is_box = record {
        paired = mix.highs_long ∙ (b_in.is_box.paired ∙ sym mix.lows_long);
        ordered = λ k exists. elim (cases_lt k n) [
          | inl new ↦ omega (arith, ints, mix.lows_new k new, mix.highs_new k new, c_in.is_box.ordered k (omega (arith, exists, mix.lows_long, same)))
          | inr old ↦ omega (arith, ints, mix.lows_old k old, mix.highs_old k old, b_in.is_box.ordered k (omega (arith, exists, mix.lows_long)))
        ];
      };
      same_cells = mix.lows_long ∙ b_in.same_cells;
      from_low = λ k exists. elim (cases_lt k n) [
        | inl new ↦ omega (arith, ints, mix.lows_new k new, c_in.from_low k (omega (arith, exists, mix.lows_long, same)))
        | inr old ↦ omega (arith, ints, mix.lows_old k old, b_in.from_low k (omega (arith, exists, mix.lows_long)))
      ];
      to_high = λ k exists. elim (cases_lt k n) [
        | inl new ↦ omega (arith, ints, mix.highs_new k new, c_in.to_high k (omega (arith, exists, mix.lows_long, same)))
        | inr old ↦ omega (arith, ints, mix.highs_old k old, b_in.to_high k (omega (arith, exists, mix.lows_long)))
      ];
    }

-- those that were in step with the first box are in step with a box on the way to the second one
abbrev pub FollowsOn : {P Program : Type 0} → (Program → BoxProblem) → (P → Program → Type 0) → (P → Program → Box → Type 0) → Box → Box → Box → List P → List P → Type 0
FollowsOn {P} {Program} problem fits in_step b c mixed before after =
    (program : Program) → AllFit fits program before → Inside b (problem program).root → Inside c (problem program).root → AllInStep in_step program b before → AllInStep in_step program mixed after

pub follows_more : {P Program : Type 0} (problem : Program → BoxProblem) (fits : P → Program → Type 0) (in_step : P → Program → Box → Type 0) (n : ℕ) (b c mixed new : Box)
    (before now after : List P) → IsMixed n b c mixed → IsMixed (n + 1) b c new → StillFit fits before now → FollowsOn problem fits in_step b c mixed before now
    → FollowsBox problem fits in_step mixed new now after → FollowsOn problem fits in_step b c new before after
follows_more problem fits in_step n b c mixed new before now after mix more still on follows program fit b_in c_in all =
    let root = (problem program).root in
    follows program (still program fit) (mixed_inside n b c mixed root b_in c_in mix) (mixed_inside (n + 1) b c new root b_in c_in more) (on program fit b_in c_in all)

pub follows_all : {P Program : Type 0} (problem : Program → BoxProblem) (fits : P → Program → Type 0) (in_step : P → Program → Box → Type 0) (b c mixed : Box) (before after : List P) → mixed ≡ c
    → FollowsOn problem fits in_step b c mixed before after → FollowsBox problem fits in_step b c before after
follows_all problem fits in_step b c mixed before after is on program fit b_in c_in all = subst (λ (x : Box). AllInStep in_step program x after) is (on program fit b_in c_in all)

-- a watch of these members is one of members that watch as they do
pub still_watch : (before after : List (List ℕ)) (old new : Watch) (m n : ℕ) → after ≡ before → new ≡ old → n ≡ m → IsWatchOf before old m → IsWatchOf after new n
still_watch before after old new m n lists_are watch_is cells_are is =
    subst (λ (lists : List (List ℕ)). IsWatchOf lists new n) (sym lists_are)
    (subst (λ (watch : Watch). IsWatchOf before watch n) (sym watch_is) (subst (λ (cells : ℕ). IsWatchOf before old cells) (sym cells_are) is))

-- they stand at a box with which they are in step
pub follows_at : {P Program : Type 0} (in_step : P → Program → Box → Type 0) (watches : P → List ℕ) (program : Program) (root b : Box) (watchers : Watchers P) → Inside b root → followed_box watchers ≡ b
    → AllInStep in_step program b watchers.list.items → IsWatchOf (map watches watchers.list.items) watchers.watch (length watchers.lows.items) → AreFollowing in_step watches program root watchers
follows_at in_step watches program root b watchers inside is all watch = record {
  inside = subst (λ (x : Box). Inside x root) (sym is) inside;
  are_in_step = subst (λ (x : Box). AllInStep in_step program x watchers.list.items) (sym is) all;
  watch = watch;
}

pub follows_root : {P Program : Type 0} (in_step : P → Program → Box → Type 0) (watches : P → List ℕ) (program : Program) (root b : Box) (list : List P) (watchers : Watchers P) → IsBox root → b ≡ root
    → watchers.list.items ≡ list → followed_box watchers ≡ b → IsWatchOf (map watches watchers.list.items) watchers.watch (length watchers.lows.items) → AllInStep in_step program root list
    → AreFollowing in_step watches program root watchers
follows_root in_step watches program root b list watchers is_box is list_is ends watch all =
    follows_at in_step watches program root root watchers (part_of_itself root is_box) (ends ∙ is) (subst (λ xs. AllInStep in_step program root xs) (sym list_is) all) watch
