-- Bytes that go to a sink in pieces.
use Rattle.std.proofs.Common.{◌≡◌, refl, sym, ap, subst, ◌∙◌, ℕ, ◌+◌, ◌-◌, min, Result, Ok, Err, OnErr, List, [], ◌++◌, length, take, drop, Option, Some, append_assoc, arith}
use Rattle.std.proofs.Math.Seq.{take-append-add}
use Rattle.std.proofs.lemmas.List.{append-nil, take-append-drop, take-append-le, take_min, take_rest}
use Rattle.std.specs.Io.KnownBytes.{Appends}
use Rattle.std.proofs.KnownBytes.{Appends-nil, Appends-trans}
use Rattle.sopl_io.specs.Transfer.{AppendsPrefix}
use Rattle.sopl_io.specs.Gathered.{GathersAll}

-- a prefix of the first of two texts
pub prefix_of_first : (a b : Option (List ℕ)) (xs ys : List ℕ) → AppendsPrefix a b xs → AppendsPrefix a b (xs ++ ys)
prefix_of_first a b xs ys (k, some) = (
  min k (length xs),
  subst (λ (l : List ℕ). Appends a b l) (sym (take-append-le (min k (length xs)) xs ys (omega arith) ∙ take_min k xs)) some,
)

-- all of a text, and then a prefix of another
pub prefix_of_second : (a b c : Option (List ℕ)) (xs ys : List ℕ) → Appends a b xs → AppendsPrefix b c ys → AppendsPrefix a c (xs ++ ys)
prefix_of_second a b c xs ys first (k, second) =
    (length xs + k, subst (λ (l : List ℕ). Appends a c l) (sym (take-append-add xs ys k)) (Appends-trans a b c xs (take k ys) first second))

-- the sink took some bytes, and what is kept and what is left follow
pub record IsGathered (first now : Option (List ℕ)) (whole kept left : List ℕ) : Type 0 where
  pub written : List ℕ
  pub took : Appends first now written
  pub rest : written ++ (kept ++ left) ≡ whole

pub gathered_start : (first : Option (List ℕ)) (kept bytes : List ℕ) → IsGathered first first (kept ++ bytes) kept bytes
gathered_start first kept bytes = record { written = []; took = Appends-nil first; rest = refl }

module _ (first now : Option (List ℕ)) (whole kept left piece later : List ℕ) (is : IsGathered first now whole kept left) (cut : piece ++ later ≡ left) where
  follows : is.written ++ ((kept ++ piece) ++ later) ≡ whole
  follows = ap (λ (l : List ℕ). is.written ++ l) (append_assoc kept piece later ∙ ap (λ (l : List ℕ). kept ++ l) cut) ∙ is.rest

  -- all that was kept is written
  pub gathered_more : (next : Option (List ℕ)) → Appends now next (kept ++ piece) → IsGathered first next whole [] later
  gathered_more next more = record {
    written = is.written ++ (kept ++ piece);
    took = Appends-trans first now next is.written (kept ++ piece) is.took more;
    rest = append_assoc is.written (kept ++ piece) later ∙ follows;
  }

  pub gathered_next : (next : Option (List ℕ)) (kept_now : List ℕ) → Appends now next (kept ++ piece) → kept_now ≡ [] → IsGathered first next whole kept_now later
  gathered_next next kept_now more none = subst (λ (l : List ℕ). IsGathered first next whole l later) (sym none) (gathered_more next more)

  -- a prefix of what was kept is written
  pub gathered_prefix : (next : Option (List ℕ)) → AppendsPrefix now next (kept ++ piece) → AppendsPrefix first next whole
  gathered_prefix next some =
      subst (AppendsPrefix first next) follows
      (prefix_of_second first now next is.written ((kept ++ piece) ++ later) is.took (prefix_of_first now next (kept ++ piece) later some))

-- what is left is kept
pub gathered_end : (first now : Option (List ℕ)) (kept bytes last left : List ℕ) → IsGathered first now (kept ++ bytes) last left
    → GathersAll first kept now (last ++ left) bytes
gathered_end first now kept bytes last left is = record { written = is.written; took = is.took; rest = is.rest }

pub parts_are : (bytes : List ℕ) (at : ℕ) → take at bytes ++ take (length bytes - at) (drop at bytes) ≡ bytes
parts_are bytes at = ap (λ (l : List ℕ). take at bytes ++ l) (take_rest bytes at) ∙ take-append-drop at bytes

pub on_err : {T E X : Type 0} (result : Result T E) → X → OnErr result X
on_err (Ok value) holds = tt
on_err (Err error) holds = holds

-- Pieces behind one another.

-- no piece
pub none_gathered : (first : Option (List ℕ)) (kept : List ℕ) → GathersAll first kept first kept []
none_gathered first kept = record { written = []; took = Appends-nil first; rest = sym (append-nil kept) }

-- what a sink took and what is kept follow
pub gathered_follow : (taken now kept kept_now bytes : List ℕ) → GathersAll (Some taken) kept (Some now) kept_now bytes → now ++ kept_now ≡ (taken ++ kept) ++ bytes
gathered_follow taken now kept kept_now bytes is =
    ap (λ (l : List ℕ). l ++ kept_now) is.took ∙ append_assoc taken is.written kept_now ∙ ap (λ (l : List ℕ). taken ++ l) is.rest ∙ sym (append_assoc taken kept bytes)

-- the first piece fails
pub gathered_before : (first now : Option (List ℕ)) (kept xs ys : List ℕ) → AppendsPrefix first now (kept ++ xs) → AppendsPrefix first now (kept ++ (xs ++ ys))
gathered_before first now kept xs ys some = subst (AppendsPrefix first now) (append_assoc kept xs ys) (prefix_of_first first now (kept ++ xs) ys some)

-- both pieces are gathered
pub gathered_both : (first next now : Option (List ℕ)) (kept kept_next kept_now xs ys : List ℕ) → GathersAll first kept next kept_next xs
    → GathersAll next kept_next now kept_now ys → GathersAll first kept now kept_now (xs ++ ys)
gathered_both first next now kept kept_next kept_now xs ys is more = record {
  written = is.written ++ more.written;
  took = Appends-trans first next now is.written more.written is.took more.took;
  rest = append_assoc is.written more.written kept_now ∙ ap (λ (l : List ℕ). is.written ++ l) more.rest ∙ sym (append_assoc is.written kept_next ys)
      ∙ ap (λ (l : List ℕ). l ++ ys) is.rest ∙ append_assoc kept xs ys;
}

-- the second piece fails
pub gathered_behind : (first next now : Option (List ℕ)) (kept kept_next xs ys : List ℕ) → GathersAll first kept next kept_next xs → AppendsPrefix next now (kept_next ++ ys)
    → AppendsPrefix first now (kept ++ (xs ++ ys))
gathered_behind first next now kept kept_next xs ys is some =
    subst (AppendsPrefix first now)
    (sym (append_assoc is.written kept_next ys) ∙ ap (λ (l : List ℕ). l ++ ys) is.rest ∙ append_assoc kept xs ys)
    (prefix_of_second first next now is.written (kept_next ++ ys) is.took some)

-- all that is kept is written behind the pieces, or a prefix of it
pub flushed_all : (first next now : Option (List ℕ)) (kept kept_next xs : List ℕ) → GathersAll first kept next kept_next xs → Appends next now kept_next
    → Appends first now (kept ++ xs)
flushed_all first next now kept kept_next xs is rest =
    subst (λ (l : List ℕ). Appends first now l) is.rest (Appends-trans first next now is.written kept_next is.took rest)

pub flushed_prefix : (first next now : Option (List ℕ)) (kept kept_next xs : List ℕ) → GathersAll first kept next kept_next xs → AppendsPrefix next now kept_next
    → AppendsPrefix first now (kept ++ xs)
flushed_prefix first next now kept kept_next xs is some =
    subst (AppendsPrefix first now) is.rest (prefix_of_second first next now is.written kept_next is.took some)
