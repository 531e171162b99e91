-- Of two cuts of one text one goes on from the other, so a text has at most one outcome.
use Rattle.std.proofs.Common.{◌≡◌, ℕ, ℤ, ◌+◌, ◌<ℤ◌, ◌≤ℤ◌, List, [], ◌∷◌, ◌++◌, length, Some, Result, Ok, Err, refl, ap, sym, ◌∙◌, subst, arith, ◌⊎◌, inl, inr}
use Rattle.std.proofs.lemmas.Int.{ints}
use Rattle.sopl_base.specs.declared.fault.Fault.{Fault}
use Rattle.sopl_base.specs.declared.fault.Fault.TheVariants as fault
use Rattle.sopl_base.specs.declared.fault.Refusal.{Refusal}
use Rattle.sopl_ast.specs.Pieces.{Piece, Word, Begins, piece_of}
use Rattle.sopl_ast.specs.Tokens.{AreSmall, Cuts, start, next, IsTooLarge, Lexes, Refuses, too_long, no_piece, too_large, Tokens, max_literal, token_of}
use Rattle.sopl_ast.specs.declared.token.Token.{Token}
use Rattle.sopl_ast.specs.declared.token.TokenKind.TheVariants as k
use Rattle.sopl_lex.specs.TextAnswers.{Answers}

same_split : (xs ys zs ws : List ℕ) → xs ++ ys ≡ zs ++ ws → length xs ≡ length zs → (xs ≡ zs) × (ys ≡ ws)
same_split [] ys [] ws e h = (refl, e)
same_split [] ys (z ∷ zs) ws e h = absurd (omega arith)
same_split (x ∷ xs) ys [] ws e h = absurd (omega arith)
same_split (x ∷ xs) ys (z ∷ zs) ws e h =
    let tails : xs ++ ys ≡ zs ++ ws = cc in
    let heads : x ≡ z = cc in
    let more = same_split xs ys zs ws tails (omega arith) in
    ((cc (heads, more.0)), more.1)

-- the longest piece is one
record SamePiece (p q : Piece) (b c a d : List ℕ) : Type 0 where
  piece : p ≡ q
  bytes : b ≡ c
  after : a ≡ d

same_begins : (text : List ℕ) (p q : Piece) (b c a d : List ℕ) → Begins text p b a → Begins text q c d → SamePiece p q b c a d
same_begins text p q b c a d g h =
    let less = h.longest b a p g.cut g.form in
    let more = g.longest c d q h.cut h.form in
    let split = same_split b a c d (sym g.cut ∙ h.cut) (omega arith) in
    let is : Some p ≡ Some q = sym g.form ∙ ap piece_of split.0 ∙ h.form in
    record { piece = cc; bytes = split.0; after = split.1 }

-- from one place of a text on to another
data Onward : (at : ℕ) → (tokens : List Token) → (rest : List ℕ) → (to : ℕ) → (more : List Token) → (left : List ℕ) → Type 0 where
  here : (at : ℕ) (tokens : List Token) (rest : List ℕ) → Onward at tokens rest at tokens rest
  step : (at : ℕ) (tokens : List Token) (rest : List ℕ) (piece : Piece) (bytes after : List ℕ) (to : ℕ) (more : List Token) (left : List ℕ) →
      Begins rest piece bytes after → Onward (at + length bytes) (tokens ++ token_of at piece bytes) after to more left → Onward at tokens rest to more left

push : (a : ℕ) (ts : List Token) (r : List ℕ) (b : ℕ) (us : List Token) (s : List ℕ) (piece : Piece) (bytes after : List ℕ) → Onward a ts r b us s → Begins s piece bytes after
    → Onward a ts r (b + length bytes) (us ++ token_of b piece bytes) after
push _ _ _ _ _ _ piece bytes after (here a ts r) g = step a ts r piece bytes after _ _ _ g (here _ _ _)
push _ _ _ _ _ _ piece bytes after (step a ts r p bs af b us s f o) g = step a ts r p bs af _ _ _ f (push _ _ _ _ _ _ piece bytes after o g)

whole : (text : List ℕ) (a : ℕ) (ts : List Token) (r : List ℕ) → Cuts text a ts r → Onward 0 [] text a ts r
whole text _ _ _ start = here _ _ _
whole text _ _ _ (next a ts r piece bytes after c g) = push _ _ _ _ _ _ piece bytes after (whole text a ts r c) g

advance : (b : ℕ) (us : List Token) (s : List ℕ) (a : ℕ) (ts : List Token) (r : List ℕ) (piece : Piece) (bytes after : List ℕ) → Onward b us s a ts r → Begins s piece bytes after
    → Onward a ts r (b + length bytes) (us ++ token_of b piece bytes) after ⊎ Onward (b + length bytes) (us ++ token_of b piece bytes) after a ts r
advance _ _ _ _ _ _ piece bytes after (here b us s) g = inl (step b us s piece bytes after _ _ _ g (here _ _ _))
advance _ _ _ _ _ _ piece bytes after (step b us s p bs af a ts r f o) g =
    let same = same_begins s p piece bs bytes af after f g in
    let P : Piece → List ℕ → List ℕ → Type 0 = λ x y z. Onward (b + length y) (us ++ token_of b x y) z a ts r in
    inr (subst (λ x. P x bytes after) same.piece (subst (λ y. P p y after) same.bytes (subst (P p bs) same.after o)))

turn : (a : ℕ) (ts : List Token) (r : List ℕ) (b : ℕ) (us : List Token) (s : List ℕ) (piece : Piece) (bytes after : List ℕ) → Onward a ts r b us s ⊎ Onward b us s a ts r
    → Begins s piece bytes after → Onward a ts r (b + length bytes) (us ++ token_of b piece bytes) after ⊎ Onward (b + length bytes) (us ++ token_of b piece bytes) after a ts r
turn a ts r b us s piece bytes after (inl o) g = inl (push a ts r b us s piece bytes after o g)
turn a ts r b us s piece bytes after (inr o) g = advance b us s a ts r piece bytes after o g

meet : (text : List ℕ) (a : ℕ) (ts : List Token) (r : List ℕ) (b : ℕ) (us : List Token) (s : List ℕ) → Cuts text a ts r → Cuts text b us s → Onward a ts r b us s ⊎ Onward b us s a ts r
meet text a ts r _ _ _ c start = inr (whole text a ts r c)
meet text a ts r _ _ _ c (next b us s piece bytes after d g) = turn a ts r b us s piece bytes after (meet text a ts r b us s c d) g

small_front : (tokens more : List Token) → AreSmall (tokens ++ more) → AreSmall tokens
small_front [] more small = tt
small_front (token ∷ tokens) more small = (small.0, small_front tokens more small.1)

small_back : (tokens more : List Token) → AreSmall (tokens ++ more) → AreSmall more
small_back [] more small = small
small_back (token ∷ tokens) more small = small_back tokens more small.1

-- what is small at the later place is small at the earlier one
earlier_small : (a : ℕ) (ts : List Token) (r : List ℕ) (b : ℕ) (us : List Token) (s : List ℕ) → Onward a ts r b us s → AreSmall us → AreSmall ts
earlier_small _ _ _ _ _ _ (here a ts r) small = small
earlier_small _ _ _ _ _ _ (step a ts r piece bytes after b us s g o) small = small_front ts (token_of a piece bytes) (earlier_small _ _ _ _ _ _ o small)

-- nothing is cut off what is left
abbrev Stops : List ℕ → Type 0
Stops rest = (piece : Piece) (bytes after : List ℕ) → Begins rest piece bytes after → ⊥

empty_stops : Stops []
empty_stops piece bytes after g = no_bytes bytes g.cut g.form
  where
    no_bytes : (bytes : List ℕ) → [] ≡ bytes ++ after → piece_of bytes ≡ Some piece → ⊥
    no_bytes [] cut form = absurd (cc)
    no_bytes (x ∷ xs) cut form = absurd (cc)

-- where the reading of a text ends, and why
record Final (text : List ℕ) (at : ℕ) (tokens : List Token) (rest : List ℕ) : Type 0 where
  cut : Cuts text at tokens rest
  small : AreSmall tokens
  ends : Stops rest ⊎ IsTooLarge rest

record SamePlace (a b : ℕ) (ts us : List Token) (r s : List ℕ) : Type 0 where
  place : a ≡ b
  tokens : ts ≡ us
  left : r ≡ s

large_absurd : (a : ℕ) (ts : List Token) (piece : Piece) (bytes : List ℕ) (value : ℤ) → AreSmall (ts ++ token_of a piece bytes) → piece ≡ Word (k.Lit value) → max_literal <ℤ value → ⊥
large_absurd a ts piece bytes value small is large =
    let P : Piece → Type 0 = λ p. AreSmall (token_of a p bytes) in
    let here = subst P is (small_back ts (token_of a piece bytes) small) in
    let low : value ≤ℤ max_literal = here.0 in
    absurd (omega (arith, ints, low, large))

ends_there : (a : ℕ) (ts : List Token) (r : List ℕ) (b : ℕ) (us : List Token) (s : List ℕ) → Onward a ts r b us s → Stops r ⊎ IsTooLarge r → AreSmall us → SamePlace a b ts us r s
ends_there _ _ _ _ _ _ (here a ts r) ends small = record { place = refl; tokens = refl; left = refl }
ends_there _ _ _ _ _ _ (step a ts r piece bytes after b us s g o) (inl stops) small = absurd (stops piece bytes after g)
ends_there _ _ _ _ _ _ (step a ts r piece bytes after b us s g o) (inr large) small =
    let same = same_begins r piece (Word (k.Lit large.value)) bytes large.bytes after large.after g large.begins in
    absurd (large_absurd a ts piece bytes large.value (earlier_small _ _ _ _ _ _ o small) same.piece large.large)

-- the reading of a text ends at one place
final_same : (text : List ℕ) (a : ℕ) (ts : List Token) (r : List ℕ) (b : ℕ) (us : List Token) (s : List ℕ) → Final text a ts r → Final text b us s → SamePlace a b ts us r s
final_same text a ts r b us s f g = by_order (meet text a ts r b us s f.cut g.cut)
  where
    by_order : Onward a ts r b us s ⊎ Onward b us s a ts r → SamePlace a b ts us r s
    by_order (inl o) = ends_there a ts r b us s o f.ends g.small
    by_order (inr o) = let same = ends_there b us s a ts r o g.ends f.small in record { place = sym same.place; tokens = sym same.tokens; left = sym same.left }

pub same_refusal : (r s : Refusal) → r.code ≡ s.code → r.at ≡ s.at → r ≡ s
same_refusal r s p q = λ i. record { code = p i; at = q i }

tokens_refusal : (text : List ℕ) (ts : List Token) (r : Refusal) → Lexes text (Ok ts) → Refuses text r → ⊥
tokens_refusal text ts r l (too_long c a h) = let fits = l.0 in absurd (omega arith)
tokens_refusal text ts r l (no_piece rest c h reaches stuck) =
    let same = final_same text _ _ _ _ _ _ (record { cut = l.1; small = l.2; ends = inl empty_stops }) (record { cut = reaches.cut; small = reaches.small; ends = inl stuck.none }) in
    absurd (stuck.some (sym same.left))
tokens_refusal text ts r l (too_large rest c h reaches large) =
    let same = final_same text _ _ _ _ _ _ (record { cut = l.1; small = l.2; ends = inl empty_stops }) (record { cut = reaches.cut; small = reaches.small; ends = inr large }) in
    let P : List ℕ → Type 0 = Stops in
    absurd (subst P same.left empty_stops _ _ _ large.begins)

refusals_same : (text : List ℕ) (r s : Refusal) → Refuses text r → Refuses text s → r ≡ s
refusals_same text r s (too_long c a h) (too_long d b k) = same_refusal r s (c ∙ sym d) (a ∙ sym b)
refusals_same text r s (too_long c a h) (no_piece rest d k reaches stuck) = absurd (omega arith)
refusals_same text r s (too_long c a h) (too_large rest d k reaches large) = absurd (omega arith)
refusals_same text r s (no_piece rest c h reaches stuck) (too_long d b k) = absurd (omega arith)
refusals_same text r s (too_large rest c h reaches large) (too_long d b k) = absurd (omega arith)
refusals_same text r s (no_piece rest c h reaches stuck) (no_piece left d k reached stuck') =
    let same = final_same text _ _ _ _ _ _ (record { cut = reaches.cut; small = reaches.small; ends = inl stuck.none }) (record { cut = reached.cut; small = reached.small; ends = inl stuck'.none }) in
    same_refusal r s (c ∙ sym d) same.place
refusals_same text r s (no_piece rest c h reaches stuck) (too_large left d k reached large) =
    let same = final_same text _ _ _ _ _ _ (record { cut = reaches.cut; small = reaches.small; ends = inl stuck.none }) (record { cut = reached.cut; small = reached.small; ends = inr large }) in
    absurd (subst Stops same.left stuck.none _ _ _ large.begins)
refusals_same text r s (too_large rest c h reaches large) (no_piece left d k reached stuck) =
    let same = final_same text _ _ _ _ _ _ (record { cut = reaches.cut; small = reaches.small; ends = inr large }) (record { cut = reached.cut; small = reached.small; ends = inl stuck.none }) in
    absurd (subst Stops (sym same.left) stuck.none _ _ _ large.begins)
refusals_same text r s (too_large rest c h reaches large) (too_large left d k reached large') =
    let same = final_same text _ _ _ _ _ _ (record { cut = reaches.cut; small = reaches.small; ends = inr large }) (record { cut = reached.cut; small = reached.small; ends = inr large' }) in
    same_refusal r s (c ∙ sym d) same.place

-- a text has at most one outcome
pub lexes_one : (text : List ℕ) (first second : Result (List Token) Refusal) → Lexes text first → Lexes text second → first ≡ second
lexes_one text (Ok ts) (Ok us) l m =
    let same = final_same text _ _ _ _ _ _ (record { cut = l.1; small = l.2; ends = inl empty_stops }) (record { cut = m.1; small = m.2; ends = inl empty_stops }) in
    ap Ok same.tokens
lexes_one text (Ok ts) (Err r) l m = absurd (tokens_refusal text ts r l m)
lexes_one text (Err r) (Ok ts) l m = absurd (tokens_refusal text ts r m l)
lexes_one text (Err r) (Err s) l m = ap Err (refusals_same text r s l m)

stops_there : (a : ℕ) (ts : List Token) (r : List ℕ) (b : ℕ) (us : List Token) (s : List ℕ) → Onward a ts r b us s → Stops r → ts ≡ us
stops_there _ _ _ _ _ _ (here a ts r) stops = refl
stops_there _ _ _ _ _ _ (step a ts r piece bytes after b us s g o) stops = absurd (stops piece bytes after g)

-- a text has at most one list of tokens
pub tokens_one : (text : List ℕ) (first second : List Token) → Tokens text first → Tokens text second → first ≡ second
tokens_one text ts us c d = by_order (meet text (length text) ts [] (length text) us [] c d)
  where
    by_order : Onward (length text) ts [] (length text) us [] ⊎ Onward (length text) us [] (length text) ts [] → ts ≡ us
    by_order (inl o) = stops_there _ _ _ _ _ _ o empty_stops
    by_order (inr o) = sym (stops_there _ _ _ _ _ _ o empty_stops)

-- where one answer is an outcome, and there is one at most, that one is the answer
pub answers_only : {A B : Type 0} (view : A → B) (result : Result A Fault) (P : Result B Refusal → Type 0) (outcome : Result B Refusal) → ((x y : Result B Refusal) → P x → P y → x ≡ y)
    → Answers view result P → P outcome → Answers view result (λ answer. answer ≡ outcome)
answers_only view (Ok value) P outcome one found is = one _ _ found is
answers_only view (Err (fault.Text refusal)) P outcome one found is = one _ _ found is
answers_only view (Err (fault.Limit excess)) P outcome one found is = found
answers_only view (Err fault.NoMemory) P outcome one found is = tt
