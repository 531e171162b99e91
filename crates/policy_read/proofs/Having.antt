-- What does not differ from a form has all of it.
use Rattle.std.proofs.Common.{arith, if◌then◌else◌, ◌≡◌, ◌∙◌, ℕ, ℤ, pos, negsuc, List, [], ◌∷◌, map, Bool, true, false, ◌&&◌, Option, Some, None, option_map, codes, is_some, refl, sym, ap, true≢false, int_le}
use Rattle.std.proofs.lemmas.Int.{ints}
use Rattle.std.proofs.lemmas.Slice.Eq.{bytes_eq-Decides}
use Rattle.std.specs.List.{AllByRecursion}
use Rattle.std.specs.Option.{option_and_then, option_map_or}
use Rattle.std.specs.Str.{bytes_eq}
use Rattle.serde_json.specs.Data.{Data, string}
use Rattle.serde_json.specs.Find.{as_str, get}
use Rattle.serde_json.specs.View.{items_of}
use Rattle.policy_json.specs.Entries.{entry_of, list_of, whole_number}
use Rattle.policy_json.specs.Nodes.{branch_of, node_of}
use Rattle.policy_read.specs.Listed.{alike, int_is, list_in, list_under, lists_alike, same_text, same_whole, whole_in}
use Rattle.policy_read.specs.Entries.{is_told, same_place, same_seen, seen_parts, told_at, told_in, told_parts}
use Rattle.policy_read.specs.Forms.{facing, is_branch, is_node}
use Rattle.policy_read.specs.Having.{Has, HasItems}
use Rattle.policy_read.proofs.Printing.{IsReadBack, list_back}

-- tests that hold
pub both : (a b : Bool) → (a && b) ≡ true → (a ≡ true) × (b ≡ true)
both true b is = (refl, is)
both false b is = absurd (true≢false (sym is))

pub refuted : {P : Type 0} → false ≡ true → P
refuted is = absurd (true≢false (sym is))

-- the list that stands at a key
pub at_key : (k : List ℕ) (d : Data) (ds : List Data) → list_under k d ≡ Some ds → (e : Data) × (get k d ≡ Some e) × (list_in e ≡ Some ds)
at_key k d ds is = by (get k d) refl
  where
    by : (o : Option Data) → get k d ≡ o → (e : Data) × (get k d ≡ Some e) × (list_in e ≡ Some ds)
    by None found = absurd (none_some (sym (ap (option_and_then list_in) found) ∙ is))
      where
        none_some : None ≡ Some ds → ⊥
        none_some same = true≢false (sym (ap is_some same))
    by (Some e) found = (e, found, sym (ap (option_and_then list_in) found) ∙ is)

-- a list that is alike is there
pub alike_there : (test : Data → Data → Bool) (f o : Option (List Data)) (fs : List Data) → f ≡ Some fs → lists_alike test f o ≡ true
    → (ds : List Data) × (o ≡ Some ds) × (alike test fs ds ≡ true)
alike_there test f o fs form is = by o (sym (ap (λ l. lists_alike test l o) form) ∙ is)
  where
    by : (p : Option (List Data)) → lists_alike test (Some fs) p ≡ true → (ds : List Data) × (p ≡ Some ds) × (alike test fs ds ≡ true)
    by None none = refuted none
    by (Some ds) some = (ds, refl, some)

-- one text and one whole number
text_there : (s : List ℕ) (d : Data) → same_text (string s) d ≡ true → as_str d ≡ Some s
text_there s d is = by (as_str d) is
  where
    by : (o : Option (List ℕ)) → option_map_or (bytes_eq s) o false ≡ true → o ≡ Some s
    by None none = refuted none
    by (Some t) some = ap Some (sym ((bytes_eq-Decides s t).0 some))

one_whole : (a b : ℤ) → int_is a b ≡ true → a ≡ b
one_whole (pos n) (pos m) is = let split = both (int_le (pos n) (pos m)) (int_le (pos m) (pos n)) is in ap pos (omega (arith, ints, split.0, split.1))
one_whole (pos n) (negsuc m) is = let split = both (int_le (pos n) (negsuc m)) (int_le (negsuc m) (pos n)) is in absurd (omega (arith, ints, split.0))
one_whole (negsuc n) (pos m) is = let split = both (int_le (negsuc n) (pos m)) (int_le (pos m) (negsuc n)) is in absurd (omega (arith, ints, split.1))
one_whole (negsuc n) (negsuc m) is = let split = both (int_le (negsuc n) (negsuc m)) (int_le (negsuc m) (negsuc n)) is in ap negsuc (omega (arith, ints, split.0, split.1))

whole_there : (z : ℤ) (d : Data) → IsReadBack z → same_whole (whole_number z) d ≡ true → Has (whole_number z) d
whole_there z d back is = (z, back, by (whole_in d) (sym (ap (λ o. option_map_or (λ a. option_map_or (int_is a) (whole_in d) false) o false) back) ∙ is))
  where
    by : (o : Option ℤ) → option_map_or (int_is z) o false ≡ true → o ≡ Some z
    by None none = refuted none
    by (Some y) some = ap Some (sym (one_whole z y some))

-- indices
wholes_there : (index : List ℤ) (ds : List Data) → AllByRecursion IsReadBack index → alike same_whole (map whole_number index) ds ≡ true → HasItems (items_of (map whole_number index)) ds
wholes_there [] [] all is = tt
wholes_there [] (d ∷ ds) all is = refuted is
wholes_there (z ∷ zs) [] all is = refuted is
wholes_there (z ∷ zs) (d ∷ ds) all is =
    let split = both (same_whole (whole_number z) d) (alike same_whole (map whole_number zs) ds) is in
    (whole_there z d all.0 split.0, wholes_there zs ds all.1 split.1)

index_there : (index : List ℤ) (d : Data) → AllByRecursion IsReadBack index → lists_alike same_whole (list_in (list_of (map whole_number index))) (list_in d) ≡ true
    → Has (list_of (map whole_number index)) d
index_there index d all is =
    let there = alike_there same_whole (list_in (list_of (map whole_number index))) (list_in d) (map whole_number index) (list_back (map whole_number index)) is in
    (there.0, there.1, wholes_there index there.0 all there.2)

-- entries of one name and one index
module _ (name : List ℕ) (index : List ℤ) (all : AllByRecursion IsReadBack index) where
  abbrev place : Data → Data → Bool
  place d e = same_place (string name) (list_of (map whole_number index)) d e

  place_there : (d e : Data) → place d e ≡ true → (as_str d ≡ Some name) × Has (list_of (map whole_number index)) e
  place_there d e is =
      let split = both (same_text (string name) d) (lists_alike same_whole (list_in (list_of (map whole_number index))) (list_in e)) is in
      (text_there name d split.0, index_there index e all split.1)

  -- an entry that is told tells a value of this cell, and has what an entry of this value has
  pub record IsEntry (c : ℕ) (e : Data) : Type 0 where
    pub value : ℤ
    pub told : told_in (entry_of name index (pos c)) e ≡ Some (told_at c value)
    pub has : (w : ℤ) → IsReadBack w → value ≡ w → Has (entry_of name index w) e

  entry_parts : (c : ℕ) (e d i x : Data) → list_in e ≡ Some (d ∷ i ∷ x ∷ []) → (b : Bool) (o : Option ℤ) → place d i ≡ b → whole_in x ≡ o
      → is_some (if b then option_map (told_at c) o else None) ≡ true → IsEntry c e
  entry_parts c e d i x listed false o placed whole told = refuted told
  entry_parts c e d i x listed true None placed whole told = refuted told
  entry_parts c e d i x listed true (Some v) placed whole told =
      let there = place_there d i placed in
      record {
        value = v;
        told = ap (option_and_then (told_parts (string name ∷ list_of (map whole_number index) ∷ whole_number (pos c) ∷ []))) listed
            ∙ (λ k. if placed k then option_map (told_at c) (whole k) else None);
        has = λ w back same. (d ∷ i ∷ x ∷ [], listed, (there.0, (there.1, ((w, back, whole ∙ ap Some same), tt))));
      }

  entry_list : (c : ℕ) (e : Data) (ds : List Data) → list_in e ≡ Some ds
      → is_some (told_parts (string name ∷ list_of (map whole_number index) ∷ whole_number (pos c) ∷ []) ds) ≡ true → IsEntry c e
  entry_list c e [] listed told = refuted told
  entry_list c e (d ∷ []) listed told = refuted told
  entry_list c e (d ∷ i ∷ []) listed told = refuted told
  entry_list c e (d ∷ i ∷ x ∷ []) listed told = entry_parts c e d i x listed (place d i) (whole_in x) refl refl told
  entry_list c e (d ∷ i ∷ x ∷ y ∷ more) listed told = refuted told

  pub entry_there : (c : ℕ) (e : Data) → is_told (entry_of name index (pos c)) e ≡ true → IsEntry c e
  entry_there c e told = by (list_in e) refl
    where
      parts : List Data
      parts = string name ∷ list_of (map whole_number index) ∷ whole_number (pos c) ∷ []

      by : (o : Option (List Data)) → list_in e ≡ o → IsEntry c e
      by None listed = refuted (sym (ap (λ l. is_some (option_and_then (told_parts parts) l)) listed) ∙ told)
      by (Some ds) listed = entry_list c e ds listed (sym (ap (λ l. is_some (option_and_then (told_parts parts) l)) listed) ∙ told)

  seen_list : (v : ℤ) → IsReadBack v → (e : Data) (ds : List Data) → list_in e ≡ Some ds
      → seen_parts (string name ∷ list_of (map whole_number index) ∷ whole_number v ∷ []) ds ≡ true → Has (entry_of name index v) e
  seen_list v back e [] listed is = refuted is
  seen_list v back e (d ∷ []) listed is = refuted is
  seen_list v back e (d ∷ i ∷ []) listed is = refuted is
  seen_list v back e (d ∷ i ∷ x ∷ []) listed is =
      let split = both (place d i) (same_whole (whole_number v) x) is in
      let there = place_there d i split.0 in
      (d ∷ i ∷ x ∷ [], listed, (there.0, (there.1, (whole_there v x back split.1, tt))))
  seen_list v back e (d ∷ i ∷ x ∷ y ∷ more) listed is = refuted is

  -- an entry of what is seen has what the form's has
  pub seen_there : (v : ℤ) → IsReadBack v → (e : Data) → same_seen (entry_of name index v) e ≡ true → Has (entry_of name index v) e
  seen_there v back e is = by (list_in e) refl
    where
      parts : List Data
      parts = string name ∷ list_of (map whole_number index) ∷ whole_number v ∷ []

      by : (o : Option (List Data)) → list_in e ≡ o → Has (entry_of name index v) e
      by None listed = refuted (sym (ap (λ l. option_map_or (seen_parts parts) l false) listed) ∙ is)
      by (Some ds) listed = seen_list v back e ds listed (sym (ap (λ l. option_map_or (seen_parts parts) l false) listed) ∙ is)

-- a node that does not differ has its two lists
pub record IsNodeOf (decide next : List Data) (given : Data) : Type 0 where
  pub entries : List Data
  pub branches : List Data
  pub decided : list_under (codes "decide") given ≡ Some entries
  pub branched : list_under (codes "next") given ≡ Some branches
  pub told : alike is_told decide entries ≡ true
  pub seen : alike is_branch next branches ≡ true

pub node_there : (decide next : List Data) (given : Data) → is_node (facing (node_of decide next) given) ≡ true → IsNodeOf decide next given
node_there decide next given is =
    let split = both (lists_alike is_told (list_under (codes "decide") (node_of decide next)) (list_under (codes "decide") given))
    (lists_alike is_branch (list_under (codes "next") (node_of decide next)) (list_under (codes "next") given)) is in
    let one = alike_there is_told (list_under (codes "decide") (node_of decide next)) (list_under (codes "decide") given) decide (list_back decide) split.0 in
    let two = alike_there is_branch (list_under (codes "next") (node_of decide next)) (list_under (codes "next") given) next (list_back next) split.1 in
    record { entries = one.0; branches = two.0; decided = one.1; branched = two.1; told = one.2; seen = two.2 }

-- data that has both lists of a node has the node
pub node_has : (decide next : List Data) (given : Data) (entries branches : List Data) → list_under (codes "decide") given ≡ Some entries → list_under (codes "next") given ≡ Some branches
    → HasItems (items_of decide) entries → HasItems (items_of next) branches → Has (node_of decide next) given
node_has decide next given entries branches decided branched one two =
    let first = at_key (codes "decide") given entries decided in
    let later = at_key (codes "next") given branches branched in
    ((first.0, first.1, (entries, first.2, one)), ((later.0, later.1, (branches, later.2, two)), tt))

-- a branch that does not differ has what is seen, and leads to something
pub record IsBranchOf (seen : List Data) (given : Data) : Type 0 where
  pub entries : List Data
  pub node : Data
  pub listed : list_under (codes "seen") given ≡ Some entries
  pub leads : get (codes "then") given ≡ Some node
  pub same : alike same_seen seen entries ≡ true

pub branch_there : (seen : List Data) (form given : Data) → is_branch (branch_of seen form) given ≡ true → IsBranchOf seen given
branch_there seen form given is =
    let split = both (lists_alike same_seen (list_under (codes "seen") (branch_of seen form)) (list_under (codes "seen") given)) (is_some (get (codes "then") given)) is in
    let one = alike_there same_seen (list_under (codes "seen") (branch_of seen form)) (list_under (codes "seen") given) seen (list_back seen) split.0 in
    by one.0 one.1 one.2 (get (codes "then") given) refl split.1
  where
    by : (entries : List Data) → list_under (codes "seen") given ≡ Some entries → alike same_seen seen entries ≡ true → (o : Option Data) → get (codes "then") given ≡ o → is_some o ≡ true → IsBranchOf seen given
    by entries listed same None leads some = refuted some
    by entries listed same (Some node) leads some = record { entries = entries; node = node; listed = listed; leads = leads; same = same }

pub branch_has : (seen : List Data) (shown given : Data) (of : IsBranchOf seen given) → HasItems (items_of seen) of.entries → Has shown of.node → Has (branch_of seen shown) given
branch_has seen shown given of one two =
    let first = at_key (codes "seen") given of.entries of.listed in
    ((first.0, first.1, (of.entries, first.2, one)), ((of.node, of.leads, two), tt))
